use Rattle.std.proofs.Common.{ap, Some, ◌∙◌}
use Rattle.clap.specs.Words.{found_of}
use Rattle.clap.proofs.WalkLemmas.{first_value-rows}
use Rattle.reg_words.proofs.commands.value.Goals as goal

-- a value was given
pub returns-in_ok-text-in-Some : goal.returns-in_ok-text-in-Some
returns-in_ok-text-in-Some c =
    let first = rw c.in-Some.is at c.get_str.ensures in
    ap Some c.in_ok-text-in-Some.ensures ∙ first ∙ first_value-rows (found_of c.args.matches.now) c.args.id.now

-- none was
pub returns-in-None : goal.returns-in-None
returns-in-None c =
    let first = rw c.in-None.is at c.get_str.ensures in
    first ∙ first_value-rows (found_of c.args.matches.now) c.args.id.now
