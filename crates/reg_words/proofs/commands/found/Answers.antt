use Rattle.std.proofs.Common.{rules}
use Rattle.clap.proofs.WalkLemmas.{both}
use Rattle.reg_words.proofs.Simple.{some_kind}
use Rattle.reg_words.proofs.commands.found.Goals as goal

-- the words were taken
pub returns-in-Ok : goal.returns-in-Ok
returns-in-Ok c = (c.in-Ok.ensures.kinds c.requires, (c.in-Ok.ensures.matches (both _ _ c.requires).0).0)

-- they were not
pub returns : goal.returns
returns c = some_kind _ c.in-Err.error (c.in-Err.ensures.kinds c.requires) (search rules)
