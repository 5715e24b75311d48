use Rattle.std.proofs.Common.{◌∙◌, ap, Some, map, string_bytes}
use Rattle.clap.specs.Words.{app_of, found_of, is_simple_and_free}
use Rattle.reg_words.specs.Words.{bare}
use Rattle.reg_words.proofs.Simple.{bare_is_simple, not_taken, taken}
use Rattle.reg_words.proofs.words.read_bare.Goals as goal

pub found-requires : goal.found-requires
found-requires c = ap is_simple_and_free c.bare-command.ensures ∙ bare_is_simple c.args.name.now

pub returns-in-Some : goal.returns-in-Some
returns-in-Some c =
    let m = rw c.in-Some.is at c.in_ok-found.ensures in
    taken (bare c.args.name.now) (app_of c.bare-command.result) c.bare-command.ensures (λ rows. Some c.args.task) (map string_bytes c.args.words.now) (found_of c.in-Some.field-0) m.0 m.1

pub returns-in-None : goal.returns-in-None
returns-in-None c =
    let m = rw c.in-None.is at c.in_ok-found.ensures in
    not_taken (bare c.args.name.now) (app_of c.bare-command.result) c.bare-command.ensures (λ rows. Some c.args.task) (map string_bytes c.args.words.now) m
