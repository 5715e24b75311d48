use Rattle.std.proofs.Common.{◌∙◌, ap, map, string_bytes}
use Rattle.std.proofs.lemmas.Result.{IfOk-weaker}
use Rattle.clap.specs.Words.{app_of, found_of, is_simple_and_free}
use Rattle.reg_words.specs.Words.{apply, apply_in}
use Rattle.reg_words.proofs.Simple.{apply_is_simple, not_taken, taken}
use Rattle.reg_words.proofs.words.read_apply.Goals as goal

pub found-requires : goal.found-requires
found-requires c = ap is_simple_and_free c.in_ok-command.ensures ∙ apply_is_simple

pub returns-in-Some : goal.returns-in-Some
returns-in-Some c =
    let m = rw c.in-Some.is at c.in_ok-matches.ensures in
    IfOk-weaker c.apply_in.result _ _
    (λ t h. h ∙ taken apply (app_of c.in_ok-command.command) c.in_ok-command.ensures apply_in (map string_bytes c.args.words.now) (found_of c.in-Some.matches) m.0 m.1) c.apply_in.ensures

pub returns-in-None : goal.returns-in-None
returns-in-None c =
    let m = rw c.in-None.is at c.in_ok-matches.ensures in
    not_taken apply (app_of c.in_ok-command.command) c.in_ok-command.ensures apply_in (map string_bytes c.args.words.now) m
