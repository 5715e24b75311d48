use Rattle.std.proofs.Common.{◌∙◌, ap, map, string_bytes}
use Rattle.std.proofs.lemmas.Result.{IfOk-weaker}
use Rattle.clap.specs.Words.{app_of, found_of, is_simple_and_free}
use Rattle.reg_words.specs.Words.{why, why_in}
use Rattle.reg_words.proofs.Simple.{why_is_simple, not_taken, taken}
use Rattle.reg_words.proofs.words.read_why.Goals as goal

pub found-requires : goal.found-requires
found-requires c = ap is_simple_and_free c.in_ok-command.ensures ∙ why_is_simple

pub returns-in-Some : goal.returns-in-Some
returns-in-Some c =
    let m = rw c.in-Some.is at c.in_ok-matches.ensures in
    IfOk-weaker c.why_in.result _ _
    (λ t h. h ∙ taken why (app_of c.in_ok-command.command) c.in_ok-command.ensures why_in (map string_bytes c.args.words.now) (found_of c.in-Some.matches) m.0 m.1) c.why_in.ensures

pub returns-in-None : goal.returns-in-None
returns-in-None c =
    let m = rw c.in-None.is at c.in_ok-matches.ensures in
    not_taken why (app_of c.in_ok-command.command) c.in_ok-command.ensures why_in (map string_bytes c.args.words.now) m
