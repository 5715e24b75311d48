use Rattle.std.proofs.Common.{◌≡◌, ◌∙◌, rules}
use Rattle.std.specs.Str.{bytes_eq}
use Rattle.reg_access.proofs.Fronts.{phrase_some, phrase_none}
use Rattle.reg_access.proofs.saying.is_phrase.Goals as goal

pub returns-in-Some : goal.returns-in-Some
returns-in-Some c =
    let equal : c.eq.result ≡ bytes_eq c.in-Some.rest.now c.args.action.now = search rules in
    equal ∙ phrase_some c.args.text.now c.args.verb.now _ c.args.action.now c.in-Some.ensures.cases.0 c.in-Some.ensures.cases.1

pub returns-in-None : goal.returns-in-None
returns-in-None c = phrase_none c.args.text.now c.args.verb.now c.args.action.now c.in-None.ensures.cases
