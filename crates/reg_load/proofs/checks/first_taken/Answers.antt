use Rattle.std.proofs.Common.{◌≡◌, ℕ, List, [], ◌∷◌, ◌∙◌, ◌+◌, Some, ap, drop, get_or, false, rules}
use Rattle.std.proofs.lemmas.List.{drop_more}
use Rattle.std.specs.Prelude.{is_some, if◌then◌else◌}
use Rattle.std.specs.Str.{bytes_eq}
use Rattle.reg_facts.specs.Naming.{resolve}
use Rattle.reg_load.specs.Finding.{number_of}
use Rattle.reg_load.specs.LoadChecks.{first_taken}
use Rattle.reg_load.proofs.Found.{numbered_next, taken_first}
use Rattle.reg_load.proofs.checks.first_taken.Goals as goal

pub loop-name-init : goal.loop-name-init
loop-name-init c = taken_first (λ text. is_some (number_of c.new-seen.result text)) c.args.facts.now c.args.created.now (λ text. ap is_some (c.new-seen.ensures text))

-- a name that is free and was not seen is seen from then on
pub loop-name-preserved : goal.loop-name-preserved
loop-name-preserved c =
    let rest = drop (c.loop-name.name-index + 1) c.args.created.now in
    let here : get_or c.args.created.now c.loop-name.name-index c.name-item.result ≡ c.name-item.result = search rules in
    let next : drop c.loop-name.name-index c.args.created.now ≡ c.name-item.result ∷ rest = drop_more c.args.created.now c.loop-name.name-index c.name-item.result c.loop-name-test.true ∙ ap (λ name. name ∷ rest) here in
    let free : is_some (resolve c.name-item.result c.args.facts.now) ≡ false = search rules in
    let new : is_some (number_of c.loop-name.seen c.name-item.result) ≡ false = search rules in
    let put : (text : List ℕ) → number_of c.insert.new.self text ≡ (if bytes_eq c.name-item.result text then Some 0 else number_of c.loop-name.seen text) = search rules in
    numbered_next (number_of c.loop-name.seen) (number_of c.insert.new.self) c.args.facts.now c.name-item.result 0 rest (first_taken [] c.args.facts.now c.args.created.now) put free new (rw next at c.loop-name.invariant)
