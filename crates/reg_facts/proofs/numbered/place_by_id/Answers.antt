use Rattle.std.proofs.Common.{◌≡◌, ◌∙◌, sym, ap, rules}
use Rattle.std.proofs.lemmas.List.Sorted.{answers_always}
use Rattle.reg_facts.proofs.Searched.{at_place, searched_by}
use Rattle.reg_facts.proofs.numbered.place_by_id.Goals as goal

-- the row stands where its id tells
pub returns-then-number-id : goal.returns-then-number-id
returns-then-number-id g c =
    let here : c.number.result ≡ c.args.id = search rules in
    let row = c.in-Some.ensures.lookup.3.1 c.in-Some.row.now in
    sym (at_place g.R.Numbered.number_of c.args.id c.saturating_sub-place.result c.args.rows.now c.in-Some.row.now c.requires c.in-Some.ensures.lookup.3.0
    (ap g.R.Numbered.number_of (sym row) ∙ (sym c.number.ensures ∙ here)))

-- the search looks by the ids, which ascend
pub returns : goal.returns
returns g c =
    let by_id = c.binary_search_by_key.ensures.position g.R.Numbered.number_of (answers_always _ _ _ (λ f a r h called. search rules)) in
    c.ok.ensures.value ∙ searched_by g.R.Numbered.number_of c.args.id c.args.rows.now c.binary_search_by_key.result c.requires c.binary_search_by_key.ensures.bound by_id
