use Rattle.std.proofs.Common.{◌≡◌, ◌∙◌, ◌++◌, ℕ, List, [], ap, map}
use Rattle.std.proofs.lemmas.List.{append_assoc}
use Rattle.reg_terms.specs.declared.event.Event.{Event}
use Rattle.reg_facts.specs.Lists.{Lists}
use Rattle.reg_current.specs.Dates.{GrantKey, ending, grant_begins_at, grant_ends_at, grant_gone, grant_on, grants_where, pair_gone}
use Rattle.reg_current.proofs.ending.events_at.Goals as goal

pub returns : goal.returns
returns c =
    let d : ℕ = c.args.date in
    let f : Lists = c.args.facts.now in
    let rows : c.in_ok-rows.rows.items ≡ ending c.args.date c.args.facts.now.rows = c.in_ok-rows.ensures c.args.clock c.args.facts.now c.requires.found c.requires.later in
    let gone : c.in_ok-gone.gone.items ≡ grants_where (grant_ends_at c.args.date) c.args.facts.now.grants [] = c.in_ok-gone.ensures c.args.clock c.args.facts.now c.requires.found c.requires.later in
    let on : c.in_ok-on.on.items ≡ grants_where (grant_begins_at c.args.date) c.args.facts.now.grants [] = c.in_ok-on.ensures c.args.clock c.args.facts.now c.requires.found c.requires.later in
    let ends : List GrantKey = grants_where (grant_ends_at d) f.grants [] in
    let begins : List GrantKey = grants_where (grant_begins_at d) f.grants [] in
    let first : c.in_ok-events.events.items ≡ map pair_gone (ending d f.rows) = c.in_ok-events.ensures ∙ ap (map pair_gone) (c.deref.ensures.value ∙ rows) in
    let second : c.put_all_gone.new.events.items ≡ c.in_ok-events.events.items ++ map grant_gone ends = c.in_ok-put_all_gone.ensures ∙ ap (λ (ks : List GrantKey). c.in_ok-events.events.items ++ map grant_gone ks) (c.deref-2.ensures.value ∙ gone) in
    let third : c.put_all_on.new.events.items ≡ c.put_all_gone.new.events.items ++ map (grant_on f.grants) begins = c.in_ok-put_all_on.ensures ∙ ap (λ (ks : List GrantKey). c.put_all_gone.new.events.items ++ map (grant_on f.grants) ks) (c.deref-3.ensures.value ∙ on) in
    third
    ∙ (ap (λ (es : List Event). es ++ map (grant_on f.grants) begins) (second ∙ ap (λ (es : List Event). es ++ map grant_gone ends) first)
    ∙ append_assoc (map pair_gone (ending d f.rows)) (map grant_gone ends) (map (grant_on f.grants) begins))
