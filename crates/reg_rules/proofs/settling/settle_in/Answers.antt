use Rattle.std.proofs.Common.{◌≡◌, ◌<◌, ◌==◌, ◌∙◌, ℕ, List, [], ◌∷◌, false, length, ap, sym, arith}
use Rattle.std.proofs.lemmas.Bool.{eqb-true}
use Rattle.reg_rules.specs.Outcome.{Outcome}
use Rattle.reg_rules.proofs.Outcomes.{leads_start, round_on, settled}
use Rattle.reg_rules.proofs.Rounds.{smaller, none_left}
use Rattle.reg_rules.proofs.settling.settle_in.Goals as goal

some_left : (pairs : List (ℕ × ℕ)) → (length pairs == 0) ≡ false → 0 < length pairs
some_left [] h = let clash : ⊥ = cc in absurd clash
some_left (pair ∷ pairs) h = omega arith

pub loop-alloc-init : goal.loop-alloc-init
loop-alloc-init g c = rw c.new-actions.ensures.items (leads_start _ _ _)

pub loop-alloc-preserved : goal.loop-alloc-preserved
loop-alloc-preserved g c =
    round_on c.loop-alloc.pairs c.in_ok-next.lost _ _ _ _ _ _ _ c.in_ok-next.ensures.ended c.loop-alloc.invariant (rw c.list-in-loop-alloc.ensures at c.in_ok-next.ensures.round)

pub loop-alloc-smaller : goal.loop-alloc-smaller
loop-alloc-smaller g c =
    let some : 0 < length c.loop-alloc.pairs = some_left c.loop-alloc.pairs (ap (λ (ps : List (ℕ × ℕ)). length ps == 0) (sym c.list.ensures) ∙ (sym c.is_empty.ensures ∙ c.loop-alloc-test.true)) in
    let round : Outcome _ (g.C.Carrier.stands c.loop-alloc.carrier) (g.C.Carrier.stands c.in_ok-next.next) _ _ = rw c.list-in-loop-alloc.ensures at c.in_ok-next.ensures.round in
    let clock = ap (λ x. x.clock) round.stands in
    let facts = ap (λ x. x.facts) round.stands in
    smaller (g.C.Carrier.stands c.loop-alloc.carrier).clock c.loop-alloc.pairs c.in_ok-next.lost (g.C.Carrier.stands c.loop-alloc.carrier).facts (g.C.Carrier.stands c.in_ok-next.next).facts some facts (rw clock at c.in_ok-next.ensures.ended)

pub returns-clause-actions : goal.returns-clause-actions
returns-clause-actions g c =
    let none = none_left c.loop-alloc.pairs (ap length (sym c.list.ensures) ∙ eqb-true (length c.list.result.now) 0 (sym c.is_empty.ensures ∙ c.loop-alloc-test.false)) in
    let all = settled c.loop-alloc.pairs _ _ (g.C.Carrier.stands c.loop-alloc.carrier) _ _ none c.loop-alloc.invariant in
    all.listed

pub returns-clause-stands : goal.returns-clause-stands
returns-clause-stands g c =
    let none = none_left c.loop-alloc.pairs (ap length (sym c.list.ensures) ∙ eqb-true (length c.list.result.now) 0 (sym c.is_empty.ensures ∙ c.loop-alloc-test.false)) in
    let all = settled c.loop-alloc.pairs _ _ (g.C.Carrier.stands c.loop-alloc.carrier) _ _ none c.loop-alloc.invariant in
    all.stands

pub returns-clause-cost : goal.returns-clause-cost
returns-clause-cost g c =
    let none = none_left c.loop-alloc.pairs (ap length (sym c.list.ensures) ∙ eqb-true (length c.list.result.now) 0 (sym c.is_empty.ensures ∙ c.loop-alloc-test.false)) in
    let all = settled c.loop-alloc.pairs _ _ (g.C.Carrier.stands c.loop-alloc.carrier) _ _ none c.loop-alloc.invariant in
    all.cost
