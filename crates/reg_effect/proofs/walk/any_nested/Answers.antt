use Rattle.std.proofs.Common.{◌≡◌, ◌<◌, ◌+◌, ◌∙◌, ℕ, Bool, length, arith, sym}
use Rattle.std.proofs.lemmas.Bool.{eqb-true}
use Rattle.reg_terms.specs.declared.kinds.Member.TheVariants.{Group}
use Rattle.reg_graph.specs.Sets.{holds}
use Rattle.reg_effect.specs.Order.{has_live_row, nested}
use Rattle.reg_effect.proofs.Leaps.{left_all, none_named, none_having, none_between, none_nested, some_nested, behind, fewer_left, cost_on, cost_here}
use Rattle.reg_effect.proofs.walk.any_nested.Goals as goal

pub loop-named-init : goal.loop-named-init
loop-named-init g c = record {
  none = λ x l _. absurd (omega (arith, l, c.new-from.ensures));
  cost = let all = left_all c.new-from.result (nested c.args.g c.args.rows.now) in omega (arith, all);
}

pub returns-in_default-group_from-clause-value : goal.returns-in_default-group_from-clause-value
returns-in_default-group_from-clause-value g c =
    let N : ℕ → Bool = λ h. has_live_row c.args.g (Group h) c.args.rows.now in
    let M : ℕ → Bool = λ h. holds h c.args.s c.args.sets.now in
    sym (none_nested M c.args.g c.args.rows.now (none_having N M c.loop-named.from c.loop-named.invariant.none c.in-Some.named c.in-Some.ensures.2 c.in_default-group_from.ensures.value))

pub returns-in_default-group_from-clause-cost : goal.returns-in_default-group_from-clause-cost
returns-in_default-group_from-clause-cost g c =
    cost_here c.args.g c.loop-named.from c.in-Some.named c.loop-named.steps c.group_from.new.steps (c.args.steps.now + length (nested c.args.g c.args.rows.now)) c.args.rows.now c.in-Some.ensures.0 c.in-Some.ensures.1 c.loop-named.invariant.cost c.in_default-group_from.ensures.cost

pub returns-then-eq-clause-value : goal.returns-then-eq-clause-value
returns-then-eq-clause-value g c =
    let M : ℕ → Bool = λ h. holds h c.args.s c.args.sets.now in
    let same : c.in-Some-group_from.having ≡ c.in-Some.named = eqb-true _ _ (sym c.eq.ensures ∙ c.if-eq.true) in
    sym (some_nested M c.args.g c.in-Some.named c.args.rows.now c.in-Some.ensures.1 (rw same at c.in-Some-group_from.ensures.value.1))

pub returns-then-eq-clause-cost : goal.returns-then-eq-clause-cost
returns-then-eq-clause-cost g c =
    cost_here c.args.g c.loop-named.from c.in-Some.named c.loop-named.steps c.group_from.new.steps (c.args.steps.now + length (nested c.args.g c.args.rows.now)) c.args.rows.now c.in-Some.ensures.0 c.in-Some.ensures.1 c.loop-named.invariant.cost c.in-Some-group_from.ensures.cost

pub loop-named-smaller : goal.loop-named-smaller
loop-named-smaller g c =
    let later : c.in-Some.named < c.in-Some-group_from.having = behind _ _ c.in-Some-group_from.ensures.value.0 (sym c.eq.ensures ∙ c.if-eq.false) in
    fewer_left c.args.g c.loop-named.from c.in-Some.named c.in-Some-group_from.having c.args.rows.now c.in-Some.ensures.0 later c.in-Some.ensures.1

pub loop-named-preserved : goal.loop-named-preserved
loop-named-preserved g c =
    let N : ℕ → Bool = λ h. has_live_row c.args.g (Group h) c.args.rows.now in
    let M : ℕ → Bool = λ h. holds h c.args.s c.args.sets.now in
    let later : c.in-Some.named < c.in-Some-group_from.having = behind _ _ c.in-Some-group_from.ensures.value.0 (sym c.eq.ensures ∙ c.if-eq.false) in
    record {
      none = none_between N M c.loop-named.from c.loop-named.invariant.none c.in-Some.named c.in-Some.ensures.2 c.in-Some-group_from.having c.in-Some-group_from.ensures.value.2;
      cost = cost_on c.args.g c.loop-named.from c.in-Some.named c.in-Some-group_from.having c.loop-named.steps c.group_from.new.steps (c.args.steps.now + length (nested c.args.g c.args.rows.now)) c.args.rows.now c.in-Some.ensures.0 later c.in-Some.ensures.1 c.loop-named.invariant.cost c.in-Some-group_from.ensures.cost;
    }

pub returns-clause-value : goal.returns-clause-value
returns-clause-value g c =
    let N : ℕ → Bool = λ h. has_live_row c.args.g (Group h) c.args.rows.now in
    let M : ℕ → Bool = λ h. holds h c.args.s c.args.sets.now in
    sym (none_nested M c.args.g c.args.rows.now (none_named N M c.loop-named.from c.loop-named.invariant.none c.in_default.ensures))
