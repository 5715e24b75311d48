use Rattle.std.proofs.Common.{◌≡◌, ◌<◌, ◌∷◌, ℕ, List, sym, true, not, subst}
use Rattle.std.specs.declared.cmp.Ordering.TheVariants.{Less}
use Rattle.std.proofs.lemmas.Bool.{ne_eqb}
use Rattle.std.proofs.lemmas.List.Elements.{recursion_from_All}
use Rattle.reg_graph.specs.Sets.{pair_cmp}
use Rattle.reg_graph.specs.Edges.{among}
use Rattle.reg_graph.specs.Levels.{level_of, wanted, awaits}
use Rattle.reg_graph.proofs.Counting.{passing}
use Rattle.reg_graph.proofs.Orders.{sources}
use Rattle.reg_graph.proofs.Rising.{groups, plan_start, plan_step, plan_less}
use Rattle.reg_graph.proofs.Asks.{taken_left, taken_still, value_wanted, value_awaits, all_awaiting}
use Rattle.reg_graph.proofs.raise.plan.Goals as goal

pub loop-group-init : goal.loop-group-init
loop-group-init c = rw c.new-plan.ensures.items (plan_start c.args.edges.now (level_of c.args.levels.now) (level_of c.args.levels.now c.args.to) c.in-Some.next c.args.from c.args.to (wanted c.ask.new.pending.entries) (awaits c.ask.new.pending.entries)
    c.requires.falls (rw c.of.ensures at c.in-Some.ensures.1) (rw (c.of-2.ensures, c.new-pending.ensures.empty) at c.in_ok-ask.ensures.level) (rw (c.of-2.ensures, c.new-pending.ensures.empty) at c.in_ok-ask.ensures.written))

pub loop-group-smaller : goal.loop-group-smaller
loop-group-smaller c =
    let was : awaits c.loop-group.pending.entries c.in-Some-pop_first.field-0-0-0 c.in-Some-pop_first.group ≡ true = value_awaits c.loop-group.pending.entries _ _ c.in-Some-pop_first.level c.in-Some-pop_first.ensures.value in
    let Falls : List (ℕ × ℕ) → Type 0 = λ o. passing (λ q. not (among q (groups o))) (c.args.from ∷ sources c.args.edges.now) < passing (λ q. not (among q (groups c.loop-group.plan.items))) (c.args.from ∷ sources c.args.edges.now) in
    subst Falls (sym c.in_ok-push.ensures.items) (plan_less c.args.edges.now (level_of c.args.levels.now) c.requires.falls (level_of c.args.levels.now c.args.to) c.args.from c.args.to c.loop-group.plan.items
    (wanted c.loop-group.pending.entries) (awaits c.loop-group.pending.entries) c.loop-group.invariant c.in-Some-pop_first.field-0-0-0 c.in-Some-pop_first.group c.in-Some-pop_first.level was)

pub loop-group-preserved : goal.loop-group-preserved
loop-group-preserved c =
    let l : ℕ = c.in-Some-pop_first.field-0-0-0 in
    let x : ℕ = c.in-Some-pop_first.group in
    let v : ℕ = c.in-Some-pop_first.level in
    let old : List ((ℕ × ℕ) × ℕ) = c.loop-group.pending.entries in
    let less : List ((ℕ × ℕ) × ℕ) = c.pop_first.new.self.entries in
    let more : List ((ℕ × ℕ) × ℕ) = c.ask_above.new.pending.entries in
    rw c.in_ok-push.ensures.items (plan_step c.args.edges.now (level_of c.args.levels.now) c.requires.falls (level_of c.args.levels.now c.args.to) c.args.from c.args.to c.loop-group.plan.items (wanted old) (awaits old) c.loop-group.invariant
    l x v (value_awaits old l x v c.in-Some-pop_first.ensures.value) (value_wanted old l x v c.in-Some-pop_first.ensures.value) (ne_eqb x c.args.to c.if-group-to.false)
    (wanted less) (wanted more) (awaits less) (awaits more)
    (taken_left old less l x c.in-Some-pop_first.ensures.updates.0) (taken_still old less l x c.in-Some-pop_first.ensures.updates.0)
    (all_awaiting (λ k. pair_cmp (l, x) k ≡ Less) less (recursion_from_All _ _ c.in-Some-pop_first.ensures.all_above))
    c.in_ok-ask_above.ensures.more c.in_ok-ask_above.ensures.raised c.in_ok-ask_above.ensures.only)

pub returns-then-group-to-clause-err : goal.returns-then-group-to-clause-err
returns-then-group-to-clause-err c =
    let was : awaits c.loop-group.pending.entries c.in-Some-pop_first.field-0-0-0 c.in-Some-pop_first.group ≡ true = value_awaits c.loop-group.pending.entries _ _ c.in-Some-pop_first.level c.in-Some-pop_first.ensures.value in
    (c.new.ensures, rw c.if-group-to.true at (c.loop-group.invariant.awaited _ _ was).1)
