use Rattle.std.proofs.Common.{◌≡◌, ◌+◌, ◌*◌, ◌==◌, ℕ, Bool, true, false, List, ◌∷◌, [], drop, length, add-one, arith, sym, ◌∙◌, refl, ap}
use Rattle.std.proofs.Math.Seq.{drop-cons}
use Rattle.std.proofs.lemmas.List.{drop_all}
use Rattle.std.proofs.lemmas.Bool.{not-true, not-false, eqb-true}
use Rattle.std.specs.Vec.{vec_len}
use Rattle.reg_graph.specs.Sets.{holds}
use Rattle.reg_graph.specs.Edges.{among, IsAbove}
use Rattle.reg_effect.specs.Member.{member, level}
use Rattle.reg_effect.specs.Edges.{edges}
use Rattle.reg_effect.specs.Bound.{leaving}
use Rattle.reg_effect.specs.Walk.{differ, begins, ends, climb}
use Rattle.reg_effect.proofs.Walking.{no_loop, walk_start, marks_start, walk_more, marks_more, quiet_rest_at, left_skip, no_length, sets_end, marks_end}
use Rattle.reg_effect.proofs.Passes.{begins_same, ends_same}
use Rattle.reg_effect.proofs.Costs.{cost_walk, cost_end, cost_bound, filter_same_tests}
use Rattle.reg_effect.proofs.Counting.{climb_bound}
use Rattle.reg_effect.proofs.Graphs.{above_counted}
use Rattle.reg_effect.proofs.walk.walk.Goals.{then-ne+in_ok-_changed, else-ne}
use Rattle.reg_effect.proofs.walk.walk.Goals as goal

pub pass-requires-clause-loop_free : goal.pass-requires-clause-loop_free
pass-requires-clause-loop_free g c = no_loop (edges c.args.live.now) c.requires.no_circle c.args.g

pub pass-requires-then-ne-clause-loop_free : goal.pass-requires-then-ne-clause-loop_free
pass-requires-then-ne-clause-loop_free g c = no_loop (edges c.args.live.now) c.requires.no_circle c.x-item.result

pub loop-x-init : goal.loop-x-init
loop-x-init g c =
    let over : IsAbove (edges c.args.live.now) c.args.g c.deref-x-items.result.now = rw c.deref-x-items.ensures.value (above_counted c.args.live.now c.args.graph.now c.requires.counted c.args.g c.in_ok-above.above.items c.in_ok-above.ensures.value) in
    let was : ℕ → ℕ → Bool = λ y q. holds y q c.args.sets.now in
    record {
      sets = walk_start was c.args.live.now c.args.g c.requires.touches c.deref-x-items.result.now c.args.asked.now over c.requires.asked (λ y q. holds y q c.pass.new.sets) c.in_ok-changed.ensures.sets;
      began = marks_start was c.args.live.now c.args.g c.requires.touches begins begins_same c.deref-x-items.result.now c.args.asked.now over c.requires.asked (λ y q. holds y q c.args.began.now) (λ y q. holds y q c.pass.new.began) (λ y q. rw c.requires.none_began refl) c.in_ok-changed.ensures.began;
      ended = marks_start was c.args.live.now c.args.g c.requires.touches ends ends_same c.deref-x-items.result.now c.args.asked.now over c.requires.asked (λ y q. holds y q c.args.ended.now) (λ y q. holds y q c.pass.new.ended) (λ y q. rw c.requires.none_ended refl) c.in_ok-changed.ensures.ended;
      first = over.inputs_first;
      cost = omega (arith, c.in_ok-changed.ensures.cost);
    }

pub loop-x-preserved : goal.loop-x-preserved
loop-x-preserved g c =
    let it : ℕ = c.args.g in
    let was : ℕ → ℕ → Bool = λ y q. holds y q c.args.sets.now in
    let rest : List ℕ = drop (c.loop-x.x-index + 1) c.deref-x-items.result.now in
    let x : ℕ = c.x-item.result in
    let cut : drop c.loop-x.x-index c.deref-x-items.result.now ≡ x ∷ rest = rw add-one (drop-cons c.deref-x-items.result.now c.loop-x.x-index x c.loop-x-test.true) ∙ ap (λ (y : ℕ). y ∷ rest) (sym c.x-item.is) in
    let changes : List ℕ = c.in_ok-changed.changed.items in
    let climbs : ℕ = climb (edges c.args.live.now) it rest in
    let most : ℕ = c.args.steps.now + length c.args.asked.now * (leaving (edges c.args.live.now) it + 2) + length changes * climb (edges c.args.live.now) it c.deref-x-items.result.now in
    let qr : (q : ℕ) → among q changes ≡ false → was it q ≡ member c.args.live.now it q = quiet_rest_at was c.args.live.now it c.requires.touches c.args.asked.now changes c.requires.asked c.in_ok-changed.ensures.changed in
    elim c.if-ne.branch [
      | then-ne+in_ok-_changed w ↦
          let other : (x == it) ≡ false = not-true _ (sym w.if-ne.ensures) in
          record {
            sets = rw w.sets-is (walk_more was c.args.live.now it c.requires.touches c.requires.no_circle x rest changes other (rw cut at c.loop-x.invariant.first) qr (λ y q. holds y q c.loop-x.sets) (λ y q. holds y q w.pass-then-ne.new.sets) (rw cut at c.loop-x.invariant.sets) (rw w.as_slice.ensures.value at w.in_ok-_changed.ensures.sets));
            began = rw w.began-is (marks_more was c.args.live.now it c.requires.touches begins begins_same c.requires.no_circle x rest changes other (rw cut at c.loop-x.invariant.first) qr (λ y q. holds y q c.loop-x.sets) (λ y q. holds y q c.loop-x.began) (λ y q. holds y q w.pass-then-ne.new.began) (rw cut at c.loop-x.invariant.sets) (rw cut at c.loop-x.invariant.began) (rw w.as_slice.ensures.value at w.in_ok-_changed.ensures.began));
            ended = rw w.ended-is (marks_more was c.args.live.now it c.requires.touches ends ends_same c.requires.no_circle x rest changes other (rw cut at c.loop-x.invariant.first) qr (λ y q. holds y q c.loop-x.sets) (λ y q. holds y q c.loop-x.ended) (λ y q. holds y q w.pass-then-ne.new.ended) (rw cut at c.loop-x.invariant.sets) (rw cut at c.loop-x.invariant.ended) (rw w.as_slice.ensures.value at w.in_ok-_changed.ensures.ended));
            first = (rw cut at c.loop-x.invariant.first).2;
            cost = rw w.steps-is (cost_walk c.loop-x.steps w.pass-then-ne.new.steps most (length changes) (leaving (edges c.args.live.now) x + 2) climbs (rw other at (rw cut at c.loop-x.invariant.cost)) (rw w.as_slice.ensures.value at w.in_ok-_changed.ensures.cost));
          }
      | else-ne w ↦
          let same : (x == it) ≡ true = not-false _ (sym w.if-ne.ensures) in
          record {
            sets = λ y q. rw (w.sets-is, ← (left_skip it x rest same y)) ((rw cut at c.loop-x.invariant.sets) y q);
            began = λ y q. rw (w.began-is, ← (left_skip it x rest same y)) ((rw cut at c.loop-x.invariant.began) y q);
            ended = λ y q. rw (w.ended-is, ← (left_skip it x rest same y)) ((rw cut at c.loop-x.invariant.ended) y q);
            first = (rw cut at c.loop-x.invariant.first).2;
            cost = rw w.steps-is (cost_walk c.loop-x.steps c.loop-x.steps most (length changes) 0 climbs (rw same at (rw cut at c.loop-x.invariant.cost)) (omega arith));
          }
    ]

pub returns-then-is_empty-clause-sets : goal.returns-then-is_empty-clause-sets
returns-then-is_empty-clause-sets g c =
    let was : ℕ → ℕ → Bool = λ y q. holds y q c.args.sets.now in
    let changes : List ℕ = c.in_ok-changed.changed.items in
    let nil = eqb-true (vec_len c.in_ok-changed.changed) 0 (sym c.if-is_empty.ensures) in
    let none : changes ≡ [] = no_length changes (omega (arith, nil)) in
    sets_end was c.args.live.now c.args.g c.requires.touches c.args.asked.now changes c.requires.asked c.in_ok-changed.ensures.changed none (λ y q. holds y q c.pass.new.sets) c.in_ok-changed.ensures.sets

pub returns-then-is_empty-clause-began : goal.returns-then-is_empty-clause-began
returns-then-is_empty-clause-began g c =
    let was : ℕ → ℕ → Bool = λ y q. holds y q c.args.sets.now in
    let changes : List ℕ = c.in_ok-changed.changed.items in
    let nil = eqb-true (vec_len c.in_ok-changed.changed) 0 (sym c.if-is_empty.ensures) in
    let none : changes ≡ [] = no_length changes (omega (arith, nil)) in
    marks_end was c.args.live.now c.args.g c.requires.touches c.args.asked.now changes c.requires.asked c.in_ok-changed.ensures.changed none begins begins_same (λ y q. holds y q c.args.began.now) (λ y q. holds y q c.pass.new.began) (λ y q. rw c.requires.none_began refl) c.in_ok-changed.ensures.began

pub returns-then-is_empty-clause-ended : goal.returns-then-is_empty-clause-ended
returns-then-is_empty-clause-ended g c =
    let was : ℕ → ℕ → Bool = λ y q. holds y q c.args.sets.now in
    let changes : List ℕ = c.in_ok-changed.changed.items in
    let nil = eqb-true (vec_len c.in_ok-changed.changed) 0 (sym c.if-is_empty.ensures) in
    let none : changes ≡ [] = no_length changes (omega (arith, nil)) in
    marks_end was c.args.live.now c.args.g c.requires.touches c.args.asked.now changes c.requires.asked c.in_ok-changed.ensures.changed none ends ends_same (λ y q. holds y q c.args.ended.now) (λ y q. holds y q c.pass.new.ended) (λ y q. rw c.requires.none_ended refl) c.in_ok-changed.ensures.ended

pub returns-clause-cost : goal.returns-clause-cost
returns-clause-cost g c =
    let over : IsAbove (edges c.args.live.now) c.args.g c.deref-x-items.result.now = rw c.deref-x-items.ensures.value (above_counted c.args.live.now c.args.graph.now c.requires.counted c.args.g c.in_ok-above.above.items c.in_ok-above.ensures.value) in
    let it : ℕ = c.args.g in
    let was : ℕ → ℕ → Bool = λ y q. holds y q c.args.sets.now in
    let tests : (q : ℕ) → differ (was it q) (level (λ h. was h q) c.args.live.now it q) ≡ differ (was it q) (member c.args.live.now it q) = λ q. rw (c.requires.touches.here q) refl in
    let few = rw (filter_same_tests _ _ tests c.args.asked.now) at c.in_ok-changed.ensures.few in
    let none : drop c.loop-x.x-index c.deref-x-items.result.now ≡ [] = drop_all c.loop-x.x-index c.deref-x-items.result.now c.loop-x-test.false in
    cost_bound c.loop-x.steps _ _ _ _ (cost_end c.loop-x.steps _ (length c.in_ok-changed.changed.items) _ _ (rw none at c.loop-x.invariant.cost) few) (climb_bound (edges c.args.live.now) it c.deref-x-items.result.now over)
