use Rattle.std.proofs.Common.{◌≡◌, ◌≤◌, ◌+◌, ◌++◌, ◌∷◌, [], ℕ, Bool, List, take, length, arith, sym, ◌∙◌, cond, refl, ap, filter}
use Rattle.std.proofs.lemmas.List.{take_more, length-append}
use Rattle.reg_graph.specs.Sets.{holds}
use Rattle.reg_effect.specs.Member.{level}
use Rattle.reg_effect.specs.Walk.{differ, begins, ends}
use Rattle.reg_effect.proofs.Passes.{same_level, passed_more, marked_more, changed_more, cost_more, begins_same, ends_same, fewer_more, differs_before}
use Rattle.reg_effect.proofs.walk.pass.Goals.{then-branch+in_ok-push, else-branch}
use Rattle.reg_effect.proofs.walk.pass.Goals as goal

pub loop-s-preserved : goal.loop-s-preserved
loop-s-preserved g c =
    let old : ℕ → ℕ → Bool = λ y q. holds y q c.args.sets.now in
    let now : ℕ → ℕ → Bool = λ y q. holds y q c.loop-s.sets in
    let next : ℕ → ℕ → Bool = λ y q. holds y q c.update.new.sets in
    let lev : ℕ → Bool = λ q. level (λ h. holds h q c.args.sets.now) c.args.live.now c.args.g q in
    let done : List ℕ = take c.loop-s.s-index c.args.persons.now in
    let p : ℕ = c.s-item.result in
    let t : take (c.loop-s.s-index + 1) c.args.persons.now ≡ done ++ p ∷ [] = take_more c.args.persons.now c.loop-s.s-index p c.loop-s-test.true ∙ ap (λ (x : ℕ). done ++ x ∷ []) (sym c.s-item.is) in
    let e : level (λ h. holds h p c.loop-s.sets) c.args.live.now c.args.g p ≡ lev p = same_level c.args.live.now c.args.g c.requires.loop_free old now lev done c.loop-s.invariant.sets p in
    let pushed : c.if-branch.changed.items ≡ cond c.in_ok-update.field-0 (c.loop-s.changed.items ++ p ∷ []) c.loop-s.changed.items =
    elim c.if-branch.branch [ then-branch+in_ok-push w ↦ rw (w.if-branch.true, w.changed-is) w.in_ok-push.ensures.items | else-branch w ↦ rw (w.if-branch.false, w.changed-is) refl ] in
    let grown : length c.if-branch.changed.items ≡ cond c.in_ok-update.field-0 (length c.loop-s.changed.items + 1) (length c.loop-s.changed.items) =
    elim c.if-branch.branch [
      | then-branch+in_ok-push w ↦ rw (w.if-branch.true, w.changed-is) (rw w.in_ok-push.ensures.items (simp length-append (omega arith)))
      | else-branch w ↦ rw (w.if-branch.false, w.changed-is) refl
    ] in
    let differs : c.in_ok-update.field-0 ≡ differ (now c.args.g p) (lev p) = rw e at c.in_ok-update.ensures.changed in
    let fewer : length c.if-branch.changed.items ≤ length (filter (λ q. differ (old c.args.g q) (lev q)) (done ++ p ∷ [])) =
    fewer_more (λ q. differ (old c.args.g q) (lev q)) done p (length c.loop-s.changed.items) _ c.in_ok-update.field-0 c.loop-s.invariant.few (λ b. differs_before old now c.args.g p lev done c.loop-s.invariant.sets (sym differs ∙ b)) grown in
    rw t (record {
      changed = changed_more old now c.args.g p lev done c.loop-s.changed.items c.if-branch.changed.items c.in_ok-update.field-0 c.loop-s.invariant.sets c.loop-s.invariant.changed (rw e at c.in_ok-update.ensures.changed) pushed;
      sets = passed_more old now next c.args.g p lev done c.loop-s.invariant.sets (rw e at c.in_ok-update.ensures.sets);
      began = marked_more begins begins_same old now (λ y q. holds y q c.args.began.now) (λ y q. holds y q c.loop-s.began) (λ y q. holds y q c.update.new.began) c.args.g p lev done c.loop-s.invariant.sets c.loop-s.invariant.began (rw e at c.in_ok-update.ensures.began);
      ended = marked_more ends ends_same old now (λ y q. holds y q c.args.ended.now) (λ y q. holds y q c.loop-s.ended) (λ y q. holds y q c.update.new.ended) c.args.g p lev done c.loop-s.invariant.sets c.loop-s.invariant.ended (rw e at c.in_ok-update.ensures.ended);
      few = fewer;
      cost = cost_more c.loop-s.steps c.args.steps.now c.update.new.steps c.loop-s.s-index _ c.loop-s.invariant.cost (omega (arith, c.in_ok-update.ensures.cost));
    })
