use Rattle.std.proofs.Common.{rules, ◌≡◌, ◌-◌, ◌+◌, ◌∙◌, ◌++◌, ◌∷◌, [], ℕ, suc, List, Some, None, true, take, length, arith, sym, ap}
use Rattle.std.proofs.Math.Seq.{take-length}
use Rattle.std.proofs.lemmas.List.{take_more}
use Rattle.reg_terms.specs.Kinds.{as_folder}
use Rattle.reg_terms.specs.declared.kinds.Object.{Object}
use Rattle.reg_terms.specs.declared.kinds.Object.TheVariants.{Folder}
use Rattle.reg_terms.specs.declared.kinds.Scope.TheVariants.{One}
use Rattle.reg_facts.specs.Naming.{place_of, placed}
use Rattle.reg_names.specs.Scopes.{in_scope}
use Rattle.reg_priv.specs.Touched.{AddsOnly, is_listed, place_below}
use Rattle.reg_priv.proofs.Below.{all_below, stays_listed}
use Rattle.reg_priv.proofs.Within.{adds_one, adds_then, adds_wider, deeper_below, deeper_more, folder_number, here_below, here_more, is_folder, listed_at, no_folder}
use Rattle.reg_priv.proofs.touched.+put_below.Goals as goal
use Rattle.reg_priv.proofs.touched.+put_below.Goals.{in-Some+in_ok-put_below, in_default}

-- one more object, and if it is a folder what stands below it
pub loop-object-preserved : goal.loop-object-preserved
loop-object-preserved t c =
    let many : c.args.levels ≡ suc (c.args.levels - 1) = omega (arith, c.if-levels-eq0.false) in
    let more : take (c.loop-object.object-index + 1) c.deref-object-items.result.now ≡ take c.loop-object.object-index c.deref-object-items.result.now ++ c.object-item.result ∷ [] =
    take_more c.deref-object-items.result.now c.loop-object.object-index c.object-item.result c.loop-object-test.true ∙ ap (λ (y : Object). take c.loop-object.object-index c.deref-object-items.result.now ++ y ∷ []) (sym c.object-item.is) in
    let pushed : c.push.new.self.items ≡ c.loop-object.found.items ++ c.object-item.result ∷ [] = search rules in
    let among : is_listed c.object-item.result c.in_ok-objects.objects.items ≡ true =
    ap (λ (ys : List Object). is_listed c.object-item.result ys) (sym c.deref-object-items.ensures.value) ∙ listed_at c.deref-object-items.result.now c.loop-object.object-index c.object-item.result c.loop-object-test.true c.object-item.is in
    let inside : in_scope c.args.folder One c.object-item.result c.args.facts.now ≡ true = c.in_ok-objects.ensures.only c.object-item.result among in
    let first : AddsOnly (λ (o : Object). place_below c.args.levels c.args.folder (place_of o (placed c.args.facts.now)) c.args.facts.now) c.args.found.now.items c.push.new.self.items =
    rw pushed (
    adds_one (λ (o : Object). place_below c.args.levels c.args.folder (place_of o (placed c.args.facts.now)) c.args.facts.now) c.args.found.now.items c.loop-object.found.items c.object-item.result
    (here_below c.args.levels (c.args.levels - 1) c.args.folder many c.args.facts.now c.object-item.result inside) c.loop-object.invariant.only) in
    elim c.match-folder.branch [
      | in-Some+in_ok-put_below w ↦
          let found : as_folder (Some c.object-item.result) ≡ Some w.in-Some.id = sym c.folder.ensures ∙ w.in-Some.is in
          let keeps : (o : Object) → is_listed o (c.loop-object.found.items ++ c.object-item.result ∷ []) ≡ true → is_listed o c.match-folder.found.items ≡ true = λ o h. rw w.found-is (w.in_ok-put_below.ensures.kept o (rw pushed h)) in
          let up : in_scope c.args.folder One (Folder w.in-Some.id) c.args.facts.now ≡ true = ap (λ (y : Object). in_scope c.args.folder One y c.args.facts.now) (sym (is_folder c.object-item.result w.in-Some.id found)) ∙ inside in
          record {
            kept = λ o h. keeps o (stays_listed o c.object-item.result c.loop-object.found.items (c.loop-object.invariant.kept o h));
            here = λ o h. here_more (take c.loop-object.object-index c.deref-object-items.result.now) c.loop-object.found.items c.match-folder.found.items c.object-item.result c.loop-object.invariant.here keeps o (rw more at h);
            deeper = λ y o h k. deeper_more (take c.loop-object.object-index c.deref-object-items.result.now) c.loop-object.found.items c.match-folder.found.items c.object-item.result
                (λ z p. place_below (c.args.levels - 1) z (place_of p (placed c.args.facts.now)) c.args.facts.now) c.loop-object.invariant.deeper keeps
                (λ z p e j. rw w.found-is (w.in_ok-put_below.ensures.below p (ap (λ (n : ℕ). place_below (c.args.levels - 1) n (place_of p (placed c.args.facts.now)) c.args.facts.now) (folder_number c.object-item.result w.in-Some.id z found e) ∙ j)))
                y o (rw more at h) k;
            only = rw w.found-is (
                adds_then (λ (o : Object). place_below c.args.levels c.args.folder (place_of o (placed c.args.facts.now)) c.args.facts.now) c.args.found.now.items c.push.new.self.items w.put_below.new.found.items first
                (adds_wider (λ (o : Object). place_below (c.args.levels - 1) w.in-Some.id (place_of o (placed c.args.facts.now)) c.args.facts.now)
                (λ (o : Object). place_below c.args.levels c.args.folder (place_of o (placed c.args.facts.now)) c.args.facts.now) c.push.new.self.items w.put_below.new.found.items
                (λ o k. deeper_below c.args.levels (c.args.levels - 1) c.args.folder w.in-Some.id many c.args.facts.now o c.law_sound.ensures up k) w.in_ok-put_below.ensures.only));
          }
      | in_default w ↦
          let none : as_folder (Some c.object-item.result) ≡ None = sym c.folder.ensures ∙ w.in_default.is in
          let keeps : (o : Object) → is_listed o (c.loop-object.found.items ++ c.object-item.result ∷ []) ≡ true → is_listed o c.match-folder.found.items ≡ true = λ o h. rw (w.found-is, pushed) h in
          record {
            kept = λ o h. keeps o (stays_listed o c.object-item.result c.loop-object.found.items (c.loop-object.invariant.kept o h));
            here = λ o h. here_more (take c.loop-object.object-index c.deref-object-items.result.now) c.loop-object.found.items c.match-folder.found.items c.object-item.result c.loop-object.invariant.here keeps o (rw more at h);
            deeper = λ y o h k. deeper_more (take c.loop-object.object-index c.deref-object-items.result.now) c.loop-object.found.items c.match-folder.found.items c.object-item.result
                (λ z p. place_below (c.args.levels - 1) z (place_of p (placed c.args.facts.now)) c.args.facts.now) c.loop-object.invariant.deeper keeps
                (λ z p e j. absurd (no_folder c.object-item.result z none e))
                y o (rw more at h) k;
            only = rw w.found-is first;
          }
    ]

-- those in the folder and those below each are all
pub returns-clause-below : goal.returns-clause-below
returns-clause-below t c =
    let many : c.args.levels ≡ suc (c.args.levels - 1) = omega (arith, c.if-levels-eq0.false) in
    let whole : c.loop-object.object-index ≡ length c.deref-object-items.result.now = omega (arith, c.loop-object-test.false, c.loop-object.auto.object-index-end) in
    let all : take c.loop-object.object-index c.deref-object-items.result.now ≡ c.in_ok-objects.objects.items = rw (whole, take-length) c.deref-object-items.ensures.value in
    all_below c.args.levels (c.args.levels - 1) c.args.folder many c.args.facts.now c.in_ok-objects.objects.items c.loop-object.found.items c.in_ok-objects.ensures.each (rw all at c.loop-object.invariant.here) (rw all at c.loop-object.invariant.deeper)
