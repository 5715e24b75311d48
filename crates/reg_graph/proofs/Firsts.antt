-- The first of a subject's groups from an id on.
use Rattle.std.proofs.Common.{◌≡◌, ◌<◌, ◌≤◌, ◌^◌, ℕ, List, [], ◌∷◌, true, false, arith, sym, ◌∙◌}
use Rattle.std.proofs.lemmas.Grind.{common_steps}
use Rattle.std.proofs.lemmas.Bool.Decides.{nat_tests}
use Rattle.std.proofs.lemmas.Bool.{both_ways, false_from_ne_true}
use Rattle.std.proofs.lemmas.List.Elements.{recursion_from_All}
use Rattle.std.specs.BTreeSet.{BTreeSet, IsKeyRangeOf}
use Rattle.std.specs.Ordering.{is_gt}
use Rattle.std.specs.declared.ops.Bound.TheVariants.{Included}
use Rattle.reg_graph.specs.Sets.{holds, pair_cmp, AreTurned}
use Rattle.reg_graph.proofs.Kept.{holds_is, all_held}

-- what stands between the ends of a range is of the subject, and from the id on
of_subject : (s from : ℕ) (p : ℕ × ℕ) → is_gt (pair_cmp (s, from) p) ≡ false → is_gt (pair_cmp p (s, 4294967295)) ≡ false → p.0 ≡ s
of_subject s from p a b = grind (arith, nat_tests, common_steps, a, b)

from_id : (s from : ℕ) (p : ℕ × ℕ) → is_gt (pair_cmp (s, from) p) ≡ false → p.0 ≡ s → from ≤ p.1
from_id s from p a e = grind (arith, nat_tests, common_steps, a, e)

-- and conversely
after_first : (s from x : ℕ) → from ≤ x → is_gt (pair_cmp (s, from) (s, x)) ≡ false
after_first s from x h = grind (arith, nat_tests, common_steps)

up_to_last : (s x : ℕ) → x < 2 ^ 32 → is_gt (pair_cmp (s, x) (s, 4294967295)) ≡ false
up_to_last s x h = grind (arith, nat_tests, common_steps)

-- a pair that isn't behind another of its subject has no greater id
no_greater : (s x : ℕ) (p : ℕ × ℕ) → p.0 ≡ s → is_gt (pair_cmp p (s, x)) ≡ false → p.1 ≤ x
no_greater s x p e h = grind (arith, nat_tests, common_steps, e, h)

module _ (s from high : ℕ) (pairs view r : List (ℕ × ℕ)) (turned : BTreeSet (ℕ × ℕ)) (k : AreTurned pairs turned.keys) (v : pairs ≡ view) (last : high ≡ 4294967295)
    (range : IsKeyRangeOf pair_cmp (Included (s, from)) (Included (s, high)) turned r) where
  small : (x : ℕ) → holds s x turned.keys ≡ true → x < 2 ^ 32
  small x h = all_held (λ p. p.1 < 2 ^ 32) turned.keys (recursion_from_All (λ (p : ℕ × ℕ). p.1 < 2 ^ 32) turned.keys k.by_subject.small) s x h

  seen : (x : ℕ) → holds s x turned.keys ≡ holds x s view
  seen x = rw (← v) (k.same x s)

  pub none_from : r ≡ [] → (x : ℕ) → from ≤ x → holds x s view ≡ false
  none_from e x l = sym (seen x) ∙ false_from_ne_true (holds s x turned.keys) (λ h. both_ways (holds s x turned.keys) (sym (holds_is s x turned.keys) ∙ range.5 e (s, x) (after_first s from x l, rw last (up_to_last s x (small x h)))) h)

  none_earlier : (p : ℕ × ℕ) (rest : List (ℕ × ℕ)) → r ≡ p ∷ rest → p.0 ≡ s → (x : ℕ) → from ≤ x → x < p.1 → holds x s view ≡ false
  none_earlier p rest e is_s x l m = sym (seen x) ∙ false_from_ne_true (holds s x turned.keys) (λ h. absurd (omega (arith, m, no_greater s x p is_s (least h))))
    where
      least : holds s x turned.keys ≡ true → is_gt (pair_cmp p (s, x)) ≡ false
      least h = rw e at (range.2 (s, x) (after_first s from x l, rw last (up_to_last s x (small x h))) (holds_is s x turned.keys ∙ h))

  pub first_from : (p : ℕ × ℕ) (rest : List (ℕ × ℕ)) → r ≡ p ∷ rest → (from ≤ p.1) × (holds p.1 s view ≡ true) × ((x : ℕ) → from ≤ x → x < p.1 → holds x s view ≡ false)
  first_from p rest e =
      let here = rw e at range.1 in
      let is_s : p.0 ≡ s = of_subject s from p here.0.0 (rw last at here.0.1) in
      let held : holds p.0 p.1 turned.keys ≡ true = sym (holds_is p.0 p.1 turned.keys) ∙ here.1 in
      (from_id s from p here.0.0 is_s, sym (seen p.1) ∙ rw is_s at held, none_earlier p rest e is_s)
