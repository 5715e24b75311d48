-- The first group from an id on that a group's rows name.
use Rattle.std.proofs.Common.{◌≡◌, ◌<◌, ◌≤◌, ◌^◌, ℕ, List, [], ◌∷◌, true, false, arith, refl, sym, ◌∙◌, ap, inl, inr}
use Rattle.std.proofs.lemmas.Grind.{common_steps}
use Rattle.std.proofs.lemmas.Bool.Decides.{nat_tests}
use Rattle.std.proofs.lemmas.Bool.{both_ways, false_from_ne_true, or_cases}
use Rattle.std.proofs.lemmas.List.Elements.{recursion_from_All}
use Rattle.std.specs.List.{list_any, AllByRecursion}
use Rattle.std.specs.BTreeMap.{is_at}
use Rattle.std.specs.BTreeSet.{BTreeSet, IsKeyRangeOf}
use Rattle.std.specs.Ordering.{is_gt, nat_cmp, ordering_then}
use Rattle.std.specs.declared.cmp.Ordering.{Ordering}
use Rattle.std.specs.declared.cmp.Ordering.TheVariants.{Less, Greater}
use Rattle.std.specs.declared.ops.Bound.TheVariants.{Included}
use Rattle.reg_terms.specs.declared.kinds.Member.{Member}
use Rattle.reg_terms.specs.declared.kinds.Member.TheVariants.{Person, Group}
use Rattle.reg_terms.specs.contracts.kinds.MemberOrd.TheImpl.{ghosts}
use Rattle.reg_terms.specs.Kinds.{member_group}
use Rattle.reg_terms.specs.Rows.{member_cmp}
use Rattle.reg_graph.specs.Sets.{IsFirstFrom}
use Rattle.reg_effect.specs.Order.{row_cmp, is_live_row, has_live_row, IsSmall, HaveSmallIds}
use Rattle.reg_effect.proofs.Edits.{row_is, rows_absent}

-- the order that is derived for keys is the order of rows
member_order_is : (m n : Member) → ghosts.cmp m n ≡ member_cmp m n
member_order_is (Person a) (Person b) = refl
member_order_is (Person a) (Group b) = refl
member_order_is (Group a) (Person b) = refl
member_order_is (Group a) (Group b) = refl

abbrev pub derived_cmp : ℕ × Member → ℕ × Member → Ordering
derived_cmp a b = ordering_then (nat_cmp a.0 b.0) (ghosts.cmp a.1 b.1)

contains_is : (k : ℕ × Member) (rows : List (ℕ × Member)) → list_any (is_at (derived_cmp k)) rows ≡ list_any (is_at (row_cmp k)) rows
contains_is k [] = refl
contains_is k (r ∷ rs) = rw (ap (λ o. ordering_then (nat_cmp k.0 r.0) o) (member_order_is k.1 r.1), contains_is k rs) refl

-- a nested group has an id of 32 bits
small_id : (g h : ℕ) (rows : List (ℕ × Member)) → AllByRecursion (λ (row : ℕ × Member). IsSmall row.1) rows → has_live_row g (Group h) rows ≡ true → h < 2 ^ 32
small_id g h [] a e = cc
small_id g h (r ∷ rs) a e = elim (or_cases (is_live_row g (Group h) r) (has_live_row g (Group h) rs) e) [
  | inl here ↦ rw (row_is g (Group h) r.0 r.1 here).1 at a.0
  | inr later ↦ small_id g h rs a.1 later
]

-- what stands between the ends of a range is of the group, names a group, and that from the id on
no_person : (g x : ℕ) → is_gt (ordering_then (nat_cmp g x) Greater) ≡ false → is_gt (ordering_then (nat_cmp x g) Less) ≡ false → ⊥
no_person g x a b = grind (arith, nat_tests, common_steps, a, b)

of_group : (g from x h : ℕ) → is_gt (derived_cmp (g, Group from) (x, Group h)) ≡ false → is_gt (derived_cmp (x, Group h) (g, Group 4294967295)) ≡ false → x ≡ g
of_group g from x h a b = grind (arith, nat_tests, common_steps, a, b)

from_id : (g from x h : ℕ) → is_gt (derived_cmp (g, Group from) (x, Group h)) ≡ false → x ≡ g → from ≤ h
from_id g from x h a e = grind (arith, nat_tests, common_steps, a, e)

-- and conversely
after_first : (g from h : ℕ) → from ≤ h → is_gt (derived_cmp (g, Group from) (g, Group h)) ≡ false
after_first g from h l = grind (arith, nat_tests, common_steps)

up_to_last : (g h : ℕ) → h < 2 ^ 32 → is_gt (derived_cmp (g, Group h) (g, Group 4294967295)) ≡ false
up_to_last g h l = grind (arith, nat_tests, common_steps)

-- a row that isn't behind another of its group names no greater id
no_greater : (g x h k : ℕ) → x ≡ g → is_gt (derived_cmp (x, Group k) (g, Group h)) ≡ false → k ≤ h
no_greater g x h k e l = grind (arith, nat_tests, common_steps, e, l)

module _ (g from high : ℕ) (view r : List (ℕ × Member)) (rows : BTreeSet (ℕ × Member)) (ids : HaveSmallIds rows.keys) (v : rows.keys ≡ view) (last : high ≡ 4294967295)
    (range : IsKeyRangeOf derived_cmp (Included (g, Group from)) (Included (g, Group high)) rows r) where
  small : (h : ℕ) → has_live_row g (Group h) view ≡ true → h < 2 ^ 32
  small h t = small_id g h rows.keys (recursion_from_All (λ (row : ℕ × Member). IsSmall row.1) rows.keys ids) (rw v t)

  seen : (h : ℕ) → list_any (is_at (derived_cmp (g, Group h))) rows.keys ≡ has_live_row g (Group h) view
  seen h = contains_is (g, Group h) rows.keys ∙ (rows_absent g (Group h) rows.keys ∙ ap (has_live_row g (Group h)) v)

  pub none_from : r ≡ [] → (h : ℕ) → from ≤ h → has_live_row g (Group h) view ≡ false
  none_from e h l = false_from_ne_true (has_live_row g (Group h) view) (λ t. both_ways (has_live_row g (Group h) view) (sym (seen h) ∙ range.5 e (g, Group h) (after_first g from h l, rw last (up_to_last g h (small h t)))) t)

  none_earlier : (x k : ℕ) (rest : List (ℕ × Member)) → r ≡ (x, Group k) ∷ rest → x ≡ g → (h : ℕ) → from ≤ h → h < k → has_live_row g (Group h) view ≡ false
  none_earlier x k rest e is_g h l m = false_from_ne_true (has_live_row g (Group h) view) (λ t. absurd (omega (arith, m, no_greater g x h k is_g (least t))))
    where
      least : has_live_row g (Group h) view ≡ true → is_gt (derived_cmp (x, Group k) (g, Group h)) ≡ false
      least t = rw e at (range.2 (g, Group h) (after_first g from h l, rw last (up_to_last g h (small h t))) (seen h ∙ t))

  pub first_from : (p : ℕ × Member) (rest : List (ℕ × Member)) → r ≡ p ∷ rest → IsFirstFrom (λ h. has_live_row g (Group h) view) from (member_group p.1)
  first_from (x, Person s) rest e =
      let here = rw e at range.1 in
      absurd (no_person g x here.0.0 here.0.1)
  first_from (x, Group k) rest e =
      let here = rw e at range.1 in
      let is_g : x ≡ g = of_group g from x k here.0.0 (rw last at here.0.1) in
      let held : has_live_row g (Group k) view ≡ true = sym (seen k) ∙ rw is_g at here.1 in
      (from_id g from x k here.0.0 is_g, held, none_earlier x k rest e is_g)
