-- Rows and composites as ordered maps and sets keep them.
use Rattle.std.proofs.Common.{◌≡◌, ◌==◌, ℕ, List, [], ◌∷◌, Bool, true, false, cond, map, filter, Option, Some, None, Bor, arith, refl, sym, ◌∙◌, ap, inl, inr}
use Rattle.std.proofs.lemmas.Grind.{common_steps}
use Rattle.std.proofs.lemmas.Bool.Decides.{nat_tests}
use Rattle.std.proofs.lemmas.Bool.{cases_Bool, eqb-true, or_left, or_parts}
use Rattle.std.specs.List.{list_any, AllByRecursion, find}
use Rattle.std.specs.BTreeSet.{insert_key}
use Rattle.std.specs.BTreeMap.{is_at, insert_entry}
use Rattle.std.specs.Option.{option_map, is_some}
use Rattle.std.specs.Map.Iter.{TakesFirst, deref}
use Rattle.std.specs.BTreeMap.Range.{range_contains}
use Rattle.std.specs.Set.{remove_key}
use Rattle.std.specs.Map.{lookup, remove_entry}
use Rattle.std.specs.Ordering.{nat_cmp, match_ordering, is_eq}
use Rattle.std.specs.declared.cmp.Ordering.{Ordering}
use Rattle.std.specs.declared.cmp.Ordering.TheVariants.{Less, Equal, Greater}
use Rattle.std.specs.declared.ops.Bound.TheVariants.{Included}
use Rattle.std.proofs.lemmas.List.Elements.{recursion_from_All}
use Rattle.reg_terms.specs.declared.kinds.Member.{Member}
use Rattle.reg_terms.specs.declared.kinds.Member.TheVariants.{Person, Group}
use Rattle.reg_terms.specs.declared.rows.CompositeRow.{CompositeRow}
use Rattle.reg_effect.specs.declared.composites.Factors.{Factors}
use Rattle.reg_effect.specs.Order.{row_cmp, composite_cmp, has_live_rows, IsSmall, HaveSmallIds}
use Rattle.reg_effect.specs.Factors.{composite_at}
use Rattle.reg_terms.specs.Rows.{is_composite}

-- ---- the rows of a group
abbrev pub range_all : ℕ → ℕ × Member → Bool
range_all g = range_contains row_cmp (Included (g, Person 0)) (Included (g, Group 4294967295))

pub in_range_all : (g x : ℕ) (m : Member) → IsSmall m → range_all g (x, m) ≡ (x == g)
in_range_all g x (Person p) h = grind (arith, nat_tests, common_steps)
in_range_all g x (Group k) h = grind (arith, nat_tests, common_steps)

pub any_by : (g : ℕ) (rows : List (ℕ × Member)) → AllByRecursion (λ (row : ℕ × Member). IsSmall row.1) rows → has_live_rows g rows ≡ list_any (range_all g) rows
any_by g [] h = refl
any_by g ((x, m) ∷ rs) h = rw (in_range_all g x m h.0, any_by g rs h.1) refl

-- a test that some entry passes leaves a first one
found : {X : Type 0} (test : X → Bool) (p : X) (xs rest : List X) → filter test xs ≡ p ∷ rest → list_any test xs ≡ true
found test p [] rest e = cc
found test p (x ∷ xs) rest e = elim (cases_Bool (test x)) [
  | inl t ↦ or_left _ _ t
  | inr f ↦ rw f (found test p xs rest (rw f at e))
]

missed : {X : Type 0} (test : X → Bool) (xs : List X) → filter test xs ≡ [] → list_any test xs ≡ false
missed test [] e = refl
missed test (x ∷ xs) e = elim (cases_Bool (test x)) [
  | inl t ↦ let w : x ∷ filter test xs ≡ [] = rw t at e in cc
  | inr f ↦ rw f (missed test xs (rw f at e))
]

pub any_is : (g : ℕ) (r : Option (Bor (ℕ × Member))) (s t keys view : List (ℕ × Member)) → TakesFirst deref s r t → s ≡ filter (range_all g) keys → HaveSmallIds keys → keys ≡ view → is_some r ≡ has_live_rows g view
any_is g r s t keys view h e small v = go r h ∙ (sym (any_by g keys (recursion_from_All (λ (row : ℕ × Member). IsSmall row.1) keys small)) ∙ ap (has_live_rows g) v)
  where
    go : (r : Option (Bor (ℕ × Member))) → TakesFirst deref s r t → is_some r ≡ list_any (range_all g) keys
    go None h = sym (missed (range_all g) keys (sym e ∙ h.0))
    go (Some x) h = sym (found (range_all g) x.now keys t (sym e ∙ h))

-- ---- composites by group
pub at_number : (g x : ℕ) → is_at (nat_cmp g) x ≡ (x == g)
at_number g x = grind (arith, nat_tests, common_steps)

pub composite_same : (g : ℕ) (e : ℕ × Factors) → (e.0 == g) ≡ true → composite_at e ≡ composite_at (g, e.1)
composite_same g e t = rw (eqb-true e.0 g t) refl

pub composite_found : (g : ℕ) (es : List (ℕ × Factors)) → find (λ (c : CompositeRow). c.group == g) (map composite_at es) ≡ option_map (λ (f : Factors). composite_at (g, f)) (lookup (is_at (nat_cmp g)) es)
composite_found g [] = refl
composite_found g (e ∷ es) = rw (at_number g e.0) (elim (cases_Bool (e.0 == g)) [
  | inl t ↦ rw t (ap (λ c. Some c) (composite_same g e t))
  | inr f ↦ rw f (composite_found g es)
])

pub composite_is : (g n : ℕ) (found : Option Factors) (es : List (ℕ × Factors)) (view : List CompositeRow) → found ≡ lookup (is_at (nat_cmp n)) es → n ≡ g → map composite_at es ≡ view → option_map (λ (f : Factors). composite_at (g, f)) found ≡ find (λ (c : CompositeRow). c.group == g) view
composite_is g n found es view a b c = ap (λ o. option_map (λ (f : Factors). composite_at (g, f)) o) (a ∙ ap (λ m. lookup (is_at (nat_cmp m)) es) b) ∙ sym (rw (← c) (composite_found g es))

pub composite_inserted : (g : ℕ) (f : Factors) (es : List (ℕ × Factors)) → is_composite g (map composite_at es) ≡ false → map composite_at (insert_entry nat_cmp es g f) ≡ insert_key composite_cmp (map composite_at es) (composite_at (g, f))
composite_inserted g f [] h = refl
composite_inserted g f (e ∷ es) h =
    let parts = or_parts (e.0 == g) (is_composite g (map composite_at es)) h in
    go (nat_cmp g e.0) (ap is_eq refl ∙ (at_number g e.0 ∙ parts.0)) (composite_inserted g f es parts.1)
  where
    go : (o : Ordering) → is_eq o ≡ false → map composite_at (insert_entry nat_cmp es g f) ≡ insert_key composite_cmp (map composite_at es) (composite_at (g, f))
        → map composite_at (match_ordering o ((g, f) ∷ e ∷ es) ((e.0, f) ∷ es) (e ∷ insert_entry nat_cmp es g f)) ≡ match_ordering o (composite_at (g, f) ∷ composite_at e ∷ map composite_at es) (composite_at e ∷ map composite_at es) (composite_at e ∷ insert_key composite_cmp (map composite_at es) (composite_at (g, f)))
    go Less n r = refl
    go Equal n r = cc
    go Greater n r = ap (λ ys. composite_at e ∷ ys) r

pub composite_removed : (g : ℕ) (es : List (ℕ × Factors)) → map composite_at (remove_entry (is_at (nat_cmp g)) es) ≡ remove_key (λ (c : CompositeRow). c.group == g) (map composite_at es)
composite_removed g [] = refl
composite_removed g (e ∷ es) = rw (at_number g e.0) (elim (e.0 == g) as (λ b. map composite_at (cond b es (e ∷ remove_entry (is_at (nat_cmp g)) es)) ≡ cond b (map composite_at es) (composite_at e ∷ remove_key (λ (c : CompositeRow). c.group == g) (map composite_at es))) [ true ↦ refl | false ↦ ap (λ ys. composite_at e ∷ ys) (composite_removed g es) ])

pub found_some : (g : ℕ) (cs : List CompositeRow) → is_some (find (λ (c : CompositeRow). c.group == g) cs) ≡ is_composite g cs
found_some g [] = refl
found_some g (c ∷ cs) = elim (cases_Bool (c.group == g)) [
  | inl t ↦ rw t refl
  | inr f ↦ rw f (found_some g cs)
]
