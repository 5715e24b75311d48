-- The groups that rows and composites name are all that have members.
use Rattle.std.proofs.Common.{◌≡◌, ◌==◌, ◌&&◌, ◌||◌, ℕ, List, [], ◌∷◌, Bool, true, false, cond, refl, sym, ◌∙◌, inl, inr}
use Rattle.std.proofs.lemmas.Bool.{cases_Bool, and_parts, or_cases, or_left, or_right}
use Rattle.std.specs.List.{list_any}
use Rattle.std.specs.BTreeMap.{is_at}
use Rattle.std.specs.Ordering.{nat_cmp}
use Rattle.reg_terms.specs.declared.kinds.Member.{Member}
use Rattle.reg_terms.specs.Rows.{is_composite}
use Rattle.reg_graph.specs.Edges.{among, IsAcyclic}
use Rattle.reg_graph.proofs.Reaching.{eq_turned}
use Rattle.reg_effect.specs.declared.live.Live.{Live}
use Rattle.reg_effect.specs.Edges.{edges}
use Rattle.reg_effect.specs.Member.{gives, in_rows, level, member}
use Rattle.reg_effect.specs.Order.{has_live_rows}
use Rattle.reg_effect.proofs.Deep.{member_level}
use Rattle.reg_effect.proofs.Lists.{among_at}
use Rattle.reg_effect.proofs.Places.{at_number}

-- ---- one group more
pub named_more : (old now new : List ℕ) (group : ℕ) → ((q : ℕ) → list_any (is_at (nat_cmp q)) new ≡ cond (is_at (nat_cmp group) q) true (list_any (is_at (nat_cmp q)) now)) → (g : ℕ) → among g new ≡ ((group == g) || among g now)
named_more old now new group h g = sym (among_at g new) ∙ (h g ∙ rw (at_number group g, among_at g now, eq_turned g group) (elim (group == g) as (λ b. cond b true (among g now) ≡ (b || among g now)) [ true ↦ refl | false ↦ refl ]))

-- ---- who has members is named
rows_named : (M : ℕ → Bool) (rows : List (ℕ × Member)) (g s : ℕ) → in_rows M rows g s ≡ true → has_live_rows g rows ≡ true
rows_named M [] g s h = cc
rows_named M (row ∷ rows) g s h = elim (or_cases _ _ h) [
  | inl here ↦ or_left _ _ (and_parts (row.0 == g) (gives M s row.1) here).0
  | inr later ↦ or_right (row.0 == g) _ (rows_named M rows g s later)
]

pub member_named : (L : Live) → IsAcyclic (edges L) → (g s : ℕ) → member L g s ≡ true → (is_composite g L.composites || has_live_rows g L.rows) ≡ true
member_named L n g s m = elim (cases_Bool (is_composite g L.composites)) [
  | inl t ↦ or_left _ _ t
  | inr f ↦
      let l : level (λ h. member L h s) L g s ≡ true = sym (member_level L n g s) ∙ m in
      or_right (is_composite g L.composites) _ (rows_named (λ h. member L h s) L.rows g s (rw f at l))
]

pub groups_are : (L : Live) → IsAcyclic (edges L) → (s : ℕ) (table : ℕ → Bool) (named xs : List ℕ) → ((g : ℕ) → table g ≡ member L g s) → ((g : ℕ) → among g named ≡ (is_composite g L.composites || has_live_rows g L.rows))
    → ((g : ℕ) → among g xs ≡ (table g && among g named)) → (g : ℕ) → among g xs ≡ member L g s
groups_are L n s table named xs t k h g = h g ∙ rw (t g, k g) (elim (cases_Bool (member L g s)) [
  | inl m ↦ rw (m, member_named L n g s m) refl
  | inr f ↦ rw f refl
])
