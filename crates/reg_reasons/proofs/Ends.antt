-- Composites at which ways end.
use Rattle.std.proofs.Common.{◌≡◌, ℕ, ◌==◌, ◌&&◌, ◌||◌, List, [], ◌∷◌, Bool, true, false, refl, inl, inr, sym, ◌∙◌, drop, ◌≤◌}
use Rattle.std.specs.Prelude.{if◌then◌else◌, length}
use Rattle.std.proofs.lemmas.Bool.{cases_Bool, eqb-true, eqb-false, ne_eqb, or_left, both_ways}
use Rattle.std.proofs.lemmas.List.{drop_all}
use Rattle.reg_terms.specs.declared.rows.CompositeRow.{CompositeRow}
use Rattle.reg_terms.specs.Rows.{is_composite}
use Rattle.reg_effect.specs.declared.live.Live.{Live}
use Rattle.reg_effect.specs.Member.{in_factors, level, member}
use Rattle.reg_reasons.specs.Reasons.{is_end}
use Rattle.reg_reasons.specs.Counts.{count_of, capped}

-- only a composite has factors
pub no_factors : (M : ℕ → Bool) (g : ℕ) (cs : List CompositeRow) → is_composite g cs ≡ false → in_factors M cs g ≡ false
no_factors M g [] h = refl
no_factors M g (c ∷ cs) h = elim (cases_Bool (c.group == g)) [
  | inl t ↦ absurd (both_ways ((c.group == g) || is_composite g cs) h (or_left _ _ t))
  | inr f ↦ rw f (no_factors M g cs (rw f at h))
]

pub no_end : (L : Live) (s g : ℕ) → is_composite g L.composites ≡ false → is_end L s g ≡ false
no_end L s g h = no_factors (λ h. member L h s) g L.composites h

pub an_end : (L : Live) (s g : ℕ) → is_composite g L.composites ≡ true → member L g s ≡ level (λ h. member L h s) L g s → is_end L s g ≡ member L g s
an_end L s g t e = sym (rw t at e)

pub end_composite : (L : Live) (s g : ℕ) → is_end L s g ≡ true → is_composite g L.composites ≡ true
end_composite L s g e = elim (cases_Bool (is_composite g L.composites)) [
  | inl t ↦ t
  | inr f ↦ absurd (both_ways (is_end L s g) (no_end L s g f) e)
]

-- the ends among the composites that are left, and those counted so far
abbrev pub AreLeft : (ℕ → Bool) → List CompositeRow → List (ℕ × ℕ) → Type 0
AreLeft E cs counts = (q : ℕ) → (if is_composite q cs && E q then 1 else count_of counts q) ≡ (if E q then 1 else 0)

pub left_first : (L : Live) (s : ℕ) → AreLeft (is_end L s) L.composites []
left_first L s q = elim (cases_Bool (is_end L s q)) [
  | inl t ↦ rw (t, end_composite L s q t) refl
  | inr f ↦ elim (cases_Bool (is_composite q L.composites)) [ inl a ↦ rw (a, f) refl | inr b ↦ rw (b, f) refl ]
]

pub left_counted : (E : ℕ → Bool) (c : CompositeRow) (cs : List CompositeRow) (old new : List (ℕ × ℕ)) → AreLeft E (c ∷ cs) old → E c.group ≡ true
    → ((q : ℕ) → count_of new q ≡ (if q == c.group then 1 else count_of old q)) → AreLeft E cs new
left_counted E c cs old new h e n q = elim (cases_Bool (q == c.group)) [
  | inl t ↦
      let same : q ≡ c.group = eqb-true q c.group t in
      let eq : E q ≡ true = rw same e in
      let one : count_of new q ≡ 1 = n q ∙ rw t refl in
      elim (cases_Bool (is_composite q cs)) [ inl a ↦ rw (a, eq) refl | inr b ↦ rw (b, eq, one) refl ]
  | inr f ↦
      let other : (c.group == q) ≡ false = ne_eqb c.group q (λ z. eqb-false q c.group f (sym z)) in
      let was : (if is_composite q cs && E q then 1 else count_of old q) ≡ (if E q then 1 else 0) = rw other at (h q) in
      rw (n q, f) was
]

pub left_passed : (E : ℕ → Bool) (c : CompositeRow) (cs : List CompositeRow) (old : List (ℕ × ℕ)) → AreLeft E (c ∷ cs) old → E c.group ≡ false → AreLeft E cs old
left_passed E c cs old h e q = elim (cases_Bool (c.group == q)) [
  | inl t ↦
      let same : c.group ≡ q = eqb-true c.group q t in
      let eq : E q ≡ false = rw (← same) e in
      let was : count_of old q ≡ 0 = rw (t, eq) at (h q) in
      elim (cases_Bool (is_composite q cs)) [ inl a ↦ rw (a, eq) was | inr b ↦ rw (b, eq) was ]
  | inr f ↦ rw f at (h q)
]

-- a way of no row, or none
pub one_or_none : {X : Type 0} (b : Bool) (x : X) → (if b then 1 else 0) ≡ capped (length (if b then x ∷ [] else []))
one_or_none true x = refl
one_or_none false x = refl

pub left_none : (E : ℕ → Bool) (cs : List CompositeRow) (i : ℕ) (counts : List (ℕ × ℕ)) → AreLeft E (drop i cs) counts → length cs ≤ i → (g : ℕ) → count_of counts g ≡ (if E g then 1 else 0)
left_none E cs i counts h l g = let none = drop_all i cs l in rw none at (h g)
