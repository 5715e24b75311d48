-- A batch ends no earlier than its place, and where there are entries.
use Rattle.std.proofs.Common.{◌≡◌, ◌+◌, ◌≤◌, ◌&&◌, ◌⊎◌, ℕ, zero, suc, List, true, Option, Some, None, length, unwrap_or, nat_lt, if◌then◌else◌, arith, refl, sym, ◌∙◌, ap, subst, inl, inr}
use Rattle.std.proofs.lemmas.Bool.{cases_Bool, cases_lt, and_parts, ltb-true, false≢true}
use Rattle.std.proofs.lemmas.Option.{same_Some, slice_get_past}
use Rattle.std.specs.List.{slice_get}
use Rattle.reg_prov.specs.Boundaries.{is_boundary, is_end, is_last_of, is_past, moment_at, or_else, last_end, first_end, batch_end, start_of}
use Rattle.reg_prov.proofs.Listing.{start_most}

boundary_within : (moments : List ℕ) (n : ℕ) → is_boundary moments n ≡ true → n ≤ length moments
boundary_within moments zero b = omega arith
boundary_within moments (suc n) b = elim (cases_lt n (length moments)) [
  | inl w ↦ omega (arith, w)
  | inr w ↦ absurd (false≢true (sym (ap (λ o. is_last_of o (slice_get moments (suc n))) (slice_get_past moments n w)) ∙ b))
]

module _ (moments : List ℕ) (clock place : ℕ) where
  last_ends : (n x : ℕ) → last_end moments clock place n ≡ Some x → is_end moments clock place x ≡ true
  unfolding last_end
  last_ends zero x e = absurd (cc)
  last_ends (suc n) x e = elim (cases_Bool (is_end moments clock place (suc n))) [
    | inl y ↦ let same : suc n ≡ x = same_Some (suc n) x (rw y at e) in subst (λ (k : ℕ). is_end moments clock place k ≡ true) same y
    | inr f ↦ last_ends n x (rw f at e)
  ]

  first_is : (n : ℕ) → first_end moments clock place (suc n) ≡ or_else (first_end moments clock place n) (if is_end moments clock place (suc n) then Some (suc n) else None)
  unfolding first_end
  first_is n = refl

  one_of : (n x : ℕ) (o : Option ℕ) → or_else o (if is_end moments clock place (suc n) then Some (suc n) else None) ≡ Some x → (o ≡ Some x) ⊎ (is_end moments clock place x ≡ true)
  one_of n x (Some y) e = inl e
  one_of n x None e = elim (cases_Bool (is_end moments clock place (suc n))) [
    | inl y ↦ let same : suc n ≡ x = same_Some (suc n) x (rw y at e) in inr (subst (λ (k : ℕ). is_end moments clock place k ≡ true) same y)
    | inr f ↦ let none : None ≡ Some x = rw f at e in absurd (cc)
  ]

  first_ends : (n x : ℕ) → first_end moments clock place n ≡ Some x → is_end moments clock place x ≡ true
  unfolding first_end
  first_ends zero x e = absurd (cc)
  first_ends (suc n) x e = elim (one_of n x (first_end moments clock place n) (sym (first_is n) ∙ e)) [
    | inl h ↦ first_ends n x h
    | inr y ↦ y
  ]

  end_is : (n : ℕ) → is_end moments clock place n ≡ true → (place ≤ n) × (n ≤ length moments)
  end_is n y =
      let both = and_parts (nat_lt place n) (is_boundary moments n && is_past clock (moment_at moments n)) y in
      let stands = and_parts (is_boundary moments n) (is_past clock (moment_at moments n)) both.1 in
      let behind = ltb-true place n both.0 in
      (omega (arith, behind), boundary_within moments n stands.0)

  module _ (most : ℕ) where
    abbrev IsFor : ℕ → Type 0
    IsFor end = (place ≤ end) × (place ≤ length moments → end ≤ length moments)

    of_end : (n : ℕ) → is_end moments clock place n ≡ true → IsFor n
    of_end n y = let h = end_is n y in (h.0, λ w. h.1)

    found : (o q : Option ℕ) → ((x : ℕ) → o ≡ Some x → IsFor x) → ((x : ℕ) → q ≡ Some x → IsFor x) → IsFor (unwrap_or (or_else o q) place)
    found (Some x) q h k = h x refl
    found None (Some x) h k = k x refl
    found None None h k = (omega arith, λ w. w)

    pub end_for : IsFor (batch_end moments clock place most)
    end_for =
        found (last_end moments clock place (place + most)) (first_end moments clock place (length moments))
        (λ x e. of_end x (last_ends (place + most) x e)) (λ x e. of_end x (first_ends (length moments) x e))

    pub start_before : start_of moments place ≤ batch_end moments clock place most
    start_before = let low : place ≤ batch_end moments clock place most = end_for.0 in omega (arith, low, start_most moments place)
