-- Between two moments that no limit of an interval separates the wish is the same.
use Rattle.std.proofs.Common.{◌≡◌, ◌≤◌, ◌<◌, ◌&&◌, ◌||◌, ◌⊎◌, ℕ, List, [], ◌∷◌, ◌++◌, Bool, true, false, Option, Some, None, nat_le, nat_lt, arith, refl, sym, ◌∙◌, ap, inl, inr}
use Rattle.std.proofs.lemmas.Bool.{cases_lt, le-leb, lt-leb, lt-ltb, le-ltb, or_left, or_right}
use Rattle.std.specs.List.{list_any}
use Rattle.reg_pit.specs.Spans.{covers, has_moment}
use Rattle.reg_prov.specs.Spans.{limits, limits_of, wished}

pub any_append : {X : Type 0} (test : X → Bool) (xs ys : List X) → list_any test (xs ++ ys) ≡ (list_any test xs || list_any test ys)
any_append test [] ys = refl
any_append test (x ∷ xs) ys = elim (test x) as (λ c. (c || list_any test (xs ++ ys)) ≡ ((c || list_any test xs) || list_any test ys)) [ true ↦ refl | false ↦ any_append test xs ys ]

module _ (r : ℕ → Bool) (p t : ℕ) (rise : p < t) (between : (e : ℕ) → p < e → e ≤ t → r e ≡ true) where
  begun : (s : ℕ) → (nat_le s p ≡ nat_le s t) ⊎ (r s ≡ true)
  begun s = elim (cases_lt p s) [
    | inl w ↦ elim (cases_lt t s) [
      | inl v ↦ inl (lt-leb s p w ∙ sym (lt-leb s t v))
      | inr v ↦ inr (between s w v)
    ]
    | inr w ↦ inl (le-leb s p w ∙ sym (le-leb s t (omega (arith, w, rise))))
  ]

  ended : (e : ℕ) → (nat_lt p e ≡ nat_lt t e) ⊎ (r e ≡ true)
  ended e = elim (cases_lt p e) [
    | inl w ↦ elim (cases_lt t e) [
      | inl v ↦ inl (lt-ltb p e w ∙ sym (lt-ltb t e v))
      | inr v ↦ inr (between e w v)
    ]
    | inr w ↦ inl (le-ltb p e w ∙ sym (le-ltb t e (omega (arith, w, rise))))
  ]

  one_span : (span : ℕ × Option ℕ) → (has_moment p span ≡ has_moment t span) ⊎ (list_any r (limits span) ≡ true)
  one_span (s, None) = elim (begun s) [
    | inl a ↦ inl (ap (λ (k : Bool). k && true) a)
    | inr y ↦ inr (or_left (r s) false y)
  ]
  one_span (s, Some e) = elim (begun s) [
    | inl a ↦ elim (ended e) [
      | inl b ↦ inl (rw (a, b) refl)
      | inr y ↦ inr (or_right (r s) (r e || false) (or_left (r e) false y))
    ]
    | inr y ↦ inr (or_left (r s) (r e || false) y)
  ]

  pub same_or_limit : (spans : List (ℕ × Option ℕ)) → (covers spans p ≡ covers spans t) ⊎ (list_any r (limits_of spans) ≡ true)
  same_or_limit [] = inl refl
  same_or_limit (span ∷ spans) = elim (one_span span) [
    | inl a ↦ elim (same_or_limit spans) [
      | inl b ↦ inl (rw (a, b) refl)
      | inr y ↦ inr (any_append r (limits span) (limits_of spans) ∙ or_right (list_any r (limits span)) (list_any r (limits_of spans)) y)
    ]
    | inr y ↦ inr (any_append r (limits span) (limits_of spans) ∙ or_left (list_any r (limits span)) (list_any r (limits_of spans)) y)
  ]

  pub same_wish : (grants members : List (ℕ × Option ℕ)) → (wished grants members p ≡ wished grants members t) ⊎ ((list_any r (limits_of grants) ≡ true) ⊎ (list_any r (limits_of members) ≡ true))
  same_wish grants members = elim (same_or_limit grants) [
    | inl a ↦ elim (same_or_limit members) [
      | inl b ↦ inl (rw (a, b) refl)
      | inr y ↦ inr (inr y)
    ]
    | inr y ↦ inr (inl y)
  ]
