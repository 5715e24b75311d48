-- The greatest boundary, the greatest end and the least end up to a number, from one number to the next.
use Rattle.std.proofs.Common.{◌≡◌, ◌+◌, ◌-◌, ◌≤◌, ◌<◌, ◌&&◌, ℕ, zero, suc, List, true, false, Option, Some, None, length, min, nat_lt, arith, refl, sym, ◌∙◌, ap, subst, inl, inr}
use Rattle.std.proofs.lemmas.Bool.{cases_lt, and_left, and_right, le-ltb, false≢true}
use Rattle.std.proofs.lemmas.Option.{slice_get_past}
use Rattle.std.specs.List.{slice_get}
use Rattle.reg_prov.specs.Boundaries.{is_boundary, is_end, is_past, moment_at, start_of, last_end, first_end, is_last_of, batch_end}

pub start_here : (moments : List ℕ) (n : ℕ) → is_boundary moments n ≡ true → start_of moments n ≡ n
unfolding start_of
start_here moments zero h = refl
start_here moments (suc n) h = rw h refl

pub start_less : (moments : List ℕ) (n : ℕ) → is_boundary moments (suc n) ≡ false → start_of moments (suc n) ≡ start_of moments n
unfolding start_of
start_less moments n h = rw h refl

-- the same from a number down
pub start_down : (moments : List ℕ) (n : ℕ) → is_boundary moments n ≡ false → start_of moments (n - 1) ≡ start_of moments n
start_down moments zero h = refl
start_down moments (suc n) h = let down : suc n - 1 ≡ n = omega arith in ap (start_of moments) down ∙ sym (start_less moments n h)

pub above_none : (moments : List ℕ) (n : ℕ) → is_boundary moments n ≡ false → 1 ≤ n
above_none moments zero h = absurd (cc)
above_none moments (suc n) h = omega arith

module _ (moments : List ℕ) (clock place : ℕ) where
  no_end_here : (n : ℕ) → n ≤ place → is_end moments clock place n ≡ false
  no_end_here n w = and_left (nat_lt place n) (is_boundary moments n && is_past clock (moment_at moments n)) (le-ltb place n w)

  no_end_past : (n : ℕ) → length moments ≤ n → is_end moments clock place (suc n) ≡ false
  no_end_past n w =
      let none : is_boundary moments (suc n) ≡ false = ap (λ o. is_last_of o (slice_get moments (suc n))) (slice_get_past moments n w) in
      and_right (nat_lt place (suc n)) (is_boundary moments (suc n) && is_past clock (moment_at moments (suc n)))
      (and_left (is_boundary moments (suc n)) (is_past clock (moment_at moments (suc n))) none)

  -- ---- the greatest end

  last_skips : (n : ℕ) → is_end moments clock place (suc n) ≡ false → last_end moments clock place (suc n) ≡ last_end moments clock place n
  unfolding last_end
  last_skips n h = rw h refl

  pub last_here : (n : ℕ) → is_end moments clock place n ≡ true → last_end moments clock place n ≡ Some n
  unfolding last_end
  last_here zero h = absurd (false≢true (sym (no_end_here zero (omega arith)) ∙ h))
  last_here (suc n) h = rw h refl

  pub last_down : (n : ℕ) → is_end moments clock place n ≡ false → last_end moments clock place (n - 1) ≡ last_end moments clock place n
  last_down zero h = refl
  last_down (suc n) h = let down : suc n - 1 ≡ n = omega arith in ap (last_end moments clock place) down ∙ sym (last_skips n h)

  pub last_low : (n : ℕ) → n ≤ place → last_end moments clock place n ≡ None
  unfolding last_end
  last_low zero w = refl
  last_low (suc n) w = last_skips n (no_end_here (suc n) w) ∙ last_low n (omega (arith, w))

  pub last_within : (n : ℕ) → last_end moments clock place (min n (length moments)) ≡ last_end moments clock place n
  last_within zero = let nothing : min zero (length moments) ≡ zero = omega arith in ap (last_end moments clock place) nothing
  last_within (suc n) = elim (cases_lt n (length moments)) [
    | inl w ↦ let whole : min (suc n) (length moments) ≡ suc n = omega (arith, w) in ap (last_end moments clock place) whole
    | inr w ↦
        let less : min (suc n) (length moments) ≡ min n (length moments) = omega (arith, w) in
        ap (last_end moments clock place) less ∙ (last_within n ∙ sym (last_skips n (no_end_past n w)))
  ]

  -- ---- the least end

  pub first_low : (n : ℕ) → n ≤ place → first_end moments clock place n ≡ None
  unfolding first_end
  first_low zero w = refl
  first_low (suc n) w = rw (first_low n (omega (arith, w)), no_end_here (suc n) w) refl

  pub first_here : (n : ℕ) → first_end moments clock place n ≡ None → is_end moments clock place (suc n) ≡ true → first_end moments clock place (suc n) ≡ Some (suc n)
  unfolding first_end
  first_here n none h = rw (none, h) refl

  pub first_skips : (n : ℕ) → first_end moments clock place n ≡ None → is_end moments clock place (suc n) ≡ false → first_end moments clock place (suc n) ≡ None
  unfolding first_end
  first_skips n none h = rw (none, h) refl

  first_stays : (n x : ℕ) → first_end moments clock place n ≡ Some x → first_end moments clock place (suc n) ≡ Some x
  unfolding first_end
  first_stays n x h = rw h refl

  pub first_kept : (n m x : ℕ) → first_end moments clock place n ≡ Some x → n ≤ m → first_end moments clock place m ≡ Some x
  first_kept n zero x h w = let same : n ≡ zero = omega (arith, w) in subst (λ (k : ℕ). first_end moments clock place k ≡ Some x) same h
  first_kept n (suc m) x h w = elim (cases_lt m n) [
    | inl v ↦ let same : n ≡ suc m = omega (arith, w, v) in subst (λ (k : ℕ). first_end moments clock place k ≡ Some x) same h
    | inr v ↦ first_stays m x (first_kept n m x h v)
  ]

  pub first_none : (n m : ℕ) → first_end moments clock place n ≡ None → m ≤ n → first_end moments clock place m ≡ None
  first_none n m h w = none_of (first_end moments clock place m) refl
    where
      none_of : (o : Option ℕ) → first_end moments clock place m ≡ o → o ≡ None
      none_of None e = refl
      none_of (Some x) e = let found = first_kept m n x e w in absurd (cc)

  -- ---- the loops' steps

  pub least_found : (n : ℕ) → first_end moments clock place n ≡ None → n < length moments → is_end moments clock place (n + 1) ≡ true → Some (n + 1) ≡ first_end moments clock place (length moments)
  least_found n none w =
      let next : suc n ≡ n + 1 = omega arith in
      subst (λ (k : ℕ). is_end moments clock place k ≡ true → Some k ≡ first_end moments clock place (length moments)) next
      (λ h. sym (first_kept (suc n) (length moments) (suc n) (first_here n none h) (omega (arith, w))))

  pub none_more : (n : ℕ) → first_end moments clock place n ≡ None → is_end moments clock place (n + 1) ≡ false → first_end moments clock place (n + 1) ≡ None
  none_more n none =
      let next : suc n ≡ n + 1 = omega arith in
      subst (λ (k : ℕ). is_end moments clock place k ≡ false → first_end moments clock place k ≡ None) next (first_skips n none)

  -- ---- where the batch ends

  module _ (most greatest : ℕ) (up_to : greatest ≡ min (place + most) (length moments)) where
    last_is : last_end moments clock place (place + most) ≡ last_end moments clock place greatest
    last_is = sym (last_within (place + most)) ∙ ap (last_end moments clock place) (sym up_to)

    pub ends_at_last : (n : ℕ) → Some n ≡ last_end moments clock place greatest → n ≡ batch_end moments clock place most
    ends_at_last n h = rw (last_is, ← h) refl

    pub ends_at_first : (n : ℕ) → None ≡ last_end moments clock place greatest → Some n ≡ first_end moments clock place (length moments) → n ≡ batch_end moments clock place most
    ends_at_first n none h = rw (last_is, ← none, ← h) refl

    pub ends_at_place : None ≡ last_end moments clock place greatest → None ≡ first_end moments clock place (length moments) → place ≡ batch_end moments clock place most
    ends_at_place none nothing = rw (last_is, ← none, ← nothing) refl
