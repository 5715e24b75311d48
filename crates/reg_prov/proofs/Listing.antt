-- The boundaries of a batch, number by number.
use Rattle.std.proofs.Common.{◌≡◌, ◌+◌, ◌≤◌, ◌<◌, ◌==◌, ◌||◌, ℕ, zero, suc, List, [], ◌∷◌, ◌++◌, Bool, true, false, not, Option, Some, None, length, get_or, if◌then◌else◌, arith, refl, sym, ◌∙◌, ap, subst, inl, inr}
use Rattle.std.proofs.lemmas.Bool.{cases_Bool, cases_lt, eq-eqb, eqb-false, false≢true, not-true, or_left, or_right}
use Rattle.std.proofs.lemmas.Option.{slice_get_within, slice_get-get_or, get_or_from_slice_get}
use Rattle.std.specs.List.{AllByRecursion, list_any, slice_get}
use Rattle.std.specs.List.Sorted.{IsNonDecreasing}
use Rattle.reg_prov.specs.declared.boundary.Boundary.{Boundary}
use Rattle.reg_prov.specs.Boundaries.{is_boundary, is_last_of, moment_at, start_of}
use Rattle.reg_prov.specs.Steps.{AreBoundaries, Chained, IsAfter, IsInside, has_number}
use Rattle.reg_prov.proofs.Ending.{start_here, start_less}

-- ---- the greatest boundary up to a number

pub start_stands : (moments : List ℕ) (n : ℕ) → is_boundary moments (start_of moments n) ≡ true
start_stands moments zero = let here : start_of moments zero ≡ zero = start_here moments zero refl in subst (λ (k : ℕ). is_boundary moments k ≡ true) (sym here) refl
start_stands moments (suc n) = elim (cases_Bool (is_boundary moments (suc n))) [
  | inl y ↦ subst (λ (k : ℕ). is_boundary moments k ≡ true) (sym (start_here moments (suc n) y)) y
  | inr f ↦ subst (λ (k : ℕ). is_boundary moments k ≡ true) (sym (start_less moments n f)) (start_stands moments n)
]

pub start_most : (moments : List ℕ) (n : ℕ) → start_of moments n ≤ n
start_most moments zero = let here : start_of moments zero ≡ zero = start_here moments zero refl in omega (arith, here)
start_most moments (suc n) = elim (cases_Bool (is_boundary moments (suc n))) [
  | inl y ↦ omega (arith, start_here moments (suc n) y)
  | inr f ↦ omega (arith, start_less moments n f, start_most moments n)
]

-- ---- moments rise from boundary to boundary

strictly : (moments : List ℕ) → IsNonDecreasing moments → (p k m t : ℕ) → is_boundary moments (suc p) ≡ true → p < k → slice_get moments p ≡ Some m → slice_get moments k ≡ Some t → m < t
strictly moments up p k m t b w e h =
    let inside : k < length moments = slice_get_within moments k t h in
    let next : slice_get moments (suc p) ≡ Some (get_or moments (suc p) 0) = slice_get-get_or moments (suc p) 0 (omega (arith, inside, w)) in
    let last : not (m == get_or moments (suc p) 0) ≡ true = rw (e, next) at b in
    let apart : m ≡ get_or moments (suc p) 0 → ⊥ = eqb-false m (get_or moments (suc p) 0) (not-true (m == get_or moments (suc p) 0) last) in
    let m_is : get_or moments p 0 ≡ m = get_or_from_slice_get moments p m 0 e in
    let t_is : get_or moments k 0 ≡ t = get_or_from_slice_get moments k t 0 h in
    let low : get_or moments p 0 ≤ get_or moments (suc p) 0 = up p (suc p) 0 (omega arith) (omega (arith, inside, w)) in
    let high : get_or moments (suc p) 0 ≤ get_or moments k 0 = up (suc p) k 0 (omega (arith, w)) inside in
    omega (arith, apart, m_is, t_is, low, high)

after_before : (moments : List ℕ) → IsNonDecreasing moments → (p k t : ℕ) → is_boundary moments p ≡ true → p ≤ k → slice_get moments k ≡ Some t → IsAfter (moment_at moments p) t
after_before moments up zero k t b w h = tt
after_before moments up (suc p) k t b w h = by_moment (slice_get moments p) refl
  where
    by_moment : (o : Option ℕ) → slice_get moments p ≡ o → IsAfter o t
    by_moment None e = tt
    by_moment (Some m) e = strictly moments up p k m t b (omega (arith, w)) e h

-- ---- the moment of a boundary

no_boundary : (moments : List ℕ) (n : ℕ) → None ≡ (if is_boundary moments (suc n) then moment_at moments (suc n) else None) → is_boundary moments (suc n) ≡ false
no_boundary moments n h = elim (cases_Bool (is_boundary moments (suc n))) [
  | inl y ↦
      let none : None ≡ slice_get moments n = rw y at h in
      absurd (false≢true (ap (λ o. is_last_of o (slice_get moments (suc n))) none ∙ y))
  | inr f ↦ f
]

boundary_is : (moments : List ℕ) (n t : ℕ) → Some t ≡ (if is_boundary moments (suc n) then moment_at moments (suc n) else None) → (is_boundary moments (suc n) ≡ true) × (slice_get moments n ≡ Some t)
boundary_is moments n t h = elim (cases_Bool (is_boundary moments (suc n))) [
  | inl y ↦ (y, sym (rw y at h))
  | inr f ↦ let none = rw f at h in absurd (cc)
]

-- ---- lists with one more at the end

unfoldable pub end_number : ℕ → List Boundary → ℕ
end_number n [] = n
end_number n (b ∷ bs) = end_number b.number bs

unfoldable pub end_moment : Option ℕ → List Boundary → Option ℕ
end_moment m [] = m
end_moment m (b ∷ bs) = end_moment (Some b.at) bs

chained_push : (n : ℕ) (m : Option ℕ) (bs : List Boundary) (b : Boundary) → Chained n m bs → end_number n bs < b.number → b.before ≡ end_moment m bs → IsAfter (end_moment m bs) b.at → Chained n m (bs ++ b ∷ [])
unfolding end_number end_moment
chained_push n m [] b ch w e a = (w, e, a, tt)
chained_push n m (x ∷ bs) b ch w e a = (ch.0, ch.1, ch.2, chained_push x.number (Some x.at) bs b ch.3 w e a)

end_number_push : (n : ℕ) (bs : List Boundary) (b : Boundary) → end_number n (bs ++ b ∷ []) ≡ b.number
unfolding end_number
end_number_push n [] b = refl
end_number_push n (x ∷ bs) b = end_number_push x.number bs b

end_moment_push : (m : Option ℕ) (bs : List Boundary) (b : Boundary) → end_moment m (bs ++ b ∷ []) ≡ Some b.at
unfolding end_moment
end_moment_push m [] b = refl
end_moment_push m (x ∷ bs) b = end_moment_push (Some x.at) bs b

end_number_none : (n : ℕ) → end_number n [] ≡ n
unfolding end_number
end_number_none n = refl

end_moment_none : (m : Option ℕ) → end_moment m [] ≡ m
unfolding end_moment
end_moment_none m = refl

any_push : (test : Boundary → Bool) (bs : List Boundary) (b : Boundary) → list_any test (bs ++ b ∷ []) ≡ (list_any test bs || test b)
any_push test [] b = elim (test b) as (λ c. (c || false) ≡ c) [ true ↦ refl | false ↦ refl ]
any_push test (x ∷ bs) b = elim (test x) as (λ c. (c || list_any test (bs ++ b ∷ [])) ≡ ((c || list_any test bs) || test b)) [ true ↦ refl | false ↦ any_push test bs b ]

inside_more : (moments : List ℕ) (start last : ℕ) (bs : List Boundary) → AllByRecursion (IsInside moments start last) bs → AllByRecursion (IsInside moments start (suc last)) bs
inside_more moments start last [] h = tt
inside_more moments start last (b ∷ bs) h =
    let up : b.number ≤ last = h.0.within in
    (record { stands = h.0.stands; behind = h.0.behind; within = omega (arith, up); moment = h.0.moment; earlier = h.0.earlier }, inside_more moments start last bs h.1)

all_push : (P : Boundary → Type 0) (bs : List Boundary) (b : Boundary) → AllByRecursion P bs → P b → AllByRecursion P (bs ++ b ∷ [])
all_push P [] b h p = (p, tt)
all_push P (x ∷ bs) b h p = (h.0, all_push P bs b h.1 p)

-- ---- the loop

abbrev pub step : ℕ → ℕ → Option ℕ → Boundary
step number at before = record { number = number; at = at; before = before }

-- the boundaries up to a number are listed, and this is the moment of the last one
pub record Listed (moments : List ℕ) (start number : ℕ) (before : Option ℕ) (bs : List Boundary) : Type 0 where
  pub low : start ≤ number
  pub are : AreBoundaries moments start number bs
  pub before_is : before ≡ moment_at moments (start_of moments number)
  pub at_number : end_number start bs ≡ start_of moments number
  pub at_moment : end_moment (moment_at moments start) bs ≡ before

pub listed_none : (moments : List ℕ) (start : ℕ) → is_boundary moments start ≡ true → Listed moments start start (moment_at moments start) []
listed_none moments start b = record {
  low = omega arith;
  are = record { chained = tt; inside = tt; all = λ n is low high. absurd (omega (arith, low, high)) };
  before_is = ap (moment_at moments) (sym (start_here moments start b));
  at_number = end_number_none start ∙ sym (start_here moments start b);
  at_moment = end_moment_none (moment_at moments start);
}

module _ (moments : List ℕ) (start n : ℕ) (before : Option ℕ) (bs : List Boundary) (h : Listed moments start n before bs) where
  skips : is_boundary moments (suc n) ≡ false → Listed moments start (suc n) before bs
  skips f = record {
    low = omega (arith, h.low);
    are = record {
      chained = h.are.chained;
      inside = inside_more moments start n bs h.are.inside;
      all = λ k is low high. elim (cases_lt n k) [
        | inl w ↦ let same : k ≡ suc n = omega (arith, w, high) in absurd (false≢true (sym f ∙ subst (λ (i : ℕ). is_boundary moments i ≡ true) same is))
        | inr w ↦ h.are.all k is low w
      ];
    };
    before_is = h.before_is ∙ ap (moment_at moments) (sym (start_less moments n f));
    at_number = h.at_number ∙ sym (start_less moments n f);
    at_moment = h.at_moment;
  }

  more : IsNonDecreasing moments → (t : ℕ) → is_boundary moments (suc n) ≡ true → slice_get moments n ≡ Some t → Listed moments start (suc n) (Some t) (bs ++ step (suc n) t before ∷ [])
  more up t y e = record {
    low = omega (arith, h.low);
    are = record {
      chained = chained_push start (moment_at moments start) bs (step (suc n) t before) h.are.chained
          (let most : start_of moments n ≤ n = start_most moments n in omega (arith, h.at_number, most))
          (sym h.at_moment)
          (subst (λ (o : Option ℕ). IsAfter o t) (sym (h.at_moment ∙ h.before_is)) (after_before moments up (start_of moments n) n t (start_stands moments n) (start_most moments n) e));
      inside = all_push (IsInside moments start (suc n)) bs (step (suc n) t before) (inside_more moments start n bs h.are.inside)
          (record { stands = y; behind = omega (arith, h.low); within = omega arith; moment = e; earlier = sym h.before_is });
      all = λ k is low high. any_push (λ (b : Boundary). b.number == k) bs (step (suc n) t before) ∙ elim (cases_lt n k) [
        | inl w ↦ or_right (has_number k bs) (suc n == k) (eq-eqb (suc n) k (omega (arith, w, high)))
        | inr w ↦ or_left (has_number k bs) (suc n == k) (h.are.all k is low w)
      ];
    };
    before_is = sym e ∙ ap (moment_at moments) (sym (start_here moments (suc n) y));
    at_number = end_number_push start bs (step (suc n) t before) ∙ sym (start_here moments (suc n) y);
    at_moment = end_moment_push (moment_at moments start) bs (step (suc n) t before);
  }

  pub listed_skips : None ≡ (if is_boundary moments (n + 1) then moment_at moments (n + 1) else None) → Listed moments start (n + 1) before bs
  listed_skips =
      let next : suc n ≡ n + 1 = omega arith in
      subst (λ (k : ℕ). None ≡ (if is_boundary moments k then moment_at moments k else None) → Listed moments start k before bs) next (λ none. skips (no_boundary moments n none))

  pub listed_more : IsNonDecreasing moments → (t : ℕ) → Some t ≡ (if is_boundary moments (n + 1) then moment_at moments (n + 1) else None) → Listed moments start (n + 1) (Some t) (bs ++ step (n + 1) t before ∷ [])
  listed_more up t =
      let next : suc n ≡ n + 1 = omega arith in
      subst (λ (k : ℕ). Some t ≡ (if is_boundary moments k then moment_at moments k else None) → Listed moments start k (Some t) (bs ++ step k t before ∷ [])) next
      (λ e. let b = boundary_is moments n t e in more up t b.0 b.1)

pub all_listed : (moments : List ℕ) (start n last : ℕ) (before : Option ℕ) (bs : List Boundary) → Listed moments start n before bs → n ≤ last → last ≤ n → AreBoundaries moments start last bs
all_listed moments start n last before bs h w v = let same : n ≡ last = omega (arith, w, v) in subst (λ (k : ℕ). AreBoundaries moments start k bs) same h.are
