-- The last certification by a moment: one more, none between two moments, and at a certified moment.
use Rattle.std.proofs.Common.{◌≡◌, ◌+◌, ◌<◌, ◌≤◌, ◌⊎◌, ℕ, List, [], ◌∷◌, ◌++◌, true, false, Some, max, length, get_or, take, nat_le, unwrap_or, arith, refl, sym, ◌∙◌, ap, inl, inr, append-nil}
use Rattle.std.specs.List.{AllByRecursion, Contains, filter}
use Rattle.std.proofs.lemmas.Bool.{cases_Bool}
use Rattle.std.proofs.lemmas.Bool.Decides.{nat_tests}
use Rattle.std.proofs.lemmas.List.Elements.{filter_more, Contains-append_cases, Contains-push_cases}
use Rattle.reg_access.specs.Attested.{cert, latest}

pub latest_more : (ms : List ℕ) (m : ℕ) → latest (ms ++ m ∷ []) ≡ Some (max (unwrap_or (latest ms) 0) m)
latest_more [] m = ap Some (omega arith)
latest_more (x ∷ ms) m = rw (latest_more ms m) (ap Some (omega arith))

-- one more certified moment, which is no later
pub cert_takes : (cs : List ℕ) (i t : ℕ) → i < length cs → get_or cs i 0 ≤ t → cert (take (i + 1) cs) t ≡ Some (max (unwrap_or (cert (take i cs) t) 0) (get_or cs i 0))
cert_takes cs i t h w =
    let y : nat_le (get_or cs i 0) t ≡ true = grind (arith, nat_tests, w) in
    rw (filter_more (λ c. nat_le c t) cs i 0 h, y) (latest_more (filter (λ c. nat_le c t) (take i cs)) (get_or cs i 0))

-- or which is later
pub cert_passes : (cs : List ℕ) (i t : ℕ) → i < length cs → t < get_or cs i 0 → cert (take (i + 1) cs) t ≡ cert (take i cs) t
cert_passes cs i t h w =
    let n : nat_le (get_or cs i 0) t ≡ false = grind (arith, nat_tests, w) in
    rw (filter_more (λ c. nat_le c t) cs i 0 h, n, append-nil) refl

-- ---- none between two moments

both_by : (m u t : ℕ) → u ≤ t → (u < m → m ≤ t → ⊥) → nat_le m u ≡ nat_le m t
both_by m u t w h = elim (cases_Bool (nat_le m u)) [
  | inl y ↦ let a : nat_le m t ≡ true = grind (arith, nat_tests, y, w) in y ∙ sym a
  | inr n ↦ elim (cases_Bool (nat_le m t)) [
    | inl z ↦ absurd (h (grind (arith, nat_tests, n)) (grind (arith, nat_tests, z)))
    | inr z ↦ n ∙ sym z
  ]
]

same_by : (cs : List ℕ) (u t : ℕ) → u ≤ t → AllByRecursion (λ m. u < m → m ≤ t → ⊥) cs → filter (λ c. nat_le c u) cs ≡ filter (λ c. nat_le c t) cs
same_by [] u t w h = refl
same_by (x ∷ cs) u t w h = rw (both_by x u t w h.0) (elim (cases_Bool (nat_le x t)) [
  | inl y ↦ rw y (ap (λ rest. x ∷ rest) (same_by cs u t w h.1))
  | inr n ↦ rw n (same_by cs u t w h.1)
])

pub cert_stays : (cs : List ℕ) (u t : ℕ) → u ≤ t → AllByRecursion (λ m. u < m → m ≤ t → ⊥) cs → cert cs u ≡ cert cs t
cert_stays cs u t w h = ap latest (same_by cs u t w h)

-- ---- at a certified moment

nothing_in : (c : ℕ) → Contains [] c → ⊥
nothing_in c n = let k : n.0 < 0 = n.1 in omega arith

only_one : (x c : ℕ) → Contains (x ∷ []) c → x ≡ c
only_one x c a = elim (Contains-push_cases [] x c a) [ inl n ↦ absurd (nothing_in c n) | inr e ↦ e ]

pub first_or_later : (x : ℕ) (cs : List ℕ) (c : ℕ) → Contains (x ∷ cs) c → (x ≡ c) ⊎ Contains cs c
first_or_later x cs c h = elim (Contains-append_cases (x ∷ []) cs c h) [ inl a ↦ inl (only_one x c a) | inr b ↦ inr b ]

cert_at_most : (cs : List ℕ) (t : ℕ) → unwrap_or (cert cs t) 0 ≤ t
cert_at_most [] t = omega arith
cert_at_most (x ∷ cs) t = elim (cases_Bool (nat_le x t)) [
  | inl y ↦ let low : x ≤ t = grind (arith, nat_tests, y) in rw y (omega (arith, cert_at_most cs t))
  | inr n ↦ rw n (cert_at_most cs t)
]

pub cert_at : (cs : List ℕ) (c : ℕ) → Contains cs c → cert cs c ≡ Some c
cert_at [] c h = absurd (nothing_in c h)
cert_at (x ∷ cs) c h = elim (first_or_later x cs c h) [
  | inl e ↦ let y : nat_le x c ≡ true = grind (arith, nat_tests, e) in rw y (ap Some (omega (arith, cert_at_most cs c, e)))
  | inr k ↦ elim (cases_Bool (nat_le x c)) [
    | inl y ↦ let low : x ≤ c = grind (arith, nat_tests, y) in rw (y, cert_at cs c k) (ap Some (omega arith))
    | inr n ↦ rw n (cert_at cs c k)
  ]
]
