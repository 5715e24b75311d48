-- The state stays as it is between the moments that `changes` gives.
use Rattle.std.proofs.Common.{◌≡◌, ◌+◌, ◌-◌, ◌*◌, ◌<◌, ◌≤◌, ℕ, List, [], ◌∷◌, ◌++◌, Bool, true, Option, Some, None, max, unwrap_or, nat_le, nat_lt, arith, refl, sym, ◌∙◌, ap, subst, inl, inr}
use Rattle.std.specs.List.{AllByRecursion, filter, flat_map}
use Rattle.std.proofs.lemmas.Bool.{cases_Bool}
use Rattle.std.proofs.lemmas.Bool.Decides.{nat_tests}
use Rattle.reg_base.specs.Calendar.{day_micros}
use Rattle.reg_base.specs.declared.moment.TheConstants.{GREATEST_MOMENT}
use Rattle.reg_access.specs.Attested.{cert, latest, changes, ended, notice, state_by, state_of, turns}
use Rattle.reg_access.proofs.Certified.{cert_stays}

module _ (u t : ℕ) (w : u ≤ t) where
  abbrev pub Misses : ℕ → Type 0
  Misses m = u < m → m ≤ t → ⊥

  alike : (m : ℕ) → Misses m → nat_le m u ≡ nat_le m t
  alike m h = elim (cases_Bool (nat_le m u)) [
    | inl y ↦ let a : nat_le m t ≡ true = grind (arith, nat_tests, y, w) in y ∙ sym a
    | inr n ↦ elim (cases_Bool (nat_le m t)) [
      | inl z ↦ absurd (h (grind (arith, nat_tests, n)) (grind (arith, nat_tests, z)))
      | inr z ↦ n ∙ sym z
    ]
  ]

  alike_due : (m : ℕ) → Misses (m - notice) → nat_le m (u + notice) ≡ nat_le m (t + notice)
  alike_due m h = elim (cases_Bool (nat_le m (u + notice))) [
    | inl y ↦ let a : nat_le m (t + notice) ≡ true = grind (arith, nat_tests, y, w) in y ∙ sym a
    | inr n ↦
        let late : u + notice < m = grind (arith, nat_tests, n) in
        elim (cases_Bool (nat_le m (t + notice))) [
          | inl z ↦
              let soon : m ≤ t + notice = grind (arith, nat_tests, z) in
              absurd (h (omega (arith, late)) (omega (arith, soon)))
          | inr z ↦ n ∙ sym z
        ]
  ]

  end_stays : (end : ℕ) → Misses end → Misses (end - notice) → ended end u ≡ ended end t
  end_stays end h k = elim (cases_Bool (nat_lt GREATEST_MOMENT end)) [
    | inl y ↦ rw y refl
    | inr n ↦ rw (n, alike end h, alike_due end k) refl
  ]

  -- the certified moments among those that are missed, and the turns of each
  split : (xs ys : List ℕ) → AllByRecursion Misses (xs ++ ys) → AllByRecursion Misses xs × AllByRecursion Misses ys
  split [] ys h = (tt, h)
  split (x ∷ xs) ys h = let rest = split xs ys h.1 in ((h.0, rest.0), rest.1)

  certified_missed : (days : ℕ) (cs : List ℕ) → AllByRecursion Misses (flat_map (turns days) cs) → AllByRecursion Misses cs
  certified_missed days [] h = tt
  certified_missed days (c ∷ cs) h = let parts = split (turns days c) (flat_map (turns days) cs) h in (parts.0.0, certified_missed days cs parts.1)

  -- both ends of a certification's turns are missed
  abbrev pub EndsMissed : ℕ → ℕ → Type 0
  EndsMissed days c = Misses (c + days * day_micros) × Misses (c + days * day_micros - notice)

  ends_missed : (days : ℕ) (cs : List ℕ) → AllByRecursion Misses (flat_map (turns days) cs) → AllByRecursion (EndsMissed days) cs
  ends_missed days [] h = tt
  ends_missed days (c ∷ cs) h = let parts = split (turns days c) (flat_map (turns days) cs) h in ((parts.0.1.1.0, parts.0.1.0), ends_missed days cs parts.1)

pick : (P : ℕ → Type 0) (x : ℕ) (o : Option ℕ) (c : ℕ) → P x → ((d : ℕ) → o ≡ Some d → P d) → Some (max x (unwrap_or o 0)) ≡ Some c → P c
pick P x None c p q e =
    let top : max x 0 ≡ c = cc in
    let same : x ≡ c = omega (arith, top) in
    subst P same p
pick P x (Some d) c p q e =
    let top : max x d ≡ c = cc in
    elim (cases_Bool (nat_le x d)) [
      | inl y ↦ let low : x ≤ d = grind (arith, nat_tests, y) in let same : d ≡ c = omega (arith, top, low) in subst P same (q d refl)
      | inr n ↦ let high : d < x = grind (arith, nat_tests, n) in let same : x ≡ c = omega (arith, top, high) in subst P same p
    ]

latest_in : (P : ℕ → Type 0) (ms : List ℕ) (c : ℕ) → AllByRecursion P ms → latest ms ≡ Some c → P c
latest_in P [] c h e = absurd (cc)
latest_in P (m ∷ ms) c h e = pick P m (latest ms) c h.0 (λ d k. latest_in P ms d h.1 k) e

all_kept : (P : ℕ → Type 0) (test : ℕ → Bool) (cs : List ℕ) → AllByRecursion P cs → AllByRecursion P (filter test cs)
all_kept P test [] h = tt
all_kept P test (c ∷ cs) h = elim (cases_Bool (test c)) [
  | inl y ↦ rw y (h.0, all_kept P test cs h.1)
  | inr n ↦ rw n (all_kept P test cs h.1)
]

by_last : (u t : ℕ) (w : u ≤ t) (days : ℕ) (o : Option ℕ) → ((c : ℕ) → o ≡ Some c → EndsMissed u t w days c) → state_of (Some days) o u ≡ state_of (Some days) o t
by_last u t w days None h = refl
by_last u t w days (Some c) h = let both = h c refl in end_stays u t w (c + days * day_micros) both.0 both.1

pub constant : (days : Option ℕ) (certified : List ℕ) (u t : ℕ) → u ≤ t → AllByRecursion (λ m. u < m → m ≤ t → ⊥) (changes days certified) → state_by days certified u ≡ state_by days certified t
constant None certified u t w h = refl
constant (Some days) certified u t w h =
    ap (λ o. state_of (Some days) o u) (cert_stays certified u t w (certified_missed u t w days certified h))
    ∙ by_last u t w days (cert certified t) (λ c e. latest_in (EndsMissed u t w days) (filter (λ m. nat_le m t) certified) c (all_kept (EndsMissed u t w days) (λ m. nat_le m t) certified (ends_missed u t w days certified h)) e)
