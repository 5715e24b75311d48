-- The state of a certification that ends at a moment: attested, due and overdue, one after another.
use Rattle.std.proofs.Common.{◌≡◌, ◌+◌, ◌-◌, ◌*◌, ◌<◌, ◌≤◌, ℕ, true, false, Option, Some, None, nat_le, nat_lt, arith, refl, sym, ◌∙◌, ap, inl, inr}
use Rattle.std.proofs.lemmas.Bool.{cases_Bool}
use Rattle.std.proofs.lemmas.Bool.Decides.{nat_tests}
use Rattle.reg_base.specs.Calendar.{day_micros}
use Rattle.reg_base.specs.declared.moment.TheConstants.{GREATEST_MOMENT}
use Rattle.reg_access.specs.declared.state.StateKind.TheVariants as kind
use Rattle.reg_access.specs.Attested.{ending, notice, state_of}

not_by : (m t : ℕ) → t < m → nat_le m t ≡ false
not_by m t w = grind (arith, nat_tests, w)

by_then : (m t : ℕ) → m ≤ t → nat_le m t ≡ true
by_then m t w = grind (arith, nat_tests, w)

pub attested : (ends t : ℕ) → t < ends - notice → (ending ends t).kind ≡ kind.Attested
attested ends t w = rw (not_by ends t (omega (arith, w)), not_by ends (t + notice) (omega (arith, w))) refl

pub due : (ends t : ℕ) → ends - notice ≤ t → t < ends → (ending ends t).kind ≡ kind.Due
due ends t w v = rw (not_by ends t v, by_then ends (t + notice) (omega (arith, w))) refl

pub overdue : (ends t : ℕ) → ends ≤ t → (ending ends t).kind ≡ kind.Overdue
overdue ends t w = rw (by_then ends t w) refl

-- ---- a state that has an end, and one that has none

ending_until : (end t : ℕ) → (ending end t).until ≡ Some end
ending_until end t = elim (cases_Bool (nat_le end t)) [
  | inl y ↦ rw y refl
  | inr n ↦ elim (cases_Bool (nat_le end (t + notice))) [ inl y ↦ rw (n, y) refl | inr m ↦ rw (n, m) refl ]
]

one_end : (end ends u : ℕ) → (ending end u).until ≡ Some ends → end ≡ ends
one_end end ends u h = let e : Some end ≡ Some ends = sym (ending_until end u) ∙ h in cc

pub ends_so : (days last : Option ℕ) (u t ends : ℕ) → (state_of days last u).until ≡ Some ends → (state_of days last t).kind ≡ (ending ends t).kind
ends_so None last u t ends h = absurd (cc)
ends_so (Some d) None u t ends h = absurd (cc)
ends_so (Some d) (Some c) u t ends h = elim (cases_Bool (nat_lt GREATEST_MOMENT (c + d * day_micros))) [
  | inl y ↦ let none = rw y at h in absurd (cc)
  | inr n ↦ let same = one_end (c + d * day_micros) ends u (rw n at h) in rw n (ap (λ (e : ℕ). (ending e t).kind) same)
]

no_end : (end u t : ℕ) → (ending end u).until ≡ None → (ending end t).kind ≡ (ending end u).kind
no_end end u t h = let e = sym (ending_until end u) ∙ h in absurd (cc)

pub endless_so : (days last : Option ℕ) (u t : ℕ) → (state_of days last u).until ≡ None → (state_of days last t).kind ≡ (state_of days last u).kind
endless_so None last u t h = refl
endless_so (Some d) None u t h = refl
endless_so (Some d) (Some c) u t h = elim (cases_Bool (nat_lt GREATEST_MOMENT (c + d * day_micros))) [
  | inl y ↦ rw y refl
  | inr n ↦ rw n (no_end (c + d * day_micros) u t (rw n at h))
]
