-- Two lists of the states at the same moments are one.
use Rattle.std.proofs.Common.{◌≡◌, ◌+◌, ◌<◌, ◌≤◌, ℕ, List, [], ◌∷◌, true, false, cond, Option, Some, None, unwrap_or, nat_le, nat_lt, arith, refl, sym, ◌∙◌, ap, subst, inl, inr}
use Rattle.std.specs.Prelude.{option_map, ◌≢◌}
use Rattle.std.specs.List.{AllByRecursion, filter, last_or}
use Rattle.std.proofs.lemmas.Bool.{cases_Bool}
use Rattle.std.proofs.lemmas.Bool.Decides.{nat_tests}
use Rattle.reg_access.specs.declared.state.StateKind.{StateKind}
use Rattle.reg_access.specs.States.{Neighbours}
use Rattle.reg_access.specs.States.{AreBefore, AreStates, kind_in, last_kind}

abbrev pub Rise : List (ℕ × StateKind) → Type 0
Rise states = Neighbours (λ (a : ℕ × StateKind) (b : ℕ × StateKind). a.0 < b.0) states

abbrev pub Differ : List (ℕ × StateKind) → Type 0
Differ states = Neighbours (λ (a : ℕ × StateKind) (b : ℕ × StateKind). a.1 ≢ b.1) states

-- the state at a moment, where a state goes on until these begin
abbrev pub kind_from : StateKind → List (ℕ × StateKind) → ℕ → StateKind
kind_from k [] t = k
kind_from k ((s, j) ∷ states) t = cond (nat_le s t) (kind_from j states t) (kind_from k states t)

last_is : (s : ℕ) (k : StateKind) (states : List (ℕ × StateKind)) (t : ℕ) → option_map (λ (x : ℕ × StateKind). x.1) (last_or (Some (s, k)) (filter (λ (x : ℕ × StateKind). nat_le x.0 t) states)) ≡ Some (kind_from k states t)
last_is s k [] t = refl
last_is s k ((z, j) ∷ states) t = elim (cases_Bool (nat_le z t)) [
  | inl y ↦ rw y (last_is z j states t)
  | inr n ↦ rw n (last_is s k states t)
]

-- a state that has begun, before the next
goes_on : (s : ℕ) (i : StateKind) (states : List (ℕ × StateKind)) (k : StateKind) (t : ℕ) → Rise ((s, i) ∷ states) → t ≤ s → kind_from k states t ≡ k
goes_on s i [] k t up w = refl
goes_on s i ((z, j) ∷ states) k t up w =
    let f : nat_le z t ≡ false = grind (arith, nat_tests, up.0, w) in
    rw f (goes_on z j states k t up.1 (omega (arith, up.0, w)))

not_yet : (k : StateKind) (z : ℕ) (j : StateKind) (states : List (ℕ × StateKind)) (t : ℕ) → Rise ((z, j) ∷ states) → t < z → kind_from k ((z, j) ∷ states) t ≡ k
not_yet k z j states t up w =
    let f : nat_le z t ≡ false = grind (arith, nat_tests, w) in
    rw f (goes_on z j states k t up (omega (arith, w)))

then_next : (k : StateKind) (z : ℕ) (j : StateKind) (states : List (ℕ × StateKind)) → Rise ((z, j) ∷ states) → kind_from k ((z, j) ∷ states) z ≡ j
then_next k z j states up =
    let y : nat_le z z ≡ true = grind (arith, nat_tests) in
    rw y (goes_on z j states j z up (omega arith))

from_next : (k : StateKind) (z : ℕ) (j : StateKind) (states : List (ℕ × StateKind)) (t : ℕ) → z ≤ t → kind_from k ((z, j) ∷ states) t ≡ kind_from j states t
from_next k z j states t w = let y : nat_le z t ≡ true = grind (arith, nat_tests, w) in rw y refl

abbrev pub Agree : ℕ → ℕ → StateKind → List (ℕ × StateKind) → StateKind → List (ℕ × StateKind) → Type 0
Agree now s k xs i ys = (t : ℕ) → s ≤ t → t ≤ now → kind_from k xs t ≡ kind_from i ys t

-- one list begins another state where the other has none
alone : (now s : ℕ) (k i : StateKind) (z : ℕ) (j : StateKind) (xs ys : List (ℕ × StateKind)) → k ≡ i → kind_from i ys z ≡ i → s < z → z ≤ now → Rise ((z, j) ∷ xs) → k ≢ j → Agree now s k ((z, j) ∷ xs) i ys → ⊥
alone now s k i z j xs ys e still w v up other h =
    let next = then_next k z j xs up in
    let both = h z (omega (arith, w)) v in
    other (e ∙ (sym still ∙ (sym both ∙ next)))

one_rest : (now s : ℕ) (k i : StateKind) (xs ys : List (ℕ × StateKind)) → k ≡ i → Rise ((s, k) ∷ xs) → Differ ((s, k) ∷ xs) → AllByRecursion (λ (x : ℕ × StateKind). x.0 ≤ now) xs → Rise ((s, i) ∷ ys) → Differ ((s, i) ∷ ys) → AllByRecursion (λ (x : ℕ × StateKind). x.0 ≤ now) ys → Agree now s k xs i ys → xs ≡ ys
one_rest now s k i [] [] e ua da na ub db nb h = refl
one_rest now s k i ((z, j) ∷ xs) [] e ua da na ub db nb h = absurd (alone now s k i z j xs [] e refl ua.0 na.0 ua.1 da.0 h)
one_rest now s k i [] ((y, l) ∷ ys) e ua da na ub db nb h = absurd (alone now s i k y l ys [] (sym e) refl ub.0 nb.0 ub.1 db.0 (λ t w v. sym (h t w v)))
one_rest now s k i ((z, j) ∷ xs) ((y, l) ∷ ys) e ua da na ub db nb h = elim (cases_Bool (nat_lt z y)) [
  | inl first ↦ absurd (alone now s k i z j xs ((y, l) ∷ ys) e (not_yet i y l ys z ub.1 (grind (arith, nat_tests, first))) ua.0 na.0 ua.1 da.0 h)
  | inr f ↦ elim (cases_Bool (nat_lt y z)) [
    | inl first ↦ absurd (alone now s i k y l ys ((z, j) ∷ xs) (sym e) (not_yet k z j xs y ua.1 (grind (arith, nat_tests, first))) ub.0 nb.0 ub.1 db.0 (λ t w v. sym (h t w v)))
    | inr g ↦
        let together : z ≡ y = grind (arith, nat_tests, f, g) in
        let at = h z (omega (arith, ua.0)) na.0 in
        let turned : kind_from i ((y, l) ∷ ys) z ≡ l = rw together (then_next i y l ys ub.1) in
        let alike : j ≡ l = sym (then_next k z j xs ua.1) ∙ (at ∙ turned) in
        let ub' : Rise ((z, l) ∷ ys) = subst (λ (n : ℕ). Rise ((n, l) ∷ ys)) (sym together) ub.1 in
        let db' : Differ ((z, l) ∷ ys) = subst (λ (n : ℕ). Differ ((n, l) ∷ ys)) (sym together) db.1 in
        let rest : xs ≡ ys = one_rest now z j l xs ys alike ua.1 da.1 na.1 ub' db' nb.1
        (λ t w v. sym (from_next k z j xs t w) ∙ (h t (omega (arith, ua.0, w)) v ∙ from_next i y l ys t (omega (arith, together, w)))) in
        ap (λ (n : ℕ). (n, j) ∷ xs) together ∙ (ap (λ (q : StateKind). (y, q) ∷ xs) alike ∙ ap (λ (r : List (ℕ × StateKind)). (y, l) ∷ r) rest)
  ]
]

-- ---- from the first one on

first_now : (s : ℕ) (k : StateKind) (states : List (ℕ × StateKind)) (t : ℕ) → s ≡ 0 → kind_in ((s, k) ∷ states) t ≡ Some (kind_from k states t)
first_now s k states t e =
    let y : nat_le s t ≡ true = grind (arith, nat_tests, e) in
    rw y (last_is s k states t)

same_rest : (kind_at : ℕ → StateKind) (now s z : ℕ) (k i : StateKind) (xs ys : List (ℕ × StateKind)) → s ≡ 0 → z ≡ 0 → k ≡ i → AreStates kind_at now ((s, k) ∷ xs) → AreStates kind_at now ((z, i) ∷ ys) → xs ≡ ys
same_rest kind_at now s z k i xs ys p q e a b =
    let ub : Rise ((s, i) ∷ ys) = subst (λ (n : ℕ). Rise ((n, i) ∷ ys)) (q ∙ sym p) b.ascend in
    let db : Differ ((s, i) ∷ ys) = subst (λ (n : ℕ). Differ ((n, i) ∷ ys)) (q ∙ sym p) b.apart in
    one_rest now s k i xs ys e a.ascend a.apart a.by_now.1 ub db b.by_now.1 (λ t w v.
    let left = sym (first_now s k xs t p) ∙ a.gives t v in
    let right = sym (first_now z i ys t q) ∙ b.gives t v in
    ap (λ (o : Option StateKind). unwrap_or o k) (left ∙ sym right))

pub one_list : (kind_at : ℕ → StateKind) (now : ℕ) (a b : List (ℕ × StateKind)) → AreStates kind_at now a → AreStates kind_at now b → a ≡ b
one_list kind_at now [] b p q = let e = p.first in absurd (cc)
one_list kind_at now (x ∷ a) [] p q = let e = q.first in absurd (cc)
one_list kind_at now ((s, k) ∷ a) ((z, i) ∷ b) p q =
    let e : (s, k) ≡ (0, kind_at 0) = ap (λ (o : Option (ℕ × StateKind)). unwrap_or o (s, k)) p.first in
    let d : (z, i) ≡ (0, kind_at 0) = ap (λ (o : Option (ℕ × StateKind)). unwrap_or o (z, i)) q.first in
    let e0 : s ≡ 0 = ap (λ (x : ℕ × StateKind). x.0) e in
    let d0 : z ≡ 0 = ap (λ (x : ℕ × StateKind). x.0) d in
    let e1 : k ≡ kind_at 0 = ap (λ (x : ℕ × StateKind). x.1) e in
    let d1 : i ≡ kind_at 0 = ap (λ (x : ℕ × StateKind). x.1) d in
    let same : k ≡ i = e1 ∙ sym d1 in
    let both : s ≡ z = e0 ∙ sym d0 in
    let rest : a ≡ b = same_rest kind_at now s z k i a b e0 d0 same p q in
    ap (λ (n : ℕ). (n, k) ∷ a) both ∙ (ap (λ (j : StateKind). (z, j) ∷ a) same ∙ ap (λ (r : List (ℕ × StateKind)). (z, i) ∷ r) rest)

-- ---- the states before the moment after a last one are those up to it

none_by : (s : ℕ) (k : StateKind) (states : List (ℕ × StateKind)) (t : ℕ) → Rise ((s, k) ∷ states) → t < s → filter (λ (x : ℕ × StateKind). nat_le x.0 t) ((s, k) ∷ states) ≡ []
none_by s k [] t up w = let f : nat_le s t ≡ false = grind (arith, nat_tests, w) in rw f refl
none_by s k ((z, j) ∷ states) t up w =
    let f : nat_le s t ≡ false = grind (arith, nat_tests, w) in
    rw f (none_by z j states t up.1 (omega (arith, up.0, w)))

begins_first : (kind_at : ℕ → StateKind) (s : ℕ) (k : StateKind) (states : List (ℕ × StateKind)) → Rise ((s, k) ∷ states) → kind_in ((s, k) ∷ states) 0 ≡ Some (kind_at 0) → (s ≡ 0) × (k ≡ kind_at 0)
begins_first kind_at s k states up h = elim (cases_Bool (nat_lt 0 s)) [
  | inl y ↦
      let none : kind_in ((s, k) ∷ states) 0 ≡ None = ap last_kind (none_by s k states 0 up (grind (arith, nat_tests, y))) in
      absurd (cc)
  | inr n ↦
      let at_0 : s ≡ 0 = grind (arith, nat_tests, n) in
      let there = first_now s k states 0 at_0 in
      let still = goes_on s k states k 0 up (omega arith) in
      let all : Some k ≡ Some (kind_at 0) = ap Some (sym still) ∙ (sym there ∙ h) in
      (at_0, ap (λ (o : Option StateKind). unwrap_or o k) all)
]

up_to_last : (now : ℕ) (states : List (ℕ × StateKind)) → AllByRecursion (λ (x : ℕ × StateKind). x.0 < now + 1) states → AllByRecursion (λ (x : ℕ × StateKind). x.0 ≤ now) states
up_to_last now [] h = tt
up_to_last now (x ∷ states) h = (omega (arith, h.0), up_to_last now states h.1)

pub up_to_now : (kind_at : ℕ → StateKind) (now : ℕ) (states : List (ℕ × StateKind)) → AreBefore kind_at (now + 1) states → AreStates kind_at now states
up_to_now kind_at now [] h = let e = h.gives 0 (omega arith) in absurd (cc)
up_to_now kind_at now ((s, k) ∷ states) h =
    let first = begins_first kind_at s k states h.ascend (h.gives 0 (omega arith)) in
    let e0 = first.0 in
    let e1 = first.1 in
    record {
      first = ap (λ (n : ℕ). Some (n, k)) e0 ∙ ap (λ (j : StateKind). Some (0, j)) e1;
      ascend = h.ascend;
      apart = h.apart;
      by_now = up_to_last now ((s, k) ∷ states) h.before;
      gives = λ t w. h.gives t (omega (arith, w));
    }
