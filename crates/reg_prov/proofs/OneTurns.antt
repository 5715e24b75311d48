-- Two lists of the turns of one batch are one, and a batch that ends where it begins has none.
use Rattle.std.proofs.Common.{◌≡◌, ◌≤◌, ◌==◌, ◌&&◌, ℕ, zero, suc, List, [], ◌∷◌, Bool, true, false, Some, None, nat_lt, nat_le, arith, refl, sym, ◌∙◌, ap, subst, inl, inr}
use Rattle.std.proofs.lemmas.Bool.{cases_Bool, and_parts, eq-eqb, eqb-true, ltb-true, leb-true}
use Rattle.std.proofs.lemmas.Bool.Decides.{nat_tests}
use Rattle.std.proofs.lemmas.Cmp.{nat_cmp_total, on_total, then_total}
use Rattle.std.proofs.lemmas.Grind.{common_steps}
use Rattle.std.proofs.lemmas.Option.{same_Some}
use Rattle.std.specs.Cmp.{IsTotalOrder}
use Rattle.std.specs.List.{AllByRecursion}
use Rattle.std.specs.List.Sorted.{IsStrictlySortedBy}
use Rattle.std.specs.Ordering.{ordering_reverse}
use Rattle.std.specs.declared.cmp.Ordering.{Ordering}
use Rattle.std.specs.declared.cmp.Ordering.TheVariants.{Less, Equal, Greater}
use Rattle.reg_prov.specs.declared.turn.Turn.{Turn}
use Rattle.reg_prov.specs.Boundaries.{is_boundary, start_of}
use Rattle.reg_prov.specs.Turns.{AreTurns, due_at, turn_at, turn_cmp}
use Rattle.reg_prov.proofs.Ending.{start_here, start_less}

turn_cmp_total : IsTotalOrder turn_cmp
turn_cmp_total = then_total (then_total (on_total (λ (t : Turn). t.at) nat_cmp_total) (on_total (λ (t : Turn). t.group) nat_cmp_total)) (on_total (λ (t : Turn). t.subject) nat_cmp_total)

abbrev Above : Turn → List Turn → Type 0
Above x ts = AllByRecursion (λ y. turn_cmp x y ≡ Less) ts

above_on : (x y : Turn) (ts : List Turn) → turn_cmp x y ≡ Less → Above y ts → Above x ts
above_on x y [] h up = tt
above_on x y (t ∷ ts) h up = (turn_cmp_total.trans x y t h up.0, above_on x y ts h up.1)

-- the key of a turn
abbrev IsOf : Turn → ℕ → ℕ → ℕ → Type 0
IsOf x n g s = (x.at ≡ n) × (x.group ≡ g) × (x.subject ≡ s)

less_apart : (x y : Turn) → turn_cmp x y ≡ Less → ((y.at == x.at) && ((y.group == x.group) && (y.subject == x.subject))) ≡ false
less_apart x y h = grind (arith, nat_tests, common_steps, h)

none_above : (x : Turn) (ts : List Turn) → Above x ts → turn_at ts x.at x.group x.subject ≡ None
none_above x [] up = refl
none_above x (y ∷ ts) up = rw (less_apart x y up.0) (none_above x ts up.1)

none_of : (x : Turn) (ts : List Turn) (n g s : ℕ) → IsOf x n g s → Above x ts → turn_at ts n g s ≡ None
none_of x ts n g s k up = rw (← k.0, ← k.1, ← k.2) (none_above x ts up)

mine : (x : Turn) (ts : List Turn) (n g s : ℕ) → IsOf x n g s → turn_at (x ∷ ts) n g s ≡ Some x.on
mine x ts n g s k = rw (eq-eqb x.at n k.0, eq-eqb x.group g k.1, eq-eqb x.subject s k.2) refl

of_itself : (x : Turn) → IsOf x x.at x.group x.subject
of_itself x = (refl, refl, refl)

abbrev AreAlike : List Turn → List Turn → Type 0
AreAlike a b = (n g s : ℕ) → turn_at a n g s ≡ turn_at b n g s

turned : (a b : List Turn) → AreAlike a b → AreAlike b a
turned a b h n g s = sym (h n g s)

first_missing : (x : Turn) (a b : List Turn) → Above x b → AreAlike (x ∷ a) b → ⊥
first_missing x a b up h =
    let there = mine x a x.at x.group x.subject (of_itself x) in
    let none = none_above x b up in
    let clash : Some x.on ≡ None = sym there ∙ (h x.at x.group x.subject ∙ none) in
    cc

equal_keys : (x y : Turn) → turn_cmp x y ≡ Equal → IsOf y x.at x.group x.subject
equal_keys x y e =
    let a : y.at ≡ x.at = grind (arith, nat_tests, common_steps, e) in
    let b : y.group ≡ x.group = grind (arith, nat_tests, common_steps, e) in
    let c : y.subject ≡ x.subject = grind (arith, nat_tests, common_steps, e) in
    (a, b, c)

abbrev make : ℕ → ℕ → ℕ → Bool → Turn
make n g s on = record { at = n; group = g; subject = s; on = on }

parts : (a b c d e f : ℕ) (o p : Bool) → a ≡ b → c ≡ d → e ≡ f → o ≡ p → make a c e o ≡ make b d f p
parts a b c d e f o p h i j k = rw (h, i, j, k) refl

one_turn : (x y : Turn) → IsOf y x.at x.group x.subject → x.on ≡ y.on → y ≡ x
one_turn x y k o = parts y.at x.at y.group x.group y.subject x.subject y.on x.on k.0 k.1 k.2 (sym o)

rest_alike : (x : Turn) (a b : List Turn) → Above x a → Above x b → AreAlike (x ∷ a) (x ∷ b) → AreAlike a b
rest_alike x a b ua ub h n g s = elim (cases_Bool ((x.at == n) && ((x.group == g) && (x.subject == s)))) [
  | inl y ↦
      let two = and_parts (x.at == n) ((x.group == g) && (x.subject == s)) y in
      let both = and_parts (x.group == g) (x.subject == s) two.1 in
      let key : IsOf x n g s = (eqb-true x.at n two.0, eqb-true x.group g both.0, eqb-true x.subject s both.1) in
      none_of x a n g s key ua ∙ sym (none_of x b n g s key ub)
  | inr f ↦ rw f at (h n g s)
]

first_same : (x y : Turn) (a b : List Turn) → Above x a → Above y b → AreAlike (x ∷ a) (y ∷ b) → (AreAlike a b → a ≡ b) → (x ∷ a) ≡ (y ∷ b)
first_same x y a b ua ub h rest = by_order (turn_cmp x y) refl
  where
    by_order : (o : Ordering) → turn_cmp x y ≡ o → (x ∷ a) ≡ (y ∷ b)
    by_order Less e = absurd (first_missing x a (y ∷ b) (e, above_on x y b e ub) h)
    by_order Greater e =
        let back : turn_cmp y x ≡ Less = turn_cmp_total.antisymm y x ∙ ap ordering_reverse e in
        absurd (first_missing y b (x ∷ a) (back, above_on y x a back ua) (turned (x ∷ a) (y ∷ b) h))
    by_order Equal e =
        let keys = equal_keys x y e in
        let on = same_Some x.on y.on (sym (mine x a x.at x.group x.subject (of_itself x)) ∙ (h x.at x.group x.subject ∙ mine y b x.at x.group x.subject keys)) in
        let same : y ≡ x = one_turn x y keys on in
        let ub_x : Above x b = subst (λ (t : Turn). Above t b) same ub in
        let alike : AreAlike (x ∷ a) (x ∷ b) = subst (λ (t : Turn). AreAlike (x ∷ a) (t ∷ b)) same h in
        ap (λ (l : List Turn). x ∷ l) (rest (rest_alike x a b ua ub_x alike)) ∙ ap (λ (t : Turn). t ∷ b) (sym same)

pub one_turns : (a b : List Turn) → IsStrictlySortedBy turn_cmp a → IsStrictlySortedBy turn_cmp b → AreAlike a b → a ≡ b
unfolding IsStrictlySortedBy
one_turns [] [] ua ub h = refl
one_turns [] (y ∷ b) ua ub h = absurd (first_missing y b [] tt (turned [] (y ∷ b) h))
one_turns (x ∷ a) [] ua ub h = absurd (first_missing x a [] tt h)
one_turns (x ∷ a) (y ∷ b) ua ub h = first_same x y a b ua.0 ub.0 h (one_turns a b ua.1 ub.1)

pub same_turns : (wish : ℕ → ℕ → ℕ → Bool) (moments : List ℕ) (start last : ℕ) (a b : List Turn) → AreTurns wish moments start last a → AreTurns wish moments start last b → a ≡ b
same_turns wish moments start last a b p q = one_turns a b p.ordered q.ordered (λ n g s. p.each n g s ∙ sym (q.each n g s))

-- ---- a batch that ends at its place

least_behind : (moments : List ℕ) (place n : ℕ) → is_boundary moments n ≡ true → n ≤ place → n ≤ start_of moments place
least_behind moments zero n b w = omega (arith, w)
least_behind moments (suc place) n b w = elim (cases_Bool (is_boundary moments (suc place))) [
  | inl y ↦ let here = start_here moments (suc place) y in omega (arith, here, w)
  | inr f ↦
      let less = start_less moments place f in
      let other : n ≡ suc place → ⊥ = λ e. let b' : is_boundary moments (suc place) ≡ true = subst (λ (k : ℕ). is_boundary moments k ≡ true) e b in cc in
      let low : n ≤ place = omega (arith, w, other) in
      omega (arith, less, least_behind moments place n b low)
]

none_due : (wish : ℕ → ℕ → ℕ → Bool) (moments : List ℕ) (place n g s : ℕ) → due_at wish moments (start_of moments place) place n g s ≡ None
none_due wish moments place n g s = elim (cases_Bool (is_boundary moments n && (nat_lt (start_of moments place) n && nat_le n place))) [
  | inl y ↦
      let both = and_parts (is_boundary moments n) (nat_lt (start_of moments place) n && nat_le n place) y in
      let within = and_parts (nat_lt (start_of moments place) n) (nat_le n place) both.1 in
      let behind = ltb-true (start_of moments place) n within.0 in
      let before = leb-true n place within.1 in
      let most = least_behind moments place n both.0 before in
      absurd (omega (arith, behind, most))
  | inr f ↦ rw f refl
]

pub none_turn : (wish : ℕ → ℕ → ℕ → Bool) (moments : List ℕ) (place : ℕ) (turns : List Turn) → AreTurns wish moments (start_of moments place) place turns → turns ≡ []
none_turn wish moments place [] h = refl
none_turn wish moments place (t ∷ turns) h =
    let there = mine t turns t.at t.group t.subject (of_itself t) in
    let clash : Some t.on ≡ None = sym there ∙ (h.each t.at t.group t.subject ∙ none_due wish moments place t.at t.group t.subject) in
    absurd (cc)
