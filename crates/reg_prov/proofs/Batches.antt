-- Every front of a batch's operations takes a target that is between to one that is between, and all of
-- them take it to what is wished at the last boundary: pair by pair.
use Rattle.std.proofs.Common.{◌≡◌, ◌≤◌, ◌<◌, ◌==◌, ◌&&◌, ◌||◌, ◌⊎◌, ℕ, zero, suc, List, [], ◌∷◌, Bool, true, false, not, Some, None, map, take, nat_lt, nat_le, if◌then◌else◌, arith, refl, sym, ◌∙◌, ap, subst, inl, inr}
use Rattle.std.proofs.lemmas.Bool.{cases_Bool, cases_lt, and_right, and_parts, eqb-true, eq-eqb, ne_eqb, ltb-true, leb-true}
use Rattle.std.proofs.lemmas.Bool.Decides.{nat_tests}
use Rattle.std.proofs.lemmas.Grind.{common_steps}
use Rattle.std.proofs.lemmas.List.{take-map}
use Rattle.std.specs.List.{AllByRecursion}
use Rattle.std.specs.List.Sorted.{IsStrictlySortedBy}
use Rattle.std.specs.declared.cmp.Ordering.TheVariants.{Less}
use Rattle.reg_prov.specs.declared.turn.Turn.{Turn}
use Rattle.reg_prov.specs.Boundaries.{is_boundary, boundary_before, start_of}
use Rattle.reg_prov.specs.Targets.{after_op, after_ops}
use Rattle.reg_prov.specs.Turns.{AreTurns, IsBetween, change, due_at, op_of, turn_at, turn_cmp}
use Rattle.reg_prov.proofs.Ending.{start_here, start_less}

or_is : (b x : Bool) → (b || x) ≡ (if b then true else x)
or_is true x = refl
or_is false x = refl

and_is : (b x : Bool) → (not b && x) ≡ (if b then false else x)
and_is true x = refl
and_is false x = refl

-- one operation, at a pair
op_at : (t : Turn) (target : ℕ → ℕ → Bool) (g s : ℕ) → after_op (op_of t) target g s ≡ (if (t.group == g) && (t.subject == s) then t.on else target g s)
op_at t target g s = elim (cases_Bool t.on) [
  | inl y ↦ rw y (or_is ((t.group == g) && (t.subject == s)) (target g s))
  | inr n ↦ rw n (and_is ((t.group == g) && (t.subject == s)) (target g s))
]

-- ---- one pair

less_no_later : (t y : Turn) → turn_cmp t y ≡ Less → t.at ≤ y.at
less_no_later t y h = grind (arith, nat_tests, common_steps, h)

less_earlier : (t y : Turn) → turn_cmp t y ≡ Less → t.group ≡ y.group → t.subject ≡ y.subject → t.at < y.at
less_earlier t y h a b = grind (arith, nat_tests, common_steps, h, a, b)

sorted_take : (k : ℕ) (ts : List Turn) → IsStrictlySortedBy turn_cmp ts → IsStrictlySortedBy turn_cmp (take k ts)
unfolding IsStrictlySortedBy
sorted_take zero ts up = tt
sorted_take (suc k) [] up = tt
sorted_take (suc k) (t ∷ ts) up = (below k ts up.0, sorted_take k ts up.1)
  where
    below : (k : ℕ) (ts : List Turn) → AllByRecursion (λ y. turn_cmp t y ≡ Less) ts → AllByRecursion (λ y. turn_cmp t y ≡ Less) (take k ts)
    below zero ts h = tt
    below (suc k) [] h = tt
    below (suc k) (y ∷ ts) h = (h.0, below k ts h.1)

module _ (g s : ℕ) where
  abbrev of_pair : Turn → Bool
  of_pair t = (t.group == g) && (t.subject == s)

  -- whether the pair is in the target after turns, where it was or wasn't before
  abbrev pub pair_after : List Turn → Bool → Bool
  pair_after [] was = was
  pair_after (t ∷ ts) was = pair_after ts (if of_pair t then t.on else was)

  pub after_is : (ts : List Turn) (target : ℕ → ℕ → Bool) → after_ops (map op_of ts) target g s ≡ pair_after ts (target g s)
  after_is [] target = refl
  after_is (t ∷ ts) target = after_is ts (after_op (op_of t) target) ∙ ap (pair_after ts) (op_at t target g s)

  -- the pair has a last turn, or none
  abbrev pub LastTurn : List Turn → Bool → Bool → Type 0
  LastTurn ts was after = ((after ≡ was) × ((n : ℕ) → turn_at ts n g s ≡ None)) ⊎ ((n : ℕ) × (turn_at ts n g s ≡ Some after) × ((m : ℕ) → n < m → turn_at ts m g s ≡ None))

  turn_mine : (t : Turn) (ts : List Turn) (n : ℕ) → of_pair t ≡ true → t.at ≡ n → turn_at (t ∷ ts) n g s ≡ Some t.on
  turn_mine t ts n y e = rw (eq-eqb t.at n e, y) refl

  turn_elsewhere : (t : Turn) (ts : List Turn) (n : ℕ) → (t.at ≡ n → ⊥) → turn_at (t ∷ ts) n g s ≡ turn_at ts n g s
  turn_elsewhere t ts n e = rw (ne_eqb t.at n e) refl

  turn_other : (t : Turn) (ts : List Turn) (n : ℕ) → of_pair t ≡ false → turn_at (t ∷ ts) n g s ≡ turn_at ts n g s
  turn_other t ts n f = rw (and_right (t.at == n) (of_pair t) f) refl

  pair_is : (t : Turn) → of_pair t ≡ true → (t.group ≡ g) × (t.subject ≡ s)
  pair_is t y = let both = and_parts (t.group == g) (t.subject == s) y in (eqb-true t.group g both.0, eqb-true t.subject s both.1)

  -- a turn of the pair that stands behind one of the same pair is later
  later : (t : Turn) (ts : List Turn) (n : ℕ) (on : Bool) → of_pair t ≡ true → AllByRecursion (λ y. turn_cmp t y ≡ Less) ts → turn_at ts n g s ≡ Some on → t.at < n
  later t [] n on mine below h = absurd (cc)
  later t (y ∷ ts) n on mine below h = elim (cases_Bool ((y.at == n) && of_pair y)) [
    | inl e ↦
        let both = and_parts (y.at == n) (of_pair y) e in
        let at : y.at ≡ n = eqb-true y.at n both.0 in
        let this = pair_is t mine in
        let that = pair_is y both.1 in
        let early = less_earlier t y below.0 (this.0 ∙ sym that.0) (this.1 ∙ sym that.1) in
        omega (arith, early, at)
    | inr f ↦ later t ts n on mine below.1 (rw f at h)
  ]

  step_mine : (t : Turn) (ts : List Turn) (was after : Bool) → of_pair t ≡ true → AllByRecursion (λ y. turn_cmp t y ≡ Less) ts → LastTurn ts t.on after → LastTurn (t ∷ ts) was after
  step_mine t ts was after mine below (inl h) = inr (t.at, turn_mine t ts t.at mine refl ∙ ap Some (sym h.0), λ m w. turn_elsewhere t ts m (λ e. absurd (omega (arith, e, w))) ∙ h.1 m)
  step_mine t ts was after mine below (inr h) =
      let early = later t ts h.0 after mine below h.1 in
      inr (h.0, turn_elsewhere t ts h.0 (λ e. absurd (omega (arith, e, early))) ∙ h.1, λ m w. turn_elsewhere t ts m (λ e. absurd (omega (arith, e, early, w))) ∙ h.2 m w)

  step_other : (t : Turn) (ts : List Turn) (was after : Bool) → of_pair t ≡ false → LastTurn ts was after → LastTurn (t ∷ ts) was after
  step_other t ts was after f (inl h) = inl (h.0, λ n. turn_other t ts n f ∙ h.1 n)
  step_other t ts was after f (inr h) = inr (h.0, turn_other t ts h.0 f ∙ h.1, λ m w. turn_other t ts m f ∙ h.2 m w)

  pub last_turn : (ts : List Turn) (was : Bool) → IsStrictlySortedBy turn_cmp ts → LastTurn ts was (pair_after ts was)
  unfolding IsStrictlySortedBy
  last_turn [] was up = inl (refl, λ n. refl)
  last_turn (t ∷ ts) was up = elim (cases_Bool (of_pair t)) [
    | inl y ↦
        let next : (if of_pair t then t.on else was) ≡ t.on = rw y refl in
        subst (λ (b : Bool). LastTurn (t ∷ ts) was (pair_after ts b)) (sym next) (step_mine t ts was (pair_after ts t.on) y up.0 (last_turn ts t.on up.1))
    | inr f ↦
        let next : (if of_pair t then t.on else was) ≡ was = rw f refl in
        subst (λ (b : Bool). LastTurn (t ∷ ts) was (pair_after ts b)) (sym next) (step_other t ts was (pair_after ts was) f (last_turn ts was up.1))
  ]

  pub taken : (k : ℕ) (ts : List Turn) (n : ℕ) (on : Bool) → turn_at (take k ts) n g s ≡ Some on → turn_at ts n g s ≡ Some on
  taken zero ts n on h = absurd (cc)
  taken (suc k) [] n on h = h
  taken (suc k) (t ∷ ts) n on h = elim (cases_Bool ((t.at == n) && of_pair t)) [
    | inl y ↦ rw y (rw y at h)
    | inr f ↦ rw f (taken k ts n on (rw f at h))
  ]

-- ---- the wish

stays_so : (a b : Bool) → change a b ≡ None → b ≡ a
stays_so false false h = refl
stays_so false true h = absurd (cc)
stays_so true false h = absurd (cc)
stays_so true true h = refl

turns_so : (a b c : Bool) → change a b ≡ Some c → b ≡ c
turns_so false false c h = absurd (cc)
turns_so false true c h = cc
turns_so true false c h = cc
turns_so true true c h = absurd (cc)

-- where it doesn't change behind a boundary it stays as it is there
stays : (w : ℕ → Bool) (moments : List ℕ) (last n : ℕ) → is_boundary moments n ≡ true → ((m : ℕ) → n < m → m ≤ last → is_boundary moments m ≡ true → change (w (boundary_before moments m)) (w m) ≡ None) → (k : ℕ) → n ≤ k → k ≤ last → w (start_of moments k) ≡ w n
stays w moments last n b none zero v u = let same : n ≡ zero = omega (arith, v) in let here : start_of moments zero ≡ zero = start_here moments zero refl in ap w (here ∙ sym same)
stays w moments last n b none (suc k) v u = elim (cases_lt k n) [
  | inl e ↦
      let same : n ≡ suc k = omega (arith, v, e) in
      let at : is_boundary moments (suc k) ≡ true = subst (λ (i : ℕ). is_boundary moments i ≡ true) same b in
      ap w (start_here moments (suc k) at ∙ sym same)
  | inr e ↦ elim (cases_Bool (is_boundary moments (suc k))) [
    | inl y ↦
        let so = stays_so (w (start_of moments k)) (w (suc k)) (none (suc k) (omega (arith, e)) u y) in
        ap w (start_here moments (suc k) y) ∙ (so ∙ stays w moments last n b none k e (omega (arith, u)))
    | inr f ↦ ap w (start_less moments k f) ∙ stays w moments last n b none k e (omega (arith, u))
  ]
]

module _ (wish : ℕ → ℕ → ℕ → Bool) (moments : List ℕ) (start last : ℕ) where
  abbrev is_inside : ℕ → Bool
  is_inside n = is_boundary moments n && (nat_lt start n && nat_le n last)

  due_none : (n g s : ℕ) → is_boundary moments n ≡ true → start < n → n ≤ last → due_at wish moments start last n g s ≡ None → change (wish (boundary_before moments n) g s) (wish n g s) ≡ None
  due_none n g s b w v h = let y : is_inside n ≡ true = grind (arith, nat_tests, common_steps, b, w, v) in rw y at h

  due_some : (n g s : ℕ) (on : Bool) → due_at wish moments start last n g s ≡ Some on → (is_boundary moments n ≡ true) × (start < n) × (n ≤ last) × (wish n g s ≡ on)
  due_some n g s on h = elim (cases_Bool (is_inside n)) [
    | inl y ↦
        let both = and_parts (is_boundary moments n) (nat_lt start n && nat_le n last) y in
        let within = and_parts (nat_lt start n) (nat_le n last) both.1 in
        (both.0, ltb-true start n within.0, leb-true n last within.1, turns_so (wish (boundary_before moments n) g s) (wish n g s) on (rw y at h))
    | inr f ↦ let none = rw f at h in absurd (cc)
  ]

  module _ (turns : List Turn) (target : ℕ → ℕ → Bool) (are : AreTurns wish moments start last turns) (between : IsBetween wish moments start last target) where
    pub fronts_between : (k : ℕ) → IsBetween wish moments start last (after_ops (take k (map op_of turns)) target)
    fronts_between k g s =
        rw (take-map op_of k turns, after_is g s (take k turns) target)
        (by_last (pair_after g s (take k turns) (target g s)) (last_turn g s (take k turns) (target g s) (sorted_take k turns are.ordered)))
      where
        by_last : (after : Bool) → LastTurn g s (take k turns) (target g s) after → (n : ℕ) × (is_boundary moments n ≡ true) × (start ≤ n) × (n ≤ last) × (after ≡ wish n g s)
        by_last after (inl h) = let b = between g s in (b.0, b.1, b.2, b.3, h.0 ∙ b.4)
        by_last after (inr h) =
            let due = due_some h.0 g s after (sym (are.each h.0 g s) ∙ taken g s k turns h.0 after h.1) in
            (h.0, due.0, omega (arith, due.1), due.2, sym due.3)

    none_due : (m g s : ℕ) → turn_at turns m g s ≡ None → is_boundary moments m ≡ true → start < m → m ≤ last → change (wish (boundary_before moments m) g s) (wish m g s) ≡ None
    none_due m g s h b w v = due_none m g s b w v (sym (are.each m g s) ∙ h)

    pub all_last : (g s : ℕ) → after_ops (map op_of turns) target g s ≡ wish (start_of moments last) g s
    all_last g s = after_is g s turns target ∙ by_last (pair_after g s turns (target g s)) (last_turn g s turns (target g s) are.ordered)
      where
        by_last : (after : Bool) → LastTurn g s turns (target g s) after → after ≡ wish (start_of moments last) g s
        by_last after (inl h) =
            let b = between g s in
            h.0 ∙ (b.4 ∙ sym (stays (λ n. wish n g s) moments last b.0 b.1 (λ m w v is. none_due m g s (h.1 m) is (omega (arith, b.2, w)) v) last b.3 (omega arith)))
        by_last after (inr h) =
            let due = due_some h.0 g s after (sym (are.each h.0 g s) ∙ h.1) in
            sym due.3 ∙ sym (stays (λ n. wish n g s) moments last h.0 due.0 (λ m w v is. none_due m g s (h.2 m w) is (omega (arith, due.1, w)) v) last due.2 (omega arith))
