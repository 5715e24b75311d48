-- When what is assigned to an owner may have changed, and that it stays between.
use Rattle.std.proofs.Common.{◌≡◌, ◌≤◌, ◌<◌, ◌==◌, ◌&&◌, ◌||◌, ◌∙◌, ℕ, List, [], ◌∷◌, Bool, true, false, cond, Option, Some, None, map, filter, nat_le, nat_lt, arith, ap, refl, sym, inl, inr}
use Rattle.std.specs.List.{AllByRecursion, list_any, slice_get}
use Rattle.std.specs.List.Sorted.{IsStrictlySortedBy}
use Rattle.std.specs.BTreeMap.{is_at}
use Rattle.std.specs.Ordering.{nat_cmp}
use Rattle.std.specs.declared.cmp.Ordering.TheVariants.{Less}
use Rattle.std.proofs.lemmas.Bool.{cases_Bool, and_parts, or_cases, or_left, or_right, eqb-true, eq-eqb}
use Rattle.std.proofs.lemmas.Bool.Decides.{nat_tests}
use Rattle.std.proofs.lemmas.Grind.{common_steps}
use Rattle.reg_terms.specs.Kinds.{same_object}
use Rattle.reg_terms.specs.declared.kinds.Object.{Object}
use Rattle.reg_terms.specs.declared.rows.AssignRow.{AssignRow}
use Rattle.reg_pit.specs.Assigns.{assigned_at, AreAssignedBy}
use Rattle.reg_pit.specs.Changes.{among, is_end, value_changes, assign_changes, changes_on}
use Rattle.reg_pit.specs.Lives.{IsBy, had, stood, on_owner, values_at, row_of, AreLivesBy, AreValuesBy}
use Rattle.reg_pit.specs.Members.{Lists}
use Rattle.reg_pit.specs.Spans.{has_moment}
use Rattle.reg_pit.specs.declared.assign_lives.AssignLife.{AssignLife}
use Rattle.reg_pit.specs.declared.value_lives.ValueLife.{ValueLife}
use Rattle.reg_pit.proofs.Ending.{rows_on}

-- ---- moments among some

at_moment : (m x : ℕ) → is_at (nat_cmp m) x ≡ (x == m)
at_moment m x = grind (arith, nat_tests, common_steps)

among_at : (m : ℕ) (xs : List ℕ) → list_any (is_at (nat_cmp m)) xs ≡ among m xs
among_at m [] = refl
among_at m (x ∷ xs) = rw (among_at m xs) (ap (λ b. b || among m xs) (at_moment m x))

turned : (a b : ℕ) → (a == b) ≡ (b == a)
turned a b = grind (arith, nat_tests)

-- a moment more
pub one_more : (old new : List ℕ) (moment : ℕ) → ((q : ℕ) → list_any (is_at (nat_cmp q)) new ≡ cond (is_at (nat_cmp moment) q) true (list_any (is_at (nat_cmp q)) old)) → (m : ℕ) → among m new ≡ ((moment == m) || among m old)
one_more old new moment h m =
    sym (among_at m new)
    ∙ (h m ∙ rw (at_moment moment m, among_at m old, turned m moment) (elim (moment == m) as (λ b. cond b true (among m old) ≡ (b || among m old)) [ true ↦ refl | false ↦ refl ]))

-- what holds of each moment among some holds of all, and the other way round
all_of : (P : ℕ → Type 0) (xs : List ℕ) → ((m : ℕ) → among m xs ≡ true → P m) → AllByRecursion P xs
all_of P [] h = tt
all_of P (x ∷ xs) h = (h x (or_left (x == x) (among x xs) (eq-eqb x x refl)), all_of P xs (λ m k. h m (or_right (x == m) (among m xs) k)))

each_of : (P : ℕ → Type 0) (xs : List ℕ) → AllByRecursion P xs → (m : ℕ) → among m xs ≡ true → P m
each_of P [] h m k = cc
each_of P (x ∷ xs) h m k = elim (or_cases (x == m) (among m xs) k) [
  | inl e ↦ let same : x ≡ m = eqb-true x m e in rw same at h.0
  | inr l ↦ each_of P xs h.1 m l
]

-- 0 is the first where it is one of some that ascend
zero_above : (x : ℕ) (xs : List ℕ) → AllByRecursion (λ q. nat_cmp x q ≡ Less) xs → among 0 xs ≡ true → ⊥
zero_above x [] h k = cc
zero_above x (y ∷ xs) h k = elim (or_cases (y == 0) (among 0 xs) k) [
  | inl e ↦ let l : nat_cmp x y ≡ Less = h.0 in grind (arith, nat_tests, common_steps, e, l)
  | inr l ↦ zero_above x xs h.1 l
]

pub zero_first : (xs : List ℕ) → IsStrictlySortedBy nat_cmp xs → among 0 xs ≡ true → slice_get xs 0 ≡ Some 0
unfolding IsStrictlySortedBy
zero_first [] h k = cc
zero_first (x ∷ xs) h k = elim (or_cases (x == 0) (among 0 xs) k) [
  | inl e ↦ let same : x ≡ 0 = eqb-true x 0 e in rw same refl
  | inr l ↦ absurd (zero_above x xs h.0 l)
]

-- ---- no later than the last note

end_by : (now m s : ℕ) (end : Option ℕ) → IsBy now (s, end) → is_end m (s, end) ≡ true → m ≤ now
end_by now m s None h k = let e : s ≡ m = eqb-true s m k in rw e at h
end_by now m s (Some x) h k =
    let from = h.0 in
    let to = h.1 in
    elim (or_cases (s == m) (x == m) k) [
      | inl e ↦ let same = eqb-true s m e in omega (arith, same, from)
      | inr e ↦ let same = eqb-true x m e in omega (arith, same, to)
    ]

value_by : (now a m : ℕ) (values : List ValueLife) → AreValuesBy now values → value_changes values a m ≡ true → m ≤ now
value_by now a m [] h k = cc
value_by now a m (life ∷ values) h k = elim (or_cases ((life.assign == a) && is_end m (life.from, life.until)) (value_changes values a m) k) [
  | inl e ↦ end_by now m life.from life.until h.0 ((and_parts (life.assign == a) (is_end m (life.from, life.until)) e).1)
  | inr l ↦ value_by now a m values h.1 l
]

owned_by : (now m : ℕ) (o : Object) (lives : List AssignLife) (values : List ValueLife) → AreLivesBy now lives → AreValuesBy now values → list_any (assign_changes values m) (on_owner o lives) ≡ true → m ≤ now
owned_by now m o [] values h v k = cc
owned_by now m o (life ∷ lives) values h v k = elim (cases_Bool (same_object life.owner o)) [
  | inr f ↦ owned_by now m o lives values h.1 v (rw f at k)
  | inl t ↦
      let here : (assign_changes values m life || list_any (assign_changes values m) (on_owner o lives)) ≡ true = rw t at k in
      elim (or_cases (assign_changes values m life) (list_any (assign_changes values m) (on_owner o lives)) here) [
        | inr l ↦ owned_by now m o lives values h.1 v l
        | inl e ↦ elim (or_cases (is_end m (life.from, life.until)) (value_changes values life.id m) e) [
          | inl z ↦ end_by now m life.from life.until h.0 z
          | inr z ↦ value_by now life.id m values v z
        ]
      ]
]

pub moments_by : (now : ℕ) (o : Object) (assigns : List AssignLife × List ValueLife) (moments : List ℕ) → AreAssignedBy now assigns → Lists (λ m. (0 == m) || changes_on assigns o m) moments → AllByRecursion (λ m. m ≤ now) moments
moments_by now o assigns moments h are = all_of (λ m. m ≤ now) moments (λ m k. elim (or_cases (0 == m) (changes_on assigns o m) (sym (are.each m) ∙ k)) [
  | inl e ↦ let zero_is : 0 ≡ m = eqb-true 0 m e in omega (arith, zero_is)
  | inr c ↦ owned_by now m o assigns.0 assigns.1 h.lives h.values c
])

-- ---- between them all stays

module _ (u t : ℕ) (w : u ≤ t) where
  -- a test that no moment after the one and up to the other passes
  abbrev Quiet : (ℕ → Bool) → Type 0
  Quiet test = (m : ℕ) → test m ≡ true → u < m → m ≤ t → ⊥

  start_same : (s : ℕ) → (u < s → s ≤ t → ⊥) → nat_le s t ≡ nat_le s u
  start_same s q = elim (cases_Bool (nat_le s u)) [
    | inl y ↦ grind (arith, nat_tests, y, w)
    | inr n ↦ elim (cases_Bool (nat_le s t)) [
      | inl z ↦ absurd (q (grind (arith, nat_tests, n)) (grind (arith, nat_tests, z)))
      | inr z ↦ z ∙ sym n
    ]
  ]

  end_same : (e : ℕ) → (u < e → e ≤ t → ⊥) → nat_lt t e ≡ nat_lt u e
  end_same e q = elim (cases_Bool (nat_lt t e)) [
    | inl y ↦ grind (arith, nat_tests, y, w)
    | inr n ↦ elim (cases_Bool (nat_lt u e)) [
      | inl z ↦ absurd (q (grind (arith, nat_tests, z)) (grind (arith, nat_tests, n)))
      | inr z ↦ n ∙ sym z
    ]
  ]

  moment_same : (s : ℕ) (end : Option ℕ) → Quiet (λ m. is_end m (s, end)) → has_moment t (s, end) ≡ has_moment u (s, end)
  moment_same s None q = rw (start_same s (q s (eq-eqb s s refl))) refl
  moment_same s (Some e) q = rw (start_same s (q s (or_left (s == s) (e == s) (eq-eqb s s refl))), end_same e (q e (or_right (s == e) (e == e) (eq-eqb e e refl)))) refl

  values_same : (a : ℕ) (values : List ValueLife) → Quiet (value_changes values a) → values_at values a t ≡ values_at values a u
  values_same a [] q = refl
  values_same a (life ∷ values) q =
      let rest = values_same a values (λ m k. q m (or_right ((life.assign == a) && is_end m (life.from, life.until)) (value_changes values a m) k)) in
      elim (cases_Bool (life.assign == a)) [
        | inr f ↦ rw f rest
        | inl y ↦
            let same : stood t life ≡ stood u life = moment_same life.from life.until (λ m k. q m (or_left ((life.assign == a) && is_end m (life.from, life.until)) (value_changes values a m) (rw y k))) in
            rw (y, same) (elim (cases_Bool (stood u life)) [ inl z ↦ rw z (ap (λ vs. life.value ∷ vs) rest) | inr z ↦ rw z rest ])
      ]

  lives_same : (lives : List AssignLife) (values : List ValueLife) → Quiet (λ m. list_any (assign_changes values m) lives) → map (row_of (λ a. values_at values a t)) (filter (had t) lives) ≡ map (row_of (λ a. values_at values a u)) (filter (had u) lives)
  lives_same [] values q = refl
  lives_same (life ∷ lives) values q =
      let rest = lives_same lives values (λ m k. q m (or_right (assign_changes values m life) (list_any (assign_changes values m) lives) k)) in
      let here : Quiet (λ m. assign_changes values m life) = λ m k. q m (or_left (assign_changes values m life) (list_any (assign_changes values m) lives) k) in
      let same : had t life ≡ had u life = moment_same life.from life.until (λ m k. here m (or_left (is_end m (life.from, life.until)) (value_changes values life.id m) k)) in
      let inside : values_at values life.id t ≡ values_at values life.id u = values_same life.id values (λ m k. here m (or_right (is_end m (life.from, life.until)) (value_changes values life.id m) k)) in
      rw same (elim (cases_Bool (had u life)) [
        | inl z ↦ rw (z, inside) (ap (λ rows. row_of (λ a. values_at values a u) life ∷ rows) rest)
        | inr z ↦ rw z rest
      ])

  pub moments_between : (o : Object) (assigns : List AssignLife × List ValueLife) (moments : List ℕ) → Lists (λ m. (0 == m) || changes_on assigns o m) moments → AllByRecursion (λ m. u < m → m ≤ t → ⊥) moments
      → filter (λ (row : AssignRow). same_object row.owner o) (assigned_at assigns t) ≡ filter (λ (row : AssignRow). same_object row.owner o) (assigned_at assigns u)
  moments_between o assigns moments are none =
      let quiet : Quiet (changes_on assigns o) = λ m k. each_of (λ m. u < m → m ≤ t → ⊥) moments none m (are.each m ∙ or_right (0 == m) (changes_on assigns o m) k) in
      sym (rows_on o (λ a. values_at assigns.1 a t) t assigns.0) ∙ (lives_same (on_owner o assigns.0) assigns.1 quiet ∙ rows_on o (λ a. values_at assigns.1 a u) u assigns.0)

-- ---- gathering them

-- whether one of some values came or went at a moment
abbrev pub any_end : ℕ → List ValueLife → Bool
any_end m lives = list_any (λ (life : ValueLife). is_end m (life.from, life.until)) lives

pub value_ends : (a m : ℕ) (values : List ValueLife) → any_end m (filter (λ (life : ValueLife). life.assign == a) values) ≡ value_changes values a m
value_ends a m [] = refl
value_ends a m (life ∷ values) = elim (cases_Bool (life.assign == a)) [
  | inl y ↦ rw (y, value_ends a m values) refl
  | inr f ↦ rw (f, value_ends a m values) refl
]

pub nothing_more : (b : Bool) → (b || false) ≡ b
nothing_more true = refl
nothing_more false = refl
