-- Lives of assignments: how they begin and end, and what stood at each moment.
use Rattle.std.proofs.Common.{◌≡◌, ◌≤◌, ◌<◌, ◌==◌, ◌&&◌, ◌||◌, ◌++◌, ◌∙◌, ℕ, List, [], ◌∷◌, Bool, true, false, Option, Some, None, map, filter, not, nat_le, if◌then◌else◌, arith, ap, refl, subst, sym, inl, inr}
use Rattle.std.specs.List.{AllByRecursion, find, list_any}
use Rattle.std.specs.Option.{is_some}
use Rattle.std.specs.Cmp.{unsigned_tied}
use Rattle.std.specs.BTreeMap.{BTreeMap, get}
use Rattle.std.specs.Ordering.{nat_cmp, eq_by_cmp, ordering_then}
use Rattle.std.specs.declared.cmp.Ordering.{Ordering}
use Rattle.std.specs.declared.cmp.Ordering.TheVariants.{Greater}
use Rattle.reg_table.specs.Keyed.{in_order}
use Rattle.reg_terms.specs.contracts.kinds.ObjectOrd.TheImpl as object_ord
use Rattle.std.proofs.lemmas.Bool.{cases_Bool, ne_eqb, eqb-true, eq-eqb, and_parts, and_right, or_left, or_right, both_ways}
use Rattle.std.proofs.lemmas.Bool.Decides.{nat_tests}
use Rattle.std.proofs.lemmas.Grind.{common_steps}
use Rattle.reg_terms.specs.Kinds.{same_object}
use Rattle.reg_terms.specs.declared.kinds.AttrValue.{AttrValue}
use Rattle.reg_terms.specs.declared.kinds.Object.{Object}
use Rattle.reg_terms.specs.contracts.kinds.ObjectPartialEq.TheImpl as object_eq
use Rattle.reg_terms.specs.declared.rows.AssignRow.{AssignRow}
use Rattle.reg_pit.specs.Spans.{has_moment}
use Rattle.reg_pit.specs.Lives.{IsBy, Rising, had, is_life, ended, gone_if, ids_of, last_from, last_made, on_owner, AreLivesBy, AreLives, owner_of, row_of, rows_at}
use Rattle.reg_pit.specs.declared.assign_lives.AssignLife.{AssignLife}
use Rattle.reg_pit.proofs.Turning.{after}
use Rattle.reg_pit.proofs.Objects.{object_tied, object_itself, object_same, object_is}
use Rattle.reg_pit.proofs.Rising.{untouched, none_found, none_behind, none_later, any_none, rising_push, found_alone, in_order_already}

-- ---- intervals

pub by_later : (a b s : ℕ) (end : Option ℕ) → a ≤ b → IsBy a (s, end) → IsBy b (s, end)
by_later a b s None w h = omega (arith, w, h)
by_later a b s (Some e) w h = let from = h.0 in let to = h.1 in (omega (arith, w, from), omega (arith, w, to))

-- nothing changes after the last note
pub moment_stays : (at t s : ℕ) (end : Option ℕ) → at ≤ t → IsBy at (s, end) → has_moment t (s, end) ≡ has_moment at (s, end)
moment_stays at t s None w h = grind (arith, nat_tests, common_steps)
moment_stays at t s (Some e) w h = let from = h.0 in let to = h.1 in grind (arith, nat_tests, common_steps)

moment_cut : (at t s : ℕ) → IsBy at (s, None) → has_moment t (s, Some at) ≡ (has_moment t (s, None) && not (nat_le at t))
moment_cut at t s h = grind (arith, nat_tests, common_steps)

moment_over : (at t s e : ℕ) → IsBy at (s, Some e) → has_moment t (s, Some e) ≡ (has_moment t (s, Some e) && not (nat_le at t))
moment_over at t s e h = let to = h.1 in grind (arith, nat_tests, common_steps)

-- ---- one life

id_kept : (at : ℕ) (life : AssignLife) (end : Option ℕ) → (ended at (record life { until = end })).id ≡ life.id
id_kept at life None = refl
id_kept at life (Some e) = refl

row_kept : (values : ℕ → List AttrValue) (at : ℕ) (life : AssignLife) (end : Option ℕ) → row_of values (ended at (record life { until = end })) ≡ row_of values life
row_kept values at life None = refl
row_kept values at life (Some e) = refl

had_cut : (at t : ℕ) (life : AssignLife) (end : Option ℕ) → IsBy at (life.from, end) → had t (ended at (record life { until = end })) ≡ (has_moment t (life.from, end) && not (nat_le at t))
had_cut at t life None h = moment_cut at t life.from h
had_cut at t life (Some e) h = moment_over at t life.from e h

by_cut : (at : ℕ) (life : AssignLife) (end : Option ℕ) → IsBy at (life.from, end) → IsBy at ((ended at (record life { until = end })).from, (ended at (record life { until = end })).until)
by_cut at life None h = (h, omega arith)
by_cut at life (Some e) h = h

-- ---- what stood at a moment, after some have ended

module _ (test : AssignLife → Bool) (at : ℕ) where
  pub id_stays : (life : AssignLife) → (gone_if test at life).id ≡ life.id
  id_stays life = elim (cases_Bool (test life)) [
    | inl h ↦ rw h (id_kept at life life.until)
    | inr h ↦ rw h refl
  ]

  pub ids_stay : (lives : List AssignLife) → ids_of (map (gone_if test at) lives) ≡ ids_of lives
  ids_stay [] = refl
  ids_stay (life ∷ lives) = rw (id_stays life) (ap (λ ids. life.id ∷ ids) (ids_stay lives))

  pub last_stays : (n : ℕ) (lives : List AssignLife) → last_from n (map (gone_if test at) lives) ≡ last_from n lives
  last_stays n [] = refl
  last_stays n (life ∷ lives) = ap (λ id. last_from id (map (gone_if test at) lives)) (id_stays life) ∙ last_stays life.id lives

  owner_kept : (life : AssignLife) → (gone_if test at life).owner ≡ life.owner
  owner_kept life = elim (cases_Bool (test life)) [
    | inl h ↦ rw h (ap (λ (row : AssignRow). row.owner) (row_kept (λ a. []) at life life.until))
    | inr h ↦ rw h refl
  ]

  pub owner_stays : (id : ℕ) (lives : List AssignLife) → owner_of id (map (gone_if test at) lives) ≡ owner_of id lives
  owner_stays id [] = refl
  owner_stays id (life ∷ lives) = elim (cases_Bool (life.id == id)) [
    | inl h ↦ rw (id_stays life, h) (ap (λ o. Some o) (owner_kept life))
    | inr h ↦ rw (id_stays life, h) (owner_stays id lives)
  ]

  pub lives_by : (lives : List AssignLife) → AreLivesBy at lives → AreLivesBy at (map (gone_if test at) lives)
  lives_by [] h = tt
  lives_by (life ∷ lives) h = elim (cases_Bool (test life)) [
    | inl k ↦ rw k (by_cut at life life.until h.0, lives_by lives h.1)
    | inr k ↦ rw k (h.0, lives_by lives h.1)
  ]

  module _ (values : ℕ → List AttrValue) (gone : AssignRow → Bool) (like : (life : AssignLife) → gone (row_of values life) ≡ test life) (t : ℕ) where
    rows_before : (lives : List AssignLife) → AreLivesBy at lives → nat_le at t ≡ false → rows_at values (map (gone_if test at) lives) t ≡ rows_at values lives t
    rows_before [] h w = refl
    rows_before (life ∷ lives) h w =
        let rest = rows_before lives h.1 w in
        elim (cases_Bool (test life)) [
          | inl k ↦
              let same : had t (ended at life) ≡ (had t life && not (nat_le at t)) = had_cut at t life life.until h.0 in
              let row : row_of values (ended at life) ≡ row_of values life = row_kept values at life life.until in
              elim (cases_Bool (had t life)) [
                | inl m ↦ rw (k, same, m, w, row) (ap (λ rows. row_of values life ∷ rows) rest)
                | inr m ↦ rw (k, same, m) rest
              ]
          | inr k ↦ elim (cases_Bool (had t life)) [
            | inl m ↦ rw (k, m) (ap (λ rows. row_of values life ∷ rows) rest)
            | inr m ↦ rw (k, m) rest
          ]
        ]

    rows_after : (lives : List AssignLife) → AreLivesBy at lives → nat_le at t ≡ true → rows_at values (map (gone_if test at) lives) t ≡ filter (λ row. not (gone row)) (rows_at values lives t)
    rows_after [] h w = refl
    rows_after (life ∷ lives) h w =
        let rest = rows_after lives h.1 w in
        elim (cases_Bool (test life)) [
          | inl k ↦
              let same : had t (ended at life) ≡ (had t life && not (nat_le at t)) = had_cut at t life life.until h.0 in
              elim (cases_Bool (had t life)) [
                | inl m ↦ rw (k, same, m, w, like life, k) rest
                | inr m ↦ rw (k, same, m) rest
              ]
          | inr k ↦ elim (cases_Bool (had t life)) [
            | inl m ↦ rw (k, m, like life, k) (ap (λ rows. row_of values life ∷ rows) rest)
            | inr m ↦ rw (k, m) rest
          ]
        ]

    pub rows_end : (lives : List AssignLife) → AreLivesBy at lives
        → rows_at values (map (gone_if test at) lives) t ≡ (if nat_le at t then filter (λ row. not (gone row)) (rows_at values lives t) else rows_at values lives t)
    rows_end lives h = elim (cases_Bool (nat_le at t)) [
      | inl w ↦ rw w (rows_after lives h w)
      | inr w ↦ rw w (rows_before lives h w)
    ]

-- ---- one life more

pub last_push : (n : ℕ) (lives : List AssignLife) (life : AssignLife) → last_from n (lives ++ life ∷ []) ≡ life.id
last_push n [] life = refl
last_push n (x ∷ xs) life = last_push x.id xs life

last_above : (n : ℕ) (lives : List AssignLife) → Rising n (ids_of lives) → n ≤ last_from n lives
last_above n [] h = omega arith
last_above n (life ∷ lives) h = let above = h.0 in omega (arith, above, last_above life.id lives h.1)

pub all_made : (n : ℕ) (lives : List AssignLife) → Rising n (ids_of lives) → AllByRecursion (λ (life : AssignLife). life.id ≤ last_from n lives) lives
all_made n [] h = tt
all_made n (life ∷ lives) h = (last_above life.id lives h.1, all_made life.id lives h.1)

-- what is there has no greater id
pub made_before : (n id : ℕ) (lives : List AssignLife) → AllByRecursion (λ (life : AssignLife). life.id ≤ n) lives → list_any (λ (life : AssignLife). life.id == id) lives ≡ true → id ≤ n
made_before n id [] h k = cc
made_before n id (life ∷ lives) h k = elim (cases_Bool (life.id == id)) [
  | inl t ↦ let e = eqb-true life.id id t in let low = h.0 in omega (arith, e, low)
  | inr t ↦ made_before n id lives h.1 (rw t at k)
]

pub rows_push : (values : ℕ → List AttrValue) (lives : List AssignLife) (life : AssignLife) (t : ℕ) → rows_at values (lives ++ life ∷ []) t ≡ (if had t life then rows_at values lives t ++ row_of values life ∷ [] else rows_at values lives t)
rows_push values [] life t = elim (cases_Bool (had t life)) [
  | inl h ↦ rw h refl
  | inr h ↦ rw h refl
]
rows_push values (x ∷ xs) life t = elim (cases_Bool (had t x)) [
  | inl k ↦ elim (cases_Bool (had t life)) [
    | inl h ↦ rw (k, h) (ap (λ rows. row_of values x ∷ rows) ((rows_push values xs life t) ∙ rw h refl))
    | inr h ↦ rw (k, h) (ap (λ rows. row_of values x ∷ rows) ((rows_push values xs life t) ∙ rw h refl))
  ]
  | inr k ↦ rw k (rows_push values xs life t)
]

pub owner_push : (n id : ℕ) (lives : List AssignLife) (life : AssignLife) → Rising n (ids_of lives) → last_from n lives < life.id → owner_of id (lives ++ life ∷ []) ≡ (if life.id == id then Some life.owner else owner_of id lives)
owner_push n id [] life r w = elim (cases_Bool (life.id == id)) [
  | inl h ↦ rw h refl
  | inr h ↦ rw h refl
]
owner_push n id (x ∷ xs) life r w = elim (cases_Bool (x.id == id)) [
  | inl h ↦
      let same = eqb-true x.id id h in
      let above = last_above x.id xs r.1 in
      rw (h, ne_eqb life.id id (λ e. absurd (omega (arith, e, same, above, w)))) refl
  | inr h ↦ rw h (owner_push x.id id xs life r.1 w)
]

-- ---- from the last note on all stays

pub rows_stay : (at t : ℕ) (before after : ℕ → List AttrValue) (lives : List AssignLife) → at ≤ t → AreLivesBy at lives → ((a : ℕ) → after a ≡ before a) → rows_at after lives t ≡ rows_at before lives at
rows_stay at t before after [] w h same = refl
rows_stay at t before after (life ∷ lives) w h same =
    let rest = rows_stay at t before after lives w h.1 same in
    elim (cases_Bool (had at life)) [
      | inl k ↦ rw (moment_stays at t life.from life.until w h.0, k, same life.id) (ap (λ rows. row_of before life ∷ rows) rest)
      | inr k ↦ rw (moment_stays at t life.from life.until w h.0, k) rest
    ]

pub lives_later : (a b : ℕ) (lives : List AssignLife) → a ≤ b → AreLivesBy a lives → AreLivesBy b lives
lives_later a b [] w h = tt
lives_later a b (life ∷ lives) w h = (by_later a b life.from life.until w h.0, lives_later a b lives w h.1)

-- ---- as a table knows them

-- as a table tells the life of an assignment to an owner
abbrev pub is_at : Object → ℕ → AssignLife → Bool
is_at o id life = object_eq.ghosts.eq life.owner o && (life.id == id)

at_is : (o : Object) (id : ℕ) (life : AssignLife) → is_at o id life ≡ is_life o id life
at_is o id life = rw (object_is life.owner o) refl

is_life_id : (o : Object) (id : ℕ) (life : AssignLife) → is_at o id life ≡ true → life.id ≡ id
is_life_id o id life h = eqb-true life.id id ((and_parts (object_eq.ghosts.eq life.owner o) (life.id == id) h).1)

found_passes : {A : Type 0} (p : A → Bool) (xs : List A) (x : A) → find p xs ≡ Some x → p x ≡ true
found_passes p [] x h = cc
found_passes p (y ∷ ys) x h = elim (cases_Bool (p y)) [
  | inl t ↦ let e : Some y ≡ Some x = rw t at h in let same : y ≡ x = cc in rw (← same) t
  | inr t ↦ found_passes p ys x (rw t at h)
]

find_like : (o : Object) (id : ℕ) (lives : List AssignLife) → find (is_life o id) lives ≡ find (is_at o id) lives
find_like o id lives = ap (λ (p : AssignLife → Bool). find p lives) (λ i life. sym (at_is o id life) i)

-- the life that is found ends, and is put back
pub life_ends : (o : Object) (id at : ℕ) (lives : List AssignLife) (life : AssignLife) → Rising 0 (ids_of lives) → find (is_at o id) lives ≡ Some life
    → map (λ other. if is_at (ended at life).owner (ended at life).id other then ended at life else other) lives ≡ map (gone_if (is_life o id) at) lives
life_ends o id at lives life r found =
    let passes = found_passes (is_at o id) lives life found in
    let parts = and_parts (object_eq.ghosts.eq life.owner o) (life.id == id) passes in
    let row = row_kept (λ a. []) at life life.until in
    let owner : (ended at life).owner ≡ o = ap (λ (x : AssignRow). x.owner) row ∙ object_same life.owner o (sym (object_is life.owner o) ∙ parts.0) in
    let number : (ended at life).id ≡ id = ap (λ (x : AssignRow). x.id) row ∙ eqb-true life.id id parts.1 in
    found_alone (λ (x : AssignLife). x.id) (is_life o id) (λ other. is_at (ended at life).owner (ended at life).id other) (ended at) id 0 life lives
    (λ y h. is_life_id o id y (at_is o id y ∙ h)) (λ y. rw (owner, number) (at_is o id y)) r (find_like o id lives ∙ found)

pub no_life_ends : (o : Object) (id at : ℕ) (lives : List AssignLife) → find (is_at o id) lives ≡ None → lives ≡ map (gone_if (is_life o id) at) lives
no_life_ends o id at lives h = sym (untouched (is_life o id) (ended at) lives (none_found (is_life o id) lives (find_like o id lives ∙ h)))

-- ---- one life more, and its owner

pub none_like : (life : AssignLife) (lives : List AssignLife) → Rising 0 (ids_of lives) → last_made lives < life.id → list_any (is_at life.owner life.id) lives ≡ false
none_like life lives r w =
    any_none (is_at life.owner life.id) lives (none_later (λ (x : AssignLife). x.id) (is_at life.owner life.id) (last_made lives) life.id lives (λ x h. is_life_id life.owner life.id x h) (all_made 0 lives r) w)

pub lives_more : (life : AssignLife) (lives : List AssignLife) (m n : BTreeMap ℕ Object) → AreLives lives m → last_made lives < life.id
    → ((q : ℕ) → get nat_cmp n q ≡ (if eq_by_cmp nat_cmp life.id q then Some life.owner else get nat_cmp m q)) → AreLives (lives ++ life ∷ []) n
lives_more life lives m n h w more = record {
  rising = rising_push (λ (x : AssignLife). x.id) 0 (last_made lives) lives life h.rising (all_made 0 lives h.rising) (omega arith) w;
  owned = λ q. more q ∙ (rw (unsigned_tied life.id q, h.owned q) (sym (owner_push 0 q lives life h.rising w)));
}

pub lives_ended : (test : AssignLife → Bool) (at : ℕ) (lives : List AssignLife) (m : BTreeMap ℕ Object) → AreLives lives m → AreLives (map (gone_if test at) lives) m
lives_ended test at lives m h = record {
  rising = rw (ids_stay test at lives) h.rising;
  owned = λ q. h.owned q ∙ sym (owner_stays test at q lives);
}

pub has_owner : (id : ℕ) (lives : List AssignLife) → is_some (owner_of id lives) ≡ list_any (λ (life : AssignLife). life.id == id) lives
has_owner id [] = refl
has_owner id (life ∷ lives) = elim (cases_Bool (life.id == id)) [
  | inl h ↦ rw h refl
  | inr h ↦ rw h (has_owner id lives)
]

distributes : (a b c : Bool) → (a && (b || c)) ≡ ((a && b) || (a && c))
distributes true b c = refl
distributes false b c = refl

-- the ids of the lives of an owner are among some
abbrev Holds : Object → List ℕ → List AssignLife → Type 0
Holds o ids lives = AllByRecursion (λ (life : AssignLife). same_object life.owner o ≡ true → list_any (λ id. life.id == id) ids ≡ true) lives

still : (o : Object) (n : ℕ) (ids : List ℕ) (lives : List AssignLife) → Holds o ids lives → Holds o (n ∷ ids) lives
still o n ids [] h = tt
still o n ids (life ∷ lives) h = ((λ t. or_right (life.id == n) (list_any (λ id. life.id == id) ids) (h.0 t)), still o n ids lives h.1)

-- ---- an assignment ends

pub id_tells : (id at floor : ℕ) (o : Object) (lives : List AssignLife) → Rising floor (ids_of lives) → owner_of id lives ≡ Some o
    → map (gone_if (is_life o id) at) lives ≡ map (gone_if (λ (life : AssignLife). life.id == id) at) lives
id_tells id at floor o [] r h = refl
id_tells id at floor o (life ∷ lives) r h = elim (cases_Bool (life.id == id)) [
  | inl t ↦
      let is : Some life.owner ≡ Some o = rw t at h in
      let same : life.owner ≡ o = cc in
      let here : is_life o id life ≡ true = rw (same, object_itself o, t) refl in
      let number = eqb-true life.id id t in
      let none = none_behind (λ (x : AssignLife). x.id) (λ (x : AssignLife). x.id == id) floor life lives (λ x s. eqb-true x.id id s ∙ sym number) r in
      let none_too = none_behind (λ (x : AssignLife). x.id) (is_life o id) floor life lives (λ x s. eqb-true x.id id ((and_parts (same_object x.owner o) (x.id == id) s).1) ∙ sym number) r in
      rw (here, t) (ap (λ rest. ended at life ∷ rest) (untouched (is_life o id) (ended at) lives none_too ∙ sym (untouched (λ (x : AssignLife). x.id == id) (ended at) lives none)))
  | inr t ↦ rw (and_right (same_object life.owner o) (life.id == id) t, t) (ap (λ rest. life ∷ rest) (id_tells id at life.id o lives r.1 (rw t at h)))
]

none_of : (id : ℕ) (lives : List AssignLife) → owner_of id lives ≡ None → AllByRecursion (λ (x : AssignLife). (x.id == id) ≡ false) lives
none_of id [] h = tt
none_of id (life ∷ lives) h = elim (cases_Bool (life.id == id)) [
  | inl t ↦ let e : Some life.owner ≡ None = rw t at h in cc
  | inr t ↦ (t, none_of id lives (rw t at h))
]

pub no_id_ends : (id at : ℕ) (lives : List AssignLife) → owner_of id lives ≡ None → lives ≡ map (gone_if (λ (life : AssignLife). life.id == id) at) lives
no_id_ends id at lives h = sym (untouched (λ (x : AssignLife). x.id == id) (ended at) lives (none_of id lives h))

-- ---- all assignments to an owner

-- the order of a table: by owner, and then by id
abbrev pub life_order : AssignLife → AssignLife → Ordering
life_order a b = ordering_then (object_ord.ghosts.cmp a.owner b.owner) (nat_cmp a.id b.id)

later_id : (o : Object) (x y : AssignLife) → object_eq.ghosts.eq x.owner o ≡ true → object_eq.ghosts.eq y.owner o ≡ true → x.id < y.id → life_order y x ≡ Greater
later_id o x y h k w =
    let a = object_same x.owner o (sym (object_is x.owner o) ∙ h) in
    let b = object_same y.owner o (sym (object_is y.owner o) ∙ k) in
    rw (a, b, object_tied o) (after y.id x.id w)

pub owned_in_order : (o : Object) (lives : List AssignLife) → Rising 0 (ids_of lives)
    → in_order life_order (filter (λ (life : AssignLife). object_eq.ghosts.eq life.owner o) lives) ≡ on_owner o lives
owned_in_order o lives r =
    in_order_already (λ (x : AssignLife). x.id) life_order (λ (life : AssignLife). object_eq.ghosts.eq life.owner o) (later_id o) 0 lives r
    ∙ ap (λ (p : AssignLife → Bool). filter p lives) (λ i life. object_is life.owner o i)

-- whether a life is that of an assignment to an owner whose id is among some
abbrev pub is_among : Object → List ℕ → AssignLife → Bool
is_among o ids life = same_object life.owner o && list_any (λ id. life.id == id) ids

ended_twice : (at : ℕ) (life : AssignLife) (end : Option ℕ) → ended at (ended at (record life { until = end })) ≡ ended at (record life { until = end })
ended_twice at life None = refl
ended_twice at life (Some e) = refl

pub gone_more : (at : ℕ) (p q r : AssignLife → Bool) (lives : List AssignLife) → ((life : AssignLife) → p (gone_if q at life) ≡ p life) → ((life : AssignLife) → r life ≡ (q life || p life))
    → map (gone_if p at) (map (gone_if q at) lives) ≡ map (gone_if r at) lives
gone_more at p q r [] keeps both = refl
gone_more at p q r (life ∷ lives) keeps both =
    let rest = gone_more at p q r lives keeps both in
    let keep = keeps life in
    elim (cases_Bool (q life)) [
      | inl h ↦ elim (cases_Bool (p life)) [
        | inl k ↦ rw (keep, both life, h, k, ended_twice at life life.until) (ap (λ xs. ended at life ∷ xs) rest)
        | inr k ↦ rw (keep, both life, h, k) (ap (λ xs. ended at life ∷ xs) rest)
      ]
      | inr h ↦ elim (cases_Bool (p life)) [
        | inl k ↦ rw (keep, both life, h, k) (ap (λ xs. ended at life ∷ xs) rest)
        | inr k ↦ rw (keep, both life, h, k) (ap (λ xs. life ∷ xs) rest)
      ]
    ]

is_life_kept : (o : Object) (id at : ℕ) (q : AssignLife → Bool) (life : AssignLife) → is_life o id (gone_if q at life) ≡ is_life o id life
is_life_kept o id at q life = rw (owner_kept q at life, id_stays q at life) refl

-- one id more
pub among_more : (o : Object) (id at : ℕ) (ids more : List ℕ) (lives : List AssignLife) → ((p : ℕ → Bool) → list_any p more ≡ (list_any p ids || p id))
    → map (gone_if (is_life o id) at) (map (gone_if (is_among o ids) at) lives) ≡ map (gone_if (is_among o more) at) lives
among_more o id at ids more lives any =
    gone_more at (is_life o id) (is_among o ids) (is_among o more) lives (is_life_kept o id at (is_among o ids))
    (λ life. rw (any (λ x. life.id == x)) (distributes (same_object life.owner o) (list_any (λ x. life.id == x) ids) (life.id == id)))

-- the ids of all of them
all_there : (o : Object) (lives : List AssignLife) → Holds o (ids_of (on_owner o lives)) lives
all_there o [] = tt
all_there o (life ∷ lives) = elim (cases_Bool (same_object life.owner o)) [
  | inl h ↦
      let all : ids_of (on_owner o (life ∷ lives)) ≡ life.id ∷ ids_of (on_owner o lives) = rw h refl in
      subst (λ (ids : List ℕ). Holds o ids (life ∷ lives)) (sym all) ((λ t. or_left (life.id == life.id) (list_any (λ id. life.id == id) (ids_of (on_owner o lives))) (eq-eqb life.id life.id refl)), still o life.id (ids_of (on_owner o lives)) lives (all_there o lives))
  | inr h ↦
      let all : ids_of (on_owner o (life ∷ lives)) ≡ ids_of (on_owner o lives) = rw h refl in
      subst (λ (ids : List ℕ). Holds o ids (life ∷ lives)) (sym all) ((λ t. absurd (both_ways (same_object life.owner o) h t)), all_there o lives)
]

pub all_among : (o : Object) (at : ℕ) (ids : List ℕ) (lives : List AssignLife) → Holds o ids lives
    → map (gone_if (is_among o ids) at) lives ≡ map (gone_if (λ (life : AssignLife). same_object life.owner o) at) lives
all_among o at ids [] h = refl
all_among o at ids (life ∷ lives) h = elim (cases_Bool (same_object life.owner o)) [
  | inl t ↦ rw (t, h.0 t) (ap (λ xs. ended at life ∷ xs) (all_among o at ids lives h.1))
  | inr t ↦ rw t (ap (λ xs. life ∷ xs) (all_among o at ids lives h.1))
]

pub all_end : (o : Object) (at : ℕ) (lives : List AssignLife) → map (gone_if (is_among o (ids_of (on_owner o lives))) at) lives ≡ map (gone_if (λ (life : AssignLife). same_object life.owner o) at) lives
all_end o at lives = all_among o at (ids_of (on_owner o lives)) lives (all_there o lives)

pub none_among : (o : Object) (at : ℕ) (lives : List AssignLife) → lives ≡ map (gone_if (is_among o []) at) lives
none_among o at [] = refl
none_among o at (life ∷ lives) = rw (and_right (same_object life.owner o) false refl) (ap (λ xs. life ∷ xs) (none_among o at lives))

-- the rows of an owner
pub rows_on : (o : Object) (values : ℕ → List AttrValue) (t : ℕ) (lives : List AssignLife) → map (row_of values) (filter (had t) (on_owner o lives)) ≡ filter (λ (row : AssignRow). same_object row.owner o) (rows_at values lives t)
rows_on o values t [] = refl
rows_on o values t (life ∷ lives) =
    let rest = rows_on o values t lives in
    elim (cases_Bool (same_object life.owner o)) [
      | inl h ↦ elim (cases_Bool (had t life)) [
        | inl k ↦ rw (h, k, h) (ap (λ rows. row_of values life ∷ rows) rest)
        | inr k ↦ rw (h, k) rest
      ]
      | inr h ↦ elim (cases_Bool (had t life)) [
        | inl k ↦ rw (h, k, h) rest
        | inr k ↦ rw (h, k) rest
      ]
    ]
