-- Assignments after each change.
use Rattle.std.proofs.Common.{◌≡◌, ◌≤◌, ◌<◌, ◌==◌, ◌&&◌, ◌++◌, ◌∙◌, ℕ, List, [], ◌∷◌, Bool, true, false, None, map, nat_le, if◌then◌else◌, arith, ap, refl, sym, inl, inr}
use Rattle.std.specs.List.{list_any}
use Rattle.std.proofs.lemmas.Bool.{cases_Bool, and_right, or_parts, ne_eqb}
use Rattle.reg_terms.specs.Kinds.{same_object}
use Rattle.reg_terms.specs.Values.{with_value, without_first}
use Rattle.reg_terms.specs.declared.kinds.AttrValue.{AttrValue}
use Rattle.reg_terms.specs.declared.kinds.Object.{Object}
use Rattle.reg_terms.specs.declared.rows.AssignRow.{AssignRow}
use Rattle.reg_pit.specs.Assigns.{AreAssignedBy, Noted}
use Rattle.reg_pit.specs.Lives.{had, gone_if, last_made, row_of, rows_at, values_at, AreLivesBy, AreValuesBy, AreOfMade}
use Rattle.reg_pit.specs.declared.assign_change.AssignChange.TheVariants as change
use Rattle.reg_pit.specs.declared.assign_lives.AssignLife.{AssignLife}
use Rattle.reg_pit.specs.declared.value_lives.ValueLife.{ValueLife}
use Rattle.reg_pit.proofs.Ending.{rows_end, rows_push, last_push, last_stays, lives_by}

-- a life that begins at a moment
abbrev pub begun : ℕ → ℕ → Object → ℕ → AssignLife
begun id attribute o at = record { id = id; attribute = attribute; owner = o; from = at; until = None }

had_begun : (id attribute : ℕ) (o : Object) (at t : ℕ) → had t (begun id attribute o at) ≡ nat_le at t
had_begun id attribute o at t = elim (cases_Bool (nat_le at t)) [
  | inl h ↦ rw h refl
  | inr h ↦ rw h refl
]

lives_push : (at : ℕ) (lives : List AssignLife) (id attribute : ℕ) (o : Object) → AreLivesBy at lives → AreLivesBy at (lives ++ begun id attribute o at ∷ [])
lives_push at [] id attribute o h = (omega arith, tt)
lives_push at (life ∷ lives) id attribute o h = (h.0, lives_push at lives id attribute o h.1)

-- ---- an assignment more

rows_begun : (values : ℕ → List AttrValue) (lives : List AssignLife) (id attribute : ℕ) (o : Object) (at t : ℕ) → values id ≡ []
    → rows_at values (lives ++ begun id attribute o at ∷ []) t ≡ (if nat_le at t then rows_at values lives t ++ (record { id = id; attribute = attribute; owner = o; values = [] }) ∷ [] else rows_at values lives t)
rows_begun values lives id attribute o at t none =
    rows_push values lives (begun id attribute o at) t
    ∙ (ap (λ (test : Bool). if test then rows_at values lives t ++ row_of values (begun id attribute o at) ∷ [] else rows_at values lives t) (had_begun id attribute o at t)
    ∙ ap (λ (vs : List AttrValue). if nat_le at t then rows_at values lives t ++ (record { id = id; attribute = attribute; owner = o; values = vs }) ∷ [] else rows_at values lives t) none)

pub made_noted : (at id attribute : ℕ) (o : Object) (lives : List AssignLife) (values : List ValueLife) → AreOfMade lives values → AreAssignedBy at (lives, values) → last_made lives < id
    → Noted at (change.Made id attribute o) (lives, values) (lives ++ begun id attribute o at ∷ [], values)
made_noted at id attribute o lives values of h w = record {
  rows = λ t. rows_begun (λ a. values_at values a t) lives id attribute o at t (of id t w);
  last = record { lives = lives_push at lives id attribute o h.lives; values = h.values };
  greatest = last_push 0 lives (begun id attribute o at);
}

pub made_of : (at id attribute : ℕ) (o : Object) (lives : List AssignLife) (values : List ValueLife) → AreOfMade lives values → last_made lives < id → AreOfMade (lives ++ begun id attribute o at ∷ []) values
made_of at id attribute o lives values of w a t h = let last = last_push 0 lives (begun id attribute o at) in of a t (omega (arith, last, w, h))

-- ---- assignments end

pub gone_noted : (at id : ℕ) (lives : List AssignLife) (values : List ValueLife) → AreAssignedBy at (lives, values)
    → Noted at (change.Gone id) (lives, values) (map (gone_if (λ (life : AssignLife). life.id == id) at) lives, values)
gone_noted at id lives values h = record {
  rows = λ t. rows_end (λ (life : AssignLife). life.id == id) at (λ a. values_at values a t) (λ (row : AssignRow). row.id == id) (λ life. refl) t lives h.lives;
  last = record { lives = lives_by (λ (life : AssignLife). life.id == id) at lives h.lives; values = h.values };
  greatest = last_stays (λ (life : AssignLife). life.id == id) at 0 lives;
}

pub owner_noted : (at : ℕ) (o : Object) (lives : List AssignLife) (values : List ValueLife) → AreAssignedBy at (lives, values)
    → Noted at (change.OwnerGone o) (lives, values) (map (gone_if (λ (life : AssignLife). same_object life.owner o) at) lives, values)
owner_noted at o lives values h = record {
  rows = λ t. rows_end (λ (life : AssignLife). same_object life.owner o) at (λ a. values_at values a t) (λ (row : AssignRow). same_object row.owner o) (λ life. refl) t lives h.lives;
  last = record { lives = lives_by (λ (life : AssignLife). same_object life.owner o) at lives h.lives; values = h.values };
  greatest = last_stays (λ (life : AssignLife). same_object life.owner o) at 0 lives;
}

pub ended_of : (at : ℕ) (test : AssignLife → Bool) (lives : List AssignLife) (values : List ValueLife) → AreOfMade lives values → AreOfMade (map (gone_if test at) lives) values
ended_of at test lives values of a t h = let last = last_stays test at 0 lives in of a t (omega (arith, last, h))

-- ---- values come and go

-- an edit of the values of one assignment
abbrev edited : ℕ → (List AttrValue → List AttrValue) → AssignRow → AssignRow
edited id g row = if row.id == id then record row { values = g row.values } else row

rows_edited : (id : ℕ) (g : List AttrValue → List AttrValue) (before after : ℕ → List AttrValue) (lives : List AssignLife) (t : ℕ) → ((a : ℕ) → after a ≡ (if a == id then g (before a) else before a))
    → rows_at after lives t ≡ map (edited id g) (rows_at before lives t)
rows_edited id g before after [] t h = refl
rows_edited id g before after (life ∷ lives) t h =
    let rest = rows_edited id g before after lives t h in
    elim (cases_Bool (had t life)) [
      | inl k ↦ elim (cases_Bool (life.id == id)) [
        | inl m ↦ rw (k, h life.id, m) (ap (λ rows. (record { id = life.id; attribute = life.attribute; owner = life.owner; values = g (before life.id) }) ∷ rows) rest)
        | inr m ↦ rw (k, h life.id, m) (ap (λ rows. row_of before life ∷ rows) rest)
      ]
      | inr k ↦ rw k rest
    ]

not_yet : (b w : Bool) (x y : List AttrValue) → w ≡ false → (if b && w then x else y) ≡ y
not_yet b w x y h = rw (h, and_right b false refl) refl

from_now : (b w : Bool) (x y : List AttrValue) → w ≡ true → (if b && w then x else y) ≡ (if b then x else y)
from_now true w x y h = rw h refl
from_now false w x y h = refl

-- from a moment on
rows_edited_at : (id at t : ℕ) (g : List AttrValue → List AttrValue) (before after : ℕ → List AttrValue) (lives : List AssignLife) → ((a : ℕ) → after a ≡ (if (a == id) && nat_le at t then g (before a) else before a))
    → rows_at after lives t ≡ (if nat_le at t then map (edited id g) (rows_at before lives t) else rows_at before lives t)
rows_edited_at id at t g before after lives h = elim (cases_Bool (nat_le at t)) [
  | inl w ↦ rw w (rows_edited id g before after lives t (λ a. h a ∙ from_now (a == id) (nat_le at t) (g (before a)) (before a) w))
  | inr w ↦ rw w (ap (λ (vs : ℕ → List AttrValue). rows_at vs lives t) (λ i a. (h a ∙ not_yet (a == id) (nat_le at t) (g (before a)) (before a) w) i))
]

pub added_noted : (at id : ℕ) (v : AttrValue) (lives : List AssignLife) (old new : List ValueLife) → AreAssignedBy at (lives, old) → AreValuesBy at new
    → ((a t : ℕ) → values_at new a t ≡ (if (a == id) && nat_le at t then values_at old a t ++ v ∷ [] else values_at old a t)) → Noted at (change.ValueAdded id v) (lives, old) (lives, new)
added_noted at id v lives old new h last more = record {
  rows = λ t. rows_edited_at id at t (λ vs. vs ++ v ∷ []) (λ a. values_at old a t) (λ a. values_at new a t) lives (λ a. more a t);
  last = record { lives = h.lives; values = last };
  greatest = refl;
}

pub removed_noted : (at id : ℕ) (v : AttrValue) (lives : List AssignLife) (old new : List ValueLife) → AreAssignedBy at (lives, old) → AreValuesBy at new
    → ((a t : ℕ) → values_at new a t ≡ (if (a == id) && nat_le at t then without_first v (values_at old a t) else values_at old a t)) → Noted at (change.ValueRemoved id v) (lives, old) (lives, new)
removed_noted at id v lives old new h last less = record {
  rows = λ t. rows_edited_at id at t (without_first v) (λ a. values_at old a t) (λ a. values_at new a t) lives (λ a. less a t);
  last = record { lives = h.lives; values = last };
  greatest = refl;
}

-- a value of an assignment that was never made
no_row : (id t : ℕ) (v : AttrValue) (values : ℕ → List AttrValue) (lives : List AssignLife) → list_any (λ (life : AssignLife). life.id == id) lives ≡ false → map (with_value id v) (rows_at values lives t) ≡ rows_at values lives t
no_row id t v values [] h = refl
no_row id t v values (life ∷ lives) h =
    let parts = or_parts (life.id == id) (list_any (λ (x : AssignLife). x.id == id) lives) h in
    let rest = no_row id t v values lives parts.1 in
    elim (cases_Bool (had t life)) [
      | inl k ↦ rw (k, parts.0) (ap (λ rows. row_of values life ∷ rows) rest)
      | inr k ↦ rw k rest
    ]

pub never_made : (at id : ℕ) (v : AttrValue) (lives : List AssignLife) (values : List ValueLife) → AreAssignedBy at (lives, values) → list_any (λ (life : AssignLife). life.id == id) lives ≡ false
    → Noted at (change.ValueAdded id v) (lives, values) (lives, values)
never_made at id v lives values h none = record {
  rows = λ t. elim (cases_Bool (nat_le at t)) [
    | inl w ↦ rw w (sym (no_row id t v (λ a. values_at values a t) lives none))
    | inr w ↦ rw w refl
  ];
  last = h;
  greatest = refl;
}

pub added_of : (at id : ℕ) (v : AttrValue) (lives : List AssignLife) (old new : List ValueLife) → AreOfMade lives old → id ≤ last_made lives
    → ((a t : ℕ) → values_at new a t ≡ (if (a == id) && nat_le at t then values_at old a t ++ v ∷ [] else values_at old a t)) → AreOfMade lives new
added_of at id v lives old new of low more a t h =
    more a t ∙ (rw (ne_eqb a id (λ e. absurd (omega (arith, e, low, h)))) (of a t h))

pub removed_of : (at id : ℕ) (v : AttrValue) (lives : List AssignLife) (old new : List ValueLife) → AreOfMade lives old
    → ((a t : ℕ) → values_at new a t ≡ (if (a == id) && nat_le at t then without_first v (values_at old a t) else values_at old a t)) → AreOfMade lives new
removed_of at id v lives old new of less a t h =
    less a t ∙ (rw (of a t h) (elim (cases_Bool ((a == id) && nat_le at t)) [
      | inl k ↦ rw k refl
      | inr k ↦ rw k refl
    ]))
