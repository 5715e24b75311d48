-- The assignments and their keys: which key stands for which, and what one more, one less and one changed do to both.
use Rattle.std.proofs.Common.{◌≡◌, ◌==◌, ◌<◌, ◌+◌, ◌++◌, ◌∙◌, ◌||◌, ℕ, List, [], ◌∷◌, Bool, true, false, not, cond, Some, None, inl, inr, refl, sym, ap, subst, length, map, filter, arith}
use Rattle.std.specs.Prelude.{◌&&◌, filter_map}
use Rattle.std.specs.List.{AllByRecursion, list_any}
use Rattle.std.specs.List.Sorted.{IsStrictlySortedBy}
use Rattle.std.specs.Ordering.{nat_cmp}
use Rattle.std.proofs.lemmas.Bool.{cases_Bool, eq-eqb, true≢false}
use Rattle.std.proofs.lemmas.Map.Keys.{sorted_tail, sorted_head}
use Rattle.reg_terms.specs.Kinds.{same_object}
use Rattle.reg_terms.specs.Values.{with_value, without_value}
use Rattle.reg_terms.specs.declared.kinds.AttrValue.{AttrValue}
use Rattle.reg_terms.specs.declared.kinds.Object.{Object}
use Rattle.reg_terms.specs.declared.rows.AssignRow.{AssignRow}
use Rattle.reg_facts.specs.Ascending.{AssignsAscend}
use Rattle.reg_facts.specs.Assigning.{same_key, KeysAscend, key_of, AreKeyed}
use Rattle.reg_facts.specs.Attributes.{assign_row, assigns_on, has_assign, is_assigned, is_assigned_to}
use Rattle.reg_facts.specs.declared.assign_index.AssignKey.{AssignKey}
use Rattle.reg_facts.proofs.Places.{same_self}
use Rattle.reg_facts.proofs.RowsById.{AreAbove, above_id, any_seen, changed_ascends, earlier_differs, filter_seen, found_id, later_differs, less_ascends, none_like, none_taken, taken}
use Rattle.reg_facts.proofs.Searched.{above_stay}

-- the ids of an assignment's row and of its key are one
ids_of_keys : (rows : List AssignRow) → map (λ (key : AssignKey). key.id) (map key_of rows) ≡ map (λ (row : AssignRow). row.id) rows
ids_of_keys [] = refl
ids_of_keys (row ∷ rows) = ap (λ l. row.id ∷ l) (ids_of_keys rows)

pub keys_ascend : (rows : List AssignRow) → AssignsAscend rows → KeysAscend (map key_of rows)
keys_ascend rows up = subst (λ ids. IsStrictlySortedBy nat_cmp ids) (sym (ids_of_keys rows)) up

-- ---- what is asked of keys

pub key_among : (id : ℕ) (o : Object) (a : ℕ) (rows : List AssignRow) → list_any (same_key (record { owner = o; attribute = a; id = id })) (map key_of rows) ≡ has_assign id o a rows
key_among id o a rows =
    any_seen key_of (same_key (record { owner = o; attribute = a; id = id })) rows
    ∙ ap (λ (test : AssignRow → Bool). list_any test rows) (λ i row. regrouped (same_object row.owner o) (row.id == id) (row.attribute == a) i)
  where
    regrouped : (p q r : Bool) → (p && (q && r)) ≡ (q && (p && r))
    regrouped true q r = refl
    regrouped false true r = refl
    regrouped false false r = refl

pub owner_among : (o : Object) (rows : List AssignRow) → list_any (λ (key : AssignKey). same_object key.owner o) (map key_of rows) ≡ list_any (λ (row : AssignRow). same_object row.owner o) rows
owner_among o rows = any_seen key_of (λ (key : AssignKey). same_object key.owner o) rows

pub first_among : (id : ℕ) (o : Object) (rows : List AssignRow) → list_any (λ (key : AssignKey). (key.id == id) && same_object key.owner o) (map key_of rows) ≡ list_any (λ (row : AssignRow). (row.id == id) && same_object row.owner o) rows
first_among id o rows = any_seen key_of (λ (key : AssignKey). (key.id == id) && same_object key.owner o) rows

pub attribute_among : (a : ℕ) (rows : List AssignRow) → list_any (λ (key : AssignKey). key.attribute == a) (map key_of rows) ≡ is_assigned a rows
attribute_among a rows = any_seen key_of (λ (key : AssignKey). key.attribute == a) rows

pub pair_among : (o : Object) (a : ℕ) (rows : List AssignRow) → list_any (λ (key : AssignKey). same_object key.owner o && (key.attribute == a)) (map key_of rows) ≡ is_assigned_to o a rows
pair_among o a rows = any_seen key_of (λ (key : AssignKey). same_object key.owner o && (key.attribute == a)) rows

-- ---- one more

-- where the ids differ so do the keys
key_apart : (row : AssignRow) (n : ℕ) → row.id ≡ n → (other : AssignRow) → (other.id == n) ≡ false → same_key (key_of row) (key_of other) ≡ false
key_apart row n is other h = rw is (apart (same_object other.owner row.owner) (other.id == n) (other.attribute == row.attribute) h)
  where
    apart : (p q r : Bool) → q ≡ false → (p && (q && r)) ≡ false
    apart true true r e = cc
    apart true false r e = refl
    apart false q r e = refl

pub key_new : (rows : List AssignRow) (row : AssignRow) → AssignsAscend (rows ++ row ∷ []) → list_any (same_key (key_of row)) (map key_of rows) ≡ false
key_new rows row up =
    any_seen key_of (same_key (key_of row)) rows
    ∙ none_like (λ (r : AssignRow). r.id) (λ (r : AssignRow). same_key (key_of row) (key_of r)) row (key_apart row row.id refl) rows up

-- ---- one less

taken_by_key : (rows : List AssignRow) (row : AssignRow) (id : ℕ) → AssignsAscend rows → assign_row id rows ≡ Some row → filter (λ (key : AssignKey). not (same_key (key_of row) key)) (map key_of rows) ≡ map key_of (filter (λ (other : AssignRow). not (other.id == id)) rows)
taken_by_key rows row id up found =
    let same : row.id ≡ id = found_id (λ (r : AssignRow). r.id) id rows row found in
    filter_seen key_of (λ (key : AssignKey). not (same_key (key_of row) key)) rows
    ∙ ap (λ (xs : List AssignRow). map key_of xs) (taken (λ (r : AssignRow). r.id) (λ (r : AssignRow). same_key (key_of row) (key_of r)) id row (key_apart row id same) here rows up found)
  where
    here : same_key (key_of row) (key_of row) ≡ true
    here = rw (same_self row.owner, eq-eqb row.id row.id refl, eq-eqb row.attribute row.attribute refl) refl

pub less_keyed : (id : ℕ) (row : AssignRow) (index : List AssignKey) (rows : List AssignRow) (left : List AssignKey) → AreKeyed index rows → assign_row id rows ≡ Some row → left ≡ filter (λ (key : AssignKey). not (same_key (key_of row) key)) index
    → AreKeyed left (filter (λ (other : AssignRow). not (other.id == id)) rows)
less_keyed id row index rows left keyed found is = record {
  same = is ∙ (ap (λ (keys : List AssignKey). filter (λ (key : AssignKey). not (same_key (key_of row) key)) keys) keyed.same ∙ taken_by_key rows row id keyed.ascend found);
  ascend = less_ascends (λ (r : AssignRow). r.id) (λ (other : AssignRow). not (other.id == id)) rows keyed.ascend;
}

pub same_keyed : (id : ℕ) (index : List AssignKey) (rows : List AssignRow) → AreKeyed index rows → assign_row id rows ≡ None → AreKeyed index (filter (λ (other : AssignRow). not (other.id == id)) rows)
same_keyed id index rows keyed none = rw (none_taken (λ (r : AssignRow). r.id) id rows none) keyed

-- ---- an owner's assignments, one after another

-- the others stay, where one of the owner's is taken away
pub owner_over : (id : ℕ) (o : Object) (rows : List AssignRow) → AssignsAscend rows → list_any (λ (row : AssignRow). (row.id == id) && same_object row.owner o) rows ≡ true
    → filter (λ (row : AssignRow). not (same_object row.owner o)) (filter (λ (row : AssignRow). not (row.id == id)) rows) ≡ filter (λ (row : AssignRow). not (same_object row.owner o)) rows
owner_over id o [] up there = cc
owner_over id o (r ∷ rows) up there = elim (cases_Bool (r.id == id)) [
  | inl t ↦
      let above = above_id (λ (x : AssignRow). x.id) id r rows up t in
      let here : (same_object r.owner o || list_any (λ (row : AssignRow). (row.id == id) && same_object row.owner o) rows) ≡ true = rw t at there in
      rw (t, above_stay (λ (x : AssignRow). x.id) id rows above, sure (same_object r.owner o) (list_any (λ (row : AssignRow). (row.id == id) && same_object row.owner o) rows) here (none_above rows above)) refl
  | inr t ↦ rw t (either (same_object r.owner o) r _ _ (owner_over id o rows (sorted_tail nat_cmp r.id (map (λ (x : AssignRow). x.id) rows) up) (rw t at there)))
]
  where
    sure : (a b : Bool) → (a || b) ≡ true → b ≡ false → a ≡ true
    sure true b h none = refl
    sure false b h none = absurd (let clash : ⊥ = cc in clash)

    either : (b : Bool) (x : AssignRow) (xs ys : List AssignRow) → xs ≡ ys → cond (not b) (x ∷ xs) xs ≡ cond (not b) (x ∷ ys) ys
    either b x xs ys e = rw e refl

    none_above : (xs : List AssignRow) → AreAbove (λ (x : AssignRow). x.id) id xs → list_any (λ (row : AssignRow). (row.id == id) && same_object row.owner o) xs ≡ false
    none_above [] h = refl
    none_above (x ∷ xs) h = rw (earlier_differs id x.id h.0) (none_above xs h.1)

pub owner_gone : (o : Object) (rows : List AssignRow) → list_any (λ (row : AssignRow). same_object row.owner o) rows ≡ false → filter (λ (row : AssignRow). not (same_object row.owner o)) rows ≡ rows
owner_gone o [] none = refl
owner_gone o (r ∷ rows) none = elim (cases_Bool (same_object r.owner o)) [
  | inl t ↦ absurd (let clash : true ≡ false = rw t at none in true≢false clash)
  | inr t ↦ rw t (ap (λ xs. r ∷ xs) (owner_gone o rows (rw t at none)))
]

pub owner_fewer : (id : ℕ) (o : Object) (rows : List AssignRow) → list_any (λ (row : AssignRow). (row.id == id) && same_object row.owner o) rows ≡ true → length (filter (λ (row : AssignRow). not (row.id == id)) rows) < length rows
owner_fewer id o [] there = cc
owner_fewer id o (r ∷ rows) there = elim (cases_Bool (r.id == id)) [
  | inl t ↦ rw t (let most = at_most rows in omega (arith, most))
  | inr t ↦ rw t (let rest = owner_fewer id o rows (rw t at there) in omega (arith, rest))
]
  where
    at_most : (xs : List AssignRow) → length (filter (λ (row : AssignRow). not (row.id == id)) xs) < 1 + length xs
    at_most [] = omega arith
    at_most (x ∷ xs) = let rest = at_most xs in elim (cases_Bool (x.id == id)) [ inl t ↦ rw t (omega (arith, rest)) | inr t ↦ rw t (omega (arith, rest)) ]

-- ---- the assignments of keys

-- the assignments of these keys
abbrev pub rows_for : List AssignRow → List AssignKey → List AssignRow
rows_for rows keys = filter_map (λ (key : AssignKey). assign_row key.id rows) keys

-- each is found by its id
all_found : (rows : List AssignRow) → AssignsAscend rows → AllByRecursion (λ (row : AssignRow). assign_row row.id rows ≡ Some row) rows
all_found [] up = tt
all_found (r ∷ rows) up =
    (rw (eq-eqb r.id r.id refl) refl, behind rows (sorted_head nat_cmp r.id (map (λ (x : AssignRow). x.id) rows) up) (all_found rows (sorted_tail nat_cmp r.id (map (λ (x : AssignRow). x.id) rows) up)))
  where
    behind : (xs : List AssignRow) → AreAbove (λ (x : AssignRow). x.id) r.id xs → AllByRecursion (λ (row : AssignRow). assign_row row.id rows ≡ Some row) xs → AllByRecursion (λ (row : AssignRow). assign_row row.id (r ∷ rows) ≡ Some row) xs
    behind [] low all = tt
    behind (x ∷ xs) low all = (rw (later_differs r.id x.id low.0) all.0, behind xs low.1 all.1)

rows_back : (o : Object) (rows xs : List AssignRow) → AllByRecursion (λ (row : AssignRow). assign_row row.id rows ≡ Some row) xs → rows_for rows (map key_of (assigns_on o xs)) ≡ assigns_on o xs
rows_back o rows [] all = refl
rows_back o rows (x ∷ xs) all = elim (cases_Bool (same_object x.owner o)) [
  | inl t ↦ rw (t, all.0) (ap (λ l. x ∷ l) (rows_back o rows xs all.1))
  | inr t ↦ rw t (rows_back o rows xs all.1)
]

pub rows_on : (o : Object) (rows : List AssignRow) → AssignsAscend rows → rows_for rows (filter (λ (key : AssignKey). same_object key.owner o) (map key_of rows)) ≡ assigns_on o rows
rows_on o rows up = ap (rows_for rows) (filter_seen key_of (λ (key : AssignKey). same_object key.owner o) rows) ∙ rows_back o rows rows (all_found rows up)

-- ---- one changed

keys_stay : (f : AssignRow → AssignRow) → ((row : AssignRow) → key_of (f row) ≡ key_of row) → (rows : List AssignRow) → map key_of (map f rows) ≡ map key_of rows
keys_stay f stay [] = refl
keys_stay f stay (row ∷ rows) = rw (stay row, keys_stay f stay rows) refl

pub changed_keyed : (f : AssignRow → AssignRow) → ((row : AssignRow) → key_of (f row) ≡ key_of row) → (index : List AssignKey) (rows : List AssignRow) → AreKeyed index rows → AreKeyed index (map f rows)
changed_keyed f stay index rows keyed = record {
  same = keyed.same ∙ sym (keys_stay f stay rows);
  ascend = changed_ascends (λ (row : AssignRow). row.id) f (λ row. ap (λ (key : AssignKey). key.id) (stay row)) rows keyed.ascend;
}

pub with_value_key : (id : ℕ) (v : AttrValue) (row : AssignRow) → key_of (with_value id v row) ≡ key_of row
with_value_key id v row = elim (cases_Bool (row.id == id)) [ inl t ↦ rw t refl | inr t ↦ rw t refl ]

pub without_value_key : (id : ℕ) (v : AttrValue) (row : AssignRow) → key_of (without_value id v row) ≡ key_of row
without_value_key id v row = elim (cases_Bool (row.id == id)) [ inl t ↦ rw t refl | inr t ↦ rw t refl ]
