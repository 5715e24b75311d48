-- Assignments in a map by their ids: one found, one more, one less and one changed.
use Rattle.std.proofs.Common.{◌≡◌, ◌==◌, ◌+◌, ◌++◌, ◌∙◌, ℕ, List, [], ◌∷◌, Bool, true, false, not, Some, None, inl, inr, refl, sym, ap, length, map, filter, arith}
use Rattle.std.specs.List.{AllByRecursion}
use Rattle.std.specs.Ordering.{nat_cmp}
use Rattle.std.specs.declared.cmp.Ordering.TheVariants.{Less, Greater}
use Rattle.std.specs.Map.{values_of, lookup, remove_entry, set_value}
use Rattle.std.specs.BTreeMap.{insert_entry, is_at}
use Rattle.std.proofs.lemmas.Bool.{cases_Bool, eq-eqb}
use Rattle.std.proofs.lemmas.Bool.Decides.{nat_tests}
use Rattle.std.proofs.lemmas.Map.Keys.{sorted_tail, sorted_head}
use Rattle.reg_terms.specs.Values.{with_value, without_first, without_value}
use Rattle.reg_terms.specs.declared.kinds.AttrValue.{AttrValue}
use Rattle.reg_terms.specs.declared.rows.AssignRow.{AssignRow}
use Rattle.reg_facts.specs.Ascending.{AssignsAscend}
use Rattle.reg_facts.specs.Assigning.{AreById, changed}
use Rattle.reg_facts.specs.Attributes.{assign_row, value_count}
use Rattle.reg_facts.proofs.RowsById.{AreAbove, above_id, changed_ascends, earlier_differs, found_id, last_above, less_ascends}
use Rattle.reg_facts.proofs.Searched.{above_stay}

-- each entry has the id of its assignment
abbrev SameIds : List (ℕ × AssignRow) → Type 0
SameIds es = AllByRecursion (λ (e : ℕ × AssignRow). e.1.id ≡ e.0) es

-- the key of an entry is an id
at_id : (id : ℕ) (e : ℕ × AssignRow) → e.1.id ≡ e.0 → is_at (nat_cmp id) e.0 ≡ (e.1.id == id)
at_id id e same = rw same (tested id e.0)
  where
    tested : (s t : ℕ) → is_at (nat_cmp s) t ≡ (t == s)
    tested s t = grind (arith, nat_tests)

-- what a look-up finds is the assignment of the id
found : (id : ℕ) (es : List (ℕ × AssignRow)) → SameIds es → lookup (is_at (nat_cmp id)) es ≡ assign_row id (values_of es)
found id [] same = refl
found id (e ∷ es) same = rw (at_id id e same.0, found id es same.1) refl

pub found_by_id : (id : ℕ) (es : List (ℕ × AssignRow)) → AreById es → lookup (is_at (nat_cmp id)) es ≡ assign_row id (values_of es)
found_by_id id es by = found id es by.same

-- ---- one more

after : (a b : ℕ) → nat_cmp a b ≡ Less → nat_cmp b a ≡ Greater
after a b h = grind (arith, nat_tests)

last : (es : List (ℕ × AssignRow)) (row : AssignRow) → SameIds es → AssignsAscend (values_of es ++ row ∷ []) → insert_entry nat_cmp es row.id row ≡ es ++ (row.id, row) ∷ []
last [] row same up = refl
last (e ∷ es) row same up =
    let low = last_above (λ (r : AssignRow). r.id) e.1.id (values_of es) row (sorted_head nat_cmp e.1.id (map (λ (r : AssignRow). r.id) (values_of es ++ row ∷ [])) up) in
    rw (after e.0 row.id (rw (← same.0) low)) (ap (λ l. e ∷ l) (last es row same.1 (sorted_tail nat_cmp e.1.id (map (λ (r : AssignRow). r.id) (values_of es ++ row ∷ [])) up)))

values_last : (es : List (ℕ × AssignRow)) (e : ℕ × AssignRow) → values_of (es ++ e ∷ []) ≡ values_of es ++ e.1 ∷ []
values_last [] e = refl
values_last (x ∷ es) e = ap (λ l. x.1 ∷ l) (values_last es e)

pub more_values : (es : List (ℕ × AssignRow)) (row : AssignRow) → AreById es → AssignsAscend (values_of es ++ row ∷ []) → values_of (insert_entry nat_cmp es row.id row) ≡ values_of es ++ row ∷ []
more_values es row by up = ap values_of (last es row by.same up) ∙ values_last es (row.id, row)

pub more_by_id : (es : List (ℕ × AssignRow)) (row : AssignRow) → AreById es → AssignsAscend (values_of es ++ row ∷ []) → AreById (insert_entry nat_cmp es row.id row)
more_by_id es row by up = record { same = rw (last es row by.same up) (same_last es by.same); ascend = rw (more_values es row by up) up }
  where
    same_last : (xs : List (ℕ × AssignRow)) → SameIds xs → SameIds (xs ++ (row.id, row) ∷ [])
    same_last [] same = (refl, tt)
    same_last (x ∷ xs) same = (same.0, same_last xs same.1)

pub count_last : (rows : List AssignRow) (row : AssignRow) → row.values ≡ [] → value_count (rows ++ row ∷ []) ≡ value_count rows
count_last [] row none = rw none refl
count_last (r ∷ rows) row none = ap (λ n. length r.values + n) (count_last rows row none)

-- ---- one less

less : (id : ℕ) (es : List (ℕ × AssignRow)) → SameIds es → AssignsAscend (values_of es) → values_of (remove_entry (is_at (nat_cmp id)) es) ≡ filter (λ (row : AssignRow). not (row.id == id)) (values_of es)
less id [] same up = refl
less id (e ∷ es) same up = elim (cases_Bool (e.1.id == id)) [
  | inl t ↦
      let above = above_id (λ (r : AssignRow). r.id) id e.1 (values_of es) up t in
      rw (at_id id e same.0, t) (sym (above_stay (λ (r : AssignRow). r.id) id (values_of es) above))
  | inr t ↦ rw (at_id id e same.0, t) (ap (λ l. e.1 ∷ l) (less id es same.1 (sorted_tail nat_cmp e.1.id (map (λ (r : AssignRow). r.id) (values_of es)) up)))
]

same_less : (test : ℕ → Bool) (es : List (ℕ × AssignRow)) → SameIds es → SameIds (remove_entry test es)
same_less test [] same = tt
same_less test (e ∷ es) same = elim (cases_Bool (test e.0)) [ inl t ↦ rw t same.1 | inr t ↦ rw t (same.0, same_less test es same.1) ]

pub less_values : (id : ℕ) (es : List (ℕ × AssignRow)) → AreById es → values_of (remove_entry (is_at (nat_cmp id)) es) ≡ filter (λ (row : AssignRow). not (row.id == id)) (values_of es)
less_values id es by = less id es by.same by.ascend

pub less_by_id : (id : ℕ) (es : List (ℕ × AssignRow)) → AreById es → AreById (remove_entry (is_at (nat_cmp id)) es)
less_by_id id es by = record {
  same = same_less (is_at (nat_cmp id)) es by.same;
  ascend = rw (less_values id es by) (less_ascends (λ (row : AssignRow). row.id) (λ (row : AssignRow). not (row.id == id)) (values_of es) by.ascend);
}

pub count_less : (test : ℕ → Bool) (es : List (ℕ × AssignRow)) (row : AssignRow) → lookup test es ≡ Some row → value_count (values_of (remove_entry test es)) + length row.values ≡ value_count (values_of es)
count_less test [] row h = cc
count_less test (e ∷ es) row h = elim (cases_Bool (test e.0)) [
  | inl t ↦ let at : Some e.1 ≡ Some row = rw t at h in let same : e.1 ≡ row = cc in rw (t, same) (swapped (value_count (values_of es)) (length row.values))
  | inr t ↦ rw t (grouped (length e.1.values) (value_count (values_of (remove_entry test es))) (length row.values) (value_count (values_of es)) (count_less test es row (rw t at h)))
]
  where
    swapped : (a b : ℕ) → a + b ≡ b + a
    swapped a b = omega arith

    grouped : (a b m n : ℕ) → b + m ≡ n → (a + b) + m ≡ a + n
    grouped a b m n h = omega (arith, h)

-- ---- one changed

module _ (id : ℕ) (f : AssignRow → AssignRow) (stay : (row : AssignRow) → (row.id == id) ≡ false → f row ≡ row) where
  above_change : (es : List (ℕ × AssignRow)) → AreAbove (λ (r : AssignRow). r.id) id (values_of es) → map (changed f) es ≡ es
  above_change [] h = refl
  above_change (e ∷ es) h = rw (stay e.1 (earlier_differs id e.1.id h.0), above_change es h.1) refl

  set : (es : List (ℕ × AssignRow)) (row : AssignRow) → SameIds es → AssignsAscend (values_of es) → lookup (is_at (nat_cmp id)) es ≡ Some row → set_value (is_at (nat_cmp id)) es (f row) ≡ map (changed f) es
  set [] row same up h = absurd (let clash : ⊥ = cc in clash)
  set (e ∷ es) row same up h = elim (cases_Bool (e.1.id == id)) [
    | inl t ↦
        let hit : is_at (nat_cmp id) e.0 ≡ true = at_id id e same.0 ∙ t in
        let at : Some e.1 ≡ Some row = rw hit at h in
        let is : e.1 ≡ row = cc in
        let above = above_id (λ (r : AssignRow). r.id) id e.1 (values_of es) up t in
        rw (hit, above_change es above) (ap (λ (r : AssignRow). (e.0, f r) ∷ es) (sym is))
    | inr t ↦
        let miss : is_at (nat_cmp id) e.0 ≡ false = at_id id e same.0 ∙ t in
        rw (miss, stay e.1 t) (ap (λ l. e ∷ l) (set es row same.1 (sorted_tail nat_cmp e.1.id (map (λ (r : AssignRow). r.id) (values_of es)) up) (rw miss at h)))
  ]

  set_changed : (es : List (ℕ × AssignRow)) (row : AssignRow) → AreById es → lookup (is_at (nat_cmp id)) es ≡ Some row → set_value (is_at (nat_cmp id)) es (f row) ≡ map (changed f) es
  set_changed es row by h = set es row by.same by.ascend h

  none : (es : List (ℕ × AssignRow)) → SameIds es → lookup (is_at (nat_cmp id)) es ≡ None → map (changed f) es ≡ es
  none [] same h = refl
  none (e ∷ es) same h = elim (cases_Bool (e.1.id == id)) [
    | inl t ↦ absurd (let hit : is_at (nat_cmp id) e.0 ≡ true = at_id id e same.0 ∙ t in let at : Some e.1 ≡ None = rw hit at h in let clash : ⊥ = cc in clash)
    | inr t ↦
        let miss : is_at (nat_cmp id) e.0 ≡ false = at_id id e same.0 ∙ t in
        rw (stay e.1 t) (ap (λ l. e ∷ l) (none es same.1 (rw miss at h)))
  ]

  none_changed : (es : List (ℕ × AssignRow)) → AreById es → lookup (is_at (nat_cmp id)) es ≡ None → map (changed f) es ≡ es
  none_changed es by h = none es by.same h

pub values_changed : (f : AssignRow → AssignRow) (es : List (ℕ × AssignRow)) → values_of (map (changed f) es) ≡ map f (values_of es)
values_changed f [] = refl
values_changed f (e ∷ es) = ap (λ l. f e.1 ∷ l) (values_changed f es)

changed_by_id : (f : AssignRow → AssignRow) → ((row : AssignRow) → (f row).id ≡ row.id) → (es : List (ℕ × AssignRow)) → AreById es → AreById (map (changed f) es)
changed_by_id f stay es by = record {
  same = same_changed es by.same;
  ascend = rw (values_changed f es) (changed_ascends (λ (row : AssignRow). row.id) f stay (values_of es) by.ascend);
}
  where
    same_changed : (xs : List (ℕ × AssignRow)) → SameIds xs → SameIds (map (changed f) xs)
    same_changed [] same = tt
    same_changed (x ∷ xs) same = (stay x.1 ∙ same.0, same_changed xs same.1)

-- how many values there are then
pub count_set : (test : ℕ → Bool) (es : List (ℕ × AssignRow)) (row new : AssignRow) → lookup test es ≡ Some row → value_count (values_of (set_value test es new)) + length row.values ≡ value_count (values_of es) + length new.values
count_set test [] row new h = cc
count_set test (e ∷ es) row new h = elim (cases_Bool (test e.0)) [
  | inl t ↦ let at : Some e.1 ≡ Some row = rw t at h in let same : e.1 ≡ row = cc in rw (t, same) (swapped (length new.values) (value_count (values_of es)) (length row.values))
  | inr t ↦ rw t (grouped (length e.1.values) (value_count (values_of (set_value test es new))) (length row.values) (value_count (values_of es)) (length new.values) (count_set test es row new (rw t at h)))
]
  where
    swapped : (a b m : ℕ) → (a + b) + m ≡ (m + b) + a
    swapped a b m = omega arith

    grouped : (a b m n k : ℕ) → b + m ≡ n + k → (a + b) + m ≡ (a + n) + k
    grouped a b m n k h = omega (arith, h)

-- ---- a value more, or less

with_value_id : (id : ℕ) (v : AttrValue) (row : AssignRow) → (with_value id v row).id ≡ row.id
with_value_id id v row = elim (cases_Bool (row.id == id)) [ inl t ↦ rw t refl | inr t ↦ rw t refl ]

without_value_id : (id : ℕ) (v : AttrValue) (row : AssignRow) → (without_value id v row).id ≡ row.id
without_value_id id v row = elim (cases_Bool (row.id == id)) [ inl t ↦ rw t refl | inr t ↦ rw t refl ]

has_id : (id : ℕ) (es : List (ℕ × AssignRow)) (row : AssignRow) → AreById es → lookup (is_at (nat_cmp id)) es ≡ Some row → (row.id == id) ≡ true
has_id id es row by h = eq-eqb row.id id (found_id (λ (r : AssignRow). r.id) id (values_of es) row (sym (found_by_id id es by) ∙ h))

pub set_with : (id : ℕ) (v : AttrValue) (es : List (ℕ × AssignRow)) (row new : AssignRow) → AreById es → lookup (is_at (nat_cmp id)) es ≡ Some row → new ≡ record row { values = row.values ++ v ∷ [] }
    → set_value (is_at (nat_cmp id)) es new ≡ map (changed (with_value id v)) es
set_with id v es row new by h is =
    ap (λ (r : AssignRow). set_value (is_at (nat_cmp id)) es r) (is ∙ sym (at (has_id id es row by h)))
    ∙ set_changed id (with_value id v) (λ r t. rw t refl) es row by h
  where
    at : (row.id == id) ≡ true → with_value id v row ≡ record row { values = row.values ++ v ∷ [] }
    at t = rw t refl

pub none_with : (id : ℕ) (v : AttrValue) (es : List (ℕ × AssignRow)) → AreById es → lookup (is_at (nat_cmp id)) es ≡ None → map (changed (with_value id v)) es ≡ es
none_with id v es by h = none_changed id (with_value id v) (λ r t. rw t refl) es by h

pub set_without : (id : ℕ) (v : AttrValue) (es : List (ℕ × AssignRow)) (row new : AssignRow) → AreById es → lookup (is_at (nat_cmp id)) es ≡ Some row → new ≡ record row { values = without_first v row.values }
    → set_value (is_at (nat_cmp id)) es new ≡ map (changed (without_value id v)) es
set_without id v es row new by h is =
    ap (λ (r : AssignRow). set_value (is_at (nat_cmp id)) es r) (is ∙ sym (at (has_id id es row by h)))
    ∙ set_changed id (without_value id v) (λ r t. rw t refl) es row by h
  where
    at : (row.id == id) ≡ true → without_value id v row ≡ record row { values = without_first v row.values }
    at t = rw t refl

pub none_without : (id : ℕ) (v : AttrValue) (es : List (ℕ × AssignRow)) → AreById es → lookup (is_at (nat_cmp id)) es ≡ None → map (changed (without_value id v)) es ≡ es
none_without id v es by h = none_changed id (without_value id v) (λ r t. rw t refl) es by h

pub with_by_id : (id : ℕ) (v : AttrValue) (es : List (ℕ × AssignRow)) → AreById es → AreById (map (changed (with_value id v)) es)
with_by_id id v es by = changed_by_id (with_value id v) (with_value_id id v) es by

pub without_by_id : (id : ℕ) (v : AttrValue) (es : List (ℕ × AssignRow)) → AreById es → AreById (map (changed (without_value id v)) es)
without_by_id id v es by = changed_by_id (without_value id v) (without_value_id id v) es by
