-- Assignments behind an id: their ids ascend.
use Rattle.std.proofs.Common.{◌≡◌, ℕ, suc, ◌<◌, ◌≤◌, ◌⊎◌, List, [], ◌∷◌, ◌++◌, false, Option, Some, None, filter, map, nat_lt, refl, sym, ap, ◌∙◌, arith, inl, inr}
use Rattle.std.proofs.lemmas.Bool.{eq-eqb, lt-ltb, ne_eqb}
use Rattle.std.proofs.lemmas.Grind.{common_steps}
use Rattle.std.specs.BTreeSet.{insert_key}
use Rattle.std.specs.List.{flat_map}
use Rattle.std.specs.declared.cmp.Ordering.{Ordering}
use Rattle.reg_table.specs.Keyed.{put_into}
use Rattle.reg_terms.specs.declared.rows.AssignRow.{AssignRow}
use Rattle.reg_terms.specs.declared.rows.AttributeRow.{AttributeRow}
use Rattle.reg_facts.specs.Attributes.{assign_row}
use Rattle.reg_facts.specs.Sound.{AscendFrom}
use Rattle.reg_access.specs.Spoken.{spoken, spoken_by}
use Rattle.reg_access.specs.Statements.{statement_cmp}
use Rattle.reg_access.specs.declared.statement.Statement.{Statement}

-- the ids of assignments
abbrev pub ids : List AssignRow → List ℕ
ids rows = map (λ (row : AssignRow). row.id) rows

-- the assignments of later ids
abbrev pub later : ℕ → List AssignRow → List AssignRow
later n rows = filter (λ (row : AssignRow). nat_lt n row.id) rows

-- the assignment that was found
abbrev listed : Option AssignRow → List AssignRow
listed None = []
listed (Some row) = row ∷ []

not_lt : (a b : ℕ) → b ≤ a → nat_lt a b ≡ false
not_lt a b h = grind (arith, common_steps)

least : (floor top : ℕ) (ns : List ℕ) → AscendFrom floor top ns → floor ≤ top
least floor top [] h = h
least floor top (n ∷ ns) h = let rest = least n top ns h.1 in let here = h.0 in omega (arith, rest, here)

-- all are later than what is below them, and none than what isn't
pub all_later : (floor top n : ℕ) (rows : List AssignRow) → AscendFrom floor top (ids rows) → n ≤ floor → later n rows ≡ rows
all_later floor top n [] h low = refl
all_later floor top n (row ∷ rows) h low =
    let here = h.0 in
    rw (lt-ltb n row.id (omega (arith, here, low))) (ap (λ (rest : List AssignRow). row ∷ rest) (all_later row.id top n rows h.1 (omega (arith, here, low))))

pub none_later : (floor top n : ℕ) (rows : List AssignRow) → AscendFrom floor top (ids rows) → top ≤ n → later n rows ≡ []
none_later floor top n [] h high = refl
none_later floor top n (row ∷ rows) h high =
    let low = least row.id top (ids rows) h.1 in
    rw (not_lt n row.id (omega (arith, low, high))) (none_later row.id top n rows h.1 high)

-- nothing is found below them
none_found : (floor top id : ℕ) (rows : List AssignRow) → AscendFrom floor top (ids rows) → id ≤ floor → assign_row id rows ≡ None
none_found floor top id [] h low = refl
none_found floor top id (row ∷ rows) h low =
    let here = h.0 in
    rw (ne_eqb row.id id (λ e. absurd (omega (arith, e, here, low)))) (none_found row.id top id rows h.1 (omega (arith, here, low)))

-- the assignment of the next id, and then those of later ones
next_later : (floor top n : ℕ) (rows : List AssignRow) → AscendFrom floor top (ids rows) → later n rows ≡ listed (assign_row (suc n) rows) ++ later (suc n) rows
next_later floor top n [] h = refl
next_later floor top n (row ∷ rows) h = elim (three row.id n) [
  | inl before ↦ rw (not_lt n row.id before, not_lt (suc n) row.id (omega (arith, before)), ne_eqb row.id (suc n) (λ e. absurd (omega (arith, e, before)))) (next_later row.id top n rows h.1)
  | inr (inl here) ↦
      rw (lt-ltb n row.id (omega (arith, here)), not_lt (suc n) row.id (omega (arith, here)), eq-eqb row.id (suc n) here)
      (ap (λ (rest : List AssignRow). row ∷ rest) (all_later row.id top n rows h.1 (omega (arith, here)) ∙ sym (all_later row.id top (suc n) rows h.1 (omega (arith, here)))))
  | inr (inr behind) ↦
      rw (lt-ltb n row.id (omega (arith, behind)), lt-ltb (suc n) row.id behind, ne_eqb row.id (suc n) (λ e. absurd (omega (arith, e, behind))), none_found row.id top (suc n) rows h.1 (omega (arith, behind)))
      (ap (λ (rest : List AssignRow). row ∷ rest) (all_later row.id top n rows h.1 (omega (arith, behind)) ∙ sym (all_later row.id top (suc n) rows h.1 (omega (arith, behind)))))
]
  where
    three : (m n : ℕ) → (m ≤ n) ⊎ ((m ≡ suc n) ⊎ (suc n < m))
    three m n = grind arith

-- rows put in one after another, in two parts
put_both : {R : Type 0} (order : R → R → Ordering) (found xs ys : List R) → put_into order found (xs ++ ys) ≡ put_into order (put_into order found xs) ys
put_both order found [] ys = refl
put_both order found (x ∷ xs) ys = put_both order (insert_key order found x) xs ys

found_first : (r : AttributeRow) (a : List ℕ) (attributes : List AttributeRow) (o : Option AssignRow) (rows : List AssignRow) → flat_map (spoken r a attributes) (listed o ++ rows) ≡ spoken_by r a attributes o ++ flat_map (spoken r a attributes) rows
found_first r a attributes None rows = refl
found_first r a attributes (Some row) rows = refl

pub rows_next : (r : AttributeRow) (a : List ℕ) (attributes : List AttributeRow) (rows : List AssignRow) (top n m id : ℕ) (found now whole : List Statement)
    → AscendFrom 0 top (ids rows) → m ≡ suc n → id ≡ suc n → now ≡ put_into statement_cmp found (spoken_by r a attributes (assign_row id rows))
    → put_into statement_cmp found (flat_map (spoken r a attributes) (later n rows)) ≡ whole → put_into statement_cmp now (flat_map (spoken r a attributes) (later m rows)) ≡ whole
rows_next r a attributes rows top n m id found now whole h k i e so =
    rw (k, e, i) (sym (put_both statement_cmp found (spoken_by r a attributes (assign_row (suc n) rows)) (flat_map (spoken r a attributes) (later (suc n) rows)))
    ∙ (sym (ap (λ (all : List AssignRow). put_into statement_cmp found (flat_map (spoken r a attributes) all)) (next_later 0 top n rows h)
    ∙ ap (put_into statement_cmp found) (found_first r a attributes (assign_row (suc n) rows) (later (suc n) rows))) ∙ so))
