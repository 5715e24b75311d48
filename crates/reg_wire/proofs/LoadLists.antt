-- The lists of loads are read exactly as they are written, and how long their items are.
use Rattle.std.proofs.Common.{◌≡◌, ℕ, ◌+◌, ◌*◌, ◌≤◌, true, List, [], ◌∷◌, ◌++◌, length, Some, refl, sym, ap, subst, ◌∙◌, append_assoc, arith, lit≤}
use Rattle.std.specs.List.{flat_map, list_all}
use Rattle.std.proofs.lemmas.Bool.{and_from, and_parts}
use Rattle.std.proofs.lemmas.List.{length-append}
use Rattle.std.proofs.lemmas.Option.{same_Some}
use Rattle.reg_base.specs.Names.{is_name, is_person}
use Rattle.reg_terms.specs.declared.lists.LoadRow.{LoadRow}
use Rattle.reg_ops.specs.Forms.{are_names, are_load_rows, is_load_row}
use Rattle.reg_ops.specs.Parts.{◌>>=◌}
use Rattle.reg_wire.specs.Fields.{text_bytes, list_bytes, load_row_bytes}
use Rattle.reg_wire.specs.Reading.{name_at, person_at, names_at, load_row_at, load_rows_at}
use Rattle.reg_wire.proofs.Texts.{name_short, person_brief}
use Rattle.reg_wire.proofs.Exact.{IsExact, bind_some, tested_exact}
use Rattle.reg_wire.proofs.Items.{list_exact}

-- ---- names

name_exact : IsExact text_bytes is_name name_at
name_exact = tested_exact is_name (λ text h. omega (arith, name_short text h))

pub names_exact : IsExact (list_bytes text_bytes) are_names names_at
names_exact = list_exact text_bytes is_name name_at name_exact

-- ---- rows

person_exact : IsExact text_bytes is_person person_at
person_exact = tested_exact is_person (λ text h. omega (arith, person_brief text h))

abbrev IsRowRead : List ℕ → LoadRow × List ℕ → Type 0
IsRowRead bytes x = (bytes ≡ load_row_bytes x.0 ++ x.1) × (is_load_row x.0 ≡ true)

row_takes : (bytes : List ℕ) (x : LoadRow × List ℕ) → load_row_at bytes ≡ Some x → IsRowRead bytes x
unfolding load_row_at
row_takes bytes x e =
    let a = bind_some (name_at bytes) (λ group. person_at group.1 >>= λ person. Some (record { group = group.0; person = person.0 }, person.1)) x e in
    let b = bind_some (person_at a.0.1) (λ person. Some (record { group = a.0.0; person = person.0 }, person.1)) x a.2 in
    let t = name_exact.takes bytes a.0 a.1 in
    let u = person_exact.takes a.0.1 b.0 b.1 in
    let row : LoadRow = record { group = a.0.0; person = b.0.0 } in
    let front = text_bytes a.0.0 in
    let parts : bytes ≡ load_row_bytes row ++ b.0.1 = t.0 ∙ ap (λ (l : List ℕ). front ++ l) u.0 ∙ sym (append_assoc front (text_bytes b.0.0) b.0.1) in
    subst (IsRowRead bytes) (same_Some (row, b.0.1) x b.2) (parts, and_from _ _ t.1 u.1)

row_again : (row : LoadRow) (rest : List ℕ) → is_load_row row ≡ true → load_row_at (load_row_bytes row ++ rest) ≡ Some (row, rest)
unfolding load_row_at
row_again row rest good =
    let both = and_parts (is_name row.group) (is_person row.person) good in
    ap load_row_at (append_assoc (text_bytes row.group) (text_bytes row.person) rest) ∙ rw (name_exact.again row.group (text_bytes row.person ++ rest) both.0, person_exact.again row.person rest both.1) refl

row_exact : IsExact load_row_bytes is_load_row load_row_at
row_exact = record { takes = row_takes; again = row_again }

pub load_rows_exact : IsExact (list_bytes load_row_bytes) are_load_rows load_rows_at
load_rows_exact = list_exact load_row_bytes is_load_row load_row_at row_exact

-- ---- how long they are

names_length : (names : List (List ℕ)) → list_all is_name names ≡ true → length (flat_map text_bytes names) ≤ 1101 * length names
names_length [] h = lit≤ tt
names_length (name ∷ names) h =
    let both = and_parts (is_name name) (list_all is_name names) h in
    omega (arith, name_short name both.0, names_length names both.1, length-append (text_bytes name) (flat_map text_bytes names))

rows_length : (rows : List LoadRow) → list_all is_load_row rows ≡ true → length (flat_map load_row_bytes rows) ≤ 1101 * length rows
rows_length [] h = lit≤ tt
rows_length (row ∷ rows) h =
    let both = and_parts (is_load_row row) (list_all is_load_row rows) h in
    let texts = and_parts (is_name row.group) (is_person row.person) both.0 in
    omega (arith, name_short row.group texts.0, person_brief row.person texts.1, rows_length rows both.1, length-append (load_row_bytes row) (flat_map load_row_bytes rows), length-append (text_bytes row.group) (text_bytes row.person))

-- each name and each row takes at most 1,101 bytes
pub names_short : (names : List (List ℕ)) → are_names names ≡ true → length (list_bytes text_bytes names) ≤ 4 + 1101 * length names
names_short names h = omega (arith, names_length names (and_parts _ _ h).0)

pub load_rows_short : (rows : List LoadRow) → are_load_rows rows ≡ true → length (list_bytes load_row_bytes rows) ≤ 4 + 1101 * length rows
load_rows_short rows h = omega (arith, rows_length rows (and_parts _ _ h).0)
