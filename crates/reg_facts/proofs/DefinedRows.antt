-- Attributes by the keys of their index, and in words.
use Rattle.std.proofs.Common.{◌≡◌, ◌==◌, ◌++◌, ◌∙◌, ℕ, List, [], ◌∷◌, Bool, true, false, not, Some, refl, ap, map, filter}
use Rattle.std.specs.Prelude.{◌&&◌}
use Rattle.std.specs.List.{list_any}
use Rattle.std.proofs.lemmas.Bool.{eq-eqb}
use Rattle.reg_terms.specs.declared.rows.AttributeRow.{AttributeRow}
use Rattle.reg_facts.specs.Ascending.{AttributesAscend}
use Rattle.reg_facts.specs.Attributes.{attribute_row}
use Rattle.reg_facts.specs.Defining.{defined_by}
use Rattle.reg_facts.specs.declared.attribute_rows.Defined.{Defined}
use Rattle.reg_facts.proofs.RowsById.{any_seen, filter_seen, found_id, none_like, taken}

-- an attribute's key in the index is another's
abbrev pub is_defined : AttributeRow → Defined → Bool
is_defined row other = (other.definition == row.definition) && (other.attribute == row.id)

-- where the id differs, so does the key
apart : (row : AttributeRow) (n : ℕ) → row.id ≡ n → (other : AttributeRow) → (other.id == n) ≡ false → is_defined row (defined_by other) ≡ false
apart row n is other h = rw is (second (other.definition == row.definition) (other.id == n) h)
  where
    second : (a b : Bool) → b ≡ false → (a && b) ≡ false
    second true b e = e
    second false b e = refl

pub none_defined : (rows : List AttributeRow) (row : AttributeRow) → AttributesAscend (rows ++ row ∷ []) → list_any (is_defined row) (map defined_by rows) ≡ false
none_defined rows row up =
    any_seen defined_by (is_defined row) rows
    ∙ none_like (λ (r : AttributeRow). r.id) (λ (r : AttributeRow). is_defined row (defined_by r)) row (apart row row.id refl) rows up

pub taken_by_key : (rows : List AttributeRow) (row : AttributeRow) (id : ℕ) → AttributesAscend rows → attribute_row id rows ≡ Some row → filter (λ (other : Defined). not (is_defined row other)) (map defined_by rows) ≡ map defined_by (filter (λ (other : AttributeRow). not (other.id == id)) rows)
taken_by_key rows row id up found =
    let same : row.id ≡ id = found_id (λ (r : AttributeRow). r.id) id rows row found in
    filter_seen defined_by (λ (other : Defined). not (is_defined row other)) rows
    ∙ ap (λ (xs : List AttributeRow). map defined_by xs) (taken (λ (r : AttributeRow). r.id) (λ (r : AttributeRow). is_defined row (defined_by r)) id row (apart row id same) here rows up found)
  where
    here : is_defined row (defined_by row) ≡ true
    here = rw (eq-eqb row.definition row.definition refl, eq-eqb row.id row.id refl) refl
