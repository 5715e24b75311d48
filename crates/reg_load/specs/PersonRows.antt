-- Rows of persons: which are one, which come twice, and which stand.
use Rattle.std.specs.Prelude.{◌==◌, ◌&&◌, ◌||◌, List, [], ◌∷◌, Bool, false}
use Rattle.std.specs.List.{list_any}
use Rattle.reg_terms.specs.declared.kinds.Member.TheVariants.{Person}
use Rattle.reg_terms.specs.declared.rows.MemberRow.{MemberRow}
use Rattle.reg_terms.specs.declared.rows.PersonRow.{PersonRow}
use Rattle.reg_terms.specs.Rows.{has_row}

-- the two rows are one
abbrev pub same_row : PersonRow → PersonRow → Bool
same_row a b = (a.group == b.group) && (a.person == b.person)

-- whether a row is one of some
abbrev pub is_one_of : List PersonRow → PersonRow → Bool
is_one_of rows row = list_any (same_row row) rows

-- whether one of these rows comes twice
abbrev pub comes_twice : List PersonRow → Bool
comes_twice [] = false
comes_twice (row ∷ rows) = is_one_of rows row || comes_twice rows

-- whether a person is an immediate member of a group
abbrev pub stands : List MemberRow → PersonRow → Bool
stands rows row = has_row row.group (Person row.person) rows
