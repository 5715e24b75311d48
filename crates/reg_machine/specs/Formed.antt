-- What the facts of every history keep of forms and numbers: subjects have texts of persons, and no
-- more memberships stand than may.
use Rattle.std.specs.Prelude.{◌≡◌, ◌≤◌, List, true, length}
use Rattle.std.specs.List.{AllByRecursion}
use Rattle.reg_base.specs.Names.{is_person}
use Rattle.reg_terms.specs.Limits.{max_rows}
use Rattle.reg_terms.specs.declared.rows.MemberRow.{MemberRow}
use Rattle.reg_terms.specs.declared.rows.SubjectRow.{SubjectRow}
use Rattle.reg_facts.specs.Lists.{Lists}

-- so do subjects and memberships
pub record IsFormed (subjects : List SubjectRow) (rows : List MemberRow) : Type 0 where
  pub persons : AllByRecursion (λ (row : SubjectRow). is_person row.text ≡ true) subjects
  pub few : length rows ≤ max_rows

abbrev pub AreFormed : Lists → Type 0
AreFormed f = IsFormed f.subjects f.rows
