-- Which loads of a job suit the facts: tests and the faults that they find, in order. All is judged
-- on the facts before the load.
use Rattle.std.specs.Prelude.{ℕ, ◌+◌, ◌==◌, ◌&&◌, ◌||◌, not, List, [], ◌∷◌, Bool, false, Option}
use Rattle.std.specs.Prelude.{None, Some, is_some, unwrap_or, length, map, nat_lt, if◌then◌else◌}
use Rattle.std.specs.List.{list_all, list_any}
use Rattle.std.specs.Option.{option_or}
use Rattle.std.specs.Str.{bytes_eq}
use Rattle.reg_base.specs.declared.entity.Entity.{Entity}
use Rattle.reg_terms.specs.Kinds.{same_object}
use Rattle.reg_terms.specs.Limits.{max_grants, max_groups, max_records, max_rows}
use Rattle.reg_terms.specs.declared.kinds.Object.{Object}
use Rattle.reg_terms.specs.declared.kinds.Object.TheVariants.{Folder, Group, Def, Attr, Subject}
use Rattle.reg_terms.specs.declared.rows.GroupRow.{GroupRow}
use Rattle.reg_terms.specs.declared.rows.JobRow.{JobRow}
use Rattle.reg_terms.specs.declared.rows.MemberRow.{MemberRow}
use Rattle.reg_terms.specs.declared.lists.LoadRow.{LoadRow}
use Rattle.reg_terms.specs.declared.rows.PersonRow.{PersonRow}
use Rattle.reg_facts.specs.Children.{is_among}
use Rattle.reg_facts.specs.Edits.{subject_id, the_id}
use Rattle.reg_terms.specs.Rows.{is_composite}
use Rattle.reg_facts.specs.Lists.{Lists}
use Rattle.reg_facts.specs.Naming.{group_id, home_id, resolve}
use Rattle.reg_facts.specs.Rows.{group_row}
use Rattle.reg_facts.specs.Events.{with_groups}
use Rattle.reg_load.specs.PersonRows.{comes_twice, stands}
use Rattle.reg_load.specs.declared.faults.LoadFault.{LoadFault}
use Rattle.reg_load.specs.declared.faults.LoadFault.TheVariants.{NotFound, WrongKind, Taken}
use Rattle.reg_load.specs.declared.faults.LoadFault.TheVariants.{Already, NoSuch, IsComposite}
use Rattle.reg_load.specs.declared.faults.LoadFault.TheVariants.{FullGroup, FullRow, FullGrant}
use Rattle.reg_load.specs.declared.faults.LoadFault.TheVariants.{FullRecord}

-- ---- the groups of a job

-- whether a group is there and stands directly in a folder
abbrev pub stands_in : ℕ → Option GroupRow → Bool
stands_in d None = false
stands_in d (Some row) = row.folder == d

-- whether a group is one of a target's: it itself, or a group directly in the folder that is no
-- composite
abbrev pub is_of_target : Object → ℕ → Lists → Bool
is_of_target (Folder d) g f =
    stands_in d (group_row g f.groups) && not (is_composite g f.composites)
is_of_target (Group t) g f = g == t
is_of_target (Def a) g f = false
is_of_target (Attr a) g f = false
is_of_target (Subject s) g f = false

-- a group, if it is there and is one of a target's
abbrev pub of_target : Object → Lists → Option ℕ → Option ℕ
of_target target f None = None
of_target target f (Some g) = if is_of_target target g f then Some g else None

-- a folder is the target of a job
abbrev pub is_home : Object → Option ℕ → Bool
is_home target None = false
is_home target (Some d) = same_object target (Folder d)

-- the one group of a job is a composite
abbrev pub is_composite_target : Object → Lists → Bool
is_composite_target (Folder d) f = false
is_composite_target (Group g) f = is_composite g f.composites
is_composite_target (Def a) f = false
is_composite_target (Attr a) f = false
is_composite_target (Subject s) f = false

-- ---- what rows name

-- the number that the group of a created name will have: they are numbered one after another
abbrev pub created_id : List (List ℕ) → ℕ → List ℕ → Option ℕ
created_id [] next name = None
created_id (first ∷ more) next name =
    if bytes_eq first name then Some next else created_id more (next + 1) name

-- the same for the facts that the groups are created in, and where none is created
abbrev pub created_number : List (List ℕ) → Lists → List ℕ → Option ℕ
created_number created f name = created_id created (f.made.groups + 1) name

abbrev pub no_number : List ℕ → Option ℕ
no_number name = None

-- the group of a name, if it is one of the job's or has the number of a created one
abbrev pub load_group : JobRow → (List ℕ → Option ℕ) → Lists → List ℕ → Option ℕ
load_group job number f name = option_or (of_target job.target f (group_id name f)) (number name)

-- the row that a row of a load names
abbrev pub load_row : JobRow → (List ℕ → Option ℕ) → Lists → LoadRow → PersonRow
load_row job number f row = record {
  group = the_id (load_group job number f row.group);
  person = the_id (subject_id row.person f.subjects);
}

-- the name of the group, or else the text of the person, that isn't found
abbrev pub missing_text : Option ℕ → Option ℕ → LoadRow → Option (List ℕ)
missing_text None person row = Some row.group
missing_text (Some g) None row = Some row.person
missing_text (Some g) (Some s) row = None

-- the first text in rows of a load that isn't found
abbrev pub first_missing : JobRow → (List ℕ → Option ℕ) → Lists → List LoadRow → Option (List ℕ)
first_missing job number f [] = None
first_missing job number f (row ∷ rows) =
    option_or (missing_text (load_group job number f row.group)
    (subject_id row.person f.subjects) row) (first_missing job number f rows)

-- the rows that are added, and those that are removed
abbrev pub added_rows : JobRow → List (List ℕ) → Lists → List LoadRow → List PersonRow
added_rows job created f added = map (load_row job (created_number created f) f) added

abbrev pub removed_rows : JobRow → Lists → List LoadRow → List PersonRow
removed_rows job f removed = map (load_row job no_number f) removed

-- the first of some names that stands, or that is one of those before
abbrev pub first_taken : List (List ℕ) → Lists → List (List ℕ) → Option (List ℕ)
first_taken before f [] = None
first_taken before f (name ∷ names) =
    if is_some (resolve name f) || is_among name before then Some name
    else first_taken (name ∷ before) f names

-- ---- tests

-- a test, and the fault where it holds
abbrev pub LoadCheck : Type 0
LoadCheck = Bool × LoadFault

-- the first fault whose test holds
abbrev pub first_fault : List LoadCheck → Option LoadFault
first_fault [] = None
first_fault (check ∷ more) = if check.0 then Some check.1 else first_fault more

-- a created name isn't that of a group directly in the job's folder
abbrev pub is_elsewhere : JobRow → Lists → List (List ℕ) → Bool
is_elsewhere job f created = not (list_all (λ name. is_home job.target (home_id name f)) created)

-- one of these rows stands, or comes twice
abbrev pub already : List MemberRow → List PersonRow → Bool
already standing rows = list_any (stands standing) rows || comes_twice rows

-- one of these rows doesn't stand, or comes twice
abbrev pub no_such : List MemberRow → List PersonRow → Bool
no_such standing rows = not (list_all (stands standing) rows) || comes_twice rows

-- what may refuse a load of a job before the rules that forbid members, in order
unfoldable pub load_checks : JobRow → List (List ℕ) → List LoadRow → List LoadRow → Lists
    → List LoadCheck
load_checks job created removed added f =
    let missing = first_missing job (created_number created f) f added in
    let taken = first_taken [] f created in
    (is_some missing, NotFound (unwrap_or missing []))
    ∷ (is_elsewhere job f created, WrongKind)
    ∷ (is_some taken, Taken (unwrap_or taken []))
    ∷ (already f.rows (added_rows job created f added), Already)
    ∷ (
      is_some (first_missing job no_number f removed)
          || no_such f.rows (removed_rows job f removed),
      NoSuch,
    )
    ∷ (is_composite_target job.target f, IsComposite)
    ∷ []

-- and what may refuse it behind them, in order
unfoldable pub room_checks : Entity → List (List ℕ) → List LoadRow → List LoadRow → Lists
    → List LoadCheck
room_checks by created removed added f =
    (nat_lt max_groups (f.made.groups + length created), FullGroup)
    ∷ (nat_lt (max_rows + length removed) (length f.rows + length added), FullRow)
    ∷ (nat_lt max_grants (length (with_groups by created f).grants), FullGrant)
    ∷ (nat_lt max_records (length added), FullRecord)
    ∷ []
