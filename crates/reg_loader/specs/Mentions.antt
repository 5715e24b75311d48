-- What a record of a table names: a group, and a person.
use Rattle.std.specs.Prelude.{ℕ, Bool, false, ◌==◌, List, [], ◌∷◌, ◌++◌, Option, Some, None}
use Rattle.std.specs.Prelude.{unwrap_or, if◌then◌else◌}
use Rattle.reg_base.specs.Names.{is_name, is_person}
use Rattle.reg_terms.specs.declared.kinds.Object.{Object}
use Rattle.reg_terms.specs.declared.kinds.Object.TheVariants.{Folder, Group, Def, Attr, Subject}
use Rattle.reg_terms.specs.declared.rows.JobRow.{JobRow}
use Rattle.reg_terms.specs.Kinds.{as_group}
use Rattle.reg_facts.specs.Edits.{subject_id}
use Rattle.reg_terms.specs.Rows.{is_composite}
use Rattle.reg_facts.specs.Lists.{Lists}
use Rattle.reg_facts.specs.Naming.{home_id, resolve}
use Rattle.reg_loader.specs.declared.mentions.Mention.{Mention}
use Rattle.reg_loader.specs.declared.mentions.Mention.TheVariants.{Bad, Standing, New}
use Rattle.reg_loader.specs.declared.tables.TableRow.{TableRow}

-- the text under GROUP_NAME; empty where there is none
abbrev pub group_text : TableRow → List ℕ
group_text row = unwrap_or row.group []

-- the text of a person: the record's source, or else the job's, a slash, and the id
abbrev pub person_text : JobRow → TableRow → List ℕ
person_text job row = unwrap_or row.source job.source ++ 47 ∷ row.id

-- the person that a record names, where that is the text of one that stands
unfoldable pub person_in : JobRow → TableRow → Lists → Option ℕ
person_in job row f =
    if is_person (person_text job row) then subject_id (person_text job row) f.subjects else None

-- a group of a list job, if it is one
abbrev pub listed_group : Option ℕ → Lists → Mention
listed_group None f = Bad
listed_group (Some g) f = if is_composite g f.composites then Bad else Standing g

-- what a name in a list job's folder means, by the object that has it
abbrev pub meant_by : Option Object → Lists → Mention
meant_by None f = New
meant_by (Some o) f = listed_group (as_group (Some o)) f

-- whether a folder that was found is this one
abbrev pub is_home : ℕ → Option ℕ → Bool
is_home d None = false
is_home d (Some home) = home == d

-- what a text means to a list job: a bad group where it is no name, or none directly in the job's
-- folder
abbrev pub meant_in : ℕ → List ℕ → Lists → Mention
meant_in d text f =
    if is_name text then (if is_home d (home_id text f) then meant_by (resolve text f) f else Bad)
    else Bad

-- what a text means to a job with this target: a simple job has its own group alone
unfoldable pub mention : Object → List ℕ → Lists → Mention
mention (Group g) text f = Standing g
mention (Folder d) text f = meant_in d text f
mention (Def a) text f = Bad
mention (Attr a) text f = Bad
mention (Subject s) text f = Bad
