-- Loader jobs: which are found by what, and what is true of those of every history.
use Rattle.std.specs.Prelude.{◌≡◌, ⊤, ℕ, List, [], ◌∷◌, Bool, true, Option, None, map}
use Rattle.std.specs.List.{AllByRecursion, find, list_any}
use Rattle.std.specs.Str.{bytes_eq}
use Rattle.reg_terms.specs.Kinds.{same_object}
use Rattle.reg_terms.specs.declared.kinds.Object.{Object}
use Rattle.reg_terms.specs.declared.kinds.Object.TheVariants.{Folder, Group, Def, Attr, Subject}
use Rattle.reg_terms.specs.declared.rows.JobRow.{JobRow}
use Rattle.reg_facts.specs.Lists.{Lists}
use Rattle.reg_facts.specs.Sound.{Ascend, has_group, is_named}

-- the job of a name
abbrev pub job_by : List ℕ → List JobRow → Option JobRow
job_by name rows = find (λ (row : JobRow). bytes_eq row.name name) rows

-- whether an object is the target of a job
abbrev pub is_target : Object → List JobRow → Bool
is_target o rows = list_any (λ (row : JobRow). same_object row.target o) rows

-- the target of a job stands: it is a group or a folder
abbrev pub TargetStands : Lists → Object → Type 0
TargetStands f (Folder d) = is_named (Folder d) f ≡ true
TargetStands f (Group g) = has_group g f.groups ≡ true
TargetStands f (Def a) = ⊥
TargetStands f (Attr a) = ⊥
TargetStands f (Subject s) = ⊥

-- no two jobs share a name
abbrev pub AreJobsOnce : List JobRow → Type 0
AreJobsOnce [] = ⊤
AreJobsOnce (row ∷ rows) = (job_by row.name rows ≡ None) × AreJobsOnce rows

-- their ids ascend, no two share a name, and their targets stand
pub record AreJobs (f : Lists) : Type 0 where
  pub ascend : Ascend f.made.jobs (map (λ (row : JobRow). row.id) f.jobs)
  pub once : AreJobsOnce f.jobs
  pub stand : AllByRecursion (λ (row : JobRow). TargetStands f row.target) f.jobs
