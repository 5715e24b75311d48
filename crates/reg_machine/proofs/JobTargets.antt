-- The target of a loader job that stands stands.
use Rattle.std.proofs.Common.{◌≡◌, ℕ, List, [], ◌∷◌, Some, inl, inr, bytes_eq}
use Rattle.std.specs.List.{AllByRecursion}
use Rattle.std.proofs.lemmas.Bool.{cases_Bool}
use Rattle.reg_terms.specs.declared.kinds.Object.{Object}
use Rattle.reg_terms.specs.declared.kinds.Object.TheVariants.{Folder, Group, Def, Attr, Subject}
use Rattle.reg_terms.specs.declared.rows.JobRow.{JobRow}
use Rattle.reg_facts.specs.Jobs.{AreJobs, TargetStands, job_by}
use Rattle.reg_facts.specs.Lists.{Lists}
use Rattle.reg_loader.specs.Plan.{GroupStands}

found_stands : (f : Lists) (name : List ℕ) (rows : List JobRow) (job : JobRow) → AllByRecursion (λ (row : JobRow). TargetStands f row.target) rows → job_by name rows ≡ Some job → TargetStands f job.target
found_stands f name [] job all h = absurd (let clash : ⊥ = cc in clash)
found_stands f name (row ∷ rows) job all h = elim (cases_Bool (bytes_eq row.name name)) [
  | inl y ↦ let same : row ≡ job = is_it (rw y at h) in rw same at all.0
  | inr n ↦ found_stands f name rows job all.1 (rw n at h)
]
  where
    is_it : Some row ≡ Some job → row ≡ job
    is_it e = cc

group_of : (f : Lists) (o : Object) → TargetStands f o → GroupStands o f
group_of f (Folder d) h = tt
group_of f (Group g) h = h
group_of f (Def a) h = tt
group_of f (Attr a) h = tt
group_of f (Subject s) h = tt

pub target_stands : (f : Lists) (name : List ℕ) (job : JobRow) → AreJobs f → job_by name f.jobs ≡ Some job → GroupStands job.target f
target_stands f name job h found = group_of f job.target (found_stands f name f.jobs job h.stand found)
