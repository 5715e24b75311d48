-- What is true of the loader jobs of every history: at the start, and after each event that suits.
use Rattle.std.proofs.Common.{◌≡◌, ◌==◌, ◌++◌, ℕ, List, [], ◌∷◌, Bool, true, false, not, Option, Some, None, IsSome, inl, inr, refl, sym, subst, map, filter, arith}
use Rattle.std.specs.List.{AllByRecursion, find}
use Rattle.std.specs.Str.{bytes_eq}
use Rattle.std.proofs.lemmas.Bool.{cases_Bool, or_parts, eq-eqb}
use Rattle.reg_base.specs.declared.entity.Entity.{Entity}
use Rattle.reg_terms.specs.Kinds.{same_object}
use Rattle.reg_terms.specs.declared.command.Command.TheVariants.{JobDelete}
use Rattle.reg_terms.specs.declared.event.Event.{Event}
use Rattle.reg_terms.specs.declared.event.Event.TheVariants.{FolderMade, FolderRenamed, FolderMoved, FolderGone, SubjectMade, GroupMade, GroupRenamed, GroupMoved, GroupGone, JobMade, JobGone}
use Rattle.reg_terms.specs.declared.kinds.Object.{Object}
use Rattle.reg_terms.specs.declared.kinds.Object.TheVariants.{Folder, Group, Def, Attr, Subject}
use Rattle.reg_terms.specs.declared.rows.JobRow.{JobRow}
use Rattle.reg_facts.specs.Ascending.{JobsAscend}
use Rattle.reg_facts.specs.Assigned.{OwnerStands}
use Rattle.reg_facts.specs.Edits.{folder_renamed, folder_moved, group_renamed, group_moved}
use Rattle.reg_facts.specs.Events.{happened, events_of, on_job}
use Rattle.reg_facts.specs.Jobs.{job_by, is_target, TargetStands, AreJobsOnce, AreJobs}
use Rattle.reg_facts.specs.Lists.{Lists, start}
use Rattle.reg_facts.specs.Rows.{job_row}
use Rattle.reg_facts.specs.Sound.{Ascend, has_group, has_subject}
use Rattle.reg_facts.specs.Suiting.{Suits, AllSuit}
use Rattle.reg_facts.proofs.AssignsStand.{owner_more, owner_less_folder, owner_less_group}
use Rattle.reg_facts.proofs.Edited.{ascend_push, ascend_filter}
use Rattle.reg_facts.proofs.Held.{subject_more, same_subjects, same_groups, text_other}
use Rattle.reg_facts.proofs.Joined.{all_changed, among_more, among_changed}
use Rattle.reg_facts.proofs.NamedFolders.{stands_among, folder_more, folder_changed, same_folders}
use Rattle.reg_facts.proofs.Places.{all_push, all_filter}
use Rattle.reg_facts.proofs.Searched.{ascending}
use Rattle.reg_facts.proofs.Sounding.{group_renamed_id, group_moved_id, folder_renamed_id, folder_moved_id, folder_renamed_up, folder_moved_up}

pub start_jobs : AreJobs start
start_jobs = record { ascend = omega arith; once = tt; stand = tt }

pub jobs_ascend : (f : Lists) → AreJobs f → JobsAscend f.jobs
jobs_ascend f h = ascending 0 f.made.jobs (map (λ (row : JobRow). row.id) f.jobs) h.ascend

-- ---- targets

-- which objects that may own attributes stand among others
abbrev MoreOwners : Lists → Lists → Type 0
MoreOwners f g = (o : Object) → OwnerStands f o → OwnerStands g o

-- a target is an object that may own attributes
target_by : (f g : Lists) (o : Object) → (OwnerStands f o → OwnerStands g o) → TargetStands f o → TargetStands g o
target_by f g (Folder d) owner h = owner h
target_by f g (Group x) owner h = owner h
target_by f g (Def a) owner h = h
target_by f g (Attr a) owner h = h
target_by f g (Subject s) owner h = absurd h

targets_stand : (f g : Lists) (rows : List JobRow) → MoreOwners f g → AllByRecursion (λ (row : JobRow). TargetStands f row.target) rows → AllByRecursion (λ (row : JobRow). TargetStands g row.target) rows
targets_stand f g rows owners h = all_changed (λ (row : JobRow). TargetStands f row.target) (λ (row : JobRow). TargetStands g row.target) (λ row stands. target_by f g row.target (owners row.target) stands) rows h

-- an object less that is no target
targets_left : (f g : Lists) (gone : Object) → ((o : Object) → same_object o gone ≡ false → OwnerStands f o → OwnerStands g o) → (rows : List JobRow) → is_target gone rows ≡ false
    → AllByRecursion (λ (row : JobRow). TargetStands f row.target) rows → AllByRecursion (λ (row : JobRow). TargetStands g row.target) rows
targets_left f g gone owners [] unused h = tt
targets_left f g gone owners (row ∷ rows) unused h =
    let parts = or_parts (same_object row.target gone) (is_target gone rows) unused in
    (target_by f g row.target (owners row.target parts.0) h.0, targets_left f g gone owners rows parts.1 h.1)

jobs_still : (f g : Lists) → MoreOwners f g → g.jobs ≡ f.jobs → g.made.jobs ≡ f.made.jobs → AreJobs f → AreJobs g
jobs_still f g owners jobs made h = record {
  ascend = subst (λ rows. Ascend g.made.jobs (map (λ (row : JobRow). row.id) rows)) (sym jobs) (subst (λ n. Ascend n (map (λ (row : JobRow). row.id) f.jobs)) (sym made) h.ascend);
  once = subst (λ rows. AreJobsOnce rows) (sym jobs) h.once;
  stand = subst (λ rows. AllByRecursion (λ (row : JobRow). TargetStands g row.target) rows) (sym jobs) (targets_stand f g f.jobs owners h.stand);
}

-- what may own attributes may be the same
same_owners : (f g : Lists) → g.folders ≡ f.folders → g.subjects ≡ f.subjects → g.groups ≡ f.groups → MoreOwners f g
same_owners f g folders subjects groups o h = owner_more f g
    (λ d stands. subst (λ fs. stands_among d fs ≡ true) (sym folders) stands)
    (λ s stands. subst (λ ss. has_subject s ss ≡ true) (sym subjects) stands)
    (λ x stands. subst (λ gs. has_group x gs ≡ true) (sym groups) stands)
    o h

-- ---- names

-- what isn't found isn't the head, nor behind it
none_parts : {R : Type 0} (test : R → Bool) (r : R) (rows : List R) → find test (r ∷ rows) ≡ None → (test r ≡ false) × (find test rows ≡ None)
none_parts test r rows h = elim (cases_Bool (test r)) [
  | inl t ↦ absurd (let at : Some r ≡ None = rw t at h in let clash : ⊥ = cc in clash)
  | inr t ↦ (t, rw t at h)
]

none_behind : {R : Type 0} (test : R → Bool) (rows : List R) (row : R) → find test rows ≡ None → test row ≡ false → find test (rows ++ row ∷ []) ≡ None
none_behind test [] row none apart = rw apart refl
none_behind test (r ∷ rows) row none apart =
    let parts = none_parts test r rows none in
    rw parts.0 (none_behind test rows row parts.1 apart)

none_left : {R : Type 0} (test keep : R → Bool) (rows : List R) → find test rows ≡ None → find test (filter keep rows) ≡ None
none_left test keep [] none = refl
none_left test keep (r ∷ rows) none =
    let parts = none_parts test r rows none in
    elim (cases_Bool (keep r)) [
      | inl t ↦ rw (t, parts.0) (none_left test keep rows parts.1)
      | inr t ↦ rw t (none_left test keep rows parts.1)
    ]

once_push : (rows : List JobRow) (row : JobRow) → AreJobsOnce rows → job_by row.name rows ≡ None → AreJobsOnce (rows ++ row ∷ [])
once_push [] row once new = (refl, tt)
once_push (r ∷ rows) row once new =
    let parts = none_parts (λ (x : JobRow). bytes_eq x.name row.name) r rows new in
    (none_behind (λ (x : JobRow). bytes_eq x.name r.name) rows row once.0 (text_other r.name row.name parts.0), once_push rows row once.1 parts.1)

once_filter : (keep : JobRow → Bool) (rows : List JobRow) → AreJobsOnce rows → AreJobsOnce (filter keep rows)
once_filter keep [] once = tt
once_filter keep (r ∷ rows) once = elim (cases_Bool (keep r)) [
  | inl t ↦ rw t (none_left (λ (x : JobRow). bytes_eq x.name r.name) keep rows once.0, once_filter keep rows once.1)
  | inr t ↦ rw t (once_filter keep rows once.1)
]

-- ---- a job more, and a job less

job_made_jobs : (row : JobRow) (f : Lists) → Suits (JobMade row) f → AreJobs f → AreJobs (happened (JobMade row) f)
job_made_jobs row f suits h = record {
  ascend = subst (λ n. Ascend n (map (λ (r : JobRow). r.id) (f.jobs ++ row ∷ []))) (sym suits.0) (ascend_push (λ (r : JobRow). r.id) 0 f.made.jobs f.jobs row h.ascend suits.0);
  once = once_push f.jobs row h.once suits.2;
  stand = targets_stand f (happened (JobMade row) f) (f.jobs ++ row ∷ []) (same_owners f (happened (JobMade row) f) refl refl refl) (all_push (λ (r : JobRow). TargetStands f r.target) f.jobs row h.stand suits.3);
}

job_gone_jobs : (id : ℕ) (f : Lists) → AreJobs f → AreJobs (happened (JobGone id) f)
job_gone_jobs id f h =
    let others = λ (row : JobRow). not (row.id == id) in
    record {
      ascend = ascend_filter (λ (r : JobRow). r.id) others 0 f.made.jobs f.jobs h.ascend;
      once = once_filter others f.jobs h.once;
      stand = targets_stand f (happened (JobGone id) f) (filter others f.jobs) (same_owners f (happened (JobGone id) f) refl refl refl) (all_filter (λ (r : JobRow). TargetStands f r.target) others f.jobs h.stand);
    }

-- the job that is found stands
id_found : (test : JobRow → Bool) (rows : List JobRow) (row : JobRow) → find test rows ≡ Some row → IsSome (job_row row.id rows)
id_found test [] row found = absurd (let clash : ⊥ = cc in clash)
id_found test (x ∷ rows) row found = elim (cases_Bool (test x)) [
  | inl t ↦ (let at : Some x ≡ Some row = rw t at found in let same : x ≡ row = cc in rw (same, eq-eqb row.id row.id refl) refl)
  | inr t ↦ elim (cases_Bool (x.id == row.id)) [
    | inl k ↦ rw k refl
    | inr k ↦ rw k (id_found test rows row (rw t at found))
  ]
]

-- what deleting a job brings suits the facts
pub delete_suits : (at : ℕ) (by : Entity) (job : List ℕ) (f : Lists) → AllSuit (events_of at by (JobDelete job) f) f
unfolding events_of
delete_suits at by job f = go (job_by job f.jobs) refl
  where
    go : (found : Option JobRow) → job_by job f.jobs ≡ found → AllSuit (on_job found) f
    go None is = tt
    go (Some row) is = (id_found (λ (r : JobRow). bytes_eq r.name job) f.jobs row is, tt)

-- ---- an event that suits

pub happened_jobs : (e : Event) (f : Lists) → Suits e f → AreJobs f → AreJobs (happened e f)
happened_jobs (FolderMade row) f suits h =
    let g = happened (FolderMade row) f in
    jobs_still f g (owner_more f g (folder_more f.folders row) (same_subjects f.subjects) (same_groups f.groups)) refl refl h
happened_jobs (FolderRenamed id extension) f suits h =
    let g = happened (FolderRenamed id extension) f in
    jobs_still f g (owner_more f g (folder_changed (folder_renamed id extension) (folder_renamed_id id extension) (folder_renamed_up id extension) f.folders) (same_subjects f.subjects) (same_groups f.groups)) refl refl h
happened_jobs (FolderMoved id to) f suits h =
    let g = happened (FolderMoved id to) f in
    jobs_still f g (owner_more f g (folder_changed (folder_moved id to) (folder_moved_id id to) (folder_moved_up id to) f.folders) (same_subjects f.subjects) (same_groups f.groups)) refl refl h
happened_jobs (FolderGone id) f suits h = record { ascend = h.ascend; once = h.once; stand = targets_left f (happened (FolderGone id) f) (Folder id) (owner_less_folder id f) f.jobs suits.3 h.stand }
happened_jobs (SubjectMade row) f suits h =
    let g = happened (SubjectMade row) f in
    jobs_still f g (owner_more f g (same_folders f.folders) (subject_more f.subjects row) (same_groups f.groups)) refl refl h
happened_jobs (GroupMade row) f suits h =
    let g = happened (GroupMade row) f in
    jobs_still f g (owner_more f g (same_folders f.folders) (same_subjects f.subjects) (among_more f.groups row)) refl refl h
happened_jobs (GroupRenamed id extension) f suits h =
    let g = happened (GroupRenamed id extension) f in
    jobs_still f g (owner_more f g (same_folders f.folders) (same_subjects f.subjects) (among_changed (group_renamed id extension) (group_renamed_id id extension) f.groups)) refl refl h
happened_jobs (GroupMoved id to) f suits h =
    let g = happened (GroupMoved id to) f in
    jobs_still f g (owner_more f g (same_folders f.folders) (same_subjects f.subjects) (among_changed (group_moved id to) (group_moved_id id to) f.groups)) refl refl h
happened_jobs (GroupGone id) f suits h = record { ascend = h.ascend; once = h.once; stand = targets_left f (happened (GroupGone id) f) (Group id) (owner_less_group id f) f.jobs suits.7 h.stand }
happened_jobs (JobMade row) f suits h = job_made_jobs row f suits h
happened_jobs (JobGone id) f suits h = job_gone_jobs id f h
happened_jobs e f suits h = jobs_still f (happened e f) (same_owners f (happened e f) refl refl refl) refl refl h
