-- A load that nothing refuses lists few names and rows, and its fields have their form.
use Rattle.std.proofs.Common.{◌≡◌, ◌≤◌, ◌<◌, ◌+◌, ◌^◌, ◌∙◌, ℕ, List, [], ◌∷◌, Bool, true, false, Option, None, Some, inl, inr, refl, sym, subst, length, map, arith, bytes_eq}
use Rattle.std.specs.Prelude.{◌&&◌, ◌||◌, nat_lt, not, is_some, if◌then◌else◌}
use Rattle.std.specs.List.{AllByRecursion, list_all}
use Rattle.std.proofs.lemmas.Bool.{cases_Bool, and_from, lt-ltb, not-false, or_parts}
use Rattle.std.proofs.lemmas.Bool.Decides.{nat_tests}
use Rattle.std.proofs.lemmas.Grind.{common_steps}
use Rattle.std.proofs.lemmas.List.{length-map}
use Rattle.std.proofs.lemmas.Slice.Eq.{bytes_eq-Decides}
use Rattle.reg_base.specs.Names.{is_extension, is_name, is_person}
use Rattle.reg_base.specs.declared.entity.Entity.{Entity}
use Rattle.reg_ops.specs.Forms.{are_few, are_load_rows, are_names, has_form, is_load_row}
use Rattle.reg_terms.specs.Limits.{max_groups, max_records, max_rows}
use Rattle.reg_terms.specs.declared.command.Command.TheVariants.{Load}
use Rattle.reg_terms.specs.declared.command.Stamped.{Stamped}
use Rattle.reg_terms.specs.declared.lists.LoadRow.{LoadRow}
use Rattle.reg_terms.specs.declared.rows.JobRow.{JobRow}
use Rattle.reg_terms.specs.declared.rows.SubjectRow.{SubjectRow}
use Rattle.reg_facts.specs.Edits.{subject_id, the_id}
use Rattle.reg_facts.specs.Jobs.{job_by}
use Rattle.reg_facts.specs.Lists.{Lists}
use Rattle.reg_load.specs.LoadChecks.{LoadCheck, created_number, first_fault, load_row, no_number, no_such, removed_rows, room_checks}
use Rattle.reg_load.specs.Loading.{AreNames, CanLoad}
use Rattle.reg_load.specs.PersonRows.{comes_twice, stands}
use Rattle.reg_load.proofs.LoadSuits.{AreFound, checks_told, none_missing, room_told}
use Rattle.reg_load.proofs.RowsGoCome.{gone_length}
use Rattle.reg_machine.specs.Checks.{all_load_checks, checks}
use Rattle.reg_machine.specs.Formed.{AreFormed}
use Rattle.reg_machine.specs.History.{facts}
use Rattle.reg_machine.specs.Loads.{AreGroupsNamed, ListsFew}
use Rattle.reg_machine.specs.Refusals.{refusal}
use Rattle.reg_machine.proofs.Allowed.{all_fail, can_load, checks_none}

-- ---- the fields

names_form : (names : List (List ℕ)) → AreNames names → list_all is_name names ≡ true
names_form [] h = refl
names_form (name ∷ names) h = and_from (is_name name) (list_all is_name names) h.0 (names_form names h.1)

-- a text by which a person is found is a person's
found_person : (text : List ℕ) (s : ℕ) (rows : List SubjectRow) → AllByRecursion (λ (row : SubjectRow). is_person row.text ≡ true) rows → subject_id text rows ≡ Some s → is_person text ≡ true
found_person text s [] all h = absurd (let clash : ⊥ = cc in clash)
found_person text s (row ∷ rows) all h = elim (cases_Bool (bytes_eq row.text text)) [
  | inl y ↦ subst (λ t. is_person t ≡ true) ((bytes_eq-Decides row.text text).0 y) all.0
  | inr n ↦ found_person text s rows all.1 (rw n at h)
]

rows_form : (job : JobRow) (number : List ℕ → Option ℕ) (f : Lists) (rows : List LoadRow) → AreFormed f → AreFound job number f rows → AreGroupsNamed rows → list_all is_load_row rows ≡ true
rows_form job number f [] h found named = refl
rows_form job number f (row ∷ rows) h found named =
    let person = found_person row.person (the_id (subject_id row.person f.subjects)) f.subjects h.persons found.0.person in
    and_from (is_load_row row) (list_all is_load_row rows) (and_from (is_name row.group) (is_person row.person) named.0 person) (rows_form job number f rows h found.1 named.1)

few : (n limit : ℕ) → n ≤ limit → limit < 2 ^ 32 → are_few n ≡ true
few n limit h small = lt-ltb n (2 ^ 32) (omega (arith, h, small))

-- ---- how many there are

within : (limit count : ℕ) → nat_lt limit count ≡ false → count ≤ limit
within limit count h = grind (arith, nat_tests, common_steps)

abbrev NoneOf : List LoadCheck → Type 0
NoneOf [] = Unit {0}
NoneOf (check ∷ more) = (check.0 ≡ false) × NoneOf more

none_of : (checks : List LoadCheck) → first_fault checks ≡ None → NoneOf checks
none_of [] h = tt
none_of (check ∷ more) h = elim check.0 as (λ b. (if b then Some check.1 else first_fault more) ≡ None → (b ≡ false) × NoneOf more) [
  | true ↦ λ e. absurd (let clash : ⊥ = cc in clash)
  | false ↦ λ e. (refl, none_of more e)
] h

few_added : (by : Entity) (created : List (List ℕ)) (removed added : List LoadRow) (f : Lists) → first_fault (room_checks by created removed added f) ≡ None → length added ≤ max_records
unfolding room_checks
few_added by created removed added f h = within max_records (length added) (none_of (room_checks by created removed added f) h).1.1.1.0

few_removed : (job : JobRow) (removed : List LoadRow) (f : Lists) → no_such f.rows (removed_rows job f removed) ≡ false → length removed ≤ length f.rows
few_removed job removed f h =
    let parts = or_parts (not (list_all (stands f.rows) (removed_rows job f removed))) (comes_twice (removed_rows job f removed)) h in
    let less = gone_length (removed_rows job f removed) f.rows (all_of (list_all (stands f.rows) (removed_rows job f removed)) parts.0) parts.1 in
    let same = length-map removed (load_row job no_number f) in
    omega (arith, less, same)
  where
    all_of : (b : Bool) → not b ≡ false → b ≡ true
    all_of true e = refl
    all_of false e = absurd (let clash : ⊥ = cc in clash)

-- ---- both

few_listed : (by : Entity) (job : JobRow) (created : List (List ℕ)) (removed added : List LoadRow) (f : Lists) → AreFormed f → CanLoad by job created removed added f → ListsFew created removed added
few_listed by job created removed added f h can =
    let made = (room_told by created removed added f can.room).groups in
    let less = few_removed job removed f (checks_told job created removed added f can.checks).old in
    let rows = h.few in
    (omega (arith, made), omega (arith, less, rows), few_added by created removed added f can.room)

fields_form : (by : Entity) (name : List ℕ) (job : JobRow) (created : List (List ℕ)) (removed added : List LoadRow) (f : Lists) → is_extension name ≡ true → AreNames created → AreGroupsNamed removed → AreGroupsNamed added → AreFormed f → CanLoad by job created removed added f
    → has_form (Load name created removed added) ≡ true
unfolding has_form
fields_form by name job created removed added f extension names going coming h can =
    let told = checks_told job created removed added f can.checks in
    let listed = few_listed by job created removed added f h can in
    let c : are_names created ≡ true = and_from (list_all is_name created) (are_few (length created)) (names_form created names) (few (length created) max_groups listed.0 (omega arith)) in
    let r : are_load_rows removed ≡ true = and_from (list_all is_load_row removed) (are_few (length removed)) (rows_form job no_number f removed h (none_missing job no_number f removed told.known) going) (few (length removed) max_rows listed.1 (omega arith)) in
    let a : are_load_rows added ≡ true = and_from (list_all is_load_row added) (are_few (length added)) (rows_form job (created_number created f) f added h (none_missing job (created_number created f) f added told.found) coming) (few (length added) max_records listed.2 (omega arith)) in
    and_from (is_extension name) (are_names created && (are_load_rows removed && (are_load_rows added && true))) extension
    (and_from (are_names created) (are_load_rows removed && (are_load_rows added && true)) c
    (and_from (are_load_rows removed) (are_load_rows added && true) r (and_from (are_load_rows added) true a refl)))

-- the job of a load that isn't refused stands
module _ (history : List Stamped) (at : ℕ) (by : Entity) (job : List ℕ) (created : List (List ℕ)) (removed added : List LoadRow) (h : AreFormed (facts history at)) (none : refusal history at by (Load job created removed added) ≡ None) where
  can : (row : JobRow) × (job_by job (facts history at).jobs ≡ Some row) × CanLoad by row created removed added (facts history at)
  unfolding checks
  can =
      let a = all_fail (all_load_checks history at (facts history at) by job created removed added) (checks_none history at by (Load job created removed added) none) in
      can_load history at by (facts history at) (job_by job (facts history at).jobs) created removed added a.0 a.1

  pub loads_few : ListsFew created removed added
  loads_few = few_listed by can.0 created removed added (facts history at) h can.2

  pub load_form : is_extension job ≡ true → AreNames created → AreGroupsNamed removed → AreGroupsNamed added → has_form (Load job created removed added) ≡ true
  load_form extension names going coming = fields_form by job can.0 created removed added (facts history at) extension names going coming h can.2
