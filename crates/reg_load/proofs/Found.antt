-- What the code's loops find, step by step, and that numbers of groups are small.
use Rattle.std.proofs.Common.{◌≡◌, ◌≤◌, ◌<◌, ◌==◌, ◌+◌, ◌++◌, ◌||◌, ◌^◌, ◌∙◌, ℕ, List, [], ◌∷◌, Bool, true, false, Option, Some, None, inl, inr, refl, sym, ap, subst, length, map, append_assoc, arith, eqb-true}
use Rattle.std.specs.Prelude.{◌*◌, is_some, nat_lt, slice_get, if◌then◌else◌}
use Rattle.std.specs.List.{AllByRecursion, list_any}
use Rattle.std.specs.Option.{option_or}
use Rattle.std.specs.Str.{bytes_eq}
use Rattle.std.proofs.lemmas.Bool.{both_ways, false_from_ne_true, or_cases, and_parts}
use Rattle.reg_base.specs.declared.entity.Entity.{Entity}
use Rattle.reg_terms.specs.Kinds.{same_member}
use Rattle.reg_terms.specs.Limits.{max_grants, max_groups, max_records, max_rows}
use Rattle.reg_terms.specs.declared.event.Event.{Event}
use Rattle.reg_terms.specs.declared.kinds.Member.{Member}
use Rattle.reg_terms.specs.declared.kinds.Member.TheVariants.{Person}
use Rattle.reg_terms.specs.declared.rows.GroupRow.{GroupRow}
use Rattle.reg_terms.specs.declared.rows.JobRow.{JobRow}
use Rattle.reg_terms.specs.declared.rows.MemberRow.{MemberRow}
use Rattle.reg_terms.specs.declared.lists.LoadRow.{LoadRow}
use Rattle.reg_terms.specs.declared.rows.PersonRow.{PersonRow}
use Rattle.reg_facts.specs.Children.{is_among}
use Rattle.reg_facts.specs.Edits.{subject_id, the_id}
use Rattle.reg_terms.specs.Rows.{has_row, is_row}
use Rattle.reg_facts.specs.Events.{load_events, new_groups_grants, rows_events, with_groups}
use Rattle.reg_facts.specs.Lists.{Lists}
use Rattle.reg_facts.specs.Naming.{group_id, resolve}
use Rattle.reg_facts.specs.Sound.{has_group, IsSound, RowStands}
use Rattle.reg_facts.proofs.Noted.{as_group_is, group_stands}
use Rattle.reg_load.specs.Finding.{first_grants, number_of, numbered_groups}
use Rattle.reg_load.specs.LoadChecks.{added_rows, created_id, created_number, first_fault, first_missing, first_taken, is_elsewhere, load_checks, load_group, load_row, no_number, of_target, removed_rows, room_checks}
use Rattle.reg_load.specs.declared.faults.LoadFault.TheVariants.{FullGrant, FullRecord, Taken}
use Rattle.reg_load.specs.Loading.{AreNames, CanLoad}
use Rattle.reg_load.specs.PersonRows.{comes_twice, is_one_of, same_row, stands}
use Rattle.reg_load.specs.declared.created.CreatedNames.{CreatedNames}
use Rattle.reg_load.proofs.GroupGrants.{events_numbered, grants_counted}
use Rattle.reg_load.proofs.GroupsSuit.{IsReady}
use Rattle.reg_load.proofs.LoadSuits.{AreFound, checks_told, created_range, created_told, folder_at, group_made, by_numbers, named_group, none_missing}
use Rattle.reg_load.proofs.RowsGoCome.{row_turned}

-- ---- numbers of created names

-- a name with a number, if it had none, and the rest
pub number_next : (old new all : Option ℕ) (name : List ℕ) (rest : List (List ℕ)) (n : ℕ) (text : List ℕ) → new ≡ option_or old (if bytes_eq name text then Some n else None) → option_or old (created_id (name ∷ rest) n text) ≡ all → option_or new (created_id rest (n + 1) text) ≡ all
number_next (Some x) new all name rest n text put h = rw put h
number_next None new all name rest n text put h = rw put (go (bytes_eq name text) (created_id rest (n + 1) text) h)
  where
    go : (b : Bool) (later : Option ℕ) → option_or None (if b then Some n else later) ≡ all → option_or (option_or None (if b then Some n else None)) later ≡ all
    go true later h = h
    go false later h = h

-- the same number of every name makes the same rows
pub same_group : (job : JobRow) (n m : List ℕ → Option ℕ) (f : Lists) → ((text : List ℕ) → n text ≡ m text) → (name : List ℕ) → load_group job n f name ≡ load_group job m f name
same_group job n m f same name = ap (λ o. option_or (of_target job.target f (group_id name f)) o) (same name)

pub same_rows : (job : JobRow) (n m : List ℕ → Option ℕ) (f : Lists) → ((text : List ℕ) → n text ≡ m text) → (rows : List LoadRow) → map (load_row job n f) rows ≡ map (load_row job m f) rows
same_rows job n m f same [] = refl
same_rows job n m f same (row ∷ rows) = rw (same_group job n m f same row.group, same_rows job n m f same rows) refl

pub same_missing : (job : JobRow) (n m : List ℕ → Option ℕ) (f : Lists) → ((text : List ℕ) → n text ≡ m text) → (rows : List LoadRow) → first_missing job n f rows ≡ first_missing job m f rows
same_missing job n m f same [] = refl
same_missing job n m f same (row ∷ rows) = rw (same_group job n m f same row.group, same_missing job n m f same rows) refl

-- ---- names that stand or come twice

-- the first name that stands or was seen
abbrev pub taken_by : (List ℕ → Bool) → Lists → List (List ℕ) → Option (List ℕ)
taken_by seen f [] = None
taken_by seen f (name ∷ names) = if is_some (resolve name f) || seen name then Some name else taken_by (λ text. bytes_eq name text || seen text) f names

same_taken : (p q : List ℕ → Bool) (f : Lists) → ((text : List ℕ) → p text ≡ q text) → (names : List (List ℕ)) → taken_by p f names ≡ taken_by q f names
same_taken p q f same [] = refl
same_taken p q f same (name ∷ names) =
    rw (same name, same_taken (λ text. bytes_eq name text || p text) (λ text. bytes_eq name text || q text) f (λ text. ap (λ b. bytes_eq name text || b) (same text)) names) refl

taken_is : (before : List (List ℕ)) (f : Lists) (names : List (List ℕ)) → first_taken before f names ≡ taken_by (λ text. is_among text before) f names
taken_is before f [] = refl
taken_is before f (name ∷ names) = rw (taken_is (name ∷ before) f names) refl

-- at the beginning none is seen
pub taken_first : (p : List ℕ → Bool) (f : Lists) (names : List (List ℕ)) → ((text : List ℕ) → p text ≡ false) → taken_by p f names ≡ first_taken [] f names
taken_first p f names none = same_taken p (λ text. false) f none names ∙ sym (taken_is [] f names)

-- a name that is free and was not seen is seen from then on
pub taken_next : (p q : List ℕ → Bool) (f : Lists) (name : List ℕ) (names : List (List ℕ)) (all : Option (List ℕ)) → ((text : List ℕ) → q text ≡ (bytes_eq name text || p text)) → is_some (resolve name f) ≡ false → p name ≡ false → taken_by p f (name ∷ names) ≡ all → taken_by q f names ≡ all
taken_next p q f name names all put free new h = same_taken q (λ text. bytes_eq name text || p text) f put names ∙ (rw (free, new) at h)

-- the same where the names seen are those with a number
pub numbered_next : (old new : List ℕ → Option ℕ) (f : Lists) (name : List ℕ) (n : ℕ) (names : List (List ℕ)) (all : Option (List ℕ)) → ((text : List ℕ) → new text ≡ (if bytes_eq name text then Some n else old text)) → is_some (resolve name f) ≡ false → is_some (old name) ≡ false
    → taken_by (λ text. is_some (old text)) f (name ∷ names) ≡ all → taken_by (λ text. is_some (new text)) f names ≡ all
numbered_next old new f name n names all put free fresh h = taken_next (λ text. is_some (old text)) (λ text. is_some (new text)) f name names all (λ text. ap is_some (put text) ∙ seen (bytes_eq name text) (old text)) free fresh h
  where
    seen : (b : Bool) (o : Option ℕ) → is_some (if b then Some n else o) ≡ (b || is_some o)
    seen true o = refl
    seen false o = refl

-- the fault where a created name is taken
pub taken_told : (job : JobRow) (created : List (List ℕ)) (removed added : List LoadRow) (f : Lists) (object : List ℕ) → first_missing job (created_number created f) f added ≡ None → is_elsewhere job f created ≡ false → first_taken [] f created ≡ Some object → Some (Taken object) ≡ first_fault (load_checks job created removed added f)
unfolding load_checks
taken_told job created removed added f object found home taken = rw (found, home, taken) refl

-- ---- rows that come twice

-- a row that wasn't seen is seen from then on
pub twice_next : (p q : PersonRow → Bool) (row : PersonRow) (rows : List PersonRow) (all : Bool) → ((other : PersonRow) → q other ≡ (same_row other row || p other)) → p row ≡ false → (list_any p (row ∷ rows) || comes_twice (row ∷ rows)) ≡ all → (list_any q rows || comes_twice rows) ≡ all
twice_next p q row rows all put new h = rw (both rows) (swap (list_any p rows) (is_one_of rows row) (comes_twice rows) ∙ (rw new at h))
  where
    swap : (x y z : Bool) → ((y || x) || z) ≡ ((x || (y || z)))
    swap true true z = refl
    swap true false z = refl
    swap false true z = refl
    swap false false z = refl

    between : (a x b y : Bool) → ((a || x) || (b || y)) ≡ ((a || b) || (x || y))
    between true x b y = refl
    between false true true y = refl
    between false true false y = refl
    between false false b y = refl

    both : (rows : List PersonRow) → list_any q rows ≡ (is_one_of rows row || list_any p rows)
    both [] = refl
    both (other ∷ rows) = rw (put other, row_turned other row, both rows) (between (same_row row other) (p other) (is_one_of rows row) (list_any p rows))

pub none_seen : (p : PersonRow → Bool) → ((other : PersonRow) → p other ≡ false) → (rows : List PersonRow) → list_any p rows ≡ false
none_seen p none [] = refl
none_seen p none (row ∷ rows) = rw (none row) (none_seen p none rows)

-- ---- rows by number

pub missing_next : (job : JobRow) (number : List ℕ → Option ℕ) (f : Lists) (row : LoadRow) (rows : List LoadRow) (g s : ℕ) → load_group job number f row.group ≡ Some g → subject_id row.person f.subjects ≡ Some s → first_missing job number f (row ∷ rows) ≡ first_missing job number f rows
missing_next job number f row rows g s group person = rw (group, person) refl

pub row_found : (job : JobRow) (number : List ℕ → Option ℕ) (f : Lists) (row : LoadRow) (g s : ℕ) → load_group job number f row.group ≡ Some g → subject_id row.person f.subjects ≡ Some s → load_row job number f row ≡ record { group = g; person = s }
row_found job number f row g s group person = rw (group, person) refl

-- ---- numbers are small

rows_group : (gs : List GroupRow) (rows : List MemberRow) (g : ℕ) (m : Member) → AllByRecursion (λ (row : MemberRow). RowStands gs row) rows → has_row g m rows ≡ true → has_group g gs ≡ true
rows_group gs [] g m all h = absurd (both_ways false refl h)
rows_group gs (row ∷ rows) g m all h = elim (or_cases (is_row g m row) (has_row g m rows) h) [
  | inl t ↦ subst (λ n. has_group n gs ≡ true) (eqb-true row.group g (and_parts (row.group == g) (same_member row.member m) t).0) all.0.group
  | inr t ↦ rows_group gs rows g m all.1 t
]

-- no group has a number above the last that was given
pub none_above : (f : Lists) (row : PersonRow) → IsSound f → f.made.groups < row.group → stands f.rows row ≡ false
none_above f row sound above = false_from_ne_true (stands f.rows row) (λ t. (let most = group_made f row.group sound (rows_group f.groups f.rows row.group (Person row.person) sound.members_stand t) in absurd (omega (arith, above, most))))

group_small : (job : JobRow) (number : List ℕ → Option ℕ) (f : Lists) (name : List ℕ) (n : ℕ) → IsSound f → f.made.groups ≤ max_groups → ((n : ℕ) → number name ≡ Some n → n < 2 ^ 32) → load_group job number f name ≡ Some n → n < 2 ^ 32
group_small job number f name n sound few small h = elim (named_group job.target f (group_id name f) (number name) n h) [
  | inl was ↦ let most = group_made f n sound (group_stands f name n sound (as_group_is (resolve name f) n was.0)) in omega (arith, most, few)
  | inr new ↦ small n new
]

rows_small : (job : JobRow) (number : List ℕ → Option ℕ) (f : Lists) (rows : List LoadRow) → IsSound f → f.made.groups ≤ max_groups → ((name : List ℕ) (n : ℕ) → number name ≡ Some n → n < 2 ^ 32) → AreFound job number f rows → AllByRecursion (λ (row : PersonRow). row.group < 2 ^ 32) (map (load_row job number f) rows)
rows_small job number f [] sound few small found = tt
rows_small job number f (row ∷ rows) sound few small found = (group_small job number f row.group (the_id (load_group job number f row.group)) sound few (small row.group) found.0.group, rows_small job number f rows sound few small found.1)

pub going_small : (job : JobRow) (f : Lists) (removed : List LoadRow) → IsSound f → f.made.groups ≤ max_groups → first_missing job no_number f removed ≡ None → AllByRecursion (λ (row : PersonRow). row.group < 2 ^ 32) (removed_rows job f removed)
going_small job f removed sound few known = rows_small job no_number f removed sound few (λ name n h. cc) (none_missing job no_number f removed known)

pub coming_small : (job : JobRow) (created : List (List ℕ)) (f : Lists) (added : List LoadRow) → IsSound f → f.made.groups + length created ≤ max_groups → first_missing job (created_number created f) f added ≡ None → AllByRecursion (λ (row : PersonRow). row.group < 2 ^ 32) (added_rows job created f added)
coming_small job created f added sound room found =
    rows_small job (created_number created f) f added sound (omega (arith, room)) (λ name n h. (let range = created_range created (f.made.groups + 1) name n h in omega (arith, range.1, room))) (none_missing job (created_number created f) f added found)

-- ---- the events

pub numbers_are : (names : CreatedNames) (created : List (List ℕ)) (next : ℕ) (f : Lists) → ((text : List ℕ) → number_of names text ≡ created_id created next text) → next ≡ f.made.groups + 1 → (text : List ℕ) → number_of names text ≡ created_number created f text
numbers_are names created next f h same text = h text ∙ ap (λ n. created_id created n text) same

-- the groups by numbers, then the rows by numbers
pub events_are : (at : ℕ) (by : Entity) (job : JobRow) (created : List (List ℕ)) (removed added : List LoadRow) (f : Lists) → IsReady f → AreNames created → CanLoad by job created removed added f
    → load_events at by created removed added f ≡ numbered_groups (f.made.groups + 1) created f (first_grants by created f) ++ rows_events at (removed_rows job f removed) (added_rows job created f added)
events_are at by job created removed added f ready form can =
    let t = checks_told job created removed added f can.checks in
    let new = created_told job f created ready.sound form t.home t.free in
    (by_numbers at by job created removed added f ready form can).is ∙ ap (λ (es : List Event). es ++ rows_events at (removed_rows job f removed) (added_rows job created f added)) (events_numbered by (folder_at job) created f new.fresh new.unlike)

-- events put one behind the other
pub put_together : (first second third all groups going coming : List Event) → first ≡ [] → second ≡ first ++ groups → third ≡ second ++ going → all ≡ third ++ coming → all ≡ groups ++ (going ++ coming)
put_together first second third all groups going coming a b c d = d ∙ (ap (λ (es : List Event). es ++ coming) (c ∙ ap (λ (es : List Event). es ++ going) (b ∙ ap (λ (es : List Event). es ++ groups) a)) ∙ append_assoc groups going coming)

-- ---- room

pub first_some : (by : Entity) (created : List (List ℕ)) (name : List ℕ) (f : Lists) → slice_get created 0 ≡ Some name → first_grants by created f ≡ new_groups_grants by name f
first_some by [] name f h = cc
first_some by (other ∷ created) name f h = (let same : other ≡ name = cc in ap (λ n. new_groups_grants by n f) same)

-- the grants are counted from those on the first group
pub grants_are : (by : Entity) (job : JobRow) (created : List (List ℕ)) (removed added : List LoadRow) (f : Lists) → IsSound f → AreNames created → first_fault (load_checks job created removed added f) ≡ None → length (with_groups by created f).grants ≡ length f.grants + length created * length (first_grants by created f)
grants_are by job created removed added f sound form can =
    let t = checks_told job created removed added f can in
    let new = created_told job f created sound form t.home t.free in
    grants_counted by (folder_at job) created f new.fresh new.unlike

-- what the tests of room say, the first of them false
pub full_grant : (by : Entity) (created : List (List ℕ)) (removed added : List LoadRow) (f : Lists) → nat_lt max_groups (f.made.groups + length created) ≡ false → nat_lt (max_rows + length removed) (length f.rows + length added) ≡ false → nat_lt max_grants (length (with_groups by created f).grants) ≡ true → Some FullGrant ≡ first_fault (room_checks by created removed added f)
unfolding room_checks
full_grant by created removed added f a b c = rw (a, b, c) refl

pub room_rest : (by : Entity) (created : List (List ℕ)) (removed added : List LoadRow) (f : Lists) → nat_lt max_groups (f.made.groups + length created) ≡ false → nat_lt (max_rows + length removed) (length f.rows + length added) ≡ false → nat_lt max_grants (length (with_groups by created f).grants) ≡ false
    → first_fault (room_checks by created removed added f) ≡ (if nat_lt max_records (length added) then Some FullRecord else None)
unfolding room_checks
room_rest by created removed added f a b c = rw (a, b, c) refl
