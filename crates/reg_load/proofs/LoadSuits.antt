-- A load in which no test finds a fault makes what suits the facts.
use Rattle.std.proofs.Common.{◌≡◌, ◌≤◌, ◌<◌, ◌==◌, ◌+◌, ◌++◌, ◌∙◌, ◌⊎◌, ℕ, List, [], ◌∷◌, Bool, true, false, Option, Some, None, inl, inr, refl, sym, ap, subst, length, map, arith, eqb-true}
use Rattle.std.specs.Prelude.{⊤, ◌||◌, is_some, not, nat_lt, if◌then◌else◌}
use Rattle.std.specs.List.{AllByRecursion, list_all, list_any}
use Rattle.std.specs.Option.{option_or}
use Rattle.std.specs.Str.{bytes_eq}
use Rattle.std.proofs.lemmas.Bool.{cases_Bool, and_parts, both_ways, false_from_ne_true, not-false, not-true, or_cases, or_parts}
use Rattle.std.proofs.lemmas.Bool.Decides.{nat_tests}
use Rattle.std.proofs.lemmas.Grind.{common_steps}
use Rattle.std.proofs.lemmas.List.{length-map}
use Rattle.reg_base.specs.declared.entity.Entity.{Entity}
use Rattle.reg_terms.specs.Kinds.{as_folder}
use Rattle.reg_terms.specs.Limits.{max_grants, max_groups, max_rows}
use Rattle.reg_terms.specs.declared.kinds.Object.{Object}
use Rattle.reg_terms.specs.declared.kinds.Object.TheVariants.{Folder, Group, Def, Attr, Subject}
use Rattle.reg_terms.specs.declared.rows.CompositeRow.{CompositeRow}
use Rattle.reg_terms.specs.declared.rows.GroupRow.{GroupRow}
use Rattle.reg_terms.specs.declared.rows.JobRow.{JobRow}
use Rattle.reg_terms.specs.declared.rows.MemberRow.{MemberRow}
use Rattle.reg_terms.specs.declared.lists.LoadRow.{LoadRow}
use Rattle.reg_facts.specs.Children.{is_among}
use Rattle.reg_facts.specs.Edits.{subject_id, the_id}
use Rattle.reg_terms.specs.Rows.{is_composite}
use Rattle.reg_facts.specs.Events.{all_happened, groups_events, load_events, row_named, rows_events, with_groups}
use Rattle.reg_facts.specs.Lists.{Lists}
use Rattle.reg_facts.specs.Named.{AreNamed}
use Rattle.reg_facts.specs.Naming.{group_id, home_id, resolve}
use Rattle.reg_facts.specs.Sound.{AscendFrom, CompositeStands, has_group, IsSound}
use Rattle.reg_facts.specs.Suiting.{AllSuit}
use Rattle.reg_facts.proofs.Joined.{subject_known}
use Rattle.reg_facts.proofs.Lasting.{sound_named}
use Rattle.reg_facts.proofs.Noted.{as_group_is, ascend_top, group_stands}
use Rattle.reg_load.specs.LoadChecks.{LoadCheck, added_rows, already, created_id, created_number, first_fault, first_missing, first_taken, is_composite_target, is_elsewhere, is_home, is_of_target, load_checks, load_group, load_row, missing_text, no_number, no_such, of_target, removed_rows, room_checks}
use Rattle.reg_load.specs.Loading.{AreLoaded, AreMade, AreNames, CanLoad, IsLoaded, loaded_rows}
use Rattle.reg_load.specs.PersonRows.{comes_twice, stands}
use Rattle.reg_load.proofs.GroupMore.{extensions_apart, named_child}
use Rattle.reg_load.proofs.GroupsMade.{AreFresh, AreUnlike, Unlike, all_made, happened_append}
use Rattle.reg_load.proofs.GroupsSuit.{IsReady, groups_suit, ready_after, suit_append}
use Rattle.reg_load.proofs.RowsGoCome.{CanCome, rows_after, rows_loaded, rows_suit}

-- ---- what it says that no test finds a fault

abbrev AllFail : List LoadCheck → Type 0
AllFail [] = Unit {0}
AllFail (check ∷ more) = (check.0 ≡ false) × AllFail more

all_fail : (checks : List LoadCheck) → first_fault checks ≡ None → AllFail checks
all_fail [] h = tt
all_fail (check ∷ more) h = elim check.0 as (λ b. (if b then Some check.1 else first_fault more) ≡ None → (b ≡ false) × AllFail more) [
  | true ↦ λ e. absurd (let clash : ⊥ = cc in clash)
  | false ↦ λ e. (refl, all_fail more e)
] h

none : {A : Type 0} (o : Option A) → is_some o ≡ false → o ≡ None
none None h = refl
none (Some x) h = absurd (let clash : ⊥ = cc in clash)

within : (limit count : ℕ) → nat_lt limit count ≡ false → count ≤ limit
within limit count h = grind (arith, nat_tests, common_steps)

-- before the rules that forbid members
pub record AreChecked (job : JobRow) (created : List (List ℕ)) (removed added : List LoadRow) (f : Lists) : Type 0 where
  pub found : first_missing job (created_number created f) f added ≡ None
  pub home : is_elsewhere job f created ≡ false
  pub free : first_taken [] f created ≡ None
  pub new : already f.rows (added_rows job created f added) ≡ false
  pub known : first_missing job no_number f removed ≡ None
  pub old : no_such f.rows (removed_rows job f removed) ≡ false
  pub plain : is_composite_target job.target f ≡ false

pub checks_told : (job : JobRow) (created : List (List ℕ)) (removed added : List LoadRow) (f : Lists) → first_fault (load_checks job created removed added f) ≡ None → AreChecked job created removed added f
unfolding load_checks
checks_told job created removed added f h =
    let a = all_fail (load_checks job created removed added f) h in
    let gone = or_parts (is_some (first_missing job no_number f removed)) (no_such f.rows (removed_rows job f removed)) a.1.1.1.1.0 in
    record {
      found = none (first_missing job (created_number created f) f added) a.0;
      home = a.1.0;
      free = none (first_taken [] f created) a.1.1.0;
      new = a.1.1.1.0;
      known = none (first_missing job no_number f removed) gone.0;
      old = gone.1;
      plain = a.1.1.1.1.1.0;
    }

-- and behind them
pub record HasRoom (by : Entity) (created : List (List ℕ)) (removed added : List LoadRow) (f : Lists) : Type 0 where
  pub groups : f.made.groups + length created ≤ max_groups
  pub rows : length f.rows + length added ≤ max_rows + length removed
  pub grants : length (with_groups by created f).grants ≤ max_grants

pub room_told : (by : Entity) (created : List (List ℕ)) (removed added : List LoadRow) (f : Lists) → first_fault (room_checks by created removed added f) ≡ None → HasRoom by created removed added f
unfolding room_checks
room_told by created removed added f h =
    let b = all_fail (room_checks by created removed added f) h in
    record {
      groups = within max_groups (f.made.groups + length created) b.0;
      rows = within (max_rows + length removed) (length f.rows + length added) b.1.0;
      grants = within max_grants (length (with_groups by created f).grants) b.1.1.0;
    }

-- ---- created names

abbrev AllApart : List (List ℕ) → Type 0
AllApart [] = ⊤
AllApart (name ∷ names) = AllByRecursion (λ (other : List ℕ). bytes_eq name other ≡ false) names × AllApart names

record IsUntaken (before : List (List ℕ)) (f : Lists) (name : List ℕ) : Type 0 where
  free : resolve name f ≡ None
  other : is_among name before ≡ false

none_taken : (before : List (List ℕ)) (f : Lists) (names : List (List ℕ)) → first_taken before f names ≡ None → AllByRecursion (IsUntaken before f) names × AllApart names
none_taken before f [] h = (tt, tt)
none_taken before f (name ∷ names) h = go (is_some (resolve name f) || is_among name before) refl (none_taken (name ∷ before) f names) h
  where
    others : (names : List (List ℕ)) → AllByRecursion (IsUntaken (name ∷ before) f) names → AllByRecursion (IsUntaken before f) names × AllByRecursion (λ (other : List ℕ). bytes_eq name other ≡ false) names
    others [] all = (tt, tt)
    others (other ∷ more) all =
        let parts = or_parts (bytes_eq name other) (is_among other before) all.0.other in
        let rest = others more all.1 in
        ((record { free = all.0.free; other = parts.1 }, rest.0), (parts.0, rest.1))

    go : (b : Bool) → (is_some (resolve name f) || is_among name before) ≡ b → (first_taken (name ∷ before) f names ≡ None → AllByRecursion (IsUntaken (name ∷ before) f) names × AllApart names) → (if b then Some name else first_taken (name ∷ before) f names) ≡ None → AllByRecursion (IsUntaken before f) (name ∷ names) × AllApart (name ∷ names)
    go true e more h = absurd (let clash : ⊥ = cc in clash)
    go false e more h =
        let here = or_parts (is_some (resolve name f)) (is_among name before) e in
        let rest = more h in
        let split = others names rest.0 in
        ((record { free = none (resolve name f) here.0; other = here.1 }, split.0), (split.1, rest.1))

-- the folder of a job
abbrev pub folder_at : JobRow → ℕ
folder_at job = the_id (as_folder (Some job.target))

at_home : (target : Object) (found : Option ℕ) → is_home target found ≡ true → found ≡ Some (the_id (as_folder (Some target)))
at_home target None h = absurd (both_ways false refl h)
at_home (Folder t) (Some d) h = ap (λ x. Some x) (sym (eqb-true t d h))
at_home (Group t) (Some d) h = absurd (both_ways false refl h)
at_home (Def t) (Some d) h = absurd (both_ways false refl h)
at_home (Attr t) (Some d) h = absurd (both_ways false refl h)
at_home (Subject t) (Some d) h = absurd (both_ways false refl h)

fresh_names : (job : JobRow) (before : List (List ℕ)) (f : Lists) (names : List (List ℕ)) → AreNames names → list_all (λ name. is_home job.target (home_id name f)) names ≡ true → AllByRecursion (IsUntaken before f) names → AreFresh (folder_at job) f names
fresh_names job before f [] form home free = tt
fresh_names job before f (name ∷ names) form home free =
    let parts = and_parts (is_home job.target (home_id name f)) (list_all (λ name. is_home job.target (home_id name f)) names) home in
    let at = at_home job.target (home_id name f) parts.0 in
    (record { form = form.0; home = at; free = sym (named_child name (folder_at job) f form.0 at) ∙ free.0.free }, fresh_names job before f names form.1 parts.1 free.1)

unlike_names : (d : ℕ) (f : Lists) (names : List (List ℕ)) → AreNamed f → AreFresh d f names → AllApart names → AreUnlike names
unlike_names d f [] named fresh apart = tt
unlike_names d f (name ∷ names) named fresh apart = (go names fresh.1 apart.0, unlike_names d f names named fresh.1 apart.1)
  where
    go : (others : List (List ℕ)) → AreFresh d f others → AllByRecursion (λ (other : List ℕ). bytes_eq name other ≡ false) others → Unlike name others
    go [] all apart = tt
    go (other ∷ more) all apart = (extensions_apart name other d f named fresh.0.form all.0.form fresh.0.home all.0.home apart.0, go more all.1 apart.1)

pub record AreCreated (job : JobRow) (f : Lists) (created : List (List ℕ)) : Type 0 where
  pub fresh : AreFresh (folder_at job) f created
  pub unlike : AreUnlike created

pub created_told : (job : JobRow) (f : Lists) (created : List (List ℕ)) → IsSound f → AreNames created → is_elsewhere job f created ≡ false → first_taken [] f created ≡ None → AreCreated job f created
created_told job f created sound form home free =
    let apart = none_taken [] f created free in
    let fresh = fresh_names job [] f created form (not-false (list_all (λ name. is_home job.target (home_id name f)) created) home) apart.0 in
    record { fresh = fresh; unlike = unlike_names (folder_at job) f created (sound_named f sound) fresh apart.1 }

-- ---- numbers of groups

pub created_range : (names : List (List ℕ)) (next : ℕ) (text : List ℕ) (n : ℕ) → created_id names next text ≡ Some n → (next ≤ n) × (n + 1 ≤ next + length names)
created_range [] next text n h = cc
created_range (name ∷ names) next text n h = elim (cases_Bool (bytes_eq name text)) [
  | inl t ↦
      let at : Some next ≡ Some n = rw t at h in
      let same : next ≡ n = cc in
      (omega (arith, same), omega (arith, same))
  | inr t ↦ let rest = created_range names (next + 1) text n (rw t at h) in (omega (arith, rest.0), omega (arith, rest.1))
]

group_at_most : (floor top : ℕ) (gs : List GroupRow) (g : ℕ) → AscendFrom floor top (map (λ (r : GroupRow). r.id) gs) → has_group g gs ≡ true → g ≤ top
group_at_most floor top [] g a h = absurd (both_ways false refl h)
group_at_most floor top (row ∷ gs) g a h = elim (or_cases (row.id == g) (has_group g gs) h) [
  | inl t ↦ subst (λ n. n ≤ top) (eqb-true row.id g t) (ascend_top row.id top (map (λ (r : GroupRow). r.id) gs) a.1)
  | inr t ↦ group_at_most row.id top gs g a.1 t
]

pub group_made : (f : Lists) (g : ℕ) → IsSound f → has_group g f.groups ≡ true → g ≤ f.made.groups
group_made f g sound h = group_at_most 0 f.made.groups f.groups g sound.groups h

composite_stands : (gs : List GroupRow) (cs : List CompositeRow) (g : ℕ) → AllByRecursion (λ (row : CompositeRow). CompositeStands gs row) cs → is_composite g cs ≡ true → has_group g gs ≡ true
composite_stands gs [] g all h = absurd (both_ways false refl h)
composite_stands gs (row ∷ cs) g all h = elim (or_cases (row.group == g) (is_composite g cs) h) [
  | inl t ↦ subst (λ n. has_group n gs ≡ true) (eqb-true row.group g t) all.0.group
  | inr t ↦ composite_stands gs cs g all.1 t
]

-- a group that isn't made yet is no composite
next_plain : (f : Lists) (g : ℕ) → IsSound f → f.made.groups < g → is_composite g f.composites ≡ false
next_plain f g sound next = false_from_ne_true (is_composite g f.composites) (λ t. (let most = group_made f g sound (composite_stands f.groups f.composites g sound.factors_stand t) in absurd (omega (arith, next, most))))

-- ---- rows

-- the group of a name is one of the job's, or a created one
pub named_group : (target : Object) (f : Lists) (found created : Option ℕ) (n : ℕ) → option_or (of_target target f found) created ≡ Some n → ((found ≡ Some n) × (is_of_target target n f ≡ true)) ⊎ (created ≡ Some n)
named_group target f None created n h = inr h
named_group target f (Some g) created n h = elim (cases_Bool (is_of_target target g f)) [
  | inl t ↦
      let at : Some g ≡ Some n = rw t at h in
      let same : g ≡ n = cc in
      inl (at, rw (← same) t)
  | inr t ↦ inr (rw t at h)
]

target_plain : (target : Object) (f : Lists) (n : ℕ) → is_composite_target target f ≡ false → is_of_target target n f ≡ true → is_composite n f.composites ≡ false
target_plain (Folder d) f n plain h = not-true (is_composite n f.composites) (and_parts _ (not (is_composite n f.composites)) h).1
target_plain (Group t) f n plain h = rw (eqb-true n t h) plain
target_plain (Def t) f n plain h = absurd (both_ways false refl h)
target_plain (Attr t) f n plain h = absurd (both_ways false refl h)
target_plain (Subject t) f n plain h = absurd (both_ways false refl h)

-- a row whose names are found
pub record IsFound (job : JobRow) (number : List ℕ → Option ℕ) (f : Lists) (row : LoadRow) : Type 0 where
  pub group : load_group job number f row.group ≡ Some (the_id (load_group job number f row.group))
  pub person : subject_id row.person f.subjects ≡ Some (the_id (subject_id row.person f.subjects))

abbrev pub AreFound : JobRow → (List ℕ → Option ℕ) → Lists → List LoadRow → Type 0
AreFound job number f rows = AllByRecursion (IsFound job number f) rows

none_or : {A : Type 0} (a b : Option A) → option_or a b ≡ None → (a ≡ None) × (b ≡ None)
none_or None b h = (refl, h)
none_or (Some x) b h = absurd (let clash : ⊥ = cc in clash)

both_found : (group person : Option ℕ) (row : LoadRow) → missing_text group person row ≡ None → (group ≡ Some (the_id group)) × (person ≡ Some (the_id person))
both_found None person row h = absurd (let clash : ⊥ = cc in clash)
both_found (Some g) None row h = absurd (let clash : ⊥ = cc in clash)
both_found (Some g) (Some s) row h = (refl, refl)

pub none_missing : (job : JobRow) (number : List ℕ → Option ℕ) (f : Lists) (rows : List LoadRow) → first_missing job number f rows ≡ None → AreFound job number f rows
none_missing job number f [] h = tt
none_missing job number f (row ∷ rows) h =
    let parts = none_or (missing_text (load_group job number f row.group) (subject_id row.person f.subjects) row) (first_missing job number f rows) h in
    let here = both_found (load_group job number f row.group) (subject_id row.person f.subjects) row parts.0 in
    (record { group = here.0; person = here.1 }, none_missing job number f rows parts.1)

-- groups of names have their numbers in other facts
abbrev AreNumbered : JobRow → (List ℕ → Option ℕ) → Lists → Lists → Type 0
AreNumbered job number f g = (name : List ℕ) (n : ℕ) → load_group job number f name ≡ Some n → resolve name g ≡ Some (Group n)

-- a group that a row names is found by the name once the groups are made
added_numbered : (job : JobRow) (created : List (List ℕ)) (f g : Lists) → AreMade created f g → AreNumbered job (created_number created f) f g
added_numbered job created f g made name n h = elim (named_group job.target f (group_id name f) (created_number created f name) n h) [
  | inl was ↦ made.kept name (Group n) (as_group_is (resolve name f) n was.0)
  | inr new ↦ made.made name n new
]

-- and so is one that stood before
removed_numbered : (job : JobRow) (created : List (List ℕ)) (f g : Lists) → AreMade created f g → AreNumbered job no_number f g
removed_numbered job created f g made name n h = elim (named_group job.target f (group_id name f) None n h) [
  | inl was ↦ made.kept name (Group n) (as_group_is (resolve name f) n was.0)
  | inr new ↦ absurd (let clash : ⊥ = cc in clash)
]

row_is : (job : JobRow) (number : List ℕ → Option ℕ) (f g : Lists) (row : LoadRow) → g.subjects ≡ f.subjects → resolve row.group g ≡ Some (Group (the_id (load_group job number f row.group))) → row_named g row ≡ load_row job number f row
row_is job number f g row subjects found = rw (found, subjects) refl

pub rows_named : (job : JobRow) (number : List ℕ → Option ℕ) (f g : Lists) (rows : List LoadRow) → g.subjects ≡ f.subjects → AreNumbered job number f g → AreFound job number f rows → map (row_named g) rows ≡ map (load_row job number f) rows
rows_named job number f g [] subjects numbered found = refl
rows_named job number f g (row ∷ rows) subjects numbered found =
    rw (row_is job number f g row subjects (numbered row.group (the_id (load_group job number f row.group)) found.0.group), rows_named job number f g rows subjects numbered found.1) refl

group_plain : (job : JobRow) (created : List (List ℕ)) (f : Lists) (name : List ℕ) (n : ℕ) → IsSound f → is_composite_target job.target f ≡ false → load_group job (created_number created f) f name ≡ Some n → is_composite n f.composites ≡ false
group_plain job created f name n sound plain h = elim (named_group job.target f (group_id name f) (created_number created f name) n h) [
  | inl was ↦ target_plain job.target f n plain was.1
  | inr new ↦ let range = created_range created (f.made.groups + 1) name n new in next_plain f n sound (omega (arith, range.0))
]

all_come : (job : JobRow) (created : List (List ℕ)) (f g : Lists) (rows : List LoadRow) → IsSound f → IsSound g → AreMade created f g → is_composite_target job.target f ≡ false → AreFound job (created_number created f) f rows → AllByRecursion (CanCome g.groups g.subjects g.composites) (added_rows job created f rows)
all_come job created f g [] before after made plain found = tt
all_come job created f g (row ∷ rows) before after made plain found =
    let n = the_id (load_group job (created_number created f) f row.group) in (
      record {
        group = group_stands g row.group n after (added_numbered job created f g made row.group n found.0.group);
        person = rw made.subjects (subject_known row.person f.subjects (the_id (subject_id row.person f.subjects)) found.0.person);
        plain = rw made.composites (group_plain job created f row.group n before plain found.0.group);
      },
      all_come job created f g rows before after made plain found.1,
    )

-- ---- the whole load

-- what a load that suits is: its groups can be made, and with them its rows go and come as numbers say
pub record IsByNumbers (at : ℕ) (by : Entity) (job : JobRow) (created : List (List ℕ)) (removed added : List LoadRow) (f : Lists) : Type 0 where
  pub groups : AllSuit (groups_events by created f) f
  pub made : AreMade created f (with_groups by created f)
  pub is : load_events at by created removed added f ≡ groups_events by created f ++ rows_events at (removed_rows job f removed) (added_rows job created f added)

pub by_numbers : (at : ℕ) (by : Entity) (job : JobRow) (created : List (List ℕ)) (removed added : List LoadRow) (f : Lists) → IsReady f → AreNames created → CanLoad by job created removed added f → IsByNumbers at by job created removed added f
unfolding load_events
by_numbers at by job created removed added f ready form can =
    let t = checks_told job created removed added f can.checks in
    let room = room_told by created removed added f can.room in
    let new = created_told job f created ready.sound form t.home t.free in
    let made = all_made by (folder_at job) created f new.fresh new.unlike in
    let g = with_groups by created f in
    record {
      groups = groups_suit by (folder_at job) created f ready new.fresh new.unlike room.groups room.grants;
      made = made;
      is = rw (rows_named job no_number f g removed made.subjects (removed_numbered job created f g made) (none_missing job no_number f removed t.known), rows_named job (created_number created f) f g added made.subjects (added_numbered job created f g made) (none_missing job (created_number created f) f added t.found)) refl;
    }

load_suits : (at : ℕ) (by : Entity) (job : JobRow) (created : List (List ℕ)) (removed added : List LoadRow) (f : Lists) → IsReady f → AreNames created → CanLoad by job created removed added f → AllSuit (load_events at by created removed added f) f
load_suits at by job created removed added f ready form can =
    let t = checks_told job created removed added f can.checks in
    let l = by_numbers at by job created removed added f ready form can in
    let g = with_groups by created f in
    let after = ready_after (groups_events by created f) f l.groups ready in
    let old = or_parts (not (list_all (stands f.rows) (removed_rows job f removed))) (comes_twice (removed_rows job f removed)) t.old in
    let new = or_parts (list_any (stands f.rows) (added_rows job created f added)) (comes_twice (added_rows job created f added)) t.new in
    let space : length g.rows + length (added_rows job created f added) ≤ max_rows + length (removed_rows job f removed) =
    rw (l.made.rows, length-map added (load_row job (created_number created f) f), length-map removed (load_row job no_number f)) (room_told by created removed added f can.room).rows in
    rw l.is (suit_append (groups_events by created f) (rows_events at (removed_rows job f removed) (added_rows job created f added)) f l.groups
    (rows_suit at (removed_rows job f removed) (added_rows job created f added) g
    (rw l.made.rows (not-false (list_all (stands f.rows) (removed_rows job f removed)) old.0)) old.1
    (all_come job created f g added ready.sound after.sound l.made t.plain (none_missing job (created_number created f) f added t.found))
    (rw l.made.rows new.0) new.1 space))

load_leaves : (at : ℕ) (by : Entity) (job : JobRow) (created : List (List ℕ)) (removed added : List LoadRow) (f : Lists) → IsReady f → AreNames created → CanLoad by job created removed added f
    → all_happened (load_events at by created removed added f) f ≡ record (with_groups by created f) { rows = loaded_rows at (removed_rows job f removed) (added_rows job created f added) f.rows }
load_leaves at by job created removed added f ready form can =
    let l = by_numbers at by job created removed added f ready form can in
    let old = removed_rows job f removed in
    let new = added_rows job created f added in
    ap (λ es. all_happened es f) l.is
    ∙ (happened_append (groups_events by created f) (rows_events at old new) f
    ∙ (rows_after at old new (with_groups by created f)
    ∙ ap (λ (rows : List MemberRow). record (with_groups by created f) { rows = loaded_rows at old new rows }) l.made.rows))

pub is_loaded : (at : ℕ) (by : Entity) (job : JobRow) (created : List (List ℕ)) (removed added : List LoadRow) (f : Lists) → IsReady f → AreNames created → CanLoad by job created removed added f → IsLoaded at by job created removed added f
is_loaded at by job created removed added f ready form can =
    let leaves = load_leaves at by job created removed added f ready form can in
    record {
      suits = load_suits at by job created removed added f ready form can;
      names = (by_numbers at by job created removed added f ready form can).made;
      facts = leaves;
      rows = subst (λ (rows : List MemberRow). AreLoaded (removed_rows job f removed) (added_rows job created f added) f.rows rows) (sym (ap (λ (h : Lists). h.rows) leaves)) (rows_loaded at (removed_rows job f removed) (added_rows job created f added) f.rows);
    }
