-- What making a folder, a group or a definition brings suits the facts, where what is made may stand and its grants have room.
use Rattle.std.proofs.Common.{◌≡◌, ◌≤◌, ◌<◌, ◌==◌, ◌+◌, ◌++◌, ◌∙◌, ℕ, List, [], ◌∷◌, Bool, true, false, Option, Some, None, refl, sym, subst, length, append_assoc, inl, inr, arith, eqb-true}
use Rattle.std.specs.Prelude.{⊤, if◌then◌else◌}
use Rattle.std.specs.List.{AllByRecursion, cons_option}
use Rattle.std.proofs.lemmas.Bool.{cases_Bool, false_from_ne_true, or_from}
use Rattle.std.proofs.lemmas.List.{append-nil}
use Rattle.std.proofs.lemmas.List.Folds.{list_any-append}
use Rattle.reg_base.specs.NameParts.{extension_of}
use Rattle.reg_base.specs.declared.entity.Entity.{Entity}
use Rattle.reg_base.specs.declared.entity.Entity.TheVariants as entity
use Rattle.reg_base.specs.declared.privilege.Privilege.{Privilege}
use Rattle.reg_base.specs.declared.privilege.Privilege.TheVariants.{Admin, StemAdmin, AttrAdmin}
use Rattle.reg_terms.specs.Kinds.{same_object}
use Rattle.reg_terms.specs.Limits.{max_folders, max_groups, max_definitions, max_grants}
use Rattle.reg_terms.specs.declared.command.Command.TheVariants.{FolderAdd, GroupAdd, AttrdefAdd}
use Rattle.reg_terms.specs.declared.event.Event.TheVariants.{FolderMade, GroupMade, DefinitionMade, GrantAdded}
use Rattle.reg_terms.specs.declared.kinds.DefKind.{DefKind}
use Rattle.reg_terms.specs.declared.kinds.Holder.{Holder}
use Rattle.reg_terms.specs.declared.kinds.Holder.TheVariants as holder
use Rattle.reg_terms.specs.declared.kinds.Object.{Object}
use Rattle.reg_terms.specs.declared.kinds.Object.TheVariants.{Folder, Group, Def, Attr, Subject}
use Rattle.reg_terms.specs.declared.kinds.Owners.{Owners}
use Rattle.reg_terms.specs.declared.kinds.RuleForm.{RuleForm}
use Rattle.reg_terms.specs.declared.kinds.RuleForm.TheVariants.{RemoveLost, EndLost, Veto, OnCreate}
use Rattle.reg_terms.specs.declared.rows.FolderRow.{FolderRow}
use Rattle.reg_terms.specs.declared.rows.GrantRow.{GrantRow}
use Rattle.reg_terms.specs.declared.rows.GroupRow.{GroupRow}
use Rattle.reg_terms.specs.declared.rows.Made.{Made}
use Rattle.reg_terms.specs.declared.rows.RuleRow.{RuleRow}
use Rattle.reg_terms.specs.declared.rows.SubjectRow.{SubjectRow}
use Rattle.reg_facts.specs.Edits.{subject_id, the_id}
use Rattle.reg_facts.specs.Events.{happened, events_of, grants_added, new_folder, new_group, new_definition, new_groups_grants}
use Rattle.reg_facts.specs.Grants.{has_grant, same_grant, holder_of, grant_to, makers_grant}
use Rattle.reg_facts.specs.Lists.{Lists}
use Rattle.reg_facts.specs.Naming.{home_id}
use Rattle.reg_facts.specs.Ruled.{FormStands, AreRuled}
use Rattle.reg_facts.specs.Rules.{in_scope, creation_grant, creation_grants, not_yet}
use Rattle.reg_facts.specs.Sound.{GrantStands, HolderStands, IsHeld, WasMade}
use Rattle.reg_facts.specs.Suiting.{AllSuit, CanStand}
use Rattle.reg_facts.proofs.Held.{holder_of_more, same_subjects}
use Rattle.reg_facts.proofs.Joined.{all_changed, among_more}

-- each is new among some and those before it
abbrev AreNew : List GrantRow → List GrantRow → Type 0
AreNew stand [] = ⊤
AreNew stand (row ∷ rows) = (has_grant row stand ≡ false) × AreNew (stand ++ row ∷ []) rows

abbrev AllStand : Lists → List GrantRow → Type 0
AllStand f rows = AllByRecursion (λ (row : GrantRow). GrantStands f.made f.subjects f.groups row) rows

longer : (rows : List GrantRow) (row : GrantRow) → length (rows ++ row ∷ []) ≡ length rows + 1
longer [] row = refl
longer (r ∷ rows) row = let rest = longer rows row in omega (arith, rest)

-- grants that stand, are new and have room can be made one after another
added_suit : (rows : List GrantRow) (f : Lists) → AllStand f rows → AreNew f.grants rows → length f.grants + length rows ≤ max_grants → AllSuit (grants_added rows) f
added_suit [] f stand new room = tt
added_suit (row ∷ rows) f stand new room = (
  (stand.0, new.0, omega (arith, room)),
  added_suit rows (happened (GrantAdded row) f) stand.1 new.1 (omega (arith, room, longer f.grants row)),
)

-- ---- grants on an object that is new

-- no grant on an object is among some
abbrev NoneOn : Object → List GrantRow → Type 0
NoneOn o rows = (row : GrantRow) → row.object ≡ o → has_grant row rows ≡ false

abbrev AllOn : Object → List GrantRow → Type 0
AllOn o rows = AllByRecursion (λ (row : GrantRow). row.object ≡ o) rows

-- none, or one on the object
abbrev IsFirst : Object → List GrantRow → Type 0
IsFirst o [] = ⊤
IsFirst o (row ∷ []) = row.object ≡ o
IsFirst o (row ∷ other ∷ rows) = ⊥

beside : (o : Object) (old stand : List GrantRow) (row : GrantRow) → NoneOn o old → row.object ≡ o → has_grant row stand ≡ false → has_grant row (old ++ stand) ≡ false
beside o old stand row none on new = list_any-append (same_grant row) old stand ∙ or_from (has_grant row old) (has_grant row stand) (none row on) new

new_beside : (o : Object) (old stand rows : List GrantRow) → NoneOn o old → AllOn o rows → AreNew (old ++ stand) (not_yet stand rows)
new_beside o old stand [] none on = tt
new_beside o old stand (row ∷ rows) none on = elim (cases_Bool (has_grant row stand)) [
  | inl t ↦ rw t (new_beside o old stand rows none on.1)
  | inr t ↦ rw t (
    beside o old stand row none on.0 t,
    subst (λ (xs : List GrantRow). AreNew xs (not_yet (stand ++ row ∷ []) rows)) (sym (append_assoc old stand (row ∷ []))) (new_beside o old (stand ++ row ∷ []) rows none on.1),
  )
]

first_new : (o : Object) (old first rows : List GrantRow) → NoneOn o old → IsFirst o first → AllOn o rows → AreNew old (first ++ not_yet first rows)
first_new o old [] rows none first on = subst (λ (xs : List GrantRow). AreNew xs (not_yet [] rows)) (append-nil old) (new_beside o old [] rows none on)
first_new o old (row ∷ []) rows none first on = (none row first, new_beside o old (row ∷ []) rows none on)
first_new o old (row ∷ other ∷ more) rows none first on = absurd first

only_new : (o : Object) (old first : List GrantRow) → NoneOn o old → IsFirst o first → AreNew old first
only_new o old [] none first = tt
only_new o old (row ∷ []) none first = (none row first, tt)
only_new o old (row ∷ other ∷ more) none first = absurd first

-- what holds of some holds of those that don't stand yet
all_not_yet : (P : GrantRow → Type 0) (stand rows : List GrantRow) → AllByRecursion P rows → AllByRecursion P (not_yet stand rows)
all_not_yet P stand [] h = tt
all_not_yet P stand (row ∷ rows) h = elim (cases_Bool (has_grant row stand)) [
  | inl t ↦ rw t (all_not_yet P stand rows h.1)
  | inr t ↦ rw t (h.0, all_not_yet P (stand ++ row ∷ []) rows h.1)
]

all_behind : (P : GrantRow → Type 0) (xs ys : List GrantRow) → AllByRecursion P xs → AllByRecursion P ys → AllByRecursion P (xs ++ ys)
all_behind P [] ys a b = b
all_behind P (x ∷ xs) ys a b = (a.0, all_behind P xs ys a.1 b)

-- ---- an object that is made next was not made, so no grant is written on it

next_folder : (made : Made) (o : Object) → WasMade made o → same_object o (Folder (made.folders + 1)) ≡ false
next_folder made (Folder d) h = false_from_ne_true (d == made.folders + 1) (λ t. let e = eqb-true d (made.folders + 1) t in omega (arith, e, h))
next_folder made (Group g) h = refl
next_folder made (Def a) h = refl
next_folder made (Attr a) h = refl
next_folder made (Subject s) h = refl

next_group : (made : Made) (o : Object) → WasMade made o → same_object o (Group (made.groups + 1)) ≡ false
next_group made (Folder d) h = refl
next_group made (Group g) h = false_from_ne_true (g == made.groups + 1) (λ t. let e = eqb-true g (made.groups + 1) t in omega (arith, e, h))
next_group made (Def a) h = refl
next_group made (Attr a) h = refl
next_group made (Subject s) h = refl

next_definition : (made : Made) (o : Object) → WasMade made o → same_object o (Def (made.definitions + 1)) ≡ false
next_definition made (Folder d) h = refl
next_definition made (Group g) h = refl
next_definition made (Def a) h = false_from_ne_true (a == made.definitions + 1) (λ t. let e = eqb-true a (made.definitions + 1) t in omega (arith, e, h))
next_definition made (Attr a) h = refl
next_definition made (Subject s) h = refl

unwritten : (made : Made) (ss : List SubjectRow) (gs : List GroupRow) (row : GrantRow) (rows : List GrantRow) → ((other : Object) → WasMade made other → same_object other row.object ≡ false)
    → AllByRecursion (λ (r : GrantRow). GrantStands made ss gs r) rows → has_grant row rows ≡ false
unwritten made ss gs row [] new stand = refl
unwritten made ss gs row (r ∷ rows) new stand = rw (new r.object stand.0.object) (unwritten made ss gs row rows new stand.1)

none_on : (f : Lists) (o : Object) → IsHeld f → ((other : Object) → WasMade f.made other → same_object other o ≡ false) → NoneOn o f.grants
none_on f o held new row on = unwritten f.made f.subjects f.groups row f.grants (λ other was. subst (λ (x : Object). same_object other x ≡ false) (sym on) (new other was)) held.grants_stand

-- ---- the maker's grant

abbrev HoldersStand : Lists → Type 0
HoldersStand f = (e : Entity) (h : Holder) → holder_of e f ≡ Some h → HolderStands f.subjects f.groups h

makers_first : (by : Entity) (o : Object) (p : Privilege) (f : Lists) → IsFirst o (makers_grant by o p f)
makers_first (entity.Person text) o p f = go (subject_id text f.subjects)
  where
    go : (found : Option ℕ) → IsFirst o (grant_to o p found)
    go None = tt
    go (Some s) = refl
makers_first (entity.Group name) o p f = tt
makers_first entity.System o p f = tt
makers_first entity.Everyone o p f = tt

makers_stand : (by : Entity) (o : Object) (p : Privilege) (f : Lists) (made : Made) → HoldersStand f → WasMade made o → AllByRecursion (λ (row : GrantRow). GrantStands made f.subjects f.groups row) (makers_grant by o p f)
makers_stand (entity.Person text) o p f made holders was = go (subject_id text f.subjects) refl
  where
    go : (found : Option ℕ) → subject_id text f.subjects ≡ found → AllByRecursion (λ (row : GrantRow). GrantStands made f.subjects f.groups row) (grant_to o p found)
    go None e = tt
    go (Some s) e = (record { object = was; holder = holders (entity.Person text) (holder.Person s) (rw e refl) }, tt)
makers_stand (entity.Group name) o p f made holders was = tt
makers_stand entity.System o p f made holders was = tt
makers_stand entity.Everyone o p f made holders was = tt

-- ---- the grants of rules

abbrev OfOption : (GrantRow → Type 0) → Option GrantRow → Type 0
OfOption P None = ⊤
OfOption P (Some row) = P row

all_cons : (P : GrantRow → Type 0) (o : Option GrantRow) (rows : List GrantRow) → OfOption P o → AllByRecursion P rows → AllByRecursion P (cons_option o rows)
all_cons P None rows here h = h
all_cons P (Some row) rows here h = (here, h)

chosen : (P : GrantRow → Type 0) (b : Bool) (row : GrantRow) → P row → OfOption P (if b then Some row else None)
chosen P true row h = h
chosen P false row h = tt

created_on : (g home : ℕ) (fs : List FolderRow) (rules : List RuleRow) → AllOn (Group g) (creation_grants g home fs rules)
created_on g home fs [] = tt
created_on g home fs (rule ∷ rules) = all_cons (λ (row : GrantRow). row.object ≡ Group g) (creation_grant g home fs rule.form) (creation_grants g home fs rules) (one rule.form) (created_on g home fs rules)
  where
    one : (form : RuleForm) → OfOption (λ (row : GrantRow). row.object ≡ Group g) (creation_grant g home fs form)
    one (RemoveLost check owner) = tt
    one (EndLost check owner days) = tt
    one (Veto owner condition) = tt
    one (OnCreate d scope p h) = chosen (λ (row : GrantRow). row.object ≡ Group g) (in_scope home d scope fs) (record { object = Group g; privilege = p; holder = h; from = None; until = None }) refl

created_stand : (g home : ℕ) (f : Lists) (made : Made) (rules : List RuleRow) → WasMade made (Group g) → AllByRecursion (λ (row : RuleRow). FormStands f row.form) rules → AllByRecursion (λ (row : GrantRow). GrantStands made f.subjects f.groups row) (creation_grants g home f.folders rules)
created_stand g home f made [] was h = tt
created_stand g home f made (rule ∷ rules) was h = all_cons (λ (row : GrantRow). GrantStands made f.subjects f.groups row) (creation_grant g home f.folders rule.form) (creation_grants g home f.folders rules) (one rule.form h.0) (created_stand g home f made rules was h.1)
  where
    one : (form : RuleForm) → FormStands f form → OfOption (λ (row : GrantRow). GrantStands made f.subjects f.groups row) (creation_grant g home f.folders form)
    one (RemoveLost check owner) stands = tt
    one (EndLost check owner days) stands = tt
    one (Veto owner condition) stands = tt
    one (OnCreate d scope p h) stands = chosen (λ (row : GrantRow). GrantStands made f.subjects f.groups row) (in_scope home d scope f.folders) (record { object = Group g; privilege = p; holder = h; from = None; until = None }) (record { object = was; holder = stands.1 })

-- who stands stands with a group more
stand_more : (made : Made) (f : Lists) (new : GroupRow) (rows : List GrantRow) → AllByRecursion (λ (row : GrantRow). GrantStands made f.subjects f.groups row) rows → AllByRecursion (λ (row : GrantRow). GrantStands made f.subjects (f.groups ++ new ∷ []) row) rows
stand_more made f new rows h = all_changed (λ (row : GrantRow). GrantStands made f.subjects f.groups row) (λ (row : GrantRow). GrantStands made f.subjects (f.groups ++ new ∷ []) row)
    (λ row stands. record { object = stands.object; holder = holder_of_more f.subjects f.subjects f.groups (f.groups ++ new ∷ []) row.holder (same_subjects f.subjects) (among_more f.groups new) stands.holder }) rows h

-- ---- a group is made

pub group_suits : (at : ℕ) (by : Entity) (group display : List ℕ) (f : Lists) → IsHeld f → HoldersStand f → AreRuled f → CanStand (the_id (home_id group f)) (extension_of group) 0 f → f.made.groups < max_groups
    → length f.grants + length (new_groups_grants by group f) ≤ max_grants → AllSuit (events_of at by (GroupAdd group display) f) f
unfolding events_of
group_suits at by group display f held holders ruled can few room =
    let row = new_group group display f in
    let g = f.made.groups + 1 in
    let made = record f.made { groups = g } in
    let first = makers_grant by (Group g) Admin f in
    let rows = creation_grants g (the_id (home_id group f)) f.folders f.rules in
    let stand : AllByRecursion (λ (r : GrantRow). GrantStands made f.subjects f.groups r) (first ++ not_yet first rows) =
    all_behind (λ (r : GrantRow). GrantStands made f.subjects f.groups r) first (not_yet first rows) (makers_stand by (Group g) Admin f made holders (omega arith)) (all_not_yet (λ (r : GrantRow). GrantStands made f.subjects f.groups r) first rows (created_stand g (the_id (home_id group f)) f made f.rules (omega arith) ruled.stand)) in (
      (refl, few, can),
      added_suit (first ++ not_yet first rows) (happened (GroupMade row) f) (stand_more made f row (first ++ not_yet first rows) stand)
          (first_new (Group g) f.grants first rows (none_on f (Group g) held (next_group f.made)) (makers_first by (Group g) Admin f) (created_on g (the_id (home_id group f)) f.folders f.rules)) room,
    )
