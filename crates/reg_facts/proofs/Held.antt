-- No two subjects share a text, and who holds a grant or an inherit stands: at the start, and after each event that suits.
use Rattle.std.proofs.Common.{◌≡◌, ◌==◌, ◌||◌, ◌+◌, ℕ, List, [], ◌∷◌, ◌++◌, Bool, true, false, not, map, Option, Some, None, inl, inr, refl, sym, subst, ◌∙◌, arith}
use Rattle.std.specs.Prelude.{if◌then◌else◌}
use Rattle.std.specs.List.{AllByRecursion, list_any}
use Rattle.std.specs.Str.{bytes_eq}
use Rattle.std.proofs.lemmas.Bool.{cases_Bool, or_parts, or_left, true≢false}
use Rattle.std.proofs.lemmas.List.Folds.{list_any-append}
use Rattle.std.proofs.lemmas.Slice.Eq.{bytes_eq-Decides}
use Rattle.reg_terms.specs.declared.event.Event.{Event}
use Rattle.reg_terms.specs.declared.event.Event.TheVariants.{FolderMade, FolderGone, SubjectMade, GroupMade, GroupRenamed, GroupMoved, GroupGone, GrantAdded, GrantBegan, GrantRemoved, InheritAdded, InheritRemoved, DefinitionMade, DefinitionGone, AttributeMade, AssignMade, RuleMade, JobMade}
use Rattle.reg_terms.specs.declared.kinds.Holder.{Holder}
use Rattle.reg_terms.specs.declared.kinds.Holder.TheVariants as holder
use Rattle.reg_terms.specs.declared.kinds.Object.{Object}
use Rattle.reg_terms.specs.declared.kinds.Object.TheVariants as object
use Rattle.reg_terms.specs.declared.rows.Made.{Made}
use Rattle.reg_terms.specs.declared.rows.GrantRow.{GrantRow}
use Rattle.reg_terms.specs.declared.rows.GroupRow.{GroupRow}
use Rattle.reg_terms.specs.declared.rows.InheritRow.{InheritRow}
use Rattle.reg_terms.specs.declared.rows.SubjectRow.{SubjectRow}
use Rattle.reg_terms.specs.Kinds.{same_object, same_holder}
use Rattle.reg_facts.specs.Edits.{subject_id, group_renamed, group_moved}
use Rattle.reg_facts.specs.Events.{happened}
use Rattle.reg_facts.specs.Grants.{same_grant, replaced, same_inherit}
use Rattle.reg_facts.specs.Lists.{Lists, start}
use Rattle.reg_facts.specs.Sound.{has_group, has_subject, HolderStands, WasMade, GrantStands, AreTextsOnce, AreGrantsOnce, IsHeld}
use Rattle.reg_facts.specs.Suiting.{Suits}
use Rattle.reg_facts.proofs.GrantsOnce.{once_push, once_filter, once_replaced, all_replaced}
use Rattle.reg_facts.proofs.Joined.{all_changed, among_more, among_changed, still, groups_less}
use Rattle.reg_facts.proofs.Places.{all_push, all_filter}
use Rattle.reg_facts.proofs.Sounding.{group_renamed_id, group_moved_id}

pub start_held : IsHeld start
start_held = record { texts_once = tt; grants_stand = tt; grants_once = tt; inherits_stand = tt }

-- who has no text in a list hasn't it at its head, nor in the rest
never : (id : ℕ) → Some id ≡ None → ⊥
never id h = cc

pub subject_apart : (b : Bool) (id : ℕ) (o : Option ℕ) → (if b then Some id else o) ≡ None → (b ≡ false) × (o ≡ None)
subject_apart true id o h = absurd (never id h)
subject_apart false id o h = (refl, h)

-- a text that no subject has
pub text_other : (a b : List ℕ) → bytes_eq a b ≡ false → bytes_eq b a ≡ false
text_other a b h = elim (cases_Bool (bytes_eq b a)) [
  | inl t ↦ absurd (true≢false (sym ((bytes_eq-Decides a b).1 (sym ((bytes_eq-Decides b a).0 t))) ∙ h))
  | inr t ↦ t
]

none_by : (row : SubjectRow) (text : List ℕ) (o : Option ℕ) → bytes_eq row.text text ≡ false → o ≡ None → (if bytes_eq row.text text then Some row.id else o) ≡ None
none_by row text o apart none = rw apart none

none_more : (ss : List SubjectRow) (text : List ℕ) (row : SubjectRow) → subject_id text ss ≡ None → bytes_eq row.text text ≡ false → subject_id text (ss ++ row ∷ []) ≡ None
none_more [] text row none apart = none_by row text None apart refl
none_more (s ∷ ss) text row none apart =
    let parts = subject_apart (bytes_eq s.text text) s.id (subject_id text ss) none in
    none_by s text (subject_id text (ss ++ row ∷ [])) parts.0 (none_more ss text row parts.1 apart)

-- a subject more, whose text is new
texts_more : (ss : List SubjectRow) (row : SubjectRow) → AreTextsOnce ss → subject_id row.text ss ≡ None → AreTextsOnce (ss ++ row ∷ [])
texts_more [] row once new = (refl, tt)
texts_more (s ∷ ss) row once new =
    let parts = subject_apart (bytes_eq s.text row.text) s.id (subject_id row.text ss) new in
    (none_more ss s.text row once.0 (text_other s.text row.text parts.0), texts_more ss row once.1 parts.1)

-- who stands stands among more
abbrev pub MoreSubjects : List SubjectRow → List SubjectRow → Type 0
MoreSubjects old new = (s : ℕ) → has_subject s old ≡ true → has_subject s new ≡ true

abbrev pub MoreGroups : List GroupRow → List GroupRow → Type 0
MoreGroups old new = (g : ℕ) → has_group g old ≡ true → has_group g new ≡ true

abbrev MoreMade : Made → Made → Type 0
MoreMade old new = (o : Object) → WasMade old o → WasMade new o

pub holder_of_more : (ss ss' : List SubjectRow) (gs gs' : List GroupRow) (h : Holder) → MoreSubjects ss ss' → MoreGroups gs gs' → HolderStands ss gs h → HolderStands ss' gs' h
holder_of_more ss ss' gs gs' holder.Everyone subjects groups stands = tt
holder_of_more ss ss' gs gs' (holder.Person s) subjects groups stands = subjects s stands
holder_of_more ss ss' gs gs' (holder.Group x) subjects groups stands = groups x stands

pub subject_more : (ss : List SubjectRow) (new : SubjectRow) → MoreSubjects ss (ss ++ new ∷ [])
subject_more ss new s h = list_any-append (λ (r : SubjectRow). r.id == s) ss (new ∷ []) ∙ or_left (has_subject s ss) ((new.id == s) || false) h

pub same_subjects : (ss : List SubjectRow) → MoreSubjects ss ss
same_subjects ss s h = h

pub same_groups : (gs : List GroupRow) → MoreGroups gs gs
same_groups gs g h = h

same_made : (made : Made) → MoreMade made made
same_made made o h = h

-- where who stood stands, it is held still
grants_more : (made made' : Made) (ss ss' : List SubjectRow) (gs gs' : List GroupRow) (rows : List GrantRow) → MoreMade made made' → MoreSubjects ss ss' → MoreGroups gs gs' → AllByRecursion (λ (row : GrantRow). GrantStands made ss gs row) rows → AllByRecursion (λ (row : GrantRow). GrantStands made' ss' gs' row) rows
grants_more made made' ss ss' gs gs' rows more subjects groups h = all_changed (λ (row : GrantRow). GrantStands made ss gs row) (λ (row : GrantRow). GrantStands made' ss' gs' row)
    (λ row stands. record { object = more row.object stands.object; holder = holder_of_more ss ss' gs gs' row.holder subjects groups stands.holder }) rows h

inherits_more : (ss ss' : List SubjectRow) (gs gs' : List GroupRow) (rows : List InheritRow) → MoreSubjects ss ss' → MoreGroups gs gs' → AllByRecursion (λ (row : InheritRow). HolderStands ss gs row.holder) rows → AllByRecursion (λ (row : InheritRow). HolderStands ss' gs' row.holder) rows
inherits_more ss ss' gs gs' rows subjects groups h = all_changed (λ (row : InheritRow). HolderStands ss gs row.holder) (λ (row : InheritRow). HolderStands ss' gs' row.holder)
    (λ row stands. holder_of_more ss ss' gs gs' row.holder subjects groups stands) rows h

held_still : (f g : Lists) → AreTextsOnce g.subjects → MoreMade f.made g.made → MoreSubjects f.subjects g.subjects → MoreGroups f.groups g.groups → g.grants ≡ f.grants → g.inherits ≡ f.inherits → IsHeld f → IsHeld g
held_still f g once made subjects groups grants inherits h = record {
  texts_once = once;
  grants_stand = subst (λ rows. AllByRecursion (λ (row : GrantRow). GrantStands g.made g.subjects g.groups row) rows) (sym grants) (grants_more f.made g.made f.subjects g.subjects f.groups g.groups f.grants made subjects groups h.grants_stand);
  grants_once = subst (λ rows. AreGrantsOnce rows) (sym grants) h.grants_once;
  inherits_stand = subst (λ rows. AllByRecursion (λ (row : InheritRow). HolderStands g.subjects g.groups row.holder) rows) (sym inherits) (inherits_more f.subjects g.subjects f.groups g.groups f.inherits subjects groups h.inherits_stand);
}

-- one more of a kind was made
folder_made : (made : Made) (id : ℕ) → id ≡ made.folders + 1 → MoreMade made (record made { folders = id })
folder_made made id next (object.Folder d) h = omega (arith, next, h)
folder_made made id next (object.Group g) h = h
folder_made made id next (object.Def a) h = h
folder_made made id next (object.Attr a) h = h
folder_made made id next (object.Subject s) h = h

group_made : (made : Made) (id : ℕ) → id ≡ made.groups + 1 → MoreMade made (record made { groups = id })
group_made made id next (object.Folder d) h = h
group_made made id next (object.Group g) h = omega (arith, next, h)
group_made made id next (object.Def a) h = h
group_made made id next (object.Attr a) h = h
group_made made id next (object.Subject s) h = h

subject_made : (made : Made) (id : ℕ) → id ≡ made.subjects + 1 → MoreMade made (record made { subjects = id })
subject_made made id next (object.Folder d) h = h
subject_made made id next (object.Group g) h = h
subject_made made id next (object.Def a) h = h
subject_made made id next (object.Attr a) h = h
subject_made made id next (object.Subject s) h = omega (arith, next, h)

definition_made : (made : Made) (id : ℕ) → id ≡ made.definitions + 1 → MoreMade made (record made { definitions = id })
definition_made made id next (object.Folder d) h = h
definition_made made id next (object.Group g) h = h
definition_made made id next (object.Def a) h = omega (arith, next, h)
definition_made made id next (object.Attr a) h = h
definition_made made id next (object.Subject s) h = h

attribute_made : (made : Made) (id : ℕ) → id ≡ made.attributes + 1 → MoreMade made (record made { attributes = id })
attribute_made made id next (object.Folder d) h = h
attribute_made made id next (object.Group g) h = h
attribute_made made id next (object.Def a) h = h
attribute_made made id next (object.Attr a) h = omega (arith, next, h)
attribute_made made id next (object.Subject s) h = h

assign_made : (made : Made) (id : ℕ) → MoreMade made (record made { assigns = id })
assign_made made id (object.Folder d) h = h
assign_made made id (object.Group g) h = h
assign_made made id (object.Def a) h = h
assign_made made id (object.Attr a) h = h
assign_made made id (object.Subject s) h = h

rule_made : (made : Made) (id : ℕ) → MoreMade made (record made { rules = id })
rule_made made id (object.Folder d) h = h
rule_made made id (object.Group g) h = h
rule_made made id (object.Def a) h = h
rule_made made id (object.Attr a) h = h
rule_made made id (object.Subject s) h = h

job_made : (made : Made) (id : ℕ) → MoreMade made (record made { jobs = id })
job_made made id (object.Folder d) h = h
job_made made id (object.Group g) h = h
job_made made id (object.Def a) h = h
job_made made id (object.Attr a) h = h
job_made made id (object.Subject s) h = h

-- a group less that holds nothing
pub holder_less : (id : ℕ) (ss : List SubjectRow) (gs : List GroupRow) (h : Holder) → same_holder h (holder.Group id) ≡ false → HolderStands ss gs h → HolderStands ss (groups_less id gs) h
holder_less id ss gs holder.Everyone other stands = tt
holder_less id ss gs (holder.Person s) other stands = stands
holder_less id ss gs (holder.Group x) other stands = still id x gs other stands

grants_less : (id : ℕ) (made : Made) (ss : List SubjectRow) (gs : List GroupRow) (rows : List GrantRow) → list_any (λ (row : GrantRow). same_holder row.holder (holder.Group id)) rows ≡ false
    → AllByRecursion (λ (row : GrantRow). GrantStands made ss gs row) rows → AllByRecursion (λ (row : GrantRow). GrantStands made ss (groups_less id gs) row) rows
grants_less id made ss gs [] unused h = tt
grants_less id made ss gs (row ∷ rows) unused h =
    let parts = or_parts (same_holder row.holder (holder.Group id)) (list_any (λ (r : GrantRow). same_holder r.holder (holder.Group id)) rows) unused in
    (record { object = h.0.object; holder = holder_less id ss gs row.holder parts.0 h.0.holder }, grants_less id made ss gs rows parts.1 h.1)

inherits_less : (id : ℕ) (ss : List SubjectRow) (gs : List GroupRow) (rows : List InheritRow) → list_any (λ (row : InheritRow). same_holder row.holder (holder.Group id)) rows ≡ false
    → AllByRecursion (λ (row : InheritRow). HolderStands ss gs row.holder) rows → AllByRecursion (λ (row : InheritRow). HolderStands ss (groups_less id gs) row.holder) rows
inherits_less id ss gs [] unused h = tt
inherits_less id ss gs (row ∷ rows) unused h =
    let parts = or_parts (same_holder row.holder (holder.Group id)) (list_any (λ (r : InheritRow). same_holder r.holder (holder.Group id)) rows) unused in
    (holder_less id ss gs row.holder parts.0 h.0, inherits_less id ss gs rows parts.1 h.1)

group_gone_held : (id : ℕ) (f : Lists) → Suits (GroupGone id) f → IsHeld f → IsHeld (happened (GroupGone id) f)
group_gone_held id f suits h =
    let unused = or_parts (list_any (λ (row : GrantRow). same_holder row.holder (holder.Group id)) f.grants) (list_any (λ (row : InheritRow). same_holder row.holder (holder.Group id)) f.inherits) suits.5 in
    record {
      texts_once = h.texts_once;
      grants_stand = all_filter (λ (row : GrantRow). GrantStands f.made f.subjects (groups_less id f.groups) row) (λ (row : GrantRow). not (same_object row.object (object.Group id))) f.grants (grants_less id f.made f.subjects f.groups f.grants unused.0 h.grants_stand);
      grants_once = once_filter (λ (row : GrantRow). not (same_object row.object (object.Group id))) f.grants h.grants_once;
      inherits_stand = inherits_less id f.subjects f.groups f.inherits unused.1 h.inherits_stand;
    }

-- other grants and inherits, of which the same holds
notes_held : (f : Lists) (gs : List GrantRow) (is : List InheritRow) → AllByRecursion (λ (row : GrantRow). GrantStands f.made f.subjects f.groups row) gs → AreGrantsOnce gs → AllByRecursion (λ (row : InheritRow). HolderStands f.subjects f.groups row.holder) is → IsHeld f → IsHeld (record f { grants = gs; inherits = is })
notes_held f gs is grants once inherits h = record { texts_once = h.texts_once; grants_stand = grants; grants_once = once; inherits_stand = inherits }

-- the folders, memberships and composites may be others
others_held : (f g : Lists) → g.subjects ≡ f.subjects → g.groups ≡ f.groups → g.made ≡ f.made → g.grants ≡ f.grants → g.inherits ≡ f.inherits → IsHeld f → IsHeld g
others_held f g subjects groups made grants inherits h = held_still f g
    (subst (λ ss. AreTextsOnce ss) (sym subjects) h.texts_once)
    (λ o was. subst (λ m. WasMade m o) (sym made) was)
    (λ s stands. subst (λ ss. has_subject s ss ≡ true) (sym subjects) stands)
    (λ x stands. subst (λ gs. has_group x gs ≡ true) (sym groups) stands)
    grants inherits h

-- an event that suits
pub happened_held : (e : Event) (f : Lists) → Suits e f → IsHeld f → IsHeld (happened e f)
happened_held (FolderMade row) f suits h = held_still f (happened (FolderMade row) f) h.texts_once (folder_made f.made row.id suits.0) (same_subjects f.subjects) (same_groups f.groups) refl refl h
happened_held (FolderGone id) f suits h = record {
  texts_once = h.texts_once;
  grants_stand = all_filter (λ (row : GrantRow). GrantStands f.made f.subjects f.groups row) (λ (row : GrantRow). not (same_object row.object (object.Folder id))) f.grants h.grants_stand;
  grants_once = once_filter (λ (row : GrantRow). not (same_object row.object (object.Folder id))) f.grants h.grants_once;
  inherits_stand = all_filter (λ (row : InheritRow). HolderStands f.subjects f.groups row.holder) (λ (row : InheritRow). not (row.folder == id)) f.inherits h.inherits_stand;
}
happened_held (SubjectMade row) f suits h = held_still f (happened (SubjectMade row) f) (texts_more f.subjects row h.texts_once suits.3) (subject_made f.made row.id suits.0) (subject_more f.subjects row) (same_groups f.groups) refl refl h
happened_held (GroupMade row) f suits h = held_still f (happened (GroupMade row) f) h.texts_once (group_made f.made row.id suits.0) (same_subjects f.subjects) (among_more f.groups row) refl refl h
happened_held (GroupRenamed id extension) f suits h = held_still f (happened (GroupRenamed id extension) f) h.texts_once (same_made f.made) (same_subjects f.subjects) (among_changed (group_renamed id extension) (group_renamed_id id extension) f.groups) refl refl h
happened_held (GroupMoved id to) f suits h = held_still f (happened (GroupMoved id to) f) h.texts_once (same_made f.made) (same_subjects f.subjects) (among_changed (group_moved id to) (group_moved_id id to) f.groups) refl refl h
happened_held (GroupGone id) f suits h = group_gone_held id f suits h
happened_held (GrantAdded row) f suits h = notes_held f (f.grants ++ row ∷ []) f.inherits (all_push (λ (r : GrantRow). GrantStands f.made f.subjects f.groups r) f.grants row h.grants_stand suits.0) (once_push f.grants row h.grants_once suits.1) h.inherits_stand h
happened_held (GrantBegan row) f suits h = notes_held f (map (replaced row) f.grants) f.inherits (all_replaced (λ (r : GrantRow). GrantStands f.made f.subjects f.groups r) row f.grants suits.0 h.grants_stand) (once_replaced row f.grants h.grants_once) h.inherits_stand h
happened_held (GrantRemoved row) f suits h = notes_held f _ f.inherits (all_filter (λ (r : GrantRow). GrantStands f.made f.subjects f.groups r) (λ (other : GrantRow). not (same_grant row other)) f.grants h.grants_stand) (once_filter (λ (other : GrantRow). not (same_grant row other)) f.grants h.grants_once) h.inherits_stand h
happened_held (InheritAdded row) f suits h = notes_held f f.grants (f.inherits ++ row ∷ []) h.grants_stand h.grants_once (all_push (λ (r : InheritRow). HolderStands f.subjects f.groups r.holder) f.inherits row h.inherits_stand suits.0) h
happened_held (InheritRemoved row) f suits h = notes_held f f.grants _ h.grants_stand h.grants_once (all_filter (λ (r : InheritRow). HolderStands f.subjects f.groups r.holder) (λ (other : InheritRow). not (same_inherit row other)) f.inherits h.inherits_stand) h
happened_held (DefinitionMade row) f suits h = held_still f (happened (DefinitionMade row) f) h.texts_once (definition_made f.made row.id suits.0) (same_subjects f.subjects) (same_groups f.groups) refl refl h
happened_held (DefinitionGone id) f suits h = record {
  texts_once = h.texts_once;
  grants_stand = all_filter (λ (row : GrantRow). GrantStands f.made f.subjects f.groups row) (λ (row : GrantRow). not (same_object row.object (object.Def id))) f.grants h.grants_stand;
  grants_once = once_filter (λ (row : GrantRow). not (same_object row.object (object.Def id))) f.grants h.grants_once;
  inherits_stand = h.inherits_stand;
}
happened_held (AttributeMade row) f suits h = held_still f (happened (AttributeMade row) f) h.texts_once (attribute_made f.made row.id suits.0) (same_subjects f.subjects) (same_groups f.groups) refl refl h
happened_held (AssignMade row) f suits h = held_still f (happened (AssignMade row) f) h.texts_once (assign_made f.made row.id) (same_subjects f.subjects) (same_groups f.groups) refl refl h
happened_held (RuleMade row) f suits h = held_still f (happened (RuleMade row) f) h.texts_once (rule_made f.made row.id) (same_subjects f.subjects) (same_groups f.groups) refl refl h
happened_held (JobMade row) f suits h = held_still f (happened (JobMade row) f) h.texts_once (job_made f.made row.id) (same_subjects f.subjects) (same_groups f.groups) refl refl h
happened_held e f suits h = others_held f (happened e f) refl refl refl refl refl h
