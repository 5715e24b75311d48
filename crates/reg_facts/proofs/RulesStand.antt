-- What is true of the rules of every history: at the start, and after each event that suits.
use Rattle.std.proofs.Common.{◌≡◌, ◌==◌, ◌||◌, ◌+◌, ◌++◌, ℕ, List, [], ◌∷◌, Bool, true, false, not, Option, Some, None, IsSome, inl, inr, refl, sym, ap, subst, ◌∙◌, map, filter, arith}
use Rattle.std.specs.List.{AllByRecursion, list_any}
use Rattle.std.proofs.lemmas.Bool.{cases_Bool, or_parts, or_left, or_right, eqb-true, eq-eqb, ne_eqb, eqb-false}
use Rattle.std.proofs.lemmas.List.Folds.{list_any-append}
use Rattle.reg_terms.specs.Kinds.{same_holder, same_scope}
use Rattle.reg_terms.specs.Privileges.{code}
use Rattle.reg_terms.specs.Rules.{key_of, other_of, same_form, same_key}
use Rattle.reg_terms.specs.declared.event.Event.{Event}
use Rattle.reg_terms.specs.declared.event.Event.TheVariants.{FolderMade, FolderRenamed, FolderMoved, FolderGone, SubjectMade, GroupMade, GroupRenamed, GroupMoved, GroupGone, RuleMade, RuleGone}
use Rattle.reg_terms.specs.declared.kinds.Holder.{Holder}
use Rattle.reg_terms.specs.declared.kinds.Holder.TheVariants as holder
use Rattle.reg_terms.specs.declared.kinds.Object.TheVariants.{Folder}
use Rattle.reg_terms.specs.declared.kinds.RuleForm.{RuleForm}
use Rattle.reg_terms.specs.declared.kinds.RuleForm.TheVariants.{RemoveLost, EndLost, Veto, OnCreate}
use Rattle.reg_terms.specs.declared.kinds.Scope.{Scope}
use Rattle.reg_terms.specs.declared.kinds.Scope.TheVariants.{One, Sub}
use Rattle.reg_terms.specs.declared.rows.FolderRow.{FolderRow}
use Rattle.reg_terms.specs.declared.rows.GroupRow.{GroupRow}
use Rattle.reg_terms.specs.declared.rows.RuleRow.{RuleRow}
use Rattle.reg_terms.specs.declared.rules.RuleKey.TheVariants as key
use Rattle.reg_facts.specs.Edits.{folder_renamed, folder_moved, group_renamed, group_moved}
use Rattle.reg_facts.specs.Events.{happened}
use Rattle.reg_facts.specs.Lists.{Lists, start}
use Rattle.reg_facts.specs.Naming.{placed_folders}
use Rattle.reg_facts.specs.Ruled.{FormStands, AreRulesOnce, AreRuled}
use Rattle.reg_facts.specs.Rules.{has_rule, names_group, is_ruled, is_ruled_folder}
use Rattle.reg_facts.specs.Sound.{Ascend, has_group, is_named}
use Rattle.reg_facts.specs.Suiting.{Suits}
use Rattle.reg_facts.proofs.Edited.{ascend_push, ascend_filter}
use Rattle.reg_facts.proofs.Held.{MoreSubjects, MoreGroups, holder_of_more, subject_more, same_subjects, same_groups, holder_less}
use Rattle.reg_facts.proofs.Joined.{all_changed, among_more, among_changed, still, none_push, none_filter}
use Rattle.reg_facts.proofs.Places.{all_push, all_filter}
use Rattle.reg_facts.proofs.NamedFolders.{is_folder, stands_among, MoreFolders, named_is, among_less, root_or, folder_more, folder_changed, same_folders}
use Rattle.reg_facts.proofs.Sounding.{group_renamed_id, group_moved_id, folder_renamed_id, folder_moved_id, folder_renamed_up, folder_moved_up}

pub start_ruled : AreRuled start
start_ruled = record { ascend = omega arith; once = tt; stand = tt }

-- ---- what a rule speaks of

-- where what stood stands, a rule speaks of what stands
form_more : (f g : Lists) → MoreFolders f.folders g.folders → MoreSubjects f.subjects g.subjects → MoreGroups f.groups g.groups → (form : RuleForm) → FormStands f form → FormStands g form
form_more f g folders subjects groups (RemoveLost check owner) h = (groups check h.0, groups owner h.1)
form_more f g folders subjects groups (EndLost check owner days) h = (groups check h.0, groups owner h.1, h.2, h.3)
form_more f g folders subjects groups (Veto owner condition) h = (groups owner h.0, groups condition h.1)
form_more f g folders subjects groups (OnCreate d scope p x) h = (named_is d g ∙ folders d (sym (named_is d f) ∙ h.0), holder_of_more f.subjects g.subjects f.groups g.groups x subjects groups h.1)

ruled_still : (f g : Lists) → MoreFolders f.folders g.folders → MoreSubjects f.subjects g.subjects → MoreGroups f.groups g.groups → g.rules ≡ f.rules → g.made.rules ≡ f.made.rules → AreRuled f → AreRuled g
ruled_still f g folders subjects groups rules made h = record {
  ascend = subst (λ rows. Ascend g.made.rules (map (λ (row : RuleRow). row.id) rows)) (sym rules) (subst (λ n. Ascend n (map (λ (row : RuleRow). row.id) f.rules)) (sym made) h.ascend);
  once = subst (λ rows. AreRulesOnce rows) (sym rules) h.once;
  stand = subst (λ rows. AllByRecursion (λ (row : RuleRow). FormStands g row.form) rows) (sym rules) (all_changed (λ (row : RuleRow). FormStands f row.form) (λ (row : RuleRow). FormStands g row.form) (λ row stands. form_more f g folders subjects groups row.form stands) f.rules h.stand);
}

-- what rules speak of may be the same
same_ruled : (f g : Lists) → g.folders ≡ f.folders → g.subjects ≡ f.subjects → g.groups ≡ f.groups → g.rules ≡ f.rules → g.made.rules ≡ f.made.rules → AreRuled f → AreRuled g
same_ruled f g folders subjects groups rules made h = ruled_still f g
    (λ d stands. subst (λ fs. stands_among d fs ≡ true) (sym folders) stands)
    (λ s stands. subst (λ ss. list_any (λ r. r.id == s) ss ≡ true) (sym subjects) stands)
    (λ x stands. subst (λ gs. has_group x gs ≡ true) (sym groups) stands)
    rules made h

-- ---- a folder or a group less that no rule names

form_less_folder : (id : ℕ) (f : Lists) (form : RuleForm) → same_key (key_of form) (key.Folder id) ≡ false → FormStands f form → FormStands (happened (FolderGone id) f) form
form_less_folder id f (RemoveLost check owner) other h = h
form_less_folder id f (EndLost check owner days) other h = h
form_less_folder id f (Veto owner condition) other h = h
form_less_folder id f (OnCreate d scope p x) other h = (
  named_is d (happened (FolderGone id) f) ∙ root_or d (list_any (is_folder d) (placed_folders f.folders)) (list_any (is_folder d) (placed_folders (filter (λ (row : FolderRow). not (row.id == id)) f.folders))) (among_less d id f.folders other) (sym (named_is d f) ∙ h.0),
  h.1,
)

folder_gone_stand : (id : ℕ) (f : Lists) (rows : List RuleRow) → is_ruled_folder id rows ≡ false → AllByRecursion (λ (row : RuleRow). FormStands f row.form) rows → AllByRecursion (λ (row : RuleRow). FormStands (happened (FolderGone id) f) row.form) rows
folder_gone_stand id f [] unused h = tt
folder_gone_stand id f (row ∷ rows) unused h =
    let parts = or_parts (same_key (key_of row.form) (key.Folder id)) (is_ruled_folder id rows) unused in
    (form_less_folder id f row.form parts.0 h.0, folder_gone_stand id f rows parts.1 h.1)

form_less_group : (id : ℕ) (f : Lists) (form : RuleForm) → same_key (key_of form) (key.Check id) ≡ false → same_key (key_of form) (key.Owner id) ≡ false → same_holder (other_of form) (holder.Group id) ≡ false → FormStands f form → FormStands (happened (GroupGone id) f) form
form_less_group id f (RemoveLost check owner) one two three h = (still id check f.groups one h.0, still id owner f.groups three h.1)
form_less_group id f (EndLost check owner days) one two three h = (still id check f.groups one h.0, still id owner f.groups three h.1, h.2, h.3)
form_less_group id f (Veto owner condition) one two three h = (still id owner f.groups two h.0, still id condition f.groups three h.1)
form_less_group id f (OnCreate d scope p x) one two three h = (named_is d (happened (GroupGone id) f) ∙ (sym (named_is d f) ∙ h.0), holder_less id f.subjects f.groups x three h.1)

group_gone_stand : (id : ℕ) (f : Lists) (rows : List RuleRow) → is_ruled id rows ≡ false → AllByRecursion (λ (row : RuleRow). FormStands f row.form) rows → AllByRecursion (λ (row : RuleRow). FormStands (happened (GroupGone id) f) row.form) rows
group_gone_stand id f [] unused h = tt
group_gone_stand id f (row ∷ rows) unused h =
    let parts = or_parts (names_group id row.form) (is_ruled id rows) unused in
    let first = or_parts (same_key (key_of row.form) (key.Check id)) (same_key (key_of row.form) (key.Owner id) || same_holder (other_of row.form) (holder.Group id)) parts.0 in
    let second = or_parts (same_key (key_of row.form) (key.Owner id)) (same_holder (other_of row.form) (holder.Group id)) first.1 in
    (form_less_group id f row.form first.0 second.0 second.1 h.0, group_gone_stand id f rows parts.1 h.1)

-- ---- a rule more, and a rule less

pub number_turned : (a b : ℕ) → (a == b) ≡ (b == a)
number_turned a b = elim (cases_Bool (a == b)) [
  | inl t ↦ t ∙ sym (rw (eqb-true a b t) (self b))
  | inr t ↦ t ∙ sym (ne_eqb b a (λ e. eqb-false a b t (sym e)))
]
  where
    self : (n : ℕ) → (n == n) ≡ true
    self n = eq-eqb n n refl

scope_turned : (a b : Scope) → same_scope a b ≡ same_scope b a
scope_turned One One = refl
scope_turned One Sub = refl
scope_turned Sub One = refl
scope_turned Sub Sub = refl

holder_turned : (a b : Holder) → same_holder a b ≡ same_holder b a
holder_turned holder.Everyone holder.Everyone = refl
holder_turned holder.Everyone (holder.Person b) = refl
holder_turned holder.Everyone (holder.Group b) = refl
holder_turned (holder.Person a) holder.Everyone = refl
holder_turned (holder.Person a) (holder.Person b) = number_turned a b
holder_turned (holder.Person a) (holder.Group b) = refl
holder_turned (holder.Group a) holder.Everyone = refl
holder_turned (holder.Group a) (holder.Person b) = refl
holder_turned (holder.Group a) (holder.Group b) = number_turned a b

form_turned : (a b : RuleForm) → same_form a b ≡ same_form b a
form_turned (RemoveLost a b) (RemoveLost c d) = rw (number_turned a c, number_turned b d) refl
form_turned (RemoveLost a b) (EndLost c d n) = refl
form_turned (RemoveLost a b) (Veto c d) = refl
form_turned (RemoveLost a b) (OnCreate c s p h) = refl
form_turned (EndLost a b m) (RemoveLost c d) = refl
form_turned (EndLost a b m) (EndLost c d n) = rw (number_turned a c, number_turned b d, number_turned m n) refl
form_turned (EndLost a b m) (Veto c d) = refl
form_turned (EndLost a b m) (OnCreate c s p h) = refl
form_turned (Veto a b) (RemoveLost c d) = refl
form_turned (Veto a b) (EndLost c d n) = refl
form_turned (Veto a b) (Veto c d) = rw (number_turned a c, number_turned b d) refl
form_turned (Veto a b) (OnCreate c s p h) = refl
form_turned (OnCreate a s p h) (RemoveLost c d) = refl
form_turned (OnCreate a s p h) (EndLost c d n) = refl
form_turned (OnCreate a s p h) (Veto c d) = refl
form_turned (OnCreate a s p h) (OnCreate b t q k) = rw (number_turned a b, scope_turned s t, number_turned (code p) (code q), holder_turned h k) refl

once_push : (rows : List RuleRow) (row : RuleRow) → AreRulesOnce rows → has_rule row.form rows ≡ false → AreRulesOnce (rows ++ row ∷ [])
once_push [] row h new = (refl, tt)
once_push (r ∷ rows) row h new =
    let parts = or_parts (same_form r.form row.form) (has_rule row.form rows) new in
    (none_push (λ (x : RuleRow). same_form x.form r.form) rows row h.0 (form_turned row.form r.form ∙ parts.0), once_push rows row h.1 parts.1)

once_filter : (test : RuleRow → Bool) (rows : List RuleRow) → AreRulesOnce rows → AreRulesOnce (filter test rows)
once_filter test [] h = tt
once_filter test (r ∷ rows) h = elim (cases_Bool (test r)) [
  | inl t ↦ rw t (none_filter (λ (x : RuleRow). same_form x.form r.form) test rows h.0, once_filter test rows h.1)
  | inr t ↦ rw t (once_filter test rows h.1)
]

-- the rules may be others
with_rules : (f g : Lists) (rows : List RuleRow) → g.folders ≡ f.folders → g.subjects ≡ f.subjects → g.groups ≡ f.groups → AllByRecursion (λ (row : RuleRow). FormStands f row.form) rows → AllByRecursion (λ (row : RuleRow). FormStands g row.form) rows
with_rules f g rows folders subjects groups h = all_changed (λ (row : RuleRow). FormStands f row.form) (λ (row : RuleRow). FormStands g row.form) (λ row stands. form_more f g
    (λ d there. subst (λ fs. stands_among d fs ≡ true) (sym folders) there)
    (λ s there. subst (λ ss. list_any (λ r. r.id == s) ss ≡ true) (sym subjects) there)
    (λ x there. subst (λ gs. has_group x gs ≡ true) (sym groups) there)
    row.form stands) rows h

rule_made_ruled : (row : RuleRow) (f : Lists) → Suits (RuleMade row) f → AreRuled f → AreRuled (happened (RuleMade row) f)
rule_made_ruled row f suits h = record {
  ascend = subst (λ n. Ascend n (map (λ (r : RuleRow). r.id) (f.rules ++ row ∷ []))) (sym suits.0) (ascend_push (λ (r : RuleRow). r.id) 0 f.made.rules f.rules row h.ascend suits.0);
  once = once_push f.rules row h.once suits.3;
  stand = with_rules f (happened (RuleMade row) f) (f.rules ++ row ∷ []) refl refl refl (all_push (λ (r : RuleRow). FormStands f r.form) f.rules row h.stand suits.2);
}

rule_gone_ruled : (id : ℕ) (f : Lists) → AreRuled f → AreRuled (happened (RuleGone id) f)
rule_gone_ruled id f h = record {
  ascend = ascend_filter (λ (r : RuleRow). r.id) (λ (row : RuleRow). not (row.id == id)) 0 f.made.rules f.rules h.ascend;
  once = once_filter (λ (row : RuleRow). not (row.id == id)) f.rules h.once;
  stand = with_rules f (happened (RuleGone id) f) (filter (λ (row : RuleRow). not (row.id == id)) f.rules) refl refl refl (all_filter (λ (r : RuleRow). FormStands f r.form) (λ (row : RuleRow). not (row.id == id)) f.rules h.stand);
}

-- an event that suits
pub happened_ruled : (e : Event) (f : Lists) → Suits e f → AreRuled f → AreRuled (happened e f)
happened_ruled (FolderMade row) f suits h = ruled_still f (happened (FolderMade row) f) (folder_more f.folders row) (same_subjects f.subjects) (same_groups f.groups) refl refl h
happened_ruled (FolderRenamed id extension) f suits h = ruled_still f (happened (FolderRenamed id extension) f) (folder_changed (folder_renamed id extension) (folder_renamed_id id extension) (folder_renamed_up id extension) f.folders) (same_subjects f.subjects) (same_groups f.groups) refl refl h
happened_ruled (FolderMoved id to) f suits h = ruled_still f (happened (FolderMoved id to) f) (folder_changed (folder_moved id to) (folder_moved_id id to) (folder_moved_up id to) f.folders) (same_subjects f.subjects) (same_groups f.groups) refl refl h
happened_ruled (FolderGone id) f suits h = record { ascend = h.ascend; once = h.once; stand = folder_gone_stand id f f.rules suits.2 h.stand }
happened_ruled (SubjectMade row) f suits h = ruled_still f (happened (SubjectMade row) f) (same_folders f.folders) (subject_more f.subjects row) (same_groups f.groups) refl refl h
happened_ruled (GroupMade row) f suits h = ruled_still f (happened (GroupMade row) f) (same_folders f.folders) (same_subjects f.subjects) (among_more f.groups row) refl refl h
happened_ruled (GroupRenamed id extension) f suits h = ruled_still f (happened (GroupRenamed id extension) f) (same_folders f.folders) (same_subjects f.subjects) (among_changed (group_renamed id extension) (group_renamed_id id extension) f.groups) refl refl h
happened_ruled (GroupMoved id to) f suits h = ruled_still f (happened (GroupMoved id to) f) (same_folders f.folders) (same_subjects f.subjects) (among_changed (group_moved id to) (group_moved_id id to) f.groups) refl refl h
happened_ruled (GroupGone id) f suits h = record { ascend = h.ascend; once = h.once; stand = group_gone_stand id f f.rules suits.6 h.stand }
happened_ruled (RuleMade row) f suits h = rule_made_ruled row f suits h
happened_ruled (RuleGone id) f suits h = rule_gone_ruled id f h
happened_ruled e f suits h = same_ruled f (happened e f) refl refl refl refl refl h
