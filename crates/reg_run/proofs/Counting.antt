-- How many assignments and rules were ever made: a command that isn't refused makes one where it says so, and nothing else makes any.
use Rattle.std.proofs.Common.{◌≡◌, ℕ, ◌+◌, ◌≤◌, Bool, true, false, not, List, [], ◌∷◌, ◌++◌, map, zero, suc, Option, Some, None, length, refl, sym, ◌∙◌}
use Rattle.std.specs.Prelude.{is_some, if◌then◌else◌, option_map}
use Rattle.std.specs.List.{AllByRecursion, list_all}
use Rattle.std.proofs.lemmas.Bool.{and_from, and_parts, false≢true}
use Rattle.reg_base.specs.Entities.{entity_of}
use Rattle.reg_base.specs.declared.entity.Entity.{Entity}
use Rattle.reg_base.specs.declared.entity.Entity.TheVariants as entity
use Rattle.reg_terms.specs.declared.command.Command.{Command}
use Rattle.reg_terms.specs.declared.command.Command.TheVariants.{FolderAdd, FolderRename, FolderMove, FolderDelete, SubjectAdd, GroupAdd, GroupRename, GroupMove, GroupDelete, MemberAdd, MemberRemove, MemberWindow, CompositeSet, CompositeClear, GrantAdd, GrantRemove, InheritAdd, InheritRemove, AttrdefAdd, AttrdefDelete, AttrAdd, AttrDelete, AssignAdd, AssignRemove, ValueAdd, ValueRemove, RuleRemoveLost, RuleEndLost, RuleVeto, RuleOnCreate, RuleDelete, JobSimple, JobList, JobDelete, Load, ConsumerAdd, ConsumerAck}
use Rattle.reg_terms.specs.declared.command.Stamped.{Stamped}
use Rattle.reg_terms.specs.declared.event.Event.{Event}
use Rattle.reg_terms.specs.declared.event.Event.TheVariants.{AssignMade, RuleMade, RowAdded, RowRemoved, RowRedated, GrantAdded, GrantRemoved, InheritAdded, InheritRemoved, ValueAdded, ValueRemoved, GroupGone, Decomposed}
use Rattle.reg_terms.specs.declared.kinds.AttrValue.{AttrValue}
use Rattle.reg_terms.specs.declared.kinds.Holder.{Holder}
use Rattle.reg_terms.specs.declared.kinds.Holder.TheVariants as holder
use Rattle.reg_terms.specs.declared.kinds.Member.{Member}
use Rattle.reg_terms.specs.declared.kinds.Member.TheVariants as member
use Rattle.reg_terms.specs.declared.lists.LoadRow.{LoadRow}
use Rattle.reg_terms.specs.declared.kinds.Object.{Object}
use Rattle.reg_terms.specs.declared.kinds.Object.TheVariants.{Folder, Def}
use Rattle.reg_terms.specs.declared.kinds.RuleForm.{RuleForm}
use Rattle.reg_terms.specs.declared.kinds.Scope.{Scope}
use Rattle.reg_base.specs.declared.privilege.Privilege.{Privilege}
use Rattle.reg_base.specs.declared.privilege.Privilege.TheVariants.{StemAdmin, AttrAdmin}
use Rattle.reg_terms.specs.declared.refusal.Refusal.{Refusal}
use Rattle.reg_terms.specs.declared.rows.CompositeRow.{CompositeRow}
use Rattle.reg_terms.specs.declared.rows.GrantRow.{GrantRow}
use Rattle.reg_terms.specs.declared.rows.InheritRow.{InheritRow}
use Rattle.reg_terms.specs.declared.rows.JobRow.{JobRow}
use Rattle.reg_terms.specs.Rows.{is_composite}
use Rattle.reg_facts.specs.Events.{all_happened, edit, events_of, factors_gone, grants_added, group_events, groups_events, happened, load_events, new_assign, new_groups_grants, on_grant, on_inherit, on_job, on_member, on_owner, on_rule, on_value, row_comes, row_goes, row_gone, row_named, rows_events, with_groups}
use Rattle.reg_facts.specs.RowOrder.{rows_of}
use Rattle.reg_facts.specs.Attributes.{attribute_id, value_of}
use Rattle.reg_facts.specs.Edits.{from_or, member_of, subject_id, the_id}
use Rattle.reg_facts.specs.Grants.{grant_of, holder_of, inherit_of, makers_grant, object_of, to_come}
use Rattle.reg_facts.specs.Jobs.{job_by}
use Rattle.reg_facts.specs.Naming.{folder_id, group_id}
use Rattle.reg_facts.specs.Lists.{Lists}
use Rattle.reg_facts.specs.Rules.{form_of, on_create_for}
use Rattle.reg_rules.specs.declared.actions.Action.{Action}
use Rattle.reg_rules.specs.declared.actions.Action.TheVariants.{Removed, Ended}
use Rattle.reg_rules.specs.Actions.{all_done, done}
use Rattle.reg_current.specs.Dates.{at_date, date_actions, date_passed, due, most_dates, pass, pass_in}
use Rattle.reg_machine.specs.Assigning.{owner_of}
use Rattle.reg_machine.specs.Checks.{checks, is_system, is_unknown}
use Rattle.reg_machine.specs.History.{command_actions, facts}
use Rattle.reg_machine.specs.Invariant.{IsBy}
use Rattle.reg_machine.specs.Past.{log}
use Rattle.reg_current.specs.Live.{live}
use Rattle.reg_demand.specs.Refusing.{refused}
use Rattle.reg_machine.specs.Refusals.{first_of, or_else, refusal}
use Rattle.reg_machine.proofs.Allowed.{all_fail}
use Rattle.reg_machine.proofs.Moments.{facts_later, facts_push}

-- as many were ever made
abbrev pub SameMade : Lists → Lists → Type 0
SameMade f g = (g.made.assigns ≡ f.made.assigns) × (g.made.rules ≡ f.made.rules)

same_then : (f g h : Lists) → SameMade f g → SameMade g h → SameMade f h
same_then f g h a b = (b.0 ∙ a.0, b.1 ∙ a.1)

-- how many there are after a command
abbrev pub assigns_after : Command → ℕ → ℕ
assigns_after (AssignAdd attribute object) n = n + 1
assigns_after _ n = n

abbrev pub rules_after : Command → ℕ → ℕ
rules_after (RuleRemoveLost check owner) n = n + 1
rules_after (RuleEndLost check owner days) n = n + 1
rules_after (RuleVeto owner condition) n = n + 1
rules_after (RuleOnCreate folder scope privilege holder) n = n + 1
rules_after _ n = n

abbrev pub Makes : Command → Lists → Lists → Type 0
Makes c f g = (g.made.assigns ≡ assigns_after c f.made.assigns) × (g.made.rules ≡ rules_after c f.made.rules)

-- ---- events

-- whether an event makes neither an assignment nor a rule
abbrev makes_none : Event → Bool
makes_none (AssignMade row) = false
makes_none (RuleMade row) = false
makes_none _ = true

event_same : (e : Event) (f : Lists) → makes_none e ≡ true → SameMade f (happened e f)
event_same (AssignMade row) f h = absurd (false≢true h)
event_same (RuleMade row) f h = absurd (false≢true h)
event_same _ f h = (refl, refl)

abbrev none_made : List Event → Bool
none_made es = list_all makes_none es

events_same : (es : List Event) (f : Lists) → none_made es ≡ true → SameMade f (all_happened es f)
events_same [] f h = (refl, refl)
events_same (e ∷ es) f h =
    let parts = and_parts (makes_none e) (none_made es) h in
    same_then f (happened e f) (all_happened es (happened e f)) (event_same e f parts.0) (events_same es (happened e f) parts.1)

none_mapped : {A : Type 0} (event : A → Event) → ((x : A) → makes_none (event x) ≡ true) → (xs : List A) → none_made (map event xs) ≡ true
none_mapped event each [] = refl
none_mapped event each (x ∷ xs) = and_from (makes_none (event x)) (none_made (map event xs)) (each x) (none_mapped event each xs)

none_joined : (es fs : List Event) → none_made es ≡ true → none_made fs ≡ true → none_made (es ++ fs) ≡ true
none_joined [] fs a b = b
none_joined (e ∷ es) fs a b =
    let parts = and_parts (makes_none e) (none_made es) a in
    and_from (makes_none e) (none_made (es ++ fs)) parts.0 (none_joined es fs parts.1 b)

none_granted : (rows : List GrantRow) → none_made (grants_added rows) ≡ true
none_granted rows = none_mapped (λ (row : GrantRow). GrantAdded row) (λ row. refl) rows

none_gone : (g : ℕ) (composites : List CompositeRow) → none_made (factors_gone g composites) ≡ true
none_gone g composites = either (is_composite g composites)
  where
    either : (b : Bool) → none_made (if b then Decomposed g ∷ [] else []) ≡ true
    either true = refl
    either false = refl

none_grouped : (by : Entity) (names : List (List ℕ)) (f : Lists) → none_made (groups_events by names f) ≡ true
none_grouped by [] f = refl
none_grouped by (name ∷ names) f =
    none_joined (group_events by name f) (groups_events by names (all_happened (group_events by name f) f)) (none_granted (new_groups_grants by name f)) (none_grouped by names (all_happened (group_events by name f) f))

none_loaded : (at : ℕ) (by : Entity) (created : List (List ℕ)) (removed added : List LoadRow) (f : Lists) → none_made (load_events at by created removed added f) ≡ true
unfolding load_events
none_loaded at by created removed added f =
    let g = with_groups by created f in
    let gone = map (row_named g) removed in
    let come = map (row_named g) added in
    none_joined (groups_events by created f) (rows_events at gone come) (none_grouped by created f)
    (none_joined (map row_goes gone) (map (row_comes at) come) (none_mapped row_goes (λ row. refl) gone) (none_mapped (row_comes at) (λ row. refl) come))

none_on_member : (event : Member → Event) → ((m : Member) → makes_none (event m) ≡ true) → (o : Option Member) → none_made (on_member event o) ≡ true
none_on_member event each None = refl
none_on_member event each (Some m) = and_from (makes_none (event m)) true (each m) refl

none_on_grant : (event : GrantRow → Event) → ((row : GrantRow) → makes_none (event row) ≡ true) → (o : Option GrantRow) → none_made (on_grant event o) ≡ true
none_on_grant event each None = refl
none_on_grant event each (Some row) = and_from (makes_none (event row)) true (each row) refl

none_on_inherit : (event : InheritRow → Event) → ((row : InheritRow) → makes_none (event row) ≡ true) → (o : Option InheritRow) → none_made (on_inherit event o) ≡ true
none_on_inherit event each None = refl
none_on_inherit event each (Some row) = and_from (makes_none (event row)) true (each row) refl

none_on_value : (event : AttrValue → Event) → ((v : AttrValue) → makes_none (event v) ≡ true) → (o : Option AttrValue) → none_made (on_value event o) ≡ true
none_on_value event each None = refl
none_on_value event each (Some v) = and_from (makes_none (event v)) true (each v) refl

none_on_job : (o : Option JobRow) → none_made (on_job o) ≡ true
none_on_job None = refl
none_on_job (Some row) = refl

-- ---- what a command changes

-- these facts have what the command makes, and no more
edit_same : (at : ℕ) (by : Entity) (c : Command) (f : Lists) → none_made (events_of at by c f) ≡ true → SameMade f (edit at by c f)
edit_same at by c f h = events_same (events_of at by c f) f h

not_false : (b : Bool) → not b ≡ false → b ≡ true
not_false true h = refl
not_false false h = absurd (let clash : ⊥ = cc in clash)

owner_stands : (e : Option Entity) (o : Option Object) → not (is_some (owner_of e o)) ≡ false → is_some o ≡ true
owner_stands e None h = absurd (let clash : ⊥ = cc in clash)
owner_stands e (Some o) h = refl

assign_made : (at : ℕ) (by : Entity) (attribute object : List ℕ) (f : Lists) → is_some (object_of object f) ≡ true → Makes (AssignAdd attribute object) f (edit at by (AssignAdd attribute object) f)
unfolding events_of
assign_made at by attribute object f some = go (object_of object f) some
  where
    go : (o : Option Object) → is_some o ≡ true → Makes (AssignAdd attribute object) f (all_happened (on_owner (λ x. AssignMade (new_assign attribute x f)) o) f)
    go None h = absurd (false≢true h)
    go (Some x) h = (refl, refl)

rule_made : (c : Command) (form : Option RuleForm) (f : Lists) → is_some form ≡ true → assigns_after c f.made.assigns ≡ f.made.assigns → rules_after c f.made.rules ≡ f.made.rules + 1 → Makes c f (all_happened (on_rule (f.made.rules + 1) form) f)
rule_made c None f some same more = absurd (false≢true some)
rule_made c (Some form) f some same more = (sym same, sym more)

-- a holder that is known and isn't the system may hold
holder_stands : (who : Entity) (f : Lists) → is_unknown who f ≡ false → is_system who ≡ false → is_some (holder_of who f) ≡ true
holder_stands (entity.Person text) f known other = found (subject_id text f.subjects) known
  where
    found : (o : Option ℕ) → not (is_some (elim o [ None ↦ None | Some s ↦ Some (member.Person s) ])) ≡ false → is_some (option_map (λ s. holder.Person s) o) ≡ true
    found None h = absurd (let clash : ⊥ = cc in clash)
    found (Some s) h = refl
holder_stands (entity.Group name) f known other = found (group_id name f) known
  where
    found : (o : Option ℕ) → not (is_some (elim o [ None ↦ None | Some g ↦ Some (member.Group g) ])) ≡ false → is_some (option_map (λ g. holder.Group g) o) ≡ true
    found None h = absurd (let clash : ⊥ = cc in clash)
    found (Some g) h = refl
holder_stands entity.System f known other = absurd (let clash : ⊥ = cc in clash)
holder_stands entity.Everyone f known other = refl

form_stands : (d : ℕ) (scope : Scope) (privilege : Privilege) (o : Option Holder) → is_some o ≡ true → is_some (on_create_for d scope privilege o) ≡ true
form_stands d scope privilege None h = h
form_stands d scope privilege (Some who) h = refl

edit_makes : (history : List Stamped) (last at : ℕ) (by : Entity) (c : Command) (f : Lists) → first_of (checks history last at f by c) ≡ None → Makes c f (edit at by c f)
unfolding events_of checks
edit_makes history last at by (AssignAdd attribute object) f h =
    let fails = all_fail (checks history last at f by (AssignAdd attribute object)) h in
    assign_made at by attribute object f (owner_stands (entity_of object) (object_of object f) fails.1.1.0)
edit_makes history last at by (RuleRemoveLost check owner) f h = rule_made (RuleRemoveLost check owner) (form_of (RuleRemoveLost check owner) f) f refl refl refl
edit_makes history last at by (RuleEndLost check owner days) f h = rule_made (RuleEndLost check owner days) (form_of (RuleEndLost check owner days) f) f refl refl refl
edit_makes history last at by (RuleVeto owner condition) f h = rule_made (RuleVeto owner condition) (form_of (RuleVeto owner condition) f) f refl refl refl
edit_makes history last at by (RuleOnCreate folder scope privilege who) f h =
    let fails = all_fail (checks history last at f by (RuleOnCreate folder scope privilege who)) h in
    rule_made (RuleOnCreate folder scope privilege who) (form_of (RuleOnCreate folder scope privilege who) f) f
    (form_stands (the_id (folder_id folder f)) scope privilege (holder_of who f) (holder_stands who f fails.1.0 fails.1.1.1.0)) refl refl
edit_makes history last at by (FolderAdd folder display) f h = edit_same at by (FolderAdd folder display) f (none_granted (makers_grant by (Folder (f.made.folders + 1)) StemAdmin f))
edit_makes history last at by (FolderRename folder extension) f h = (refl, refl)
edit_makes history last at by (FolderMove folder to) f h = (refl, refl)
edit_makes history last at by (FolderDelete folder) f h = (refl, refl)
edit_makes history last at by (SubjectAdd subject display) f h = (refl, refl)
edit_makes history last at by (GroupAdd group display) f h = edit_same at by (GroupAdd group display) f (none_granted (new_groups_grants by group f))
edit_makes history last at by (GroupRename group extension) f h = (refl, refl)
edit_makes history last at by (GroupMove group to) f h = (refl, refl)
edit_makes history last at by (GroupDelete group) f h = let g = the_id (group_id group f) in
    edit_same at by (GroupDelete group) f (none_joined (map row_gone (rows_of g f.rows) ++ factors_gone g f.composites) (GroupGone g ∷ []) (none_joined (map row_gone (rows_of g f.rows)) (factors_gone g f.composites) (none_mapped row_gone (λ row. refl) (rows_of g f.rows)) (none_gone g f.composites)) refl)
edit_makes history last at by (MemberAdd group member from until) f h = edit_same at by (MemberAdd group member from until) f (none_on_member (λ m. RowAdded (record { group = the_id (group_id group f); member = m; from = from_or at from; until = until })) (λ m. refl) (member_of member f))
edit_makes history last at by (MemberRemove group member) f h = edit_same at by (MemberRemove group member) f (none_on_member (λ m. RowRemoved (the_id (group_id group f)) m) (λ m. refl) (member_of member f))
edit_makes history last at by (MemberWindow group member from until) f h = edit_same at by (MemberWindow group member from until) f (none_on_member (λ m. RowRedated (the_id (group_id group f)) m (from_or at from) until) (λ m. refl) (member_of member f))
edit_makes history last at by (CompositeSet group kind left right) f h = (refl, refl)
edit_makes history last at by (CompositeClear group) f h = (refl, refl)
edit_makes history last at by (GrantAdd object privilege holder from until) f h = edit_same at by (GrantAdd object privilege holder from until) f (none_on_grant (λ row. GrantAdded row) (λ row. refl) (grant_of object privilege holder (to_come at from) until f))
edit_makes history last at by (GrantRemove object privilege holder) f h = edit_same at by (GrantRemove object privilege holder) f (none_on_grant (λ row. GrantRemoved row) (λ row. refl) (grant_of object privilege holder None None f))
edit_makes history last at by (InheritAdd folder kind scope privilege holder) f h = edit_same at by (InheritAdd folder kind scope privilege holder) f (none_on_inherit (λ row. InheritAdded row) (λ row. refl) (inherit_of folder kind scope privilege holder f))
edit_makes history last at by (InheritRemove folder kind scope privilege holder) f h = edit_same at by (InheritRemove folder kind scope privilege holder) f (none_on_inherit (λ row. InheritRemoved row) (λ row. refl) (inherit_of folder kind scope privilege holder f))
edit_makes history last at by (AttrdefAdd definition owners several kind many) f h = edit_same at by (AttrdefAdd definition owners several kind many) f (none_granted (makers_grant by (Def (f.made.definitions + 1)) AttrAdmin f))
edit_makes history last at by (AttrdefDelete definition) f h = (refl, refl)
edit_makes history last at by (AttrAdd attribute definition) f h = (refl, refl)
edit_makes history last at by (AttrDelete attribute) f h = (refl, refl)
edit_makes history last at by (AssignRemove attribute object id) f h = (refl, refl)
edit_makes history last at by (ValueAdd attribute object id value) f h = edit_same at by (ValueAdd attribute object id value) f (none_on_value (λ v. ValueAdded id v) (λ v. refl) (value_of (the_id (attribute_id attribute f)) value f))
edit_makes history last at by (ValueRemove attribute object id value) f h = edit_same at by (ValueRemove attribute object id value) f (none_on_value (λ v. ValueRemoved id v) (λ v. refl) (value_of (the_id (attribute_id attribute f)) value f))
edit_makes history last at by (RuleDelete id) f h = (refl, refl)
edit_makes history last at by (JobSimple job group source min_size max_percent) f h = (refl, refl)
edit_makes history last at by (JobList job folder source min_size max_percent) f h = (refl, refl)
edit_makes history last at by (JobDelete job) f h = edit_same at by (JobDelete job) f (none_on_job (job_by job f.jobs))
edit_makes history last at by (Load job created removed added) f h = edit_same at by (Load job created removed added) f (none_loaded at by created removed added f)
edit_makes history last at by (ConsumerAdd consumer) f h = (refl, refl)
edit_makes history last at by (ConsumerAck consumer seq) f h = (refl, refl)

-- ---- what follows

done_same : (a : Action) (f : Lists) → SameMade f (done a f)
done_same (Removed rule g s) f = (refl, refl)
done_same (Ended rule g s until) f = (refl, refl)

all_done_same : (actions : List Action) (f : Lists) → SameMade f (all_done actions f)
all_done_same [] f = (refl, refl)
all_done_same (a ∷ actions) f = same_then f (done a f) (all_done actions (done a f)) (done_same a f) (all_done_same actions (done a f))

-- a date makes nothing
date_same : (a d : ℕ) (f : Lists) → SameMade f (date_passed a d f)
date_same a d f = all_done_same (date_actions a d f) (at_date d f)

pass_in_same : (n a b : ℕ) (f : Lists) → SameMade f (pass_in n a b f)
pass_in_same zero a b f = (refl, refl)
pass_in_same (suc n) a b f = go (λ d. pass_in_same n d b (date_passed a d f)) (due a b f)
  where
    go : ((d : ℕ) → SameMade (date_passed a d f) (pass_in n d b (date_passed a d f))) → (o : Option ℕ) → SameMade f (elim o [ None ↦ f | Some d ↦ pass_in n d b (date_passed a d f) ])
    go later None = (refl, refl)
    go later (Some d) = same_then f (date_passed a d f) (pass_in n d b (date_passed a d f)) (date_same a d f) (later d)

pass_same : (a b : ℕ) (f : Lists) → SameMade f (pass a b f)
unfolding pass
pass_same a b f = pass_in_same (most_dates f) a b f

-- time makes nothing
pub later_same : (t u : ℕ) (history : List Stamped) → AllByRecursion (IsBy t) history → t ≤ u → SameMade (facts history t) (facts history u)
later_same t u history by le = rw (facts_later t u history by le) (pass_same t u (facts history t))

no_check : (a b : Option Refusal) → or_else a b ≡ None → b ≡ None
no_check None b h = h
no_check (Some r) b h = absurd (let clash : ⊥ = cc in clash)

-- a command that isn't refused makes what it says
pub next_makes : (history : List Stamped) (at : ℕ) (by : Entity) (key : Option (List ℕ)) (c : Command) → AllByRecursion (IsBy at) history → refusal history at by c ≡ None
    → Makes c (facts history at) (facts (history ++ (record { at = at; by = by; key = key; command = c }) ∷ []) at)
unfolding refusal
next_makes history at by key c all none =
    let f = facts history at in
    let edited = edit_makes history (length (log history at)) at by c f (no_check (refused (live at f) f by c) (first_of (checks history (length (log history at)) at f by c)) none) in
    let settled = all_done_same (command_actions at by c f) (edit at by c f) in
    rw (facts_push at by key c history all) (settled.0 ∙ edited.0, settled.1 ∙ edited.1)
