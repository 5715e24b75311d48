-- Worked examples computed: the log of a membership that begins, ends and begins again at one moment, a deleted group's
-- entries, life and last name, a root that was always there, what rules did with their numbers, an attribute that is assigned,
-- has a value and goes, a loader job, and a grant between two dates.
use Rattle.std.proofs.Common.{◌≡◌, ◌++◌, ℕ, List, [], ◌∷◌, true, false, Option, Some, None, codes, map, refl}
use Rattle.reg_base.specs.declared.privilege.Privilege.TheVariants.{View}
use Rattle.reg_terms.specs.declared.event.Event.{Event}
use Rattle.reg_terms.specs.declared.event.Event.TheVariants.{SubjectMade, GroupMade, GroupGone, RowAdded, RowRemoved, DefinitionMade, AttributeMade, AttributeGone, AssignMade, AssignGone, ValueAdded, JobMade, JobGone, GrantAdded, GrantBegan, GrantRemoved}
use Rattle.reg_terms.specs.declared.kinds.Holder.TheVariants as holder
use Rattle.reg_terms.specs.declared.kinds.Member.TheVariants.{Person}
use Rattle.reg_terms.specs.declared.kinds.AttrValue.TheVariants.{Moment}
use Rattle.reg_terms.specs.declared.kinds.DefKind.TheVariants.{Timestamp}
use Rattle.reg_terms.specs.declared.kinds.Object.{Object}
use Rattle.reg_terms.specs.declared.kinds.Object.TheVariants.{Folder, Group, Def, Attr}
use Rattle.reg_terms.specs.declared.rows.GrantRow.{GrantRow}
use Rattle.reg_facts.specs.Lists.{Lists, start}
use Rattle.reg_facts.specs.Events.{all_happened}
use Rattle.reg_facts.specs.Naming.{name_of, extensions, placed, path}
use Rattle.reg_effect.specs.declared.live.Live.{Live}
use Rattle.reg_effect.specs.Changes.{nothing}
use Rattle.reg_effect.specs.Member.{member}
use Rattle.reg_effect.specs.Turned.{turns}
use Rattle.reg_log.specs.declared.entries.Line.{Line}
use Rattle.reg_rules.specs.declared.actions.Action.{Action}
use Rattle.reg_rules.specs.declared.actions.Action.TheVariants.{Removed, Ended}
use Rattle.reg_rules.specs.Actions.{all_done}
use Rattle.reg_terms.specs.declared.entry_kinds.EntryKind.{EntryKind}
use Rattle.reg_terms.specs.declared.entry_kinds.EntryKind.TheVariants.{SubjectAdd, GroupAdd, GroupDelete, RowAdd, RowRemove, RowWindow, DefinitionAdd, AttributeAdd, AttributeDelete, AssignAdd, AssignRemove, ValueAdd, MemberBegin, MemberEnd, JobAdd, JobDelete, GrantAdd, GrantRemove}
use Rattle.reg_audit.specs.Definitions.{definition_in}
use Rattle.reg_audit.specs.Lines.{log_of}
use Rattle.reg_audit.specs.Lives.{life_of, gone_of, gone_name, gone_named}
use Rattle.reg_audit.specs.Steps.{Step}

-- a step of these events and of what rules do after them, which leads from live data to live data
abbrev pub acted_step : ℕ → Lists → List Event → List Action → Live → Live → Step
acted_step at before events actions live live_after = record { at = at; before = before; events = events; actions = actions; after = all_done actions (all_happened events before); live = live; live_after = live_after }

-- and one after which rules do nothing
pub step : ℕ → Lists → List Event → Live → Live → Step
step at before events live live_after = acted_step at before events [] live live_after

-- ann (1) is in the group staff (1)
pub with_ann : Live
with_ann = record { rows = (1, Person 1) ∷ []; composites = [] }

pub ann : List Event
ann = SubjectMade (record { id = 1; text = codes "isa/ann"; display = [] }) ∷ []

pub staff : List Event
staff = GroupMade (record { id = 1; folder = 0; extension = codes "staff"; display = [] }) ∷ []

pub row_comes : List Event
row_comes = RowAdded (record { group = 1; member = Person 1; from = 5; until = None }) ∷ []

pub row_goes : List Event
row_goes = RowRemoved 1 (Person 1) ∷ []

pub with_staff : Lists
with_staff = all_happened (ann ++ staff) start

-- all at the moment 5
pub at_one_moment : List Step
at_one_moment =
    step 5 start ann nothing nothing
    ∷ step 5 (all_happened ann start) staff nothing nothing
    ∷ step 5 with_staff row_comes nothing with_ann
    ∷ step 5 (all_happened row_comes with_staff) row_goes with_ann nothing
    ∷ step 5 with_staff row_comes nothing with_ann
    ∷ []

pub told_each_time : map (λ (l : Line). l.kind) (log_of at_one_moment) ≡ SubjectAdd ∷ GroupAdd ∷ RowAdd ∷ MemberBegin ∷ RowRemove ∷ MemberEnd ∷ RowAdd ∷ MemberBegin ∷ []
unfolding log_of turns member at_one_moment step ann staff row_comes row_goes with_ann
told_each_time = refl

-- the group goes at 7, and its row with it
pub group_goes : List Event
group_goes = RowRemoved 1 (Person 1) ∷ GroupGone 1 ∷ []

pub deleted : List Step
deleted = step 5 (all_happened ann start) staff nothing nothing ∷ step 7 (all_happened row_comes with_staff) group_goes with_ann nothing ∷ []

-- of the deletion only what goes itself is told, and the membership that ends
pub deletion_told : map (λ (l : Line). l.kind) (log_of deleted) ≡ GroupAdd ∷ GroupDelete ∷ MemberEnd ∷ []
unfolding log_of turns member deleted step staff group_goes with_ann
deletion_told = refl

pub group_lived : life_of (Group 1) deleted ≡ Some (5, Some 7)
unfolding life_of deleted step staff group_goes
group_lived = refl

pub root_lives : life_of (Folder 0) [] ≡ Some (0, None)
unfolding life_of
root_lives = refl

pub never_made : life_of (Group 2) deleted ≡ None
unfolding life_of deleted step staff group_goes
never_made = refl

pub group_gone : gone_of deleted ≡ 1 ∷ []
unfolding gone_of deleted step staff group_goes
group_gone = refl

-- its name is the one from before the step
pub name_kept : gone_name (Group 1) deleted ≡ Some (codes "staff")
unfolding gone_name deleted step staff group_goes name_of extensions placed path with_staff ann row_comes
name_kept = refl

pub found_by_name : gone_named (codes "staff") deleted ≡ Some 1
unfolding gone_named deleted step staff group_goes name_of extensions placed path with_staff ann row_comes
found_by_name = refl

-- who stops being in staff (1) loses the row of guests (2) by the rule 3, and has an end for that of friends (3) by the rule 4
pub with_others : Live
with_others = record { rows = (1, Person 1) ∷ (2, Person 1) ∷ (3, Person 1) ∷ []; composites = [] }

pub with_friends : Live
with_friends = record { rows = (3, Person 1) ∷ []; composites = [] }

pub rules_act : List Action
rules_act = Removed 3 2 1 ∷ Ended 4 3 1 20 ∷ []

pub acted : List Step
acted = acted_step 9 (all_happened row_comes with_staff) row_goes rules_act with_others with_friends ∷ []

-- what they did is told with their numbers, behind what was done and before the memberships that end
pub rules_told : map {B = EntryKind × ℕ} (λ (l : Line). (l.kind, l.number)) (log_of acted) ≡ (RowRemove, 0) ∷ (RowRemove, 3) ∷ (RowWindow, 4) ∷ (MemberEnd, 0) ∷ (MemberEnd, 0) ∷ []
unfolding log_of turns member acted row_goes rules_act with_others with_friends
rules_told = refl

-- review (1) is an attribute of the definition due (1); it is assigned to staff, gets a value, is taken away, and goes
pub due : List Event
due = DefinitionMade (record { id = 1; folder = 0; extension = codes "due"; owners = record { folder = false; group = true; subject = false }; several = false; kind = Timestamp; many = false }) ∷ []

pub review : List Event
review = AttributeMade (record { id = 1; folder = 0; extension = codes "review"; definition = 1 }) ∷ []

pub assigned : List Event
assigned = AssignMade (record { id = 1; attribute = 1; owner = Group 1; values = [] }) ∷ []

pub valued : List Event
valued = ValueAdded 1 (Moment 20) ∷ []

pub unassigned : List Event
unassigned = AssignGone 1 ∷ []

pub with_review : Lists
with_review = all_happened (due ++ review) with_staff

pub attributes : List Step
attributes =
    step 5 with_staff due nothing nothing
    ∷ step 5 (all_happened due with_staff) review nothing nothing
    ∷ step 6 with_review assigned nothing nothing
    ∷ step 7 (all_happened assigned with_review) valued nothing nothing
    ∷ step 8 (all_happened valued (all_happened assigned with_review)) unassigned nothing nothing
    ∷ step 9 with_review (AttributeGone 1 ∷ []) nothing nothing
    ∷ []

-- each entry of the assignment has its owner and its number
pub attributes_told : map {B = EntryKind × Option Object × ℕ} (λ (l : Line). (l.kind, l.object, l.number)) (log_of attributes)
    ≡ (DefinitionAdd, Some (Def 1), 0)
    ∷ (AttributeAdd, Some (Attr 1), 0)
    ∷ (AssignAdd, Some (Group 1), 1)
    ∷ (ValueAdd, Some (Group 1), 1)
    ∷ (AssignRemove, Some (Group 1), 1)
    ∷ (AttributeDelete, Some (Attr 1), 0)
    ∷ []
unfolding log_of turns member attributes step due review assigned valued unassigned with_review with_staff ann staff
attributes_told = refl

pub definition_known : definition_in 1 attributes ≡ Some 1
unfolding definition_in attributes step due review assigned valued unassigned
definition_known = refl

pub attribute_lived : life_of (Attr 1) attributes ≡ Some (5, Some 9)
unfolding life_of attributes step due review assigned valued unassigned
attribute_lived = refl

-- a loader job (1) of staff is made and goes: its entries have its number
pub loading : List Step
loading =
    step 5 with_staff (JobMade (record { id = 1; name = codes "nightly"; target = Group 1; source = codes "isa"; min_size = 1; max_percent = 20 }) ∷ []) nothing nothing
    ∷ step 6 with_staff (JobGone 1 ∷ []) nothing nothing
    ∷ []

pub jobs_told : map {B = EntryKind × Option Object × ℕ} (λ (l : Line). (l.kind, l.object, l.number)) (log_of loading) ≡ (JobAdd, None, 1) ∷ (JobDelete, None, 1) ∷ []
unfolding log_of turns member loading step with_staff ann staff
jobs_told = refl

-- all will see staff from 9 to 12: what is told is that it is granted and that it ends, and not that it begins
pub seeing : Option ℕ → GrantRow
seeing from = record { object = Group 1; privilege = View; holder = holder.Everyone; from = from; until = Some 12 }

pub granting : List Event
granting = GrantAdded (seeing (Some 9)) ∷ []

pub beginning : List Event
beginning = GrantBegan (seeing None) ∷ []

pub dated : List Step
dated =
    step 5 with_staff granting nothing nothing
    ∷ step 9 (all_happened granting with_staff) beginning nothing nothing
    ∷ step 12 (all_happened beginning (all_happened granting with_staff)) (GrantRemoved (seeing None) ∷ []) nothing nothing
    ∷ []

pub beginning_not_told : map {B = ℕ × EntryKind} (λ (l : Line). (l.at, l.kind)) (log_of dated) ≡ (5, GrantAdd) ∷ (12, GrantRemove) ∷ []
unfolding log_of turns member dated granting beginning seeing step with_staff ann staff
beginning_not_told = refl
