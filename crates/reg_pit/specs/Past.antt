-- What was the case at a moment.
use Rattle.std.specs.Prelude.{◌≡◌, ℕ, List, Bool, Option}
use Rattle.reg_base.specs.declared.privilege.Privilege.{Privilege}
use Rattle.reg_terms.specs.declared.kinds.Object.{Object}
use Rattle.reg_terms.specs.declared.kinds.Holder.{Holder}
use Rattle.reg_terms.specs.declared.rows.AssignRow.{AssignRow}
use Rattle.reg_pit.specs.Spans.{NoLater}
use Rattle.reg_pit.specs.Runs.{spans_of}
use Rattle.reg_pit.specs.Members.{pair_cmp, are_on, second_spans}
use Rattle.reg_pit.specs.Grants.{grant_cmp, is_granted}
use Rattle.reg_pit.specs.Wheel.{noted_at, AreNotedBy}
use Rattle.reg_pit.specs.Assigns.{IsNew, assigned_at, last_of, AreAssignedBy}
use Rattle.reg_pit.specs.declared.assign_change.AssignChange.{AssignChange}
use Rattle.reg_pit.specs.declared.past.Past.{Past}

-- the intervals in which the person was a member of the group
abbrev pub member_spans : Past → ℕ → ℕ → List (ℕ × Option ℕ)
member_spans past g s = spans_of pair_cmp past.memberships (g, s)

-- the intervals in which some persons were members of the group, each with its person, person by
-- person
abbrev pub all_member_spans : Past → ℕ → List ℕ → List (ℕ × ℕ × Option ℕ)
all_member_spans past g ids = second_spans past.memberships g ids

-- whether the person was a member of the group at a moment
abbrev pub was_member : Past → ℕ → ℕ → ℕ → Bool
was_member past g s t = are_on past.memberships g s t

-- the intervals in which the holder had the privilege on the object
abbrev pub grant_spans : Past → Object → Privilege → Holder → List (ℕ × Option ℕ)
grant_spans past o p h = spans_of grant_cmp past.grants (o, p, h)

-- whether the holder had the privilege on the object at a moment
abbrev pub was_granted : Past → Object → Privilege → Holder → ℕ → Bool
was_granted past o p h t = is_granted past.grants o p h t

-- the wheel group at a moment
abbrev pub wheel_at : Past → ℕ → Option ℕ
wheel_at past t = noted_at past.wheel t

-- all assignments at a moment, by id, with the values that stood then
abbrev pub assigns_at : Past → ℕ → List AssignRow
assigns_at past t = assigned_at past.assigns t

-- the greatest id of an assignment that was noted, or zero
abbrev pub last_assign : Past → ℕ
last_assign past = last_of past.assigns

-- an assignment that is made has a later id than all that were noted
abbrev pub IsNewAssign : Past → AssignChange → Type 0
IsNewAssign past change = IsNew change (last_assign past)

-- nothing was noted later than a moment
pub record NotedBy (at : ℕ) (past : Past) : Type 0 where
  pub members : (k : ℕ × ℕ) → NoLater at (spans_of pair_cmp past.memberships k)
  pub grants : (k : Object × Privilege × Holder) → NoLater at (spans_of grant_cmp past.grants k)
  pub wheel : AreNotedBy at past.wheel
  pub assigns : AreAssignedBy at past.assigns

-- what is said of memberships, of grants, of the wheel group or of assignments is what was said
-- before
abbrev pub KeepsMembers : Past → Past → Type 0
KeepsMembers old new = (g s t : ℕ) → was_member new g s t ≡ was_member old g s t

abbrev pub KeepsGrants : Past → Past → Type 0
KeepsGrants old new =
    (o : Object) (p : Privilege) (h : Holder) (t : ℕ)
    → was_granted new o p h t ≡ was_granted old o p h t

abbrev pub KeepsWheel : Past → Past → Type 0
KeepsWheel old new = (t : ℕ) → wheel_at new t ≡ wheel_at old t

pub record KeepsAssigns (old new : Past) : Type 0 where
  pub rows : (t : ℕ) → assigns_at new t ≡ assigns_at old t
  pub greatest : last_assign new ≡ last_assign old
