-- Assignments as events change them, and as the changes are noted one after another.
use Rattle.std.proofs.Common.{◌≡◌, ℕ, List, [], ◌∷◌, ◌++◌, Bool, true, false, Option, None, Some, length, nat_le, if◌then◌else◌, arith, refl, sym, ap, subst, ◌∙◌}
use Rattle.std.specs.Prelude.{⊤}
use Rattle.std.specs.List.{cons_option}
use Rattle.reg_terms.specs.declared.event.Event.{Event}
use Rattle.reg_terms.specs.declared.event.Event.TheVariants.{AssignMade}
use Rattle.reg_terms.specs.declared.kinds.AttrValue.{AttrValue}
use Rattle.reg_terms.specs.declared.rows.AssignRow.{AssignRow}
use Rattle.reg_facts.specs.Events.{happened, all_happened}
use Rattle.reg_facts.specs.Lists.{Lists}
use Rattle.reg_pit.specs.Assigns.{IsNew, changed, last_after}
use Rattle.reg_pit.specs.Past.{assigns_at, last_assign, NotedBy, KeepsMembers, KeepsGrants, KeepsWheel, KeepsAssigns}
use Rattle.reg_pit.specs.declared.assign_change.AssignChange.{AssignChange}
use Rattle.reg_pit.specs.declared.past.Past.{Past}
use Rattle.reg_audit.specs.Assigning.{assign_change_of, assign_changes, all_changed, last_after_all, AreNew, MayNote, MakesNew, AllMakeNew}

-- ---- events

-- after what an event does to assignments, if it does something
abbrev pub changed_if : Option AssignChange → List AssignRow → List AssignRow
changed_if None rows = rows
changed_if (Some c) rows = changed c rows

abbrev pub last_if : Option AssignChange → ℕ → ℕ
last_if None last = last
last_if (Some c) last = last_after c last

abbrev pub IsNewIf : Option AssignChange → ℕ → Type 0
IsNewIf None last = ⊤
IsNewIf (Some c) last = IsNew c last

event_changed : (e : Event) (f : Lists) → MakesNew e f → (happened e f).assigns ≡ changed_if (assign_change_of e) f.assigns
event_changed (AssignMade row) f h = ap (λ (vs : List AttrValue). f.assigns ++ (record { id = row.id; attribute = row.attribute; owner = row.owner; values = vs }) ∷ []) h.1
event_changed _ f h = refl

event_last : (e : Event) (f : Lists) → (happened e f).made.assigns ≡ last_if (assign_change_of e) f.made.assigns
event_last (AssignMade row) f = refl
event_last _ f = refl

event_new : (e : Event) (f : Lists) → MakesNew e f → IsNewIf (assign_change_of e) f.made.assigns
event_new (AssignMade row) f h = h.0
event_new _ f h = tt

first_changed : (o : Option AssignChange) (cs : List AssignChange) (rows : List AssignRow) → all_changed (cons_option o cs) rows ≡ all_changed cs (changed_if o rows)
first_changed None cs rows = refl
first_changed (Some c) cs rows = refl

first_last : (o : Option AssignChange) (cs : List AssignChange) (last : ℕ) → last_after_all (cons_option o cs) last ≡ last_after_all cs (last_if o last)
first_last None cs last = refl
first_last (Some c) cs last = refl

first_new : (o : Option AssignChange) (cs : List AssignChange) (last : ℕ) → IsNewIf o last → AreNew cs (last_if o last) → AreNew (cons_option o cs) last
first_new None cs last n h = h
first_new (Some c) cs last n h = (n, h)

-- the assignments after some events
pub events_changed : (es : List Event) (f : Lists) → AllMakeNew es f → (all_happened es f).assigns ≡ all_changed (assign_changes es) f.assigns
events_changed [] f h = refl
events_changed (e ∷ es) f h =
    events_changed es (happened e f) h.1
    ∙ (ap (all_changed (assign_changes es)) (event_changed e f h.0)
    ∙ sym (first_changed (assign_change_of e) (assign_changes es) f.assigns))

-- the last id that was made
pub events_last : (es : List Event) (f : Lists) → (all_happened es f).made.assigns ≡ last_after_all (assign_changes es) f.made.assigns
events_last [] f = refl
events_last (e ∷ es) f =
    events_last es (happened e f)
    ∙ (ap (last_after_all (assign_changes es)) (event_last e f)
    ∙ sym (first_last (assign_change_of e) (assign_changes es) f.made.assigns))

-- what they make is new
pub events_new : (es : List Event) (f : Lists) → AllMakeNew es f → AreNew (assign_changes es) f.made.assigns
events_new [] f h = tt
events_new (e ∷ es) f h =
    first_new (assign_change_of e) (assign_changes es) f.made.assigns (event_new e f h.0)
    (subst (AreNew (assign_changes es)) (event_last e f) (events_new es (happened e f) h.1))

-- ---- what is noted

pub keeps_more : (a b c : Past) → KeepsAssigns a b → KeepsAssigns b c → KeepsAssigns a c
keeps_more a b c h k = record {
  rows = λ t. k.rows t ∙ h.rows t;
  greatest = k.greatest ∙ h.greatest;
}

-- some of the changes are left: they may be noted, and lead to the assignments that come
pub record AreLeft (at : ℕ) (left all : List AssignChange) (past old : Past) : Type 0 where
  pub rows : (t : ℕ) → (if nat_le at t then all_changed left (assigns_at past t) else assigns_at past t) ≡ (if nat_le at t then all_changed all (assigns_at old t) else assigns_at old t)
  pub greatest : last_after_all left (last_assign past) ≡ last_after_all all (last_assign old)
  pub members : KeepsMembers old past
  pub grants : KeepsGrants old past
  pub wheel : KeepsWheel old past
  pub may : MayNote at left past

pub left_first : (at : ℕ) (left all : List AssignChange) (past : Past) → left ≡ all → MayNote at all past → AreLeft at left all past past
left_first at left all past same may = record {
  rows = λ t. rw same refl;
  greatest = rw same refl;
  members = λ g s t. refl;
  grants = λ o p h t. refl;
  wheel = λ t. refl;
  may = rw same may;
}

one_more : (b : Bool) (c : AssignChange) (rest : List AssignChange) (new old : List AssignRow) → new ≡ (if b then changed c old else old)
    → (if b then all_changed rest new else new) ≡ (if b then all_changed (c ∷ rest) old else old)
one_more true c rest new old e = ap (all_changed rest) e
one_more false c rest new old e = e

module _ (at : ℕ) (left rest all : List AssignChange) (c : AssignChange) (past old : Past) (is : left ≡ c ∷ rest) (h : AreLeft at left all past old) where
  here : AreLeft at (c ∷ rest) all past old
  here = subst (λ (xs : List AssignChange). AreLeft at xs all past old) is h

  pub left_noted : NotedBy at past
  left_noted = here.may.noted

  pub left_new : IsNew c (last_assign past)
  left_new = here.may.new.0

  pub left_next : (new : Past) → ((t : ℕ) → assigns_at new t ≡ (if nat_le at t then changed c (assigns_at past t) else assigns_at past t)) → last_assign new ≡ last_after c (last_assign past)
      → KeepsMembers past new → KeepsGrants past new → KeepsWheel past new → NotedBy at new → AreLeft at rest all new old
  left_next new rows greatest members grants wheel noted = record {
    rows = λ t. one_more (nat_le at t) c rest (assigns_at new t) (assigns_at past t) (rows t) ∙ here.rows t;
    greatest = ap (last_after_all rest) greatest ∙ here.greatest;
    members = λ g s t. members g s t ∙ here.members g s t;
    grants = λ o p h t. grants o p h t ∙ here.grants o p h t;
    wheel = λ t. wheel t ∙ here.wheel t;
    may = record { noted = noted; new = subst (AreNew rest) (sym greatest) here.may.new.1 };
  }

-- where none is left, all are noted
pub left_none : (at : ℕ) (left all : List AssignChange) (past old : Past) → left ≡ [] → AreLeft at left all past old → AreLeft at [] all past old
left_none at left all past old is h = subst (λ (xs : List AssignChange). AreLeft at xs all past old) is h

pub none_left : (left : List AssignChange) → length left ≡ 0 → left ≡ []
none_left [] h = refl
none_left (c ∷ left) h = absurd (omega (arith, h))

pub both_ways : (b : Bool) (rows : List AssignRow) → (if b then rows else rows) ≡ rows
both_ways true rows = refl
both_ways false rows = refl
