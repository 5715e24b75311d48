-- Grants, the wheel group and assignments, as a step leaves them.
use Rattle.std.proofs.Common.{◌≡◌, ◌≤◌, ◌<◌, ◌+◌, ◌++◌, ◌||◌, ◌&&◌, ℕ, List, [], ◌∷◌, Bool, true, false, Option, None, Some, length, drop, get_or, nat_le, if◌then◌else◌, arith, refl, sym, ap, subst, ◌∙◌, inl, inr}
use Rattle.std.specs.List.{cons_option, list_any}
use Rattle.std.proofs.lemmas.Bool.{cases_Bool, or_parts}
use Rattle.std.proofs.lemmas.Bool.Decides.{nat_tests}
use Rattle.std.proofs.lemmas.List.{drop_more}
use Rattle.reg_base.specs.declared.privilege.Privilege.{Privilege}
use Rattle.reg_terms.specs.Kinds.{same_object}
use Rattle.reg_terms.specs.declared.event.Event.{Event}
use Rattle.reg_terms.specs.declared.kinds.Object.{Object}
use Rattle.reg_terms.specs.declared.kinds.Holder.{Holder}
use Rattle.reg_facts.specs.Events.{happened, all_happened}
use Rattle.reg_facts.specs.Lists.{Lists}
use Rattle.reg_facts.proofs.Places.{same_is}
use Rattle.reg_pit.specs.Grants.{has_grant}
use Rattle.reg_pit.specs.Past.{assigns_at, last_assign, was_granted, wheel_at, NotedBy}
use Rattle.reg_pit.specs.declared.past.Past.{Past}
use Rattle.reg_priv.specs.Filling.{is_among}
use Rattle.reg_priv.specs.Grants.{Grant, grants}
use Rattle.reg_priv.specs.May.{wheel}
use Rattle.reg_priv.specs.Touched.{is_listed, KnowsTouched}
use Rattle.reg_audit.specs.Assigning.{AreNew, all_changed, assign_changes, last_after_all}
use Rattle.reg_audit.specs.Audit.{IsAudit}
use Rattle.reg_audit.specs.Changed.{changed_grant, changed_grants, changes_others, is_changed, is_noted}
use Rattle.reg_audit.specs.Steps.{Step, FollowsOn, last_by, last_facts, facts_of, facts_by}
use Rattle.reg_audit.specs.declared.audit.Audit.{Audit}
use Rattle.reg_audit.specs.declared.grant_change.GrantChange.{GrantChange}
use Rattle.reg_audit.proofs.Changing.{events_changed, events_last, events_new}
use Rattle.reg_audit.proofs.OrderedGrants.{has_among}
use Rattle.reg_audit.proofs.RowChanging.{changed, if_any}
use Rattle.reg_audit.proofs.Stepping.{all_seen, last_by_more, last_more}

-- ---- one object more

all_of : (b : Bool) → (b && true) ≡ b
all_of true = refl
all_of false = refl

none_of : (b : Bool) → (b && false) ≡ false
none_of true = refl
none_of false = refl

one_more : (s listed le has new old : Bool) → new ≡ (if s && le then has else old) → (if listed && le then has else new) ≡ (if (s || listed) && le then has else old)
one_more true true true has new old e = refl
one_more true true false has new old e = e
one_more true false true has new old e = e
one_more true false false has new old e = e
one_more false true true has new old e = refl
one_more false true false has new old e = e
one_more false false le has new old e = e

-- the same of what may change alone
one_known : (s listed may le has new old : Bool) → new ≡ (if (s && may) && le then has else old) → (if (listed && may) && le then has else new) ≡ (if ((s || listed) && may) && le then has else old)
one_known s listed true le has new old e = let with_all : (b : Bool) → (b && true) ≡ b = all_of in rw (with_all (s || listed), with_all listed) (one_more s listed le has new old (rw (with_all s) at e))
one_known s listed false le has new old e = let none : (b : Bool) → (b && false) ≡ false = none_of in rw (none (s || listed), none listed) (rw (none s) at e)

-- what is held of the one is what is held of it
pub one_held : (s same le is has old : Bool) → (same ≡ true → is ≡ has) → (if (s && same) && le then is else old) ≡ (if (s && same) && le then has else old)
one_held true true true is has old h = h refl
one_held true true false is has old h = refl
one_held true false le is has old h = refl
one_held false same le is has old h = refl

-- one change more of a list of them
pub change_noted : (named : GrantChange → Bool) (cs : List GrantChange) (i : ℕ) (c : GrantChange) (le has new old : Bool) → i < length cs → c ≡ get_or cs i c → new ≡ (if named c && le then has else old)
    → (if list_any named (drop (i + 1) cs) && le then has else new) ≡ (if list_any named (drop i cs) && le then has else old)
change_noted named cs i c le has new old w is e =
    let left : drop i cs ≡ c ∷ drop (i + 1) cs = drop_more cs i c w ∙ ap (λ d. d ∷ drop (i + 1) cs) (sym is) in
    rw left (one_more (named c) (list_any named (drop (i + 1) cs)) le has new old e)

turned_object : (a b : Object) → same_object a b ≡ same_object b a
turned_object a b = elim (cases_Bool (same_object a b)) [
  | inl y ↦ rw (same_is a b y) refl
  | inr n ↦ elim (cases_Bool (same_object b a)) [
    | inl y ↦ rw (same_is b a y) refl
    | inr m ↦ n ∙ sym m
  ]
]

-- what is noted of the object is said of one that is it
of_it : (f : Lists) (x o : Object) (p : Privilege) (h : Holder) (may le old : Bool) → (if (same_object o x && may) && le then has_grant (grants x f) p h else old) ≡ (if (same_object x o && may) && le then has_grant (grants o f) p h else old)
of_it f x o p h may le old = elim (cases_Bool (same_object x o)) [
  | inl y ↦ rw (same_is x o y) refl
  | inr n ↦ rw (turned_object o x, n) refl
]

pub object_noted : (f : Lists) (touched : List Object) (i : ℕ) (x o : Object) (p : Privilege) (h : Holder) (may : Bool) (at t : ℕ) (new old : Bool) → i < length touched → x ≡ get_or touched i x → new ≡ (if (same_object o x && may) && nat_le at t then has_grant (grants x f) p h else old)
    → (if (is_listed o (drop (i + 1) touched) && may) && nat_le at t then has_grant (grants o f) p h else new) ≡ (if (is_listed o (drop i touched) && may) && nat_le at t then has_grant (grants o f) p h else old)
object_noted f touched i x o p h may at t new old w is e =
    let left : drop i touched ≡ x ∷ drop (i + 1) touched = drop_more touched i x w ∙ ap (λ y. y ∷ drop (i + 1) touched) (sym is) in
    rw left (one_known (same_object x o) (is_listed o (drop (i + 1) touched)) may (nat_le at t) (has_grant (grants o f) p h) new old (e ∙ of_it f x o p h may (nat_le at t) old))

-- ---- the wheel group that was noted last

pub wheel_stays : (past : Past) (group : Option ℕ) (at t : ℕ) → ((a u : ℕ) → a ≤ u → NotedBy a past → wheel_at past u ≡ wheel_at past a) → NotedBy at past → wheel_at past at ≡ group → wheel_at past t ≡ (if nat_le at t then group else wheel_at past t)
wheel_stays past group at t stays noted e = elim (cases_Bool (nat_le at t)) [
  | inl y ↦
      let w : at ≤ t = grind (arith, nat_tests, y) in
      rw y (stays at t w noted ∙ e)
  | inr n ↦ rw n refl
]

-- ---- what the events of a step may change

first_off : (t : GrantChange → Bool) (c : Option GrantChange) (cs : List GrantChange) → list_any t (cons_option c cs) ≡ false → (if_any t c ≡ false) × (list_any t cs ≡ false)
first_off t None cs m = (refl, m)
first_off t (Some c) cs m = or_parts (t c) (list_any t cs) m

-- events of which none changes others leave what is none of their changes
events_leave : (touched : List Object) (es : List Event) (f : Lists) (o : Object) (x : Grant) → is_listed o touched ≡ true → list_any changes_others es ≡ false → list_any (is_changed touched o x) (changed_grants es) ≡ false → is_among x (grants o (all_happened es f)) ≡ is_among x (grants o f)
events_leave touched [] f o x l k m = refl
events_leave touched (e ∷ es) f o x l k m =
    let known = or_parts (changes_others e) (list_any changes_others es) k in
    let parts = first_off (is_changed touched o x) (changed_grant e) (changed_grants es) m in
    events_leave touched es (happened e f) o x l known.1 parts.1 ∙ changed touched e f o x l known.0 parts.0

not_noted : (others listed named : Bool) → listed ≡ true → (if others then listed else named) ≡ false → (others ≡ false) × (named ≡ false)
not_noted true listed named l m = cc
not_noted false listed named l m = (refl, m)

-- what isn't noted stays as it was
pub step_leaves : (steps : List Step) (step : Step) (touched : List Object) → FollowsOn steps step → KnowsTouched step.before step.after touched → (o : Object) (p : Privilege) (j : Holder) → is_noted touched (list_any changes_others step.events) (changed_grants step.events) o (p, j) ≡ false → has_grant (grants o step.after) p j ≡ has_grant (grants o step.before) p j
step_leaves steps step touched f knows o p j m = elim (cases_Bool (is_listed o touched)) [
  | inl l ↦
      let off = not_noted (list_any changes_others step.events) (is_listed o touched) (list_any (is_changed touched o (p, j)) (changed_grants step.events)) l m in
      ap (λ (gs : List Grant). has_grant gs p j) (f.grants_after o)
      ∙ (has_among p j (grants o (all_happened step.events step.before))
      ∙ (events_leave touched step.events step.before o (p, j) l off.0 off.1
      ∙ sym (has_among p j (grants o step.before))))
  | inr l ↦ ap (λ (gs : List Grant). has_grant gs p j) (knows o l)
]

-- ---- a step more

facts_then : (t : ℕ) (steps : List Step) (step : Step) → nat_le step.at t ≡ true → facts_by t (steps ++ step ∷ []) ≡ step.after
facts_then t steps step y =
    let last : last_by t (steps ++ step ∷ []) ≡ Some step = last_by_more t steps step ∙ rw y refl in
    ap facts_of last

facts_still : (t : ℕ) (steps : List Step) (step : Step) → nat_le step.at t ≡ false → facts_by t (steps ++ step ∷ []) ≡ facts_by t steps
facts_still t steps step n =
    let last : last_by t (steps ++ step ∷ []) ≡ last_by t steps = last_by_more t steps step ∙ rw n refl in
    ap facts_of last

-- at a moment from the step on, the facts before it are those after the last one
facts_before : (t : ℕ) (steps : List Step) (step : Step) → FollowsOn steps step → step.at ≤ t → facts_by t steps ≡ step.before
facts_before t steps step f w = ap facts_of (all_seen t steps (omega (arith, f.later, w))) ∙ sym f.before

module _ (steps : List Step) (step : Step) (audit new : Audit) (h : IsAudit steps audit) (f : FollowsOn steps step) where
  -- what no event changes stays as the past has it
  pub granted_more : (noted : Bool) (t : ℕ) (o : Object) (p : Privilege) (j : Holder) → (noted ≡ false → has_grant (grants o step.after) p j ≡ has_grant (grants o step.before) p j)
      → was_granted new.past o p j t ≡ (if noted && nat_le step.at t then has_grant (grants o step.after) p j else was_granted audit.past o p j t)
      → was_granted new.past o p j t ≡ has_grant (grants o (facts_by t (steps ++ step ∷ []))) p j
  granted_more noted t o p j stays is = elim (cases_Bool (nat_le step.at t)) [
    | inl y ↦
        let w : step.at ≤ t = grind (arith, nat_tests, y) in
        let before : was_granted audit.past o p j t ≡ has_grant (grants o step.before) p j = h.granted t o p j ∙ ap (λ (g : Lists). has_grant (grants o g) p j) (facts_before t steps step f w) in
        is ∙ (elim (cases_Bool noted) [
          | inl m ↦ rw (m, y, facts_then t steps step y) refl
          | inr m ↦ rw (m, facts_then t steps step y) (before ∙ sym (stays m))
        ])
    | inr n ↦ is ∙ rw (n, none_of noted, facts_still t steps step n) (h.granted t o p j)
  ]

  pub wheel_more : (t : ℕ) → wheel_at new.past t ≡ (if nat_le step.at t then wheel step.after else wheel_at audit.past t) → wheel_at new.past t ≡ wheel (facts_by t (steps ++ step ∷ []))
  wheel_more t noted = elim (cases_Bool (nat_le step.at t)) [
    | inl y ↦ noted ∙ rw (y, facts_then t steps step y) refl
    | inr n ↦ noted ∙ rw (n, facts_still t steps step n) (h.noted_wheel t)
  ]

  pub assigns_more : (t : ℕ) → assigns_at new.past t ≡ (if nat_le step.at t then all_changed (assign_changes step.events) (assigns_at audit.past t) else assigns_at audit.past t) → assigns_at new.past t ≡ (facts_by t (steps ++ step ∷ [])).assigns
  assigns_more t noted = elim (cases_Bool (nat_le step.at t)) [
    | inl y ↦
        let w : step.at ≤ t = grind (arith, nat_tests, y) in
        let before : assigns_at audit.past t ≡ step.before.assigns = h.assigns t ∙ ap (λ (g : Lists). g.assigns) (facts_before t steps step f w) in
        noted ∙ rw (y, before, facts_then t steps step y) (sym (f.assigns_after ∙ events_changed step.events step.before f.new_assigns))
    | inr n ↦ noted ∙ rw (n, facts_still t steps step n) (h.assigns t)
  ]

  pub last_more_assigned : last_assign new.past ≡ last_after_all (assign_changes step.events) (last_assign audit.past) → last_assign new.past ≡ (last_facts (steps ++ step ∷ [])).made.assigns
  last_more_assigned noted =
      let before : last_assign audit.past ≡ step.before.made.assigns = h.last_assigned ∙ ap (λ (g : Lists). g.made.assigns) (sym f.before) in
      noted ∙ rw before (sym (ap (λ o. (facts_of o).made.assigns) (last_more steps step) ∙ (f.made_after ∙ events_last step.events step.before)))

  -- the step may be noted
  pub next_new : AreNew (assign_changes step.events) (last_assign audit.past)
  next_new =
      let before : step.before.made.assigns ≡ last_assign audit.past = sym (h.last_assigned ∙ ap (λ (g : Lists). g.made.assigns) (sym f.before)) in
      subst (AreNew (assign_changes step.events)) before (events_new step.events step.before f.new_assigns)
