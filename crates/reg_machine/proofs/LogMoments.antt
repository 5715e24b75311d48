-- The moments of the log never fall, and none is later than the clock.
use Rattle.std.proofs.Common.{◌≡◌, ◌≤◌, ◌++◌, ◌*◌, ℕ, zero, suc, List, [], ◌∷◌, Bool, Option, None, Some, IfSome, map, filter, filter_map, length, arith, refl, subst, ap, inl, inr}
use Rattle.std.proofs.lemmas.List.{map-append}
use Rattle.std.specs.List.{AllByRecursion, list_any}
use Rattle.reg_terms.specs.declared.command.Stamped.{Stamped}
use Rattle.reg_terms.specs.declared.event.Event.{Event}
use Rattle.reg_terms.specs.declared.event.Event.TheVariants.{FolderMade, FolderRenamed, FolderMoved, FolderGone, SubjectMade, GroupMade, GroupRenamed, GroupMoved, GroupGone, RowAdded, RowRemoved, RowRedated, Composed, Decomposed, GrantAdded, GrantBegan, GrantRemoved, InheritAdded, InheritRemoved, DefinitionMade, DefinitionGone, AttributeMade, AttributeGone, AssignMade, AssignGone, ValueAdded, ValueRemoved, RuleMade, RuleGone, JobMade, JobGone, ConsumerAdded, ConsumerAcked}
use Rattle.reg_facts.specs.Lists as the_facts
use Rattle.reg_facts.specs.Lists.{Lists}
use Rattle.reg_effect.specs.Turned.{turns}
use Rattle.reg_rules.specs.declared.actions.Action.{Action}
use Rattle.reg_rules.specs.declared.actions.Action.TheVariants.{Removed, Ended}
use Rattle.reg_log.specs.declared.entries.Line.{Line}
use Rattle.reg_audit.specs.Lines.{line_of, is_told, direct_lines, action_line, action_lines, turn_line, turn_lines, lines_of, log_of}
use Rattle.reg_audit.specs.Objects.{is_deletion}
use Rattle.reg_audit.specs.Steps.{Step}
use Rattle.reg_current.specs.Dates.{date_passed, due, most_dates, pass}
use Rattle.reg_current.proofs.Due.{due_some}
use Rattle.reg_machine.specs.History.{State, acted}
use Rattle.reg_machine.specs.Invariant.{IsBy}
use Rattle.reg_machine.specs.Past.{command_step, dates_passed, dates_passed_in, log, moments_of, NeverFall, steps, steps_after}
use Rattle.reg_machine.specs.Recording.{IsRecorded, Recording}
use Rattle.reg_machine.proofs.StepByStep.{passed_in_none, passed_in_some, steps_of}
use Rattle.reg_facts.proofs.Places.{cases_option}

-- ---- numbers from one to another that never fall

abbrev Climb : ℕ → ℕ → List ℕ → Type 0
Climb a b [] = a ≤ b
Climb a b (n ∷ ns) = (a ≤ n) × Climb n b ns

lower : (a b c : ℕ) (ns : List ℕ) → a ≤ b → Climb b c ns → Climb a c ns
lower a b c [] w h = omega (arith, w, h)
lower a b c (n ∷ ns) w h = let first = h.0 in (omega (arith, w, first), h.1)

joined : (a b c : ℕ) (ns ms : List ℕ) → Climb a b ns → Climb b c ms → Climb a c (ns ++ ms)
joined a b c [] ms h k = lower a b c ms h k
joined a b c (n ∷ ns) ms h k = (h.0, joined n b c ns ms h.1 k)

none_below : (a x b : ℕ) (ns : List ℕ) → a ≤ x → Climb x b ns → AllByRecursion (λ m. a ≤ m) ns
none_below a x b [] w h = tt
none_below a x b (n ∷ ns) w h =
    let first = h.0 in
    let next : a ≤ n = omega (arith, w, first) in
    (next, none_below a n b ns next h.1)

never_fall : (a b : ℕ) (ns : List ℕ) → Climb a b ns → NeverFall ns
never_fall a b [] h = tt
never_fall a b (n ∷ ns) h = (none_below n n b ns (omega arith) h.1, never_fall n b ns h.1)

reaches : (a b : ℕ) (ns : List ℕ) → Climb a b ns → a ≤ b
reaches a b [] h = h
reaches a b (n ∷ ns) h = let first = h.0 in let rest = reaches n b ns h.1 in omega (arith, first, rest)

none_above : (a b : ℕ) (ns : List ℕ) → Climb a b ns → AllByRecursion (λ m. m ≤ b) ns
none_above a b [] h = tt
none_above a b (n ∷ ns) h = (reaches n b ns h.1, none_above n b ns h.1)

-- ---- the lines of a step have its moment

abbrev IsAt : ℕ → Line → Type 0
IsAt at line = line.at ≡ at

event_stamped : (at : ℕ) (before : Lists) (e : Event) → IfSome (line_of at before e) (IsAt at)
event_stamped at before (FolderMade row) = refl
event_stamped at before (FolderRenamed d extension) = refl
event_stamped at before (FolderMoved d to) = refl
event_stamped at before (FolderGone d) = refl
event_stamped at before (SubjectMade row) = refl
event_stamped at before (GroupMade row) = refl
event_stamped at before (GroupRenamed g extension) = refl
event_stamped at before (GroupMoved g to) = refl
event_stamped at before (GroupGone g) = refl
event_stamped at before (RowAdded row) = refl
event_stamped at before (RowRemoved g m) = refl
event_stamped at before (RowRedated g m from until) = refl
event_stamped at before (Composed row) = refl
event_stamped at before (Decomposed g) = refl
event_stamped at before (GrantAdded row) = refl
event_stamped at before (GrantBegan row) = tt
event_stamped at before (GrantRemoved row) = refl
event_stamped at before (InheritAdded row) = refl
event_stamped at before (InheritRemoved row) = refl
event_stamped at before (DefinitionMade row) = refl
event_stamped at before (DefinitionGone a) = refl
event_stamped at before (AttributeMade row) = refl
event_stamped at before (AttributeGone a) = refl
event_stamped at before (AssignMade row) = refl
event_stamped at before (AssignGone id) = refl
event_stamped at before (ValueAdded id v) = refl
event_stamped at before (ValueRemoved id v) = refl
event_stamped at before (RuleMade row) = refl
event_stamped at before (RuleGone id) = refl
event_stamped at before (JobMade row) = refl
event_stamped at before (JobGone id) = refl
event_stamped at before (ConsumerAdded row) = tt
event_stamped at before (ConsumerAcked consumer seq) = tt

direct_stamped : (at : ℕ) (before : Lists) (events : List Event) → AllByRecursion (IsAt at) (filter_map (line_of at before) events)
direct_stamped at before [] = tt
direct_stamped at before (e ∷ events) = one (line_of at before e) refl (direct_stamped at before events)
  where
    one : (o : Option Line) → line_of at before e ≡ o → AllByRecursion (IsAt at) (filter_map (line_of at before) events) → AllByRecursion (IsAt at) (filter_map (line_of at before) (e ∷ events))
    one None is rest = rw is rest
    one (Some line) is rest =
        let here : IfSome (Some line) (IsAt at) = subst (λ o. IfSome o (IsAt at)) is (event_stamped at before e) in
        rw is (here, rest)

action_stamped : (at : ℕ) (action : Action) → IsAt at (action_line at action)
action_stamped at (Removed rule g s) = refl
action_stamped at (Ended rule g s until) = refl

actions_stamped : (at : ℕ) (actions : List Action) → AllByRecursion (IsAt at) (action_lines at actions)
actions_stamped at [] = tt
actions_stamped at (action ∷ actions) = (action_stamped at action, actions_stamped at actions)

turns_stamped : (at : ℕ) (found : List (ℕ × ℕ × Bool)) → AllByRecursion (IsAt at) (map (turn_line at) found)
turns_stamped at [] = tt
turns_stamped at (turn ∷ found) = (refl, turns_stamped at found)

both_stamped : (at : ℕ) (xs ys : List Line) → AllByRecursion (IsAt at) xs → AllByRecursion (IsAt at) ys → AllByRecursion (IsAt at) (xs ++ ys)
both_stamped at [] ys h k = k
both_stamped at (x ∷ xs) ys h k = (h.0, both_stamped at xs ys h.1 k)

step_stamped : (step : Step) → AllByRecursion (IsAt step.at) (lines_of step)
step_stamped step =
    let direct = direct_stamped step.at step.before (filter (is_told (list_any is_deletion step.events)) step.events) in
    both_stamped step.at (direct_lines step.at step.before step.events ++ action_lines step.at step.actions) (turn_lines step.at step.live step.live_after)
    (both_stamped step.at (direct_lines step.at step.before step.events) (action_lines step.at step.actions) direct (actions_stamped step.at step.actions)) (turns_stamped step.at (turns step.live step.live_after))

level : (at : ℕ) (lines : List Line) → AllByRecursion (IsAt at) lines → Climb at at (moments_of lines)
level at [] h = omega arith
level at (line ∷ lines) h =
    let here : line.at ≡ at = h.0 in
    let rest = level at lines h.1 in
    rw here (omega arith, rest)

-- ---- the lines of steps

abbrev moments : List Step → List ℕ
moments ss = map (λ (step : Step). step.at) ss

lines_climb : (a b : ℕ) (ss : List Step) → Climb a b (moments ss) → Climb a b (moments_of (log_of ss))
unfolding log_of
lines_climb a b [] h = h
lines_climb a b (step ∷ ss) h =
    let here = lower a step.at step.at (moments_of (lines_of step)) h.0 (level step.at (lines_of step) (step_stamped step)) in
    rw (map-append (λ (line : Line). line.at) (lines_of step) (log_of ss)) (joined a step.at b (moments_of (lines_of step)) (moments_of (log_of ss)) here (lines_climb step.at b ss h.1))

-- ---- the steps of a history

dates_climb_in : (n a b : ℕ) (f : Lists) → a ≤ b → Climb a b (moments (dates_passed_in n a b f))
dates_climb_in zero a b f w = w
dates_climb_in (suc n) a b f w = elim (cases_option (due a b f)) [
  | inl none ↦ rw (passed_in_none (suc n) a b f none) w
  | inr one ↦
      let d = one.0 in
      let least = due_some a b d f one.1 in
      rw (passed_in_some n a b d f one.1) (omega (arith, least.later), dates_climb_in n d b (date_passed a d f) least.within)
]

dates_climb : (a b : ℕ) (f : Lists) → a ≤ b → Climb a b (moments (dates_passed a b f))
unfolding dates_passed
dates_climb a b f w = dates_climb_in (most_dates f) a b f w

steps_climb : (a t : ℕ) (ss : List Stamped) (f : Lists) → Climb a t (map (λ (s : Stamped). s.at) ss) → Climb a t (moments (steps_after a ss t f))
steps_climb a t [] f h = dates_climb a t f h
steps_climb a t (s ∷ ss) f h =
    let g = pass a s.at f in
    let rest = steps_climb s.at t ss (acted s.at s.by s.command g) h.1 in
    rw (map-append (λ (step : Step). step.at) (dates_passed a s.at f) (command_step s.at s.by s.command g ∷ steps_after s.at ss t (acted s.at s.by s.command g)))
    (joined a s.at t (moments (dates_passed a s.at f)) (s.at ∷ moments (steps_after s.at ss t (acted s.at s.by s.command g))) (dates_climb a s.at f h.0) (omega arith, rest))

-- ---- the commands of a legal history

each_split : {A : Type 0} (P : A → Type 0) (xs : List A) → ((before after : List A) (x : A) → xs ≡ before ++ x ∷ after → P x) → AllByRecursion P xs
each_split P [] h = tt
each_split P (x ∷ xs) h = (h [] xs x refl, each_split P xs (λ before after y e. h (x ∷ before) after y (ap (λ ys. x ∷ ys) e)))

commands_climb : (a t : ℕ) (ss : List Stamped) → AllByRecursion (λ (s : Stamped). a ≤ s.at) ss → a ≤ t → AllByRecursion (IsBy t) ss
    → ((before after : List Stamped) (s : Stamped) → ss ≡ before ++ s ∷ after → AllByRecursion (IsBy s.at) before) → Climb a t (map (λ (s : Stamped). s.at) ss)
commands_climb a t [] from w by ascending = w
commands_climb a t (s ∷ ss) from w by ascending =
    let later : AllByRecursion (λ (x : Stamped). s.at ≤ x.at) ss = each_split (λ (x : Stamped). s.at ≤ x.at) ss (λ before after x e. (ascending (s ∷ before) after x (ap (λ ys. s ∷ ys) e)).0) in
    (from.0, commands_climb s.at t ss later by.0 by.1 (λ before after x e. (ascending (s ∷ before) after x (ap (λ ys. s ∷ ys) e)).1))

any_from : (ss : List Stamped) → AllByRecursion (λ (s : Stamped). 0 ≤ s.at) ss
any_from [] = tt
any_from (s ∷ ss) = (omega arith, any_from ss)

module _ (history : List Stamped) (r : Recording) (s : State) (h : IsRecorded history r) (is : record { history = history; clock = r.now.clock } ≡ s) where
  all_climb : Climb 0 r.now.clock (moments_of (log history r.now.clock))
  unfolding log
  all_climb =
      let commands = commands_climb 0 r.now.clock history (any_from history) (omega arith) h.in_step.by h.in_step.legal.ascending in
      lines_climb 0 r.now.clock (steps history r.now.clock) (rw (steps_of r.now.clock history h.in_step.by) (steps_climb 0 r.now.clock history the_facts.start commands))

  pub log_ordered : NeverFall (moments_of (log s.history s.clock))
  log_ordered = subst (λ (x : State). NeverFall (moments_of (log x.history x.clock))) is (never_fall 0 r.now.clock (moments_of (log history r.now.clock)) all_climb)

  pub log_by_clock : AllByRecursion (λ m. m ≤ s.clock) (moments_of (log s.history s.clock))
  log_by_clock = subst (λ (x : State). AllByRecursion (λ m. m ≤ x.clock) (moments_of (log x.history x.clock))) is (none_above 0 r.now.clock (moments_of (log history r.now.clock)) all_climb)
