-- Persons only come: those at a later moment are those at an earlier one, in their places, and others behind them.
use Rattle.std.proofs.Common.{◌≡◌, ◌≤◌, ◌<◌, ◌++◌, ◌∷◌, [], List, ℕ, zero, suc, true, false, Option, None, Some, refl, ap, sym, ◌∙◌, arith, append_assoc, append-nil}
use Rattle.std.specs.Prelude.{nat_le}
use Rattle.std.proofs.lemmas.Bool.Decides.{nat_tests}
use Rattle.reg_base.specs.declared.entity.Entity.{Entity}
use Rattle.reg_terms.specs.declared.command.Command.{Command}
use Rattle.reg_terms.specs.declared.command.Stamped.{Stamped}
use Rattle.reg_terms.specs.declared.event.Event.{Event}
use Rattle.reg_terms.specs.declared.event.Event.TheVariants.{FolderMade, FolderRenamed, FolderMoved, FolderGone, SubjectMade, GroupMade, GroupRenamed, GroupMoved, GroupGone, RowAdded, RowRemoved, RowRedated, Composed, Decomposed, GrantAdded, GrantBegan, GrantRemoved, InheritAdded, InheritRemoved, DefinitionMade, DefinitionGone, AttributeMade, AttributeGone, AssignMade, AssignGone, ValueAdded, ValueRemoved, RuleMade, RuleGone, JobMade, JobGone, ConsumerAdded, ConsumerAcked}
use Rattle.reg_terms.specs.declared.rows.SubjectRow.{SubjectRow}
use Rattle.reg_facts.specs.Events.{all_happened, edit, events_of, happened}
use Rattle.reg_facts.specs.Lists as the_facts
use Rattle.reg_facts.specs.Lists.{Lists}
use Rattle.reg_effect.specs.Deltas.{ended}
use Rattle.reg_rules.specs.declared.actions.Action.{Action}
use Rattle.reg_rules.specs.declared.actions.Action.TheVariants.{Removed, Ended}
use Rattle.reg_rules.specs.Actions.{all_done}
use Rattle.reg_rules.specs.Settling.{settle, settling}
use Rattle.reg_current.specs.Dates.{at_date, date_passed, due, pass, pass_in}
use Rattle.reg_current.specs.Live.{live}
use Rattle.reg_machine.specs.History.{acted, facts, facts_after, up_to}
use Rattle.reg_asof.specs.Lawful.{Rises}

-- ---- more behind them

abbrev pub Grows : List SubjectRow → List SubjectRow → Type 0
Grows old new = (more : List SubjectRow) × (new ≡ old ++ more)

stay : (old new : List SubjectRow) → new ≡ old → Grows old new
stay old new same = ([], same ∙ sym (append-nil old))

then_more : (a b c : List SubjectRow) → Grows a b → Grows b c → Grows a c
then_more a b c first second = (first.0 ++ second.0, second.1 ∙ (ap (λ (l : List SubjectRow). l ++ second.0) first.1 ∙ append_assoc a first.0 second.0))

-- ---- by events

by_event : (e : Event) (f : Lists) → Grows f.subjects (happened e f).subjects
by_event (SubjectMade row) f = (row ∷ [], refl)
by_event (FolderMade row) f = stay f.subjects f.subjects refl
by_event (FolderRenamed d x) f = stay f.subjects f.subjects refl
by_event (FolderMoved d to) f = stay f.subjects f.subjects refl
by_event (FolderGone d) f = stay f.subjects f.subjects refl
by_event (GroupMade row) f = stay f.subjects f.subjects refl
by_event (GroupRenamed g x) f = stay f.subjects f.subjects refl
by_event (GroupMoved g to) f = stay f.subjects f.subjects refl
by_event (GroupGone g) f = stay f.subjects f.subjects refl
by_event (RowAdded row) f = stay f.subjects f.subjects refl
by_event (RowRemoved g m) f = stay f.subjects f.subjects refl
by_event (RowRedated g m from until) f = stay f.subjects f.subjects refl
by_event (Composed row) f = stay f.subjects f.subjects refl
by_event (Decomposed g) f = stay f.subjects f.subjects refl
by_event (GrantAdded row) f = stay f.subjects f.subjects refl
by_event (GrantBegan row) f = stay f.subjects f.subjects refl
by_event (GrantRemoved row) f = stay f.subjects f.subjects refl
by_event (InheritAdded row) f = stay f.subjects f.subjects refl
by_event (InheritRemoved row) f = stay f.subjects f.subjects refl
by_event (DefinitionMade row) f = stay f.subjects f.subjects refl
by_event (DefinitionGone id) f = stay f.subjects f.subjects refl
by_event (AttributeMade row) f = stay f.subjects f.subjects refl
by_event (AttributeGone id) f = stay f.subjects f.subjects refl
by_event (AssignMade row) f = stay f.subjects f.subjects refl
by_event (AssignGone id) f = stay f.subjects f.subjects refl
by_event (ValueAdded id v) f = stay f.subjects f.subjects refl
by_event (ValueRemoved id v) f = stay f.subjects f.subjects refl
by_event (RuleMade row) f = stay f.subjects f.subjects refl
by_event (RuleGone id) f = stay f.subjects f.subjects refl
by_event (JobMade row) f = stay f.subjects f.subjects refl
by_event (JobGone id) f = stay f.subjects f.subjects refl
by_event (ConsumerAdded row) f = stay f.subjects f.subjects refl
by_event (ConsumerAcked name seq) f = stay f.subjects f.subjects refl

by_events : (es : List Event) (f : Lists) → Grows f.subjects (all_happened es f).subjects
by_events [] f = stay f.subjects f.subjects refl
by_events (e ∷ es) f = then_more f.subjects (happened e f).subjects (all_happened (e ∷ es) f).subjects (by_event e f) (by_events es (happened e f))

-- ---- rules and dates make no person

by_actions : (actions : List Action) (f : Lists) → (all_done actions f).subjects ≡ f.subjects
by_actions [] f = refl
by_actions (Removed rule g s ∷ actions) f = by_actions actions _
by_actions (Ended rule g s until ∷ actions) f = by_actions actions _

settled : (pairs : List (ℕ × ℕ)) (at : ℕ) (f : Lists) → (settle pairs at f).subjects ≡ f.subjects
settled pairs at f = by_actions (settling pairs at f) f

by_date : (a d : ℕ) (f : Lists) → (date_passed a d f).subjects ≡ f.subjects
by_date a d f = settled (ended (live a f) (live d (at_date d f))) d (at_date d f)

abbrev on_from : ℕ → ℕ → ℕ → Lists → Option ℕ → Lists
on_from n a b f None = f
on_from n a b f (Some d) = pass_in n d b (date_passed a d f)

passed_in : (n a b : ℕ) (f : Lists) → (pass_in n a b f).subjects ≡ f.subjects
passed_in zero a b f = refl
passed_in (suc n) a b f =
    elim (due a b f) as (λ (next : Option ℕ). (on_from n a b f next).subjects ≡ f.subjects) [
      | None ↦ refl
      | Some d ↦ passed_in n d b (date_passed a d f) ∙ by_date a d f
    ]

passed : (a b : ℕ) (f : Lists) → (pass a b f).subjects ≡ f.subjects
unfolding pass
passed a b f = passed_in _ a b f

-- ---- along a history

by_command : (at : ℕ) (by : Entity) (command : Command) (f : Lists) → Grows f.subjects (acted at by command f).subjects
by_command at by command f =
    then_more f.subjects (edit at by command f).subjects (acted at by command f).subjects
    (by_events (events_of at by command f) f)
    (stay _ _ (settled (ended (live at f) (live at (edit at by command f))) at (edit at by command f)))

after_all : (a : ℕ) (ss : List Stamped) (t : ℕ) (f : Lists) → Grows f.subjects (facts_after a ss t f).subjects
after_all a [] t f = stay f.subjects _ (passed a t f)
after_all a (s ∷ ss) t f =
    let before = pass a s.at f in
    let after = acted s.at s.by s.command before in
    then_more f.subjects after.subjects _
    (then_more f.subjects before.subjects after.subjects (stay f.subjects before.subjects (passed a s.at f)) (by_command s.at s.by s.command before))
    (after_all s.at ss t after)

after_more : (a : ℕ) (ss more : List Stamped) (t u : ℕ) (f : Lists) → Grows (facts_after a ss t f).subjects (facts_after a (ss ++ more) u f).subjects
after_more a [] more t u f =
    then_more _ f.subjects _ (stay _ f.subjects (sym (passed a t f))) (after_all a more u f)
after_more a (s ∷ ss) more t u f = after_more s.at ss more t u (acted s.at s.by s.command (pass a s.at f))

-- ---- a history that rises is cut at a moment

none_yet : (t m : ℕ) (ss : List Stamped) → t < m → ((before after : List Stamped) (s : Stamped) → ss ≡ before ++ s ∷ after → m ≤ s.at) → up_to t ss ≡ []
none_yet t m [] early later = refl
none_yet t m (s ∷ ss) early later =
    let from : m ≤ s.at = later [] ss s refl in
    let past : nat_le s.at t ≡ false = grind (arith, nat_tests) in
    rw past (none_yet t m ss early (λ before after x is. later (s ∷ before) after x (ap (λ (l : List Stamped). s ∷ l) is)))

up_to_later : (t u : ℕ) (history : List Stamped) → t ≤ u → Rises history → (more : List Stamped) × (up_to u history ≡ up_to t history ++ more)
up_to_later t u [] later rises = ([], refl)
up_to_later t u (s ∷ ss) later rises =
    let rest : Rises ss = λ before after x is. (rises (s ∷ before) after x (ap (λ (l : List Stamped). s ∷ l) is)).1 in
    elim (nat_le s.at t) as (λ b. nat_le s.at t ≡ b → (more : List Stamped) × (up_to u (s ∷ ss) ≡ up_to t (s ∷ ss) ++ more)) [
      | true ↦ λ early.
          let by : nat_le s.at u ≡ true = grind (arith, nat_tests) in
          let found = up_to_later t u ss later rest in
          (found.0, rw (by, early) (ap (λ (l : List Stamped). s ∷ l) found.1))
      | false ↦ λ late.
          let past : t < s.at = grind (arith, nat_tests) in
          let none = none_yet t s.at ss past (λ before after x is. (rises (s ∷ before) after x (ap (λ (l : List Stamped). s ∷ l) is)).0) in
          (up_to u (s ∷ ss), rw (late, none) refl)
    ] refl

-- the persons at a later moment
pub persons_grow : (history : List Stamped) (t u : ℕ) → t ≤ u → Rises history → Grows (facts history t).subjects (facts history u).subjects
unfolding facts
persons_grow history t u later rises =
    let cut = up_to_later t u history later rises in
    rw cut.1 (after_more 0 (up_to t history) cut.0 t u the_facts.start)

-- ---- the registry as it was

up_to_again : (t : ℕ) (history : List Stamped) → up_to t (up_to t history) ≡ up_to t history
up_to_again t [] = refl
up_to_again t (s ∷ ss) =
    elim (nat_le s.at t) as (λ b. nat_le s.at t ≡ b → up_to t (up_to t (s ∷ ss)) ≡ up_to t (s ∷ ss)) [
      | true ↦ λ early. rw early (rw early (ap (λ (l : List Stamped). s ∷ l) (up_to_again t ss)))
      | false ↦ λ late. rw late (up_to_again t ss)
    ] refl

-- what it gave at its clock is what the whole history gives at that moment
pub facts_then : (t : ℕ) (history : List Stamped) → facts (up_to t history) t ≡ facts history t
unfolding facts
facts_then t history = ap (λ (h : List Stamped). facts_after 0 h t the_facts.start) (up_to_again t history)
