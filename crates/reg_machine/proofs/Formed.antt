-- Subjects have texts of persons, and no more memberships stand than may: at the start, after events that suit, and after what follows them.
use Rattle.std.proofs.Common.{◌≡◌, ◌≤◌, ◌<◌, ◌+◌, ◌*◌, ℕ, zero, suc, List, [], ◌∷◌, ◌++◌, Bool, true, not, length, map, filter, arith, subst, sym, refl, inl, inr}
use Rattle.std.specs.Prelude.{⊤}
use Rattle.std.specs.List.{AllByRecursion}
use Rattle.std.proofs.lemmas.Bool.{cases_Bool}
use Rattle.reg_base.specs.Names.{is_person}
use Rattle.reg_terms.specs.Limits.{max_rows}
use Rattle.reg_terms.specs.declared.command.Stamped.{Stamped}
use Rattle.reg_terms.specs.declared.event.Event.{Event}
use Rattle.reg_terms.specs.declared.event.Event.TheVariants.{FolderMade, FolderRenamed, FolderMoved, FolderGone, GroupMade, GroupRenamed, GroupMoved, GroupGone, RowAdded, RowRemoved, RowRedated, Composed, Decomposed, GrantAdded, GrantBegan, GrantRemoved, InheritAdded, InheritRemoved, DefinitionMade, DefinitionGone, AttributeMade, AttributeGone, AssignMade, AssignGone, ValueAdded, ValueRemoved, RuleMade, RuleGone, JobMade, JobGone, ConsumerAdded, ConsumerAcked, SubjectMade}
use Rattle.reg_terms.specs.declared.kinds.Member.TheVariants.{Person}
use Rattle.reg_terms.specs.declared.rows.MemberRow.{MemberRow}
use Rattle.reg_terms.specs.declared.rows.RuleRow.{RuleRow}
use Rattle.reg_terms.specs.declared.rows.SubjectRow.{SubjectRow}
use Rattle.reg_facts.specs.Edits.{windowed}
use Rattle.reg_terms.specs.Rows.{is_row}
use Rattle.reg_facts.specs.Events.{all_happened, happened}
use Rattle.reg_facts.specs.Lists as the_facts
use Rattle.reg_facts.specs.Lists.{Lists}
use Rattle.reg_facts.specs.Suiting.{AllSuit, Suits}
use Rattle.reg_effect.specs.Deltas.{ended}
use Rattle.reg_rules.specs.declared.actions.Action.TheVariants.{Removed, Ended}
use Rattle.reg_rules.specs.Actions.{all_done, done, with_end}
use Rattle.reg_rules.specs.Settling.{acting, settle}
use Rattle.reg_current.specs.Dates.{date_passed, ends_at, at_date}
use Rattle.reg_machine.specs.Formed.{AreFormed, IsFormed}
use Rattle.reg_machine.specs.History.{State, facts}
use Rattle.reg_current.specs.Invariant.{Now}
use Rattle.reg_machine.specs.Invariant.{IsInStep}
use Rattle.reg_current.specs.Live.{live}
use Rattle.reg_machine.specs.Recording.{settled_after}
use Rattle.reg_machine.proofs.Settled.{acting_keeps, settle_keeps}

pub start_formed : AreFormed the_facts.start
start_formed = record { persons = tt; few = omega arith }

one_more : (rows : List MemberRow) (row : MemberRow) → length (rows ++ row ∷ []) ≡ suc (length rows)
one_more [] row = refl
one_more (r ∷ rows) row = let rest = one_more rows row in omega (arith, rest)

some_left : (test : MemberRow → Bool) (rows : List MemberRow) → length (filter test rows) ≤ length rows
some_left test [] = omega arith
some_left test (row ∷ rows) =
    let rest = some_left test rows in
    elim (cases_Bool (test row)) [
      | inl y ↦ rw y (omega (arith, rest))
      | inr n ↦ rw n (omega (arith, rest))
    ]

as_many : (change : MemberRow → MemberRow) (rows : List MemberRow) → length (map change rows) ≡ length rows
as_many change [] = refl
as_many change (row ∷ rows) = let rest = as_many change rows in omega (arith, rest)

persons_more : (ss : List SubjectRow) (row : SubjectRow) → AllByRecursion (λ (r : SubjectRow). is_person r.text ≡ true) ss → is_person row.text ≡ true → AllByRecursion (λ (r : SubjectRow). is_person r.text ≡ true) (ss ++ row ∷ [])
persons_more [] row h new = (new, tt)
persons_more (s ∷ ss) row h new = (h.0, persons_more ss row h.1 new)

with_less : (test : MemberRow → Bool) (ss : List SubjectRow) (rows : List MemberRow) → IsFormed ss rows → IsFormed ss (filter test rows)
with_less test ss rows h = let few = h.few in let less = some_left test rows in record { persons = h.persons; few = omega (arith, few, less) }

with_changed : (change : MemberRow → MemberRow) (ss : List SubjectRow) (rows : List MemberRow) → IsFormed ss rows → IsFormed ss (map change rows)
with_changed change ss rows h = let few = h.few in let same = as_many change rows in record { persons = h.persons; few = omega (arith, few, same) }

with_row : (ss : List SubjectRow) (rows : List MemberRow) (row : MemberRow) → length rows < max_rows → IsFormed ss rows → IsFormed ss (rows ++ row ∷ [])
with_row ss rows row room h = let more = one_more rows row in record { persons = h.persons; few = omega (arith, room, more) }

-- after an event that suits
formed : (e : Event) (f : Lists) → Suits e f → AreFormed f → AreFormed (happened e f)
formed (SubjectMade row) f suits h = record { persons = persons_more f.subjects row h.persons suits.2; few = h.few }
formed (RowAdded row) f suits h = with_row f.subjects f.rows row suits.4 h
formed (RowRemoved g m) f suits h = with_less (λ (row : MemberRow). not (is_row g m row)) f.subjects f.rows h
formed (RowRedated g m from until) f suits h = with_changed (windowed from until g m) f.subjects f.rows h
formed (FolderMade row) f suits h = h
formed (FolderRenamed d x) f suits h = h
formed (FolderMoved d to) f suits h = h
formed (FolderGone d) f suits h = h
formed (GroupMade row) f suits h = h
formed (GroupRenamed g x) f suits h = h
formed (GroupMoved g to) f suits h = h
formed (GroupGone g) f suits h = h
formed (Composed row) f suits h = h
formed (Decomposed g) f suits h = h
formed (GrantAdded row) f suits h = h
formed (GrantBegan row) f suits h = h
formed (GrantRemoved row) f suits h = h
formed (InheritAdded row) f suits h = h
formed (InheritRemoved row) f suits h = h
formed (DefinitionMade row) f suits h = h
formed (DefinitionGone id) f suits h = h
formed (AttributeMade row) f suits h = h
formed (AttributeGone id) f suits h = h
formed (AssignMade row) f suits h = h
formed (AssignGone id) f suits h = h
formed (ValueAdded id v) f suits h = h
formed (ValueRemoved id v) f suits h = h
formed (RuleMade row) f suits h = h
formed (RuleGone id) f suits h = h
formed (JobMade row) f suits h = h
formed (JobGone id) f suits h = h
formed (ConsumerAdded row) f suits h = h
formed (ConsumerAcked name seq) f suits h = h

all_formed : (es : List Event) (f : Lists) → AllSuit es f → AreFormed f → AreFormed (all_happened es f)
all_formed [] f suit h = h
all_formed (e ∷ es) f suit h = all_formed es (happened e f) suit.1 (formed e f suit.0 h)

-- after what rules do
act_formed : (at : ℕ) (rule : RuleRow) (g s : ℕ) (f : Lists) → AreFormed f → AreFormed (all_done (acting at rule g s f) f)
act_formed at rule g s f h = acting_keeps at AreFormed rule.id rule.form g s f (λ owner owned. with_less (λ (row : MemberRow). not (is_row owner (Person s) row)) f.subjects f.rows h) (λ owner until owned may. with_changed (with_end owner s until) f.subjects f.rows h) h

no_condition : (rules : List RuleRow) → AllByRecursion (λ (rule : RuleRow). ⊤) rules
no_condition [] = tt
no_condition (rule ∷ rules) = (tt, no_condition rules)

settle_formed : (at : ℕ) (pairs : List (ℕ × ℕ)) (f : Lists) → AreFormed f → AreFormed (settle pairs at f)
settle_formed at pairs f h = settle_keeps at AreFormed (λ (rule : RuleRow). ⊤) (λ x held. no_condition x.rules) (λ rule g s x r held. act_formed at rule g s x held) pairs f h

-- a date that comes, and a command
pub date_formed : (a d : ℕ) (f : Lists) → AreFormed f → AreFormed (date_passed a d f)
date_formed a d f h = settle_formed d (ended (live a f) (live d (at_date d f))) (at_date d f) (with_less (λ (row : MemberRow). not (ends_at d row)) f.subjects f.rows h)

pub carried_formed : (now : Now) (es : List Event) → AllSuit es now.facts → AreFormed now.facts → AreFormed (settled_after now es)
carried_formed now es suit h = settle_formed now.clock (ended (live now.clock now.facts) (live now.clock (all_happened es now.facts))) (all_happened es now.facts) (all_formed es now.facts suit h)

-- the facts of a machine that is seen as a state
pub formed_now : (history : List Stamped) (now : Now) (s : State) → IsInStep history now → AreFormed now.facts → record { history = history; clock = now.clock } ≡ s → AreFormed (facts s.history s.clock)
formed_now history now s h formed is = subst (λ (x : State). AreFormed (facts x.history x.clock)) is (subst AreFormed h.facts formed)
