-- After each step of a history, who stopped being a member of a group has no membership that is on in the owner of a rule that takes it away.
use Rattle.std.proofs.Common.{◌≡◌, ◌*◌, ℕ, zero, suc, List, [], ◌∷◌, ◌++◌, true, false, None, length, sym, ap, subst, inl, inr}
use Rattle.std.specs.List.{AllByRecursion}
use Rattle.reg_base.specs.declared.entity.Entity.{Entity}
use Rattle.reg_terms.specs.declared.command.Command.{Command}
use Rattle.reg_terms.specs.declared.command.Stamped.{Stamped}
use Rattle.reg_terms.specs.declared.rows.RuleRow.{RuleRow}
use Rattle.reg_facts.specs.Events.{edit}
use Rattle.reg_facts.specs.Lists as the_facts
use Rattle.reg_facts.specs.Lists.{Lists}
use Rattle.reg_facts.proofs.Places.{cases_option}
use Rattle.reg_effect.specs.declared.live.Live.{Live}
use Rattle.reg_effect.specs.Deltas.{ended}
use Rattle.reg_effect.specs.Member.{member}
use Rattle.reg_rules.specs.Live.{row_on}
use Rattle.reg_rules.specs.Lost.{has_removal}
use Rattle.reg_rules.specs.Settling.{settle}
use Rattle.reg_audit.specs.Steps.{Step}
use Rattle.reg_current.specs.Dates.{at_date, date_passed, due, most_dates, pass}
use Rattle.reg_machine.specs.History.{acted, up_to}
use Rattle.reg_current.specs.Live.{live}
use Rattle.reg_machine.specs.Losing.{TakesLost}
use Rattle.reg_machine.specs.Past.{command_step, date_step, dates_passed, dates_passed_in, steps, steps_after}
use Rattle.reg_machine.proofs.Settled.{settle_is}
use Rattle.reg_machine.proofs.StepByStep.{passed_in_none, passed_in_some}

both_parts : (first second : List Step) → AllByRecursion TakesLost first → AllByRecursion TakesLost second → AllByRecursion TakesLost (first ++ second)
both_parts [] second h k = k
both_parts (step ∷ first) second h k = (h.0, both_parts first second h.1 k)

-- a rule that stands after what follows stood before it
stood : (pairs : List (ℕ × ℕ)) (at group owner : ℕ) (f : Lists) → has_removal group owner (settle pairs at f).rules ≡ true → has_removal group owner f.rules ≡ true
stood pairs at group owner f h = subst (λ (rules : List RuleRow). has_removal group owner rules ≡ true) (ap (λ (x : Lists). x.rules) (settle_is pairs at f)) h

module _ (law : (at : ℕ) (before : Live) (group owner person : ℕ) (f : Lists) → has_removal group owner f.rules ≡ true → member before group person ≡ true → member (live at (settle (ended before (live at f)) at f)) group person ≡ false → row_on at owner person (settle (ended before (live at f)) at f) ≡ None) where
  -- after a date
  pub date_takes : (a d : ℕ) (f : Lists) → TakesLost (date_step a d f)
  date_takes a d f group owner person rule was gone =
      law d (live a f) group owner person (at_date d f) (stood (ended (live a f) (live d (at_date d f))) d group owner (at_date d f) rule) was gone

  -- after a command
  pub command_takes : (at : ℕ) (by : Entity) (command : Command) (f : Lists) → TakesLost (command_step at by command f)
  command_takes at by command f group owner person rule was gone =
      law at (live at f) group owner person (edit at by command f) (stood (ended (live at f) (live at (edit at by command f))) at group owner (edit at by command f) rule) was gone

  dates_take : (n a b : ℕ) (f : Lists) → AllByRecursion TakesLost (dates_passed_in n a b f)
  dates_take zero a b f = tt
  dates_take (suc n) a b f = elim (cases_option (due a b f)) [
    | inl none ↦ subst (AllByRecursion TakesLost) (sym (passed_in_none (suc n) a b f none)) tt
    | inr one ↦ subst (AllByRecursion TakesLost) (sym (passed_in_some n a b one.0 f one.1)) (date_takes a one.0 f, dates_take n one.0 b (date_passed a one.0 f))
  ]

  all_dates_take : (a b : ℕ) (f : Lists) → AllByRecursion TakesLost (dates_passed a b f)
  unfolding dates_passed
  all_dates_take a b f = dates_take (most_dates f) a b f

  from_take : (a : ℕ) (ss : List Stamped) (t : ℕ) (f : Lists) → AllByRecursion TakesLost (steps_after a ss t f)
  from_take a [] t f = all_dates_take a t f
  from_take a (s ∷ ss) t f =
      let next = acted s.at s.by s.command (pass a s.at f) in
      both_parts (dates_passed a s.at f) (command_step s.at s.by s.command (pass a s.at f) ∷ steps_after s.at ss t next) (all_dates_take a s.at f) (command_takes s.at s.by s.command (pass a s.at f), from_take s.at ss t next)

  -- after each step of a history
  pub steps_take : (history : List Stamped) (t : ℕ) → AllByRecursion TakesLost (steps history t)
  unfolding steps
  steps_take history t = from_take 0 (up_to t history) t the_facts.start
