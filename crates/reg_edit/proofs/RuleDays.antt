-- The days of a command on rules are few where its rule suits the facts.
use Rattle.std.proofs.Common.{ℕ}
use Rattle.reg_terms.specs.declared.command.Command.{Command}
use Rattle.reg_terms.specs.declared.command.Command.TheVariants.{RuleEndLost}
use Rattle.reg_facts.specs.Events.{on_rule}
use Rattle.reg_facts.specs.Lists.{Lists}
use Rattle.reg_facts.specs.Rules.{form_of}
use Rattle.reg_facts.specs.Ruling.{HasDays}
use Rattle.reg_facts.specs.Suiting.{AllSuit}

pub suiting_days : (id : ℕ) (c : Command) (f : Lists) → AllSuit (on_rule id (form_of c f)) f → HasDays c
suiting_days id (RuleEndLost check owner days) f h = h.0.2.3
suiting_days id _ f h = tt
