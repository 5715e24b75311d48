-- The id of what a command makes.
use Rattle.std.specs.Prelude.{ℕ, ◌+◌, Option, Some, None}
use Rattle.reg_facts.specs.Lists.{Lists}
use Rattle.reg_terms.specs.declared.command.Command.{Command}
use Rattle.reg_terms.specs.declared.command.Command.TheVariants.{AssignAdd, RuleRemoveLost}
use Rattle.reg_terms.specs.declared.command.Command.TheVariants.{RuleEndLost, RuleVeto}
use Rattle.reg_terms.specs.declared.command.Command.TheVariants.{RuleOnCreate}

-- the id of what a command makes from these facts on, where it has one and no name: an assignment's
-- or a rule's, one more than there ever were
unfoldable pub made_id : Command → Lists → Option ℕ
made_id (AssignAdd attribute object) f = Some (f.made.assigns + 1)
made_id (RuleRemoveLost check owner) f = Some (f.made.rules + 1)
made_id (RuleEndLost check owner days) f = Some (f.made.rules + 1)
made_id (RuleVeto owner condition) f = Some (f.made.rules + 1)
made_id (RuleOnCreate folder scope privilege holder) f = Some (f.made.rules + 1)
made_id _ f = None
