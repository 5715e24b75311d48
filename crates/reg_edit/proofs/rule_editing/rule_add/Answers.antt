use Rattle.std.proofs.Common.{◌+◌}
use Rattle.reg_edit.proofs.RuleDays.{suiting_days}
use Rattle.reg_edit.proofs.rule_editing.rule_add.Goals as goal

pub rule_form-requires : goal.rule_form-requires
rule_form-requires c = suiting_days (c.args.facts.now.made.rules + 1) c.args.command.now c.args.facts.now c.requires
