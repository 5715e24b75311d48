use Rattle.std.proofs.Common.{◌∙◌, sym}
use Rattle.reg_priv.specs.Filling.{same_grant}
use Rattle.reg_priv.proofs.Scoped.{any_grant}
use Rattle.reg_audit.proofs.held.is_granted.Goals as goal

pub returns-then-is_written : goal.returns-then-is_written
returns-then-is_written c = sym (any_grant c.args.object.now c.args.facts.now (same_grant (c.args.privilege, c.args.holder.now)) ∙ rw (sym c.is_written.ensures ∙ c.if-is_written.true) (sym c.if-is_written.true))

pub returns-else-is_written : goal.returns-else-is_written
returns-else-is_written c = sym (any_grant c.args.object.now c.args.facts.now (same_grant (c.args.privilege, c.args.holder.now)) ∙ rw (sym c.is_written.ensures ∙ c.if-is_written.false) (sym c.is_inherited.ensures))
