use Rattle.std.proofs.Common.{refl, inl}
use Rattle.reg_terms.specs.declared.reply.Reply.TheVariants as reply
use Rattle.reg_run.specs.Due.{due_of}
use Rattle.reg_run.proofs.report.print_refusal.Goals as goal

-- the refusal is due as it is
pub returns : goal.returns
returns g c = inl (due_of (reply.Refused c.args.refusal), refl, c.print_reply-end.ensures.printed)
