use Rattle.std.proofs.Common.{sym, subst}
use Rattle.reg_terms.specs.declared.reply.Reply.{Reply}
use Rattle.reg_machine.specs.History.{State}
use Rattle.reg_service.specs.Kept.{KeepsNext}
use Rattle.reg_service.specs.Turn.{Carries}
use Rattle.reg_service.proofs.Keyed.{again_carries, ordered_free}
use Rattle.reg_service.proofs.Keeping.{acknowledged_again, kept_same}
use Rattle.reg_service.proofs.service.carried_out.Goals as goal

-- a command that was kept is answered again, and nothing changes
pub returns-in-Some-clause-turn : goal.returns-in-Some-clause-turn
returns-in-Some-clause-turn g c = again_carries c.args.machine c.args.by c.args.key c.args.command c.in-Some.reply c.args.keeper c.in-Some.ensures.told

pub returns-in-Some-clause-kept : goal.returns-in-Some-clause-kept
returns-in-Some-clause-kept g c = kept_same g.K.Keeper c.args.machine c.args.keeper c.requires.served (g.met.K.Keeper.stop_now c.args.keeper) (g.met.K.Keeper.stop_only_now c.args.keeper)

pub returns-in-Some-clause-acknowledged : goal.returns-in-Some-clause-acknowledged
returns-in-Some-clause-acknowledged g c n id is =
    acknowledged_again g.K.Keeper c.args.machine c.args.keeper n id c.requires.served (g.met.K.Keeper.stop_now c.args.keeper) (c.told_again.ensures.kept n id (cc))

-- any other is decided
pub returns-in-None-clause-turn : goal.returns-in-None-clause-turn
returns-in-None-clause-turn g c =
    subst (λ (e : Reply × State). Carries c.args.machine e c.decided.result) (sym (ordered_free c.args.machine c.args.by c.args.key c.args.command (c.told_again.ensures.free (cc)))) c.decided.ensures.turn

pub returns-in-None-clause-kept : goal.returns-in-None-clause-kept
returns-in-None-clause-kept g c =
    subst (λ (e : Reply × State). KeepsNext g.K.Keeper c.args.machine.history e.1.history c.args.keeper c.decided.result.1) (sym (ordered_free c.args.machine c.args.by c.args.key c.args.command (c.told_again.ensures.free (cc)))) c.decided.ensures.kept
