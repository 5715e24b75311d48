use Rattle.std.proofs.Common.{Ok, List, subst, sym}
use Rattle.reg_terms.specs.declared.command.Stamped.{Stamped}
use Rattle.reg_terms.specs.declared.reply.Reply.{Reply}
use Rattle.reg_machine.specs.Refusals.{refusal}
use Rattle.reg_service.specs.Kept.{KeepsNext}
use Rattle.reg_service.specs.Turn.{Carries, loaded}
use Rattle.reg_service.proofs.Loads.{counted_carries, counted_loaded, counted_unnumbered, loaded_history}
use Rattle.reg_service.proofs.service.keep_load.Goals as goal

-- the load is answered as its command is
pub returns-clause-turn : goal.returns-clause-turn
returns-clause-turn g c =
    subst (λ (r : Reply). Carries c.args.machine (loaded c.args.machine c.args.by (Ok (c.args.command, c.args.counts))) (r, c.keep-reply.result.1)) (sym c.counted.ensures)
    (counted_carries c.args.machine c.args.by c.args.command c.args.counts c.keep-reply.result.0 c.keep-reply.result.1 c.requires.accepted c.keep-reply.ensures.turn)

-- and kept as it is
pub returns-clause-kept : goal.returns-clause-kept
returns-clause-kept g c =
    subst (λ (h : List Stamped). KeepsNext g.K.Keeper c.args.machine.history h c.args.keeper c.keep-reply.result.1) (loaded_history c.args.machine c.args.by c.args.command c.requires.accepted) c.keep-reply.ensures.kept

pub returns-clause-unnumbered : goal.returns-clause-unnumbered
returns-clause-unnumbered g c n id is = counted_unnumbered c.args.counts c.keep-reply.result.0 n id (rw c.counted.ensures at is)

pub returns-clause-loaded : goal.returns-clause-loaded
returns-clause-loaded g c n counts is =
    counted_loaded g.K.Keeper c.args.machine c.args.by c.args.command (refusal c.args.machine.history c.args.machine.clock c.args.by c.args.command) c.args.counts c.keep-reply.result.0 c.keep-reply.result.1 n counts c.keep-reply.ensures.turn c.keep-reply.ensures.added (rw c.counted.ensures at is)
