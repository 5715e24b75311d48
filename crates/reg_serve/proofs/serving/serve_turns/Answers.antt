use Rattle.std.proofs.Common.{refl, arith, rules}
use Rattle.reg_service.specs.Marked.{keeps_up_none, keeps_up_then}
use Rattle.reg_session.proofs.Halting.{kept_then}
use Rattle.reg_serve.specs.KeepingUp.{IsResponse}
use Rattle.reg_serve.proofs.Turning.{ends_behind, serves_none, serves_more, remains_fault, remains_none}
use Rattle.reg_serve.proofs.Upkeep.{behind_up}
use Rattle.reg_serve.proofs.serving.serve_turns.Goals as goal

-- nothing was answered yet
pub loop-more-init : goal.loop-more-init
loop-more-init g c = record {
  served = serves_none _ _;
  fault = c.requires;
  none = λ e. absurd (cc);
  up = keeps_up_none g.K.Keeper IsResponse c.args.service.keeper c.args.service.keeper c.args.service.state.history _ _ refl refl;
  kept = c.stays.ensures;
  left = refl;
  reads = omega arith;
  writes = omega arith;
}

-- one message more was
pub loop-more-preserved : goal.loop-more-preserved
loop-more-preserved g c =
    let inv = c.loop-more.invariant in
    let one = c.in-Ok.ensures in
    record {
      served = serves_more _ _ _ _ _ _ inv.served one.served;
      fault = remains_fault _ _ _ one.more;
      none = λ e. remains_none _ _ _ one.more e;
      up = keeps_up_then g.K.Keeper IsResponse _ _ _ _ _ _ _ _ _ inv.kept one.kept inv.up one.keeps_up;
      kept = kept_then g.K.Keeper _ _ _ _ _ _ inv.kept one.kept;
      left = search rules;
      reads = search rules;
      writes = search rules;
    }

-- a message ended the connection
pub returns-in-Err-clause-ended : goal.returns-in-Err-clause-ended
returns-in-Err-clause-ended g c = ends_behind g.K.Keeper _ _ _ _ _ _ _ _ _ c.loop-more.invariant.served c.loop-more.invariant.kept c.in-Err.ensures.ended

pub returns-in-Err-clause-keeps_up_to : goal.returns-in-Err-clause-keeps_up_to
returns-in-Err-clause-keeps_up_to g c = behind_up g.K.Keeper _ _ _ _ _ _ _ _ _ _ _ c.loop-more.invariant.served c.loop-more.invariant.kept c.loop-more.invariant.up c.in-Err.ensures.keeps_up_to

-- all were answered
pub returns-clause-keeps_up : goal.returns-clause-keeps_up
returns-clause-keeps_up g c = c.loop-more.invariant.up
