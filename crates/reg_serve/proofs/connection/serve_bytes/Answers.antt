use Rattle.std.proofs.Common.{refl, arith, rules}
use Rattle.reg_service.specs.Marked.{keeps_up_then, part_of_whole}
use Rattle.reg_session.proofs.Halting.{kept_then}
use Rattle.reg_serve.specs.KeepingUp.{IsResponse}
use Rattle.reg_serve.proofs.Turning.{first_rests, other_rests, served_first, session_still, rose_more, too_much_otherwise}
use Rattle.reg_serve.proofs.Upkeep.{session_first_up}
use Rattle.reg_serve.proofs.connection.serve_bytes.Goals as goal

-- nothing was read yet
pub loop-taken-init : goal.loop-taken-init
loop-taken-init g c = record {
  done = rw c.in-Ok.ensures.left (served_first _ _ _ _ c.turns_are_of_all_bytes.ensures.begun (rw c.requires at c.in-Ok.ensures.served));
  up = c.in-Ok.ensures.keeps_up;
  kept = c.in-Ok.ensures.kept;
  unfinished = c.in-Ok.ensures.none;
  fault = c.in-Ok.ensures.fault;
  few = omega arith;
  reads = search rules;
  writes = search rules;
}

-- a piece more was read, and its messages answered
pub loop-taken-preserved : goal.loop-taken-preserved
loop-taken-preserved g c =
    let inv = c.loop-taken.invariant in
    let one = c.in-Ok-serve_some.ensures in
    record {
      done = one.served _ _ inv.done;
      up = keeps_up_then g.K.Keeper IsResponse _ _ _ _ _ _ _ _ _ inv.kept one.kept inv.up one.keeps_up;
      kept = kept_then g.K.Keeper _ _ _ _ _ _ inv.kept one.kept;
      unfinished = one.none;
      fault = one.fault;
      few = omega (arith, one.within);
      reads = search rules;
      writes = search rules;
    }

-- fewer bytes may still come
pub loop-taken-smaller : goal.loop-taken-smaller
loop-taken-smaller g c = omega (arith, c.in-Ok-serve_some.ensures.more, c.in-Ok-serve_some.ensures.within, c.loop-taken-test.true)

-- it ended before anything was read
pub returns-in-Err-clause-session : goal.returns-in-Err-clause-session
returns-in-Err-clause-session g c = rw c.in-Err.ensures.left (first_rests g.K.Keeper _ _ _ _ _ _ _ c.turns_are_of_all_bytes.ensures.begun (rw c.requires at c.in-Err.ensures.ended))

pub returns-in-Err-clause-keeps_up : goal.returns-in-Err-clause-keeps_up
returns-in-Err-clause-keeps_up g c = rw c.in-Err.ensures.left (session_first_up g.K.Keeper _ _ _ _ _ _ _ _ c.turns_are_of_all_bytes.ensures.begun (rw c.requires at c.in-Err.ensures.keeps_up_to))

-- it ended at a piece
pub returns-in-Err-serve_some-clause-session : goal.returns-in-Err-serve_some-clause-session
returns-in-Err-serve_some-clause-session g c = c.in-Err-serve_some.ensures.session _ _ _ c.loop-taken.invariant.done c.loop-taken.invariant.kept

pub returns-in-Err-serve_some-clause-failed : goal.returns-in-Err-serve_some-clause-failed
returns-in-Err-serve_some-clause-failed g c is = rose_more _ _ _ _ _ _ c.loop-taken.invariant.reads c.loop-taken.invariant.writes (c.in-Err-serve_some.ensures.failed is)

pub returns-in-Err-serve_some-clause-keeps_up : goal.returns-in-Err-serve_some-clause-keeps_up
returns-in-Err-serve_some-clause-keeps_up g c = c.in-Err-serve_some.ensures.keeps_up_to _ _ _ _ c.loop-taken.invariant.done c.loop-taken.invariant.kept c.loop-taken.invariant.up

-- there was too much of it
pub returns-clause-session : goal.returns-clause-session
returns-clause-session g c =
    other_rests g.K.Keeper _ _ _ _ _ _ _ _ too_much_otherwise
    (session_still g.K.Keeper _ _ _ _ _ c.loop-taken.service _ _ _ _ _ _ c.loop-taken.invariant.done c.loop-taken.invariant.kept refl refl c.loop-taken.invariant.few
    (λ taken counted. omega (arith, counted, c.loop-taken-test.false, c.loop-taken.invariant.few)))

pub returns-clause-keeps_up : goal.returns-clause-keeps_up
returns-clause-keeps_up g c = (returns-clause-session g c, part_of_whole g.K.Keeper IsResponse _ _ _ _ _ c.loop-taken.invariant.up)
