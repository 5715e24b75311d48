use Rattle.std.proofs.Common.{◌∙◌, refl, arith, rules, inl, inr}
use Rattle.reg_session.proofs.Halting.{kept_then}
use Rattle.reg_serve.proofs.Visiting.{ceases_then, same_told, served_none, served_then, serves_all}
use Rattle.reg_serve.proofs.Upvisits.{ceases_then_up, served_none_up, served_then_up, serves_all_up}
use Rattle.reg_serve.proofs.connections.serve_all.Goals as goal

-- none was served yet
pub loop-served-init : goal.loop-served-init
loop-served-init g c = record {
  done = served_none _ _ _ _ (same_told _);
  up = served_none_up g.K.Keeper c.args.service.keeper c.args.service.keeper _ _ _ _ (same_told _);
  few = omega arith;
  kept = c.stays.ensures;
  port = refl;
  still = refl;
  count = omega arith;
}

-- one more was
pub loop-served-preserved : goal.loop-served-preserved
loop-served-preserved g c =
    let inv = c.loop-served.invariant in
    let one = c.in-Ok.ensures in
    record {
      done = served_then _ _ _ _ _ _ _ _ _ _ _ inv.done (rw c.if-not-another.false at one.served);
      up = served_then_up g.K.Keeper _ _ _ _ _ _ _ _ _ _ _ _ _ _ inv.kept one.kept inv.up (rw c.if-not-another.false at one.keeps_up);
      few = omega (arith, c.loop-served-test.true);
      kept = kept_then g.K.Keeper _ _ _ _ _ _ inv.kept one.kept;
      port = search rules;
      still = one.still ∙ inv.still;
      count = omega (arith, inv.count, one.still);
    }

-- none is to come
pub returns-then-not-another-clause-served : goal.returns-then-not-another-clause-served
returns-then-not-another-clause-served g c =
    let inv = c.loop-served.invariant in
    let one = c.in-Ok.ensures in
    serves_all _ _ _ _ _ _ _ _ (served_then _ _ _ _ _ _ _ _ _ _ _ inv.done (rw c.if-not-another.true at one.served)) (omega (arith, inv.few)) (inr (one.none c.if-not-another.true))

pub returns-then-not-another-clause-kept : goal.returns-then-not-another-clause-kept
returns-then-not-another-clause-kept g c = kept_then g.K.Keeper _ _ _ _ _ _ c.loop-served.invariant.kept c.in-Ok.ensures.kept

pub returns-then-not-another-clause-keeps_up : goal.returns-then-not-another-clause-keeps_up
returns-then-not-another-clause-keeps_up g c =
    let inv = c.loop-served.invariant in
    let one = c.in-Ok.ensures in
    serves_all_up g.K.Keeper _ _ _ _ _ _ _ _ _ _ (served_then_up g.K.Keeper _ _ _ _ _ _ _ _ _ _ _ _ _ _ inv.kept one.kept inv.up (rw c.if-not-another.true at one.keeps_up)) (omega (arith, inv.few)) (inr (one.none c.if-not-another.true))

pub returns-then-not-another-clause-still : goal.returns-then-not-another-clause-still
returns-then-not-another-clause-still g c = c.in-Ok.ensures.still ∙ c.loop-served.invariant.still

-- no more are served
pub returns-in-Err-clause-ceased : goal.returns-in-Err-clause-ceased
returns-in-Err-clause-ceased g c = ceases_then g.K.Keeper _ _ _ _ _ _ _ _ _ _ _ _ _ _ c.loop-served.invariant.done c.loop-served.invariant.kept c.loop-served-test.true c.in-Err.ensures.ceased

pub returns-in-Err-clause-disk : goal.returns-in-Err-clause-disk
returns-in-Err-clause-disk g c is = omega (arith, c.loop-served.invariant.kept.later, c.in-Err.ensures.disk is)

pub returns-in-Err-clause-listener : goal.returns-in-Err-clause-listener
returns-in-Err-clause-listener g c is = omega (arith, c.loop-served.invariant.count, c.in-Err.ensures.listener is)

pub returns-in-Err-clause-keeps_up_to : goal.returns-in-Err-clause-keeps_up_to
returns-in-Err-clause-keeps_up_to g c = ceases_then_up g.K.Keeper _ _ _ _ _ _ _ _ _ _ _ _ _ _ c.loop-served.invariant.kept c.loop-served-test.true c.loop-served.invariant.up c.in-Err.ensures.keeps_up_to

-- as many as were to be served
pub returns-clause-still : goal.returns-clause-still
returns-clause-still g c = c.loop-served.invariant.still

pub returns-clause-served : goal.returns-clause-served
returns-clause-served g c = serves_all _ _ _ _ _ _ _ _ c.loop-served.invariant.done c.loop-served.invariant.few (inl (omega (arith, c.loop-served.invariant.few, c.loop-served-test.false)))

pub returns-clause-keeps_up : goal.returns-clause-keeps_up
returns-clause-keeps_up g c = serves_all_up g.K.Keeper _ _ _ _ _ _ _ _ _ _ c.loop-served.invariant.up c.loop-served.invariant.few (inl (omega (arith, c.loop-served.invariant.few, c.loop-served-test.false)))
