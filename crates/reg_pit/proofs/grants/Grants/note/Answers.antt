use Rattle.std.proofs.Common.{◌≡◌, length, true, nat_le, arith}
use Rattle.std.proofs.Math.Seq.{take-length}
use Rattle.reg_terms.specs.Kinds.{same_object}
use Rattle.reg_pit.specs.Grants.{has_grant}
use Rattle.reg_pit.proofs.Held.{forward, none_yet, grant_more, held_more, held_less, all_noted}
use Rattle.reg_pit.proofs.grants.Grants.note.Goals as goal

pub clear-requires-clause-forward : goal.clear-requires-clause-forward
clear-requires-clause-forward c = forward c.args.object c.key_of-first.result c.key_of-last.result c.new.result c.key_of-first.ensures c.key_of-last.ensures

pub clear-requires-clause-last : goal.clear-requires-clause-last
clear-requires-clause-last c = rw (← c.self.view_is) at c.requires

pub loop-privilege-init : goal.loop-privilege-init
loop-privilege-init c = record {
  last = c.in_ok-granted.ensures.last;
  held = held_less c.key_of-first.result c.key_of-last.result c.args.at c.self.inside.granted c.in_ok-granted.granted c.self.invariant c.in_ok-granted.ensures.cleared;
  on = λ o p h t. none_yet (same_object o c.args.object) (nat_le c.args.at t) _;
}

pub set-requires : goal.set-requires
set-requires c = c.loop-privilege.invariant.last

pub loop-privilege-preserved : goal.loop-privilege-preserved
loop-privilege-preserved c =
    let set = rw c.key_of.ensures at c.in_ok-set.ensures.set in
    record {
      last = c.in_ok-set.ensures.last;
      held = held_more c.args.object c.loop-privilege-item.result.0 c.loop-privilege-item.result.1 true c.args.at c.loop-privilege.granted c.set.new.self c.law_fits.ensures c.loop-privilege.invariant.held set;
      on = λ o q j t. grant_more c.args.object o c.loop-privilege-item.result.0 q c.loop-privilege-item.result.1 j c.args.grants.now c.loop-privilege.privilege-index c.args.at t _ _ _
          c.loop-privilege-test.true c.loop-privilege-item.is (set (o, q, j) t) (c.loop-privilege.invariant.on o q j t);
    }

pub invariant_of-result : goal.invariant_of-result
invariant_of-result c = c.loop-privilege.invariant.held

pub returns-clause-noted : goal.returns-clause-noted
returns-clause-noted c o p h t =
    let whole : c.loop-privilege.privilege-index ≡ length c.args.grants.now = omega (arith, c.loop-privilege-test.false, c.loop-privilege.auto.privilege-index-end) in
    let on = rw (whole, take-length) at (c.loop-privilege.invariant.on o p h t) in
    rw (← c.self.view_is) (all_noted c.args.object c.key_of-first.result c.key_of-last.result c.new.result c.key_of-first.ensures c.key_of-last.ensures c.new.ensures o p (has_grant c.args.grants.now p h) c.args.at t
    c.self.inside.granted c.in_ok-granted.granted c.loop-privilege.granted h c.self.invariant c.loop-privilege.invariant.held (c.in_ok-granted.ensures.cleared (o, p, h) t) on)
