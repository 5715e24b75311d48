use Rattle.std.proofs.Common.{sym, arith}
use Rattle.reg_prov.proofs.Ending.{first_low, first_none, least_found, none_more}
use Rattle.reg_prov.proofs.ends.first_end.Goals as goal

pub loop-number-init : goal.loop-number-init
loop-number-init c = first_low c.args.moments.now c.args.clock c.args.place c.args.place (omega arith)

pub returns-then-is_end : goal.returns-then-is_end
returns-then-is_end c = least_found c.args.moments.now c.args.clock c.args.place c.loop-number.number c.loop-number.invariant c.loop-number-test.true (sym c.if-is_end.ensures)

pub loop-number-preserved : goal.loop-number-preserved
loop-number-preserved c = none_more c.args.moments.now c.args.clock c.args.place c.loop-number.number c.loop-number.invariant (sym c.if-is_end.ensures)

pub returns : goal.returns
returns c = sym (first_none c.args.moments.now c.args.clock c.args.place c.loop-number.number _ c.loop-number.invariant c.loop-number-test.false)
