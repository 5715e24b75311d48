use Rattle.std.proofs.Common.{sym, ◌∙◌}
use Rattle.reg_prov.proofs.Ending.{last_here, last_down, last_low}
use Rattle.reg_prov.proofs.ends.last_end.Goals as goal

pub returns-then-is_end : goal.returns-then-is_end
returns-then-is_end c = sym (last_here c.args.moments.now c.args.clock c.args.place c.loop-number.number (sym c.if-is_end.ensures)) ∙ c.loop-number.invariant

pub loop-number-preserved : goal.loop-number-preserved
loop-number-preserved c = last_down c.args.moments.now c.args.clock c.args.place c.loop-number.number (sym c.if-is_end.ensures) ∙ c.loop-number.invariant

pub returns : goal.returns
returns c = sym (last_low c.args.moments.now c.args.clock c.args.place c.loop-number.number c.loop-number-test.false) ∙ c.loop-number.invariant
