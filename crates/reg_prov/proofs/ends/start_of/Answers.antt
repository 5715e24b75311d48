use Rattle.std.proofs.Common.{sym, ◌∙◌}
use Rattle.reg_prov.proofs.Ending.{start_here, start_down}
use Rattle.reg_prov.proofs.ends.start_of.Goals as goal

pub loop-number-preserved : goal.loop-number-preserved
loop-number-preserved c = start_down c.args.moments.now c.loop-number.number (sym c.loop-number-test.ensures) ∙ c.loop-number.invariant

pub returns : goal.returns
returns c = sym (start_here c.args.moments.now c.loop-number.number (sym c.loop-number-test.ensures)) ∙ c.loop-number.invariant
