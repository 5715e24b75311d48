use Rattle.std.proofs.Common.{arith}
use Rattle.std.proofs.lemmas.Grind.{common_steps}
use Rattle.std.proofs.lemmas.List.Elements.{filter_map-append}
use Rattle.reg_machine.proofs.machine.Machine.gone_by_id.Goals as goal

pub loop-group-preserved-in-Continue-branch-2 : goal.loop-group-preserved-in-Continue-branch-2
loop-group-preserved-in-Continue-branch-2 g c = grind (arith, common_steps, filter_map-append)

pub loop-group-preserved : goal.loop-group-preserved
loop-group-preserved g c = grind (arith, common_steps, filter_map-append)
