use Rattle.std.proofs.Common.{ap, ◌∙◌}
use Rattle.reg_ops.specs.declared.table.CommandKind.{CommandKind}
use Rattle.reg_ops.specs.Table.{command_row}
use Rattle.reg_wire.proofs.encoding.code_of.Goals as goal

pub returns : goal.returns
returns c = c.command_row.ensures.code ∙ ap (λ (k : CommandKind). (command_row k).code) c.kind_of.ensures
