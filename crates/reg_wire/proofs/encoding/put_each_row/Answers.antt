use Rattle.reg_ops.specs.Forms.{is_load_row}
use Rattle.reg_wire.proofs.Lists.{each_passes}
use Rattle.reg_wire.proofs.encoding.put_each_row.Goals as goal

pub put_load_row-requires : goal.put_load_row-requires
put_load_row-requires c = rw c.row-item.is (each_passes is_load_row c.args.rows.now c.loop-row.row-index _ c.requires c.loop-row-test.true)
