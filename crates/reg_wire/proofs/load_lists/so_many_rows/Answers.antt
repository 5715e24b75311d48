use Rattle.std.proofs.lemmas.Result.{err_from_is_err_and}
use Rattle.reg_wire.specs.Reading.{items_at, load_row_at}
use Rattle.reg_wire.proofs.Items.{goes_on, ends, is_done}
use Rattle.reg_wire.proofs.load_lists.so_many_rows.Goals as goal

pub returns-in_err-row : goal.returns-in_err-row
returns-in_err-row c =
    let p = err_from_is_err_and c.from_residual.result c.from_residual.ensures.1 in
    rw (p.1, p.2) (ends load_row_at c.in_err-row.field-0.0 c.loop.rows c.args.count c.loop.counter c.loop.rest.now (items_at load_row_at c.args.count c.args.bytes.now) c.loop-test.true c.in_err-row.ensures c.loop.invariant)

pub loop-preserved : goal.loop-preserved
loop-preserved c =
    rw c.in_ok-push.ensures.ok (goes_on load_row_at c.loop.rows c.args.count c.loop.counter c.loop.rest.now c.in_ok-row.row c.in_ok-row.after.now (items_at load_row_at c.args.count c.args.bytes.now) c.loop-test.true c.in_ok-row.ensures c.loop.invariant)

pub returns : goal.returns
returns c = is_done load_row_at c.loop.rows c.args.count c.loop.counter c.loop.rest.now (items_at load_row_at c.args.count c.args.bytes.now) c.loop-test.false c.loop.invariant
