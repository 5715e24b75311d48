use Rattle.reg_run.specs.AsOf.{input_of}
use Rattle.reg_run.specs.World.{out_of}
use Rattle.reg_run.proofs.AskedThen.{stopped}
use Rattle.reg_run.proofs.as_of.answer_lines.Goals as goal

-- all lines were answered
pub returns-in-Ok : goal.returns-in-Ok
returns-in-Ok g c = (c.in-Ok.ensures.told, c.in-Ok.ensures.flushed)

-- answering them stopped
pub returns-in-Err : goal.returns-in-Err
returns-in-Err g c =
    rw c.end_of_stop.ensures (stopped c.args.earlier.now (input_of g.S.Source c.args.input.now) (input_of g.S.Source c.answer_input.new.input) (out_of g.K.Sink c.args.out.now) (out_of g.K.Sink c.answer_input.new.out)
    c.in-Err.stop c.in-Err.ensures.stopped c.in-Err.ensures.input c.in-Err.ensures.output)
