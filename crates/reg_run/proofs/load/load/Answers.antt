use Rattle.std.proofs.Common.{refl, inl, inr}
use Rattle.reg_service.specs.Marked.{keeps_up_none, part_of_whole}
use Rattle.reg_session.specs.Replies.{IsLine}
use Rattle.reg_session.proofs.Halting.{go_halted}
use Rattle.reg_run.specs.Once.{load_of}
use Rattle.reg_run.proofs.load.load.Goals as goal

-- the table was taken, and its load asked
pub returns-in-Ok : goal.returns-in-Ok
returns-in-Ok g c =
    let t = c.in-Ok.ensures.table in
    let asked = c.ask_once.ensures.asked (load_of c.args.job.now t.taken) (c.load_of-reading.ensures.reads t.taken t.held) in (
      record {
        taken = t.taken;
        input = t.input;
        few = t.few;
        halted = asked.0;
        ends = inr (t.whole, c.ask_once.ensures.clock, asked.1);
        disk = c.ask_once.ensures.disk;
      },
      asked.2,
    )

-- the input failed
pub returns-in-Err : goal.returns-in-Err
returns-in-Err g c =
    let t = c.in-Err.ensures.some in (
      record {
        taken = t.0;
        input = t.1;
        few = t.2;
        halted = go_halted g.J.Keeper c.args.service.state.history c.args.service.keeper c.args.service c.into_keeper.result c.stays.ensures c.into_keeper.ensures.keeper c.into_keeper.ensures.fronts c.into_keeper.ensures.leaves;
        ends = inl (refl, c.in-Err.ensures.failed, refl, refl, refl, refl);
        disk = λ is. absurd (cc);
      },
      part_of_whole _ _ _ _ _ _ _ (keeps_up_none _ IsLine c.args.service.keeper c.into_keeper.result c.args.service.state.history _ _ refl refl),
    )
