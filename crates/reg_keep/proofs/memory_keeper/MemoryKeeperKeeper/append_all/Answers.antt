use Rattle.std.proofs.Common.{◌∙◌}
use Rattle.reg_keep.specs.MemoryKeeper.{payloads_of}
use Rattle.reg_keep.proofs.OneByOne.{added_front, run_since, on_any_err, front_told}
use Rattle.reg_keep.proofs.memory_keeper.MemoryKeeperKeeper.append_all.Goals as goal

pub returns-in_err-append-clause-failed : goal.returns-in_err-append-clause-failed
returns-in_err-append-clause-failed c =
    on_any_err c.from_residual.result (front_told _ _ _ _ (added_front _ _ _ _ c.payloads.invariant.added) c.in_err-append.ensures.failed)

pub returns-in_err-append-clause-any_moment : goal.returns-in_err-append-clause-any_moment
returns-in_err-append-clause-any_moment c =
    let f = added_front _ _ _ _ c.payloads.invariant.added in
    run_since payloads_of c.args.more.now c.args.self.now c.append.new.self (f.0, f.1, c.in_err-append.ensures.failed ∙ f.2)

pub returns-clause-any_moment : goal.returns-clause-any_moment
returns-clause-any_moment c = run_since payloads_of c.args.more.now c.args.self.now c.payloads.self (added_front _ _ _ _ c.payloads.invariant.added)
