use Rattle.reg_report.specs.Asked.{moment_asked}
use Rattle.reg_run.proofs.AskedThen.{found_at, no_moment}
use Rattle.reg_run.proofs.earlier.find_at.Goals as goal

-- there is a moment
pub returns-in-Ok-clause-finds : goal.returns-in-Ok-clause-finds
returns-in-Ok-clause-finds g c last opens = found_at (moment_asked c.args.text.now c.args.clock) c.in-Ok.at last _ _ _ c.reread.result.0 c.in-Ok.ensures.reads (c.reread.ensures.finds last opens)

-- there is none
pub returns-in-Err-clause-finds : goal.returns-in-Err-clause-finds
returns-in-Err-clause-finds g c last opens = no_moment (moment_asked c.args.text.now c.args.clock) c.in-Err.why last _ _ _ c.in-Err.ensures.reads c.in-Err.ensures.refused
