use Rattle.std.proofs.Common.{◌≡◌, ◌++◌, length}
use Rattle.reg_keep.specs.Frames.{AreShort, payloads_of_records}
use Rattle.reg_machine.specs.History.{start}
use Rattle.reg_recode.specs.Recoded.{recoded}
use Rattle.reg_service.specs.Opening.{judged_old}
use Rattle.reg_service.proofs.migrated.judge_old.Given as goal

-- The rest of the records goes on from the machine so far. Those made so far, and the rest recoded,
-- are all of them recoded; those made are short.
abbrev pub invariant-records : goal.invariant-records
invariant-records l = record {
  judged : judged_old start l.fn.records ≡ judged_old l.machine l.left;
  all : recoded l.fn.records ≡ l.made ++ recoded l.left;
  short : AreShort (payloads_of_records l.made);
}

abbrev pub decreases-records : goal.decreases-records
decreases-records l = length l.left
