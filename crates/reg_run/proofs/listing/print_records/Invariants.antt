use Rattle.std.proofs.Common.{◌≡◌, ◌≤◌, List, length}
use Rattle.reg_terms.specs.declared.command.Stamped.{Stamped}
use Rattle.reg_run.specs.Listing.{AreRead}
use Rattle.reg_run.proofs.Gathering.{SoFar, all_lines}
use Rattle.reg_run.proofs.listing.print_records.Given as goal

-- the lines of the commands before the records that are left
abbrev pub invariant-commands : goal.invariant-commands
invariant-commands g l =
    let k = g.K.Sink in
    record {
      so_far : (history : List Stamped) → AreRead l.fn.records history
          → SoFar l.places (all_lines l.places l.fn.records history) (k.written l.fn.out) (k.written l.out) l.listing l.records;
      flushed : k.flushed l.out ≡ k.flushed l.fn.out;
      later : k.write_faults l.fn.out ≤ k.write_faults l.out;
    }

abbrev pub decreases-commands : goal.decreases-commands
decreases-commands g l = length l.records
