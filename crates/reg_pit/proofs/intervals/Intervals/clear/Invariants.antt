use Rattle.std.proofs.Common.{◌≡◌, ◌&&◌, ℕ, false, take, nat_le, if◌then◌else◌}
use Rattle.std.specs.Ordering.{eq_by_cmp}
use Rattle.std.specs.List.{list_any}
use Rattle.reg_pit.specs.Spans.{covers, NoLater}
use Rattle.reg_pit.specs.Runs.{spans_of}
use Rattle.reg_pit.proofs.intervals.Intervals.clear.Given as goal

abbrev pub invariant-loop-key : goal.invariant-loop-key
invariant-loop-key g l = record {
  last : (k : g.row.K.Denot) → NoLater l.at (spans_of g.K.Ord.cmp l.intervals k);
  off : (k : g.row.K.Denot) (t : ℕ) → covers (spans_of g.K.Ord.cmp l.intervals k) t ≡ (if list_any (eq_by_cmp g.K.Ord.cmp k) (take l.key-index l.key-items) && nat_le l.at t then false else covers (spans_of g.K.Ord.cmp l.initial.intervals k) t);
}
