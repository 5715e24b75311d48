use Rattle.std.proofs.Common.{drop}
use Rattle.reg_access.specs.Between.{AllBetween}
use Rattle.reg_access.proofs.Sweeping.{Swept}
use Rattle.reg_access.proofs.listing.note_certified.Given as goal

abbrev pub invariant-loop-c : goal.invariant-loop-c
invariant-loop-c l = record {
  swept : Swept l.stretch.days l.stretch.certified l.stretch.from l.end l.from l.last l.fn.states.items l.states.items;
  left : AllBetween l.stretch.certified l.from l.end (drop l.c-index l.found);
}
