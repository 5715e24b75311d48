use Rattle.std.proofs.Common.{◌≡◌, take, length}
use Rattle.reg_loader.specs.Plan.{added, unchanged, vetoed}
use Rattle.reg_loader.proofs.fates.told.Given as goal

abbrev pub invariant-loop-key : goal.invariant-loop-key
invariant-loop-key g l = record {
  added_are : l.fates.added.items ≡ added (g.K.Kept.held l.kept) l.there.keys l.facts (take l.key-index l.keys);
  unchanged_are : l.fates.unchanged ≡ length (unchanged l.there.keys (take l.key-index l.keys));
  vetoed_are : l.fates.vetoed ≡ length (vetoed (g.K.Kept.held l.kept) l.there.keys l.facts (take l.key-index l.keys));
}
