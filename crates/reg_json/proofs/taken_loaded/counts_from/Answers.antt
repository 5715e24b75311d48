use Rattle.std.proofs.Common.{refl}
use Rattle.reg_json.specs.Taking.{counts_from}
use Rattle.reg_json.proofs.taken_loaded.counts_from.Goals as goal

-- the counts, one behind the other
pub returns : goal.returns
unfolding counts_from
returns c = rw (c.in_ok-added.ensures, c.in_ok-bad_group.ensures, c.in_ok-created.ensures, c.in_ok-removed.ensures, c.in_ok-repeated.ensures, c.in_ok-unchanged.ensures, c.in_ok-unknown.ensures, c.in_ok-vetoed.ensures) refl
