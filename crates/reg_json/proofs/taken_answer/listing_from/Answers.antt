use Rattle.std.proofs.Common.{refl}
use Rattle.reg_json.specs.Taking.{listing_from}
use Rattle.reg_json.proofs.taken_answer.listing_from.Goals as goal

-- the four lists, one behind the other
pub returns : goal.returns
unfolding listing_from
returns c = rw (c.in_ok-attributes.ensures, c.in_ok-definitions.ensures, c.in_ok-folders.ensures, c.in_ok-groups.ensures) refl
