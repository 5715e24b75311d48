use Rattle.reg_priv.proofs.Placed.{none_in_place}
use Rattle.reg_priv.proofs.gathered.Gathered.new.Goals as goal

pub invariant_of-result : goal.invariant_of-result
invariant_of-result c = none_in_place c.new.result.entries c.new.ensures.empty
