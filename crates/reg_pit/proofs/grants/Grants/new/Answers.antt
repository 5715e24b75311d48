use Rattle.std.proofs.Common.{refl}
use Rattle.reg_terms.specs.declared.kinds.Holder.TheVariants as holder
use Rattle.reg_pit.proofs.grants.Grants.new.Goals as goal

pub invariant_of-result : goal.invariant_of-result
invariant_of-result c o p g t h = rw (c.new.ensures (o, p, holder.Group g)) refl
