use Rattle.std.proofs.Common.{[], refl}
use Rattle.std.specs.List.Sorted.{IsStrictlySortedBy}
use Rattle.reg_facts.specs.Ascending.{AttributesAscend}
use Rattle.reg_facts.specs.Defining.{AreDefined}
use Rattle.reg_facts.proofs.attribute_rows.AttributeRows.new.Goals as goal

none : AreDefined [] []
unfolding IsStrictlySortedBy
none = record { same = refl; ascend = tt }

pub invariant_of-result : goal.invariant_of-result
invariant_of-result c = rw (c.new-2.ensures, c.new.ensures.items) none
