use Rattle.std.proofs.Common.{[], refl}
use Rattle.std.specs.List.Sorted.{IsStrictlySortedBy}
use Rattle.reg_facts.specs.Ruling.{AreIndexed}
use Rattle.reg_facts.proofs.rule_rows.RuleRows.new.Goals as goal

none : AreIndexed [] [] []
unfolding IsStrictlySortedBy
none = record { same = refl; said = refl; ascend = tt }

pub invariant_of-result : goal.invariant_of-result
invariant_of-result c = rw (c.new-2.ensures, c.new-3.ensures, c.new.ensures.items) none
