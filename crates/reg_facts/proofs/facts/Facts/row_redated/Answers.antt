use Rattle.std.proofs.Common.{◌≡◌}
use Rattle.reg_terms.specs.declared.event.Event.TheVariants.{RowRedated}
use Rattle.reg_facts.specs.Events.{happened}
use Rattle.reg_facts.proofs.Indexing.{row_redated_indexed}
use Rattle.reg_facts.proofs.facts.Facts.row_redated.Goals as goal

pub invariant_of-facts : goal.invariant_of-facts
invariant_of-facts c =
    let is : c.redate_row.new.self ≡ happened (RowRedated c.args.group c.args.member.now c.args.from c.args.until) c.args.self = rw (c.deref_mut.ensures.value, c.facts.view_is) at c.redate_row.ensures in
    rw is (row_redated_indexed c.facts.inside.subject_index c.facts.inside.children c.args.group c.args.member.now c.args.from c.args.until c.args.self (rw c.facts.view_is at c.facts.invariant) c.requires)
