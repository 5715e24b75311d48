use Rattle.std.proofs.Common.{sym}
use Rattle.reg_facts.specs.Naming.{place_as}
use Rattle.reg_demand.proofs.Placing.{named_where_placed, name_nowhere}
use Rattle.reg_demand.proofs.attributes.any_name.Goals as goal

pub name_of-requires : goal.name_of-requires
name_of-requires c = named_where_placed c.args.object.now (place_as c.args.object.now c.in-Some.field-0.folder c.in-Some.field-0.extension.now) c.args.facts.now (sym (rw c.in-Some.is at c.place_of.ensures))

-- what stands nowhere is called as the root is
pub returns-in-None : goal.returns-in-None
returns-in-None c = rw (name_nowhere c.args.object.now c.args.facts.now (sym (rw c.in-None.is at c.place_of.ensures))) c.new.ensures
