use Rattle.std.proofs.Common.{sym}
use Rattle.reg_terms.specs.declared.kinds.Object.TheVariants.{Group}
use Rattle.reg_facts.specs.Naming.{place_of}
use Rattle.reg_report.proofs.Named.{placed_named, unplaced_name}
use Rattle.reg_report.proofs.why_line.group_name.Goals as goal

-- what stands has a name
pub name_of-requires : goal.name_of-requires
name_of-requires c = placed_named (Group c.args.group) _ c.args.facts.now (sym (rw c.in-Some.is at c.place_of.ensures))

-- what stands in no folder
pub returns-in-None : goal.returns-in-None
returns-in-None c = rw (unplaced_name (Group c.args.group) c.args.facts.now (sym (rw c.in-None.is at c.place_of.ensures))) c.new.ensures
