use Rattle.reg_names.proofs.Named.{some_named, named_is}
use Rattle.reg_names.proofs.resolving.resolve.Goals as goal

pub returns-clause-has_name : goal.returns-clause-has_name
returns-clause-has_name c = some_named c.resolve.result c.args.text.now c.args.facts.now c.law_names.ensures c.resolve.ensures

pub returns-clause-by_name : goal.returns-clause-by_name
returns-clause-by_name c = named_is c.resolve.result c.args.text.now c.args.facts.now c.law_names.ensures c.resolve.ensures
