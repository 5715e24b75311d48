use Rattle.std.proofs.Common.{rules, tests}
use Rattle.std.proofs.lemmas.Iterator.Search.{all_from_yields_List}
use Rattle.std.proofs.lemmas.Iterator.Splits.{YieldsList-from_slice_split}
use Rattle.reg_base.specs.Names.{is_colon, is_extension}
use Rattle.reg_base.proofs.names.are_extensions.Goals as goal

pub returns : goal.returns
returns c = all_from_yields_List is_extension _ _ c.all.result c.all.ensures.ran (YieldsList-from_slice_split _ is_colon c.args.text.now c.split.ensures.rest c.split.ensures.done c.split.ensures.closure (λ x r q k. search (rules, tests))) (λ x b q k. search (rules, tests))
