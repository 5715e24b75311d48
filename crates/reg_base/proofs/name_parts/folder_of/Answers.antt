use Rattle.std.proofs.Common.{◌∙◌, ◌<◌, sym, ap, Some, arith}
use Rattle.reg_base.specs.Names.{is_name}
use Rattle.reg_base.proofs.Extensions.{alone, cut_at, name_cut}
use Rattle.reg_base.proofs.name_parts.folder_of.Goals as goal

pub returns-then-start-eq0-clause-value : goal.returns-then-start-eq0-clause-value
returns-then-start-eq0-clause-value c = sym (alone c.args.text.now (rw c.if-start-eq0.true at c.extension_start-start.ensures.plain)).1

pub returns : goal.returns
returns c =
    let found = c.extension_start-start.ensures in
    let start = c.extension_start-start.result in
    let some : 0 < start = omega arith in
    let front = c.split_at.ensures.front in
    record {
      value = ap (λ name. Some name) front ∙ sym (cut_at c.args.text.now start some found.bound (found.colon some) found.plain).1;
      is_name = λ h. ap is_name front ∙ (name_cut c.args.text.now start some found.bound (found.colon some) found.plain h).0;
    }
