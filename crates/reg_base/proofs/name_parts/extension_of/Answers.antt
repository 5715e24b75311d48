use Rattle.std.proofs.Common.{◌∙◌, sym, ap}
use Rattle.reg_base.specs.Names.{is_extension}
use Rattle.reg_base.proofs.Extensions.{extension_at, name_extension}
use Rattle.reg_base.proofs.name_parts.extension_of.Goals as goal

pub returns : goal.returns
returns c =
    let found = c.extension_start.ensures in
    let back = c.split_at.ensures.back in
    record {
      value = back ∙ sym (extension_at c.args.text.now c.extension_start.result found.bound found.colon found.plain);
      is_extension = λ h. ap is_extension back ∙ name_extension c.args.text.now c.extension_start.result found.bound found.colon found.plain h;
    }
