use Rattle.reg_loader.proofs.Named.{named_form}
use Rattle.reg_loader.proofs.naming.standing_name.Goals as goal

pub name_in-requires : goal.name_in-requires
name_in-requires c = rw (c.as_str.ensures, c.in_ok-text.ensures) (named_form c.args.group c.args.facts.now c.law_sound.ensures c.law_names.ensures c.requires)
