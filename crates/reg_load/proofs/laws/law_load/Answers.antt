use Rattle.reg_load.proofs.LoadSuits.{is_loaded}
use Rattle.reg_load.proofs.laws.law_load.Goals as goal

pub returns : goal.returns
returns c = λ at by job created removed added names can. is_loaded at by job created removed added c.args.facts.now (record { sound = c.law_sound.ensures; held = c.law_held.ensures; ruled = c.law_rules.ensures }) names can
