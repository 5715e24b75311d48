use Rattle.std.proofs.Common.{sym, ◌∙◌}
use Rattle.reg_service.proofs.Forms.{entity_formed}
use Rattle.reg_service.proofs.Keeping.{kept_same}
use Rattle.reg_service.proofs.service.load_by.Goals as goal

-- what a text names has its form
pub load-requires-clause-caller : goal.load-requires-clause-caller
load-requires-clause-caller g c = entity_formed c.bytes.result.now c.in-Ok-Some.by (sym c.in-Ok-Some.field-0-is ∙ c.in-Ok-Some.ensures)

-- what isn't carried out changes nothing
pub returns-in-Err-clause-kept : goal.returns-in-Err-clause-kept
returns-in-Err-clause-kept g c = kept_same g.K.Keeper c.args.machine c.args.keeper c.requires.served (g.met.K.Keeper.stop_now c.args.keeper) (g.met.K.Keeper.stop_only_now c.args.keeper)

pub returns-in-Ok-None-clause-kept : goal.returns-in-Ok-None-clause-kept
returns-in-Ok-None-clause-kept g c = kept_same g.K.Keeper c.args.machine c.args.keeper c.requires.served (g.met.K.Keeper.stop_now c.args.keeper) (g.met.K.Keeper.stop_only_now c.args.keeper)
