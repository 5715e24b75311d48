use Rattle.reg_service.proofs.Keeping.{kept_same}
use Rattle.reg_service.proofs.service.decided.Goals as goal

-- what isn't accepted changes nothing
pub returns-in-Err-clause-kept : goal.returns-in-Err-clause-kept
returns-in-Err-clause-kept g c = kept_same g.K.Keeper c.args.machine c.args.keeper c.requires.served (g.met.K.Keeper.stop_now c.args.keeper) (g.met.K.Keeper.stop_only_now c.args.keeper)

pub returns-in-Ok-Some-clause-kept : goal.returns-in-Ok-Some-clause-kept
returns-in-Ok-Some-clause-kept g c = kept_same g.K.Keeper c.args.machine c.args.keeper c.requires.served (g.met.K.Keeper.stop_now c.args.keeper) (g.met.K.Keeper.stop_only_now c.args.keeper)
