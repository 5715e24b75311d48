use Rattle.reg_service.proofs.Keeping.{kept_same}
use Rattle.reg_service.proofs.service.asked.Goals as goal

-- a query changes nothing
pub returns-in_default-clause-kept : goal.returns-in_default-clause-kept
returns-in_default-clause-kept g c expected = kept_same g.K.Keeper c.args.machine c.args.keeper c.requires (g.met.K.Keeper.stop_now c.args.keeper) (g.met.K.Keeper.stop_only_now c.args.keeper)

pub returns-clause-kept : goal.returns-clause-kept
returns-clause-kept g c expected = kept_same g.K.Keeper c.args.machine c.args.keeper c.requires (g.met.K.Keeper.stop_now c.args.keeper) (g.met.K.Keeper.stop_only_now c.args.keeper)
