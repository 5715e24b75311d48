use Rattle.std.proofs.Common.{refl}
use Rattle.reg_session.proofs.Halting.{go_halted}
use Rattle.reg_serve.proofs.Visiting.{ceases_first}
use Rattle.reg_serve.proofs.Upvisits.{ceases_first_up}
use Rattle.reg_serve.proofs.connections.serve_connections.Goals as goal

-- there was no memory for the table of routes
pub returns-in_default-clause-ceased : goal.returns-in_default-clause-ceased
returns-in_default-clause-ceased g c =
    let s = c.args.service in
    ceases_first g.K.Keeper _ s.state s.keeper _ _ _ (go_halted g.K.Keeper s.state.history s.keeper s c.into_keeper.result c.stays.ensures c.into_keeper.ensures.keeper c.into_keeper.ensures.fronts c.into_keeper.ensures.leaves) refl refl

pub returns-in_default-clause-keeps_up_to : goal.returns-in_default-clause-keeps_up_to
returns-in_default-clause-keeps_up_to g c =
    let s = c.args.service in
    ceases_first_up g.K.Keeper _ s.state s.keeper _ _ _ (go_halted g.K.Keeper s.state.history s.keeper s c.into_keeper.result c.stays.ensures c.into_keeper.ensures.keeper c.into_keeper.ensures.fronts c.into_keeper.ensures.leaves) refl refl

-- there was no memory for a reader
pub returns-in_default-new-clause-ceased : goal.returns-in_default-new-clause-ceased
returns-in_default-new-clause-ceased g c =
    let s = c.args.service in
    ceases_first g.K.Keeper _ s.state s.keeper _ _ _ (go_halted g.K.Keeper s.state.history s.keeper s c.into_keeper-in_default-new.result c.stays.ensures c.into_keeper-in_default-new.ensures.keeper c.into_keeper-in_default-new.ensures.fronts c.into_keeper-in_default-new.ensures.leaves) refl refl

pub returns-in_default-new-clause-keeps_up_to : goal.returns-in_default-new-clause-keeps_up_to
returns-in_default-new-clause-keeps_up_to g c =
    let s = c.args.service in
    ceases_first_up g.K.Keeper _ s.state s.keeper _ _ _ (go_halted g.K.Keeper s.state.history s.keeper s c.into_keeper-in_default-new.result c.stays.ensures c.into_keeper-in_default-new.ensures.keeper c.into_keeper-in_default-new.ensures.fronts c.into_keeper-in_default-new.ensures.leaves) refl refl
