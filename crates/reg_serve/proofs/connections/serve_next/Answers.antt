use Rattle.std.proofs.Common.{refl, arith, ap, ◌∙◌, Ok}
use Rattle.reg_session.proofs.Halting.{go_halted}
use Rattle.reg_serve.proofs.Visiting.{accepted_out, ceases_listener, failed_told, none_told, served_none, served_one, stopped_one, stop_rose}
use Rattle.reg_serve.proofs.Upvisits.{ceases_listener_up, served_none_up, served_one_up, stopped_one_up}
use Rattle.reg_serve.proofs.connections.serve_next.Goals as goal

-- no connection could be accepted
pub returns-in-Err-clause-ceased : goal.returns-in-Err-clause-ceased
returns-in-Err-clause-ceased g c =
    let s = c.args.service in
    ceases_listener g.K.Keeper _ 0 s.state s.state s.keeper _ _ _ _ _ (served_none _ _ _ _ (failed_told _ _ _ _ c.accept.result c.accept.ensures.accepts c.in-Err.is)) (omega arith)
    (go_halted g.K.Keeper s.state.history s.keeper s c.into_keeper.result c.stays.ensures c.into_keeper.ensures.keeper c.into_keeper.ensures.fronts c.into_keeper.ensures.leaves) refl refl

pub returns-in-Err-clause-keeps_up_to : goal.returns-in-Err-clause-keeps_up_to
returns-in-Err-clause-keeps_up_to g c =
    let s = c.args.service in
    ceases_listener_up g.K.Keeper _ 0 s.state s.state s.keeper s.keeper _ _ _ _ _ (served_none_up g.K.Keeper s.keeper s.keeper s.state _ _ _ (failed_told _ _ _ _ c.accept.result c.accept.ensures.accepts c.in-Err.is)) (omega arith)
    (go_halted g.K.Keeper s.state.history s.keeper s c.into_keeper.result c.stays.ensures c.into_keeper.ensures.keeper c.into_keeper.ensures.fronts c.into_keeper.ensures.leaves) refl refl c.into_keeper.ensures.keeper

-- none is to come
pub returns-in-None-clause-served : goal.returns-in-None-clause-served
returns-in-None-clause-served g c = served_none _ _ _ _ (none_told _ _ _ c.accept.result c.accept.ensures.accepts (c.in-Ok.is ∙ ap Ok c.in-None.is)).0

pub returns-in-None-clause-none : goal.returns-in-None-clause-none
returns-in-None-clause-none g c is = (none_told _ _ _ c.accept.result c.accept.ensures.accepts (c.in-Ok.is ∙ ap Ok c.in-None.is)).1

pub returns-in-None-clause-keeps_up : goal.returns-in-None-clause-keeps_up
returns-in-None-clause-keeps_up g c = served_none_up g.K.Keeper c.args.service.keeper c.args.service.keeper c.args.service.state _ _ _ (none_told _ _ _ c.accept.result c.accept.ensures.accepts (c.in-Ok.is ∙ ap Ok c.in-None.is)).0

pub returns-in-None-clause-still : goal.returns-in-None-clause-still
returns-in-None-clause-still g c = rw c.in-Ok.is at c.accept.ensures.cause.still

-- one was accepted
pub serve_accepted-next-requires : goal.serve_accepted-next-requires
serve_accepted-next-requires g c = accepted_out _ _ _ c.in-Some.turn c.accept.result c.accept.ensures.accepts (c.in-Ok.is ∙ ap Ok c.in-Some.is)

-- the service stopped at it
pub returns-in-Stop-clause-ceased : goal.returns-in-Stop-clause-ceased
returns-in-Stop-clause-ceased g c =
    rw c.ceased_of.ensures (stopped_one _ g.K.Keeper c.args.service.state c.args.service.keeper _ _ _ _ _ c.in-Some.turn _ c.accept.result _ c.in-Stop.cause c.in-Stop.keeper c.accept.ensures.accepts (c.in-Ok.is ∙ ap Ok c.in-Some.is) c.serve_accepted-next.ensures.back c.in-Stop.is)

pub returns-in-Stop-clause-disk : goal.returns-in-Stop-clause-disk
returns-in-Stop-clause-disk g c disk = stop_rose g.K.Keeper c.args.service.state c.args.service.keeper _ _ _ _ _ _ _ _ c.in-Stop.cause c.in-Stop.keeper c.serve_accepted-next.ensures.back c.in-Stop.is (rw c.ceased_of.ensures at disk)

pub returns-in-Stop-clause-keeps_up_to : goal.returns-in-Stop-clause-keeps_up_to
returns-in-Stop-clause-keeps_up_to g c =
    rw c.ceased_of.ensures (stopped_one_up _ g.K.Keeper c.args.service.state c.args.service.keeper _ _ _ _ _ c.in-Some.turn _ c.accept.result _ c.in-Stop.cause c.in-Stop.keeper c.accept.ensures.accepts (c.in-Ok.is ∙ ap Ok c.in-Some.is) c.serve_accepted-next.ensures.keeps_up c.in-Stop.is)

-- it was served
pub returns-in-Ok-given_back-clause-served : goal.returns-in-Ok-given_back-clause-served
returns-in-Ok-given_back-clause-served g c =
    (served_one _ g.K.Keeper c.args.service.state c.args.service.keeper _ _ _ _ _ c.in-Some.turn _ c.accept.result _ c.in-Go.service c.accept.ensures.accepts (c.in-Ok.is ∙ ap Ok c.in-Some.is) (rw c.in-Ok-given_back.is at c.serve_accepted-next.ensures.back) c.in-Go.is).0

pub returns-in-Ok-given_back-clause-kept : goal.returns-in-Ok-given_back-clause-kept
returns-in-Ok-given_back-clause-kept g c =
    (served_one _ g.K.Keeper c.args.service.state c.args.service.keeper _ _ _ _ _ c.in-Some.turn _ c.accept.result _ c.in-Go.service c.accept.ensures.accepts (c.in-Ok.is ∙ ap Ok c.in-Some.is) (rw c.in-Ok-given_back.is at c.serve_accepted-next.ensures.back) c.in-Go.is).1

pub returns-in-Ok-given_back-clause-keeps_up : goal.returns-in-Ok-given_back-clause-keeps_up
returns-in-Ok-given_back-clause-keeps_up g c =
    served_one_up _ g.K.Keeper c.args.service.state c.args.service.keeper _ _ _ _ _ c.in-Some.turn _ c.accept.result _ c.in-Go.service c.accept.ensures.accepts (c.in-Ok.is ∙ ap Ok c.in-Some.is) (rw c.in-Ok-given_back.is at c.serve_accepted-next.ensures.keeps_up) c.in-Go.is

pub returns-in-Ok-given_back-clause-still : goal.returns-in-Ok-given_back-clause-still
returns-in-Ok-given_back-clause-still g c = (rw c.in-Ok-given_back.is at c.serve_accepted-next.ensures.cause.still) ∙ (rw c.in-Ok.is at c.accept.ensures.cause.still)

-- and couldn't be given back
pub returns-in-Err-given_back-clause-ceased : goal.returns-in-Err-given_back-clause-ceased
returns-in-Err-given_back-clause-ceased g c =
    let s = c.args.service in
    let one = served_one _ g.K.Keeper s.state s.keeper _ _ _ _ _ c.in-Some.turn _ c.accept.result _ c.in-Go.service c.accept.ensures.accepts (c.in-Ok.is ∙ ap Ok c.in-Some.is) c.serve_accepted-next.ensures.back c.in-Go.is in
    ceases_listener g.K.Keeper _ 1 s.state c.in-Go.service.state s.keeper _ _ _ _ _ one.0 (omega arith)
    (go_halted g.K.Keeper s.state.history s.keeper c.in-Go.service c.into_keeper-in-Err-given_back.result one.1 c.into_keeper-in-Err-given_back.ensures.keeper c.into_keeper-in-Err-given_back.ensures.fronts c.into_keeper-in-Err-given_back.ensures.leaves) refl refl

pub returns-in-Err-given_back-clause-keeps_up_to : goal.returns-in-Err-given_back-clause-keeps_up_to
returns-in-Err-given_back-clause-keeps_up_to g c =
    let s = c.args.service in
    let one = served_one _ g.K.Keeper s.state s.keeper _ _ _ _ _ c.in-Some.turn _ c.accept.result _ c.in-Go.service c.accept.ensures.accepts (c.in-Ok.is ∙ ap Ok c.in-Some.is) c.serve_accepted-next.ensures.back c.in-Go.is in
    let up = served_one_up _ g.K.Keeper s.state s.keeper _ _ _ _ _ c.in-Some.turn _ c.accept.result _ c.in-Go.service c.accept.ensures.accepts (c.in-Ok.is ∙ ap Ok c.in-Some.is) c.serve_accepted-next.ensures.keeps_up c.in-Go.is in
    ceases_listener_up g.K.Keeper _ 1 s.state c.in-Go.service.state s.keeper c.in-Go.service.keeper _ _ _ _ _ up (omega arith)
    (go_halted g.K.Keeper s.state.history s.keeper c.in-Go.service c.into_keeper-in-Err-given_back.result one.1 c.into_keeper-in-Err-given_back.ensures.keeper c.into_keeper-in-Err-given_back.ensures.fronts c.into_keeper-in-Err-given_back.ensures.leaves) refl refl c.into_keeper-in-Err-given_back.ensures.keeper
