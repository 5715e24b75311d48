use Rattle.std.proofs.Common.{inl, inr, ◌∙◌}
use Rattle.reg_run.proofs.Serving.{if_err_so, nothing_ceased, still_then}
use Rattle.reg_run.proofs.serve.serve_port.Goals as goal

-- the port wasn't listened on, so nothing was asked
pub returns-in-Err-clause-ceased : goal.returns-in-Err-clause-ceased
returns-in-Err-clause-ceased g c =
    let none = nothing_ceased g.J.Keeper c.args.connections c.args.service.state c.args.service.keeper c.into_keeper.result (g.C.Clock.moments c.args.clock.now) (g.L.Listener.connections c.args.net.now) (g.L.Listener.connections c.listen.new.net)
    c.into_keeper.ensures.keeper c.in-Err.ensures.same c.stays.ensures c.into_keeper.ensures.fronts c.into_keeper.ensures.leaves in
    (none.0, inl none.1, none.2)

-- it was, and then the connections were served
pub returns-in-Ok-clause-served : goal.returns-in-Ok-clause-served
returns-in-Ok-clause-served g c = rw c.in-Ok.ensures.same at c.serve_connections.ensures.keeps_up

pub returns-in-Ok-clause-still : goal.returns-in-Ok-clause-still
returns-in-Ok-clause-still g c = still_then c.serve_connections.result _ _ _ c.in-Ok.ensures.cause.still c.serve_connections.ensures.still

pub returns-in-Ok-clause-ceased : goal.returns-in-Ok-clause-ceased
returns-in-Ok-clause-ceased g c =
    if_err_so c.serve_connections.result (λ e x. (x.0, inr (c.serve_connections.ensures.port ∙ c.in-Ok.ensures.port), x.1)) (rw c.in-Ok.ensures.same at c.serve_connections.ensures.keeps_up_to)
