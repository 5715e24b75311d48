use Rattle.std.proofs.Common.{true, ◌≡◌, ◌≤◌, ◌-◌}
use Rattle.reg_service.specs.Kept.{KeptOn}
use Rattle.reg_serve.specs.KeepingUp.{VisitsKeepUp}
use Rattle.reg_serve.specs.Visits.{ServedSo}
use Rattle.reg_serve.proofs.connections.serve_all.Given as goal

-- so many connections were served
abbrev pub invariant-loop-served : goal.invariant-loop-served
invariant-loop-served g l =
    let told = g.L.Listener.connections in
    let moments = g.T.Clock.moments in
    record {
      done : ServedSo true l.served l.fn.service.state (moments l.fn.clock) (told l.fn.net) (told l.net) l.service.state (moments l.clock);
      up : (x : ServedSo true l.served l.fn.service.state (moments l.fn.clock) (told l.fn.net) (told l.net) l.service.state (moments l.clock)) × VisitsKeepUp g.K.Keeper l.fn.service.keeper l.service.state.history l.service.keeper x.visits;
      few : l.served ≤ l.limit;
      kept : KeptOn g.K.Keeper l.fn.service.state.history l.fn.service.keeper l.service.state.history l.service.keeper;
      port : g.L.Listener.listens l.net ≡ g.L.Listener.listens l.fn.net;
      still : g.L.Listener.listener_faults l.net ≡ g.L.Listener.listener_faults l.fn.net;
      count : g.L.Listener.listener_faults l.fn.net ≤ g.L.Listener.listener_faults l.net;
    }

abbrev pub decreases-loop-served : goal.decreases-loop-served
decreases-loop-served g l = l.limit - l.served
