use Rattle.std.proofs.Common.{◌≡◌, ◌≤◌, ◌-◌, ◌^◌, None}
use Rattle.reg_http.specs.Messages.{IsUnfinished}
use Rattle.reg_service.specs.Kept.{KeptOn}
use Rattle.reg_service.specs.Marks.{output_of}
use Rattle.reg_serve.specs.KeepingUp.{KeepsUpOn}
use Rattle.reg_serve.specs.Sessions.{HasServed}
use Rattle.reg_serve.proofs.connection.serve_bytes.Given as goal

-- so many bytes were taken, and their messages answered
abbrev pub invariant-loop-taken : goal.invariant-loop-taken
invariant-loop-taken g l =
    let left = g.C.Source.left in
    let written = g.C.Sink.written in
    let moments = g.T.Clock.moments in
    record {
      done : HasServed (left l.fn.conn) (left l.conn) (record { written = written l.fn.conn; moments = moments l.fn.clock; state = l.fn.service.state })
          (record { written = written l.conn; moments = moments l.clock; state = l.service.state }) l.reader l.taken;
      up : KeepsUpOn g.K.Keeper l.fn.service.keeper (output_of g.C.Sink l.fn.conn) (output_of g.C.Sink l.conn) l.service;
      kept : KeptOn g.K.Keeper l.fn.service.state.history l.fn.service.keeper l.service.state.history l.service.keeper;
      unfinished : IsUnfinished l.reader.rest;
      fault : l.reader.fault ≡ None;
      few : l.taken ≤ 2 ^ 32;
      reads : g.C.Source.read_faults l.fn.conn ≤ g.C.Source.read_faults l.conn;
      writes : g.C.Sink.write_faults l.fn.conn ≤ g.C.Sink.write_faults l.conn;
    }

abbrev pub decreases-loop-taken : goal.decreases-loop-taken
decreases-loop-taken g l = 2 ^ 32 - l.taken
