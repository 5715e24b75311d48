use Rattle.std.proofs.Common.{refl, inl, None, Result, Ok}
use Rattle.reg_terms.specs.declared.refusal.Refusal.{Refusal}
use Rattle.reg_terms.specs.declared.request.Request.{Request}
use Rattle.reg_session.proofs.Answering.{follows_go, follows_stop}
use Rattle.reg_session.proofs.Halting.{go_halted, next_began, next_cause, next_halted, next_kept, turn_one}
use Rattle.reg_run.specs.Providing.{ack_request}
use Rattle.reg_run.proofs.Loading.{goes_sure, stops_disk, stops_once}
use Rattle.reg_run.proofs.Providing.{accepted_state, stopped_not}
use Rattle.reg_run.proofs.provision.acknowledge.Goals as goal

-- the service goes on
pub returns-in-Go-clause-asked : goal.returns-in-Go-clause-asked
returns-in-Go-clause-asked g c =
    let s = c.args.service.state in
    let reading : Result Request Refusal = Ok (ack_request c.args.consumer.now c.args.delivery.now.end) in
    let reads = c.ack_of-reading.ensures.reads in
    let t = follows_go s c.in-Go.service c.args.at reading c.turn-reply.result (c.turn-reply.ensures.turn reading reads) c.in-Go.is in (
      go_halted g.J.Keeper s.history c.args.service.keeper c.in-Go.service c.into_keeper.result (next_kept g.J.Keeper s.history _ c.args.service.keeper c.turn-reply.result.1 c.in-Go.service (c.turn-reply.ensures.kept reading reads) c.in-Go.is)
          c.into_keeper.ensures.keeper c.into_keeper.ensures.fronts c.into_keeper.ensures.leaves,
      record {
        told = c.turn-reply.result.0;
        turn = inl (c.in-Go.service.state, t, refl, refl);
        printed = rw (c.deref.ensures.value, c.requires.ready.tells) at c.print_ack-end.ensures;
        moved = λ took.
            let more = accepted_state s c.in-Go.service.state c.args.at c.args.consumer.now c.args.delivery.now.end c.turn-reply.result.0 c.requires.now t took in
            (rw c.machine.ensures at c.law_acknowledged.ensures) s more.0 None c.args.consumer.now c.args.delivery.now.place c.args.delivery.now.end more.1 c.requires.ready.stands;
      },
    )

pub returns-in-Go-clause-disk : goal.returns-in-Go-clause-disk
returns-in-Go-clause-disk g c is =
    let reading : Result Request Refusal = Ok (ack_request c.args.consumer.now c.args.delivery.now.end) in
    absurd (goes_sure c.args.service.state c.in-Go.service.state c.args.at reading c.turn-reply.result.0 _ c.print_ack-end.result _ _
    (follows_go c.args.service.state c.in-Go.service c.args.at reading c.turn-reply.result (c.turn-reply.ensures.turn reading c.ack_of-reading.ensures.reads) c.in-Go.is) c.print_ack-end.ensures is)

-- or stopped
pub returns-in-Stop-clause-asked : goal.returns-in-Stop-clause-asked
returns-in-Stop-clause-asked g c =
    let s = c.args.service.state in
    let reading : Result Request Refusal = Ok (ack_request c.args.consumer.now c.args.delivery.now.end) in
    let reads = c.ack_of-reading.ensures.reads in
    let kept = c.turn-reply.ensures.kept reading reads in
    let one = turn_one s c.args.at reading in
    let given = follows_stop s c.args.at reading c.turn-reply.result c.in-Stop.field-0 c.in-Stop.keeper (c.turn-reply.ensures.turn reading reads) c.in-Stop.is in
    let h = next_halted g.J.Keeper s.history _ c.args.service.keeper c.turn-reply.result.1 c.in-Stop.field-0 c.in-Stop.keeper kept c.in-Stop.is one in (
      h,
      record {
        told = c.turn-reply.result.0;
        turn = stops_once s c.args.at reading c.turn-reply.result.0 h.after c.in-Stop.field-0 given
            (next_began g.J.Keeper s.history _ c.args.service.keeper c.turn-reply.result.1 c.in-Stop.field-0 c.in-Stop.keeper kept c.in-Stop.is one);
        printed = rw (c.deref.ensures.value, c.requires.ready.tells) at c.print_ack-end.ensures;
        moved = λ took. absurd (stopped_not c.in-Stop.field-0 c.turn-reply.result.0 given took);
      },
    )

pub returns-in-Stop-clause-disk : goal.returns-in-Stop-clause-disk
returns-in-Stop-clause-disk g c is =
    let reading : Result Request Refusal = Ok (ack_request c.args.consumer.now c.args.delivery.now.end) in
    let reads = c.ack_of-reading.ensures.reads in
    let why = stops_disk c.in-Stop.field-0 c.turn-reply.result.0 _ c.print_ack-end.result _ _
    (follows_stop c.args.service.state c.args.at reading c.turn-reply.result c.in-Stop.field-0 c.in-Stop.keeper (c.turn-reply.ensures.turn reading reads) c.in-Stop.is) c.print_ack-end.ensures is in
    rw why at (next_cause g.J.Keeper c.args.service.state.history _ c.args.service.keeper c.turn-reply.result.1 c.in-Stop.field-0 c.in-Stop.keeper (c.turn-reply.ensures.kept reading reads) c.in-Stop.is)
