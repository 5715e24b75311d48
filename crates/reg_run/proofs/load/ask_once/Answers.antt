use Rattle.std.proofs.Common.{refl, sym, subst, inl}
use Rattle.reg_session.proofs.Answering.{follows_go, follows_stop}
use Rattle.reg_session.proofs.Halting.{go_halted, next_began, next_cause, next_halted, next_kept, told_of, turn_one}
use Rattle.reg_outside.specs.Streams.{WritesFront}
use Rattle.reg_service.specs.Marked.{keeps_up_go, keeps_up_stop}
use Rattle.reg_service.specs.Marks.{KeepsUpInPart, output_of}
use Rattle.reg_session.specs.Replies.{IsLine, line_of}
use Rattle.reg_run.proofs.KeepingUp.{printed_front}
use Rattle.reg_run.proofs.Loading.{goes_sure, stops_disk, stops_once}
use Rattle.reg_run.proofs.load.ask_once.Goals as goal

-- the service goes on
pub returns-in-Go-clause-asked : goal.returns-in-Go-clause-asked
returns-in-Go-clause-asked g c told reads =
    let s = c.args.service.state in (
      go_halted g.J.Keeper s.history c.args.service.keeper c.in-Go.service c.into_keeper.result (next_kept g.J.Keeper s.history _ c.args.service.keeper c.turn-reply.result.1 c.in-Go.service (c.turn-reply.ensures.kept told reads) c.in-Go.is)
          c.into_keeper.ensures.keeper c.into_keeper.ensures.fronts c.into_keeper.ensures.leaves,
      record {
        at = c.now-at.result;
        moment = c.now-at.ensures.moment;
        told = c.turn-reply.result.0;
        turn = inl (c.in-Go.service.state, follows_go s c.in-Go.service c.now-at.result told c.turn-reply.result (c.turn-reply.ensures.turn told reads) c.in-Go.is, refl, refl);
        printed = c.print_marked-end.ensures.printed;
        sure = c.print_marked-end.ensures.sure;
      },
      subst (λ (k : _). KeepsUpInPart g.J.Keeper IsLine c.args.service.keeper (output_of g.K.Sink c.args.out.now) (output_of g.K.Sink c.print_marked-end.new.out) c.in-Go.service.state.history k) (sym c.into_keeper.ensures.keeper)
          (keeps_up_go WritesFront g.J.Keeper IsLine c.args.service.keeper _ _ c.turn-reply.result.0 (line_of c.turn-reply.result.0) _ c.turn-reply.result.1 c.in-Go.service (c.turn-reply.result.0, refl, refl)
          (printed_front _ _ _ _ _ c.print_marked-end.ensures.printed) c.print_marked-end.ensures.marks refl c.print_marked-end.ensures.leaves c.turn-reply.ensures.numbered c.in-Go.is),
    )

pub returns-in-Go-clause-disk : goal.returns-in-Go-clause-disk
returns-in-Go-clause-disk g c is =
    let t = told_of c.args.reading in
    absurd (goes_sure c.args.service.state c.in-Go.service.state c.now-at.result t.0 c.turn-reply.result.0 _ c.print_marked-end.result _ _
    (follows_go c.args.service.state c.in-Go.service c.now-at.result t.0 c.turn-reply.result (c.turn-reply.ensures.turn t.0 t.1) c.in-Go.is) c.print_marked-end.ensures.printed is)

-- or stopped
pub returns-in-Stop-clause-asked : goal.returns-in-Stop-clause-asked
returns-in-Stop-clause-asked g c told reads =
    let s = c.args.service.state in
    let kept = c.turn-reply.ensures.kept told reads in
    let one = turn_one s c.now-at.result told in
    let h = next_halted g.J.Keeper s.history _ c.args.service.keeper c.turn-reply.result.1 c.in-Stop.field-0 c.in-Stop.keeper kept c.in-Stop.is one in (
      h,
      record {
        at = c.now-at.result;
        moment = c.now-at.ensures.moment;
        told = c.turn-reply.result.0;
        turn = stops_once s c.now-at.result told c.turn-reply.result.0 h.after c.in-Stop.field-0
            (follows_stop s c.now-at.result told c.turn-reply.result c.in-Stop.field-0 c.in-Stop.keeper (c.turn-reply.ensures.turn told reads) c.in-Stop.is)
            (next_began g.J.Keeper s.history _ c.args.service.keeper c.turn-reply.result.1 c.in-Stop.field-0 c.in-Stop.keeper kept c.in-Stop.is one);
        printed = c.print_marked-end.ensures.printed;
        sure = c.print_marked-end.ensures.sure;
      },
      keeps_up_stop WritesFront g.J.Keeper IsLine c.args.service.keeper _ _ c.turn-reply.result.0 (line_of c.turn-reply.result.0) _ c.turn-reply.result.1 c.in-Stop.field-0 c.in-Stop.keeper c.in-Stop.keeper h.after
          (c.turn-reply.result.0, refl, refl) (printed_front _ _ _ _ _ c.print_marked-end.ensures.printed) c.print_marked-end.ensures.marks c.turn-reply.ensures.numbered c.in-Stop.is,
    )

pub returns-in-Stop-clause-disk : goal.returns-in-Stop-clause-disk
returns-in-Stop-clause-disk g c is =
    let t = told_of c.args.reading in
    let why = stops_disk c.in-Stop.field-0 c.turn-reply.result.0 _ c.print_marked-end.result _ _
    (follows_stop c.args.service.state c.now-at.result t.0 c.turn-reply.result c.in-Stop.field-0 c.in-Stop.keeper (c.turn-reply.ensures.turn t.0 t.1) c.in-Stop.is) c.print_marked-end.ensures.printed is in
    rw why at (next_cause g.J.Keeper c.args.service.state.history _ c.args.service.keeper c.turn-reply.result.1 c.in-Stop.field-0 c.in-Stop.keeper (c.turn-reply.ensures.kept t.0 t.1) c.in-Stop.is)
