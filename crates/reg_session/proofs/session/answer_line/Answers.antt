use Rattle.std.proofs.Common.{sym, ◌∙◌, refl}
use Rattle.reg_json.specs.Reading.{reading_of}
use Rattle.reg_service.specs.Marked.{keeps_up_none}
use Rattle.reg_session.specs.Answered.{Point}
use Rattle.reg_session.specs.Replies.{IsLine}
use Rattle.reg_session.proofs.Answering.{answered_none, answered_skipped, answered_one, follows_go, follows_stop}
use Rattle.reg_session.proofs.Halting.{next_kept, next_halted, next_began, next_rose, go_halted, told_of, turn_one}
use Rattle.reg_session.proofs.Marking.{wrote_from, rose_from, line_keeps_up, front_keeps_up, last_keeps_up}
use Rattle.reg_session.proofs.Stopping.{stops_at, last_stopped, last_unwritten, wrote_ok}
use Rattle.reg_session.proofs.session.answer_line.Goals as goal

-- nothing was asked
pub returns-then-is_skipped-clause-answered : goal.returns-then-is_skipped-clause-answered
returns-then-is_skipped-clause-answered g c bytes held = answered_skipped _ bytes (sym (c.is_skipped.ensures bytes held) ∙ c.if-is_skipped.true)

pub returns-then-is_skipped-clause-keeps_up : goal.returns-then-is_skipped-clause-keeps_up
returns-then-is_skipped-clause-keeps_up g c = keeps_up_none g.J.Keeper IsLine _ _ _ _ _ refl refl

pub returns-then-is_skipped-clause-still : goal.returns-then-is_skipped-clause-still
returns-then-is_skipped-clause-still g c = (refl, refl)

-- the line is answered at the clock's next moment, by what was written
pub returns-in-Ok-clause-answered : goal.returns-in-Ok-clause-answered
returns-in-Ok-clause-answered g c bytes held =
    let wrote = wrote_ok c.turn-reply.result.0 _ _ c.write_line-written.result c.in-Ok.field-0 (wrote_from _ _ _ _ _ c.mark-2.ensures.written c.write_line-written.ensures.written) c.in-Ok.is in
    answered_one (g.K.Sink.written c.args.out.now) _ (g.C.Clock.moments c.args.clock.now) _ c.args.service.state c.in-Go.service.state c.now-moment.result bytes c.turn-reply.result.0 wrote.0
    (sym (c.is_skipped.ensures bytes held) ∙ c.if-is_skipped.false) c.now-moment.ensures.moment c.now-moment.ensures.later
    (follows_go c.args.service.state c.in-Go.service _ _ c.turn-reply.result (c.turn-reply.ensures.turn _ (c.reading-reading.ensures.says bytes held)) c.in-Go.is)
    wrote.1 wrote.2

pub returns-in-Ok-clause-kept : goal.returns-in-Ok-clause-kept
returns-in-Ok-clause-kept g c =
    let t = told_of c.reading-reading.result in
    next_kept g.J.Keeper c.args.service.state.history _ c.args.service.keeper c.turn-reply.result.1 c.in-Go.service (c.turn-reply.ensures.kept t.0 t.1) c.in-Go.is

pub returns-in-Ok-clause-still : goal.returns-in-Ok-clause-still
returns-in-Ok-clause-still g c = (rw c.in-Go.is at c.turn-reply.ensures.still, (rw c.in-Ok.is at c.write_line-written.ensures.still) ∙ c.mark-2.ensures.still)

pub returns-in-Ok-clause-keeps_up : goal.returns-in-Ok-clause-keeps_up
returns-in-Ok-clause-keeps_up g c =
    line_keeps_up g.J.Keeper c.args.service.keeper _ _ _ c.turn-reply.result.0 _ c.turn-reply.result.1 c.in-Go.service c.write_line-written.result c.in-Ok.field-0 c.stamp.ensures.moment c.stamp.ensures.leaves c.turn-reply.ensures.numbered
    c.in-Go.is c.mark-2.ensures.marks c.write_line-written.ensures.marks (wrote_from _ _ _ _ _ c.mark-2.ensures.written c.write_line-written.ensures.written) c.in-Ok.is

-- the service stopped
pub returns-in-Stop-clause-halted : goal.returns-in-Stop-clause-halted
returns-in-Stop-clause-halted g c bytes held =
    let here : Point = record { written = g.K.Sink.written c.args.out.now; moments = g.C.Clock.moments c.args.clock.now; state = c.args.service.state } in
    let told = reading_of bytes in
    let says = c.reading-reading.ensures.says bytes held in
    let kept = c.turn-reply.ensures.kept told says in
    let one = turn_one here.state c.now-moment.result told in
    let h = next_halted g.J.Keeper here.state.history _ c.args.service.keeper c.turn-reply.result.1 c.in-Stop.cause c.in-Stop.keeper kept c.in-Stop.is one in
    rw c.stop_of.ensures (
      h,
      stops_at here bytes _ _ h.answered h.after _ (answered_none here) (sym (c.is_skipped.ensures bytes held) ∙ c.if-is_skipped.false)
          (last_stopped here c.now-moment.result told c.turn-reply.result.0 _ _ h.after c.in-Stop.cause c.write_line-written.result c.now-moment.ensures.moment
          (follows_stop here.state c.now-moment.result told c.turn-reply.result c.in-Stop.cause c.in-Stop.keeper (c.turn-reply.ensures.turn told says) c.in-Stop.is) (wrote_from _ _ _ _ _ c.mark-2.ensures.written c.write_line-written.ensures.written)
          (rose_from _ _ _ _ c.mark-2.ensures.still c.write_line-written.ensures.output)
          (next_began g.J.Keeper here.state.history _ c.args.service.keeper c.turn-reply.result.1 c.in-Stop.cause c.in-Stop.keeper kept c.in-Stop.is one)),
    )

pub returns-in-Stop-clause-disk : goal.returns-in-Stop-clause-disk
returns-in-Stop-clause-disk g c disk =
    let t = told_of c.reading-reading.result in
    next_rose g.J.Keeper c.args.service.state.history _ c.args.service.keeper c.turn-reply.result.1 c.in-Stop.cause c.in-Stop.keeper _ (c.turn-reply.ensures.kept t.0 t.1) c.in-Stop.is c.stop_of.ensures disk

pub returns-in-Stop-clause-keeps_up_to : goal.returns-in-Stop-clause-keeps_up_to
returns-in-Stop-clause-keeps_up_to g c bytes held = (
  returns-in-Stop-clause-halted g c bytes held,
  last_keeps_up g.J.Keeper c.args.service.keeper c.in-Stop.keeper c.in-Stop.keeper _ _ _ c.turn-reply.result.0 _ c.turn-reply.result.1 c.in-Stop.cause _ c.write_line-written.result c.turn-reply.ensures.numbered c.in-Stop.is
      c.mark-2.ensures.marks c.write_line-written.ensures.marks (wrote_from _ _ _ _ _ c.mark-2.ensures.written c.write_line-written.ensures.written),
)

-- the reply wasn't written, or not all of it
pub returns-in-Err-clause-keeps_up_to : goal.returns-in-Err-clause-keeps_up_to
returns-in-Err-clause-keeps_up_to g c bytes held =
    let here : Point = record { written = g.K.Sink.written c.args.out.now; moments = g.C.Clock.moments c.args.clock.now; state = c.args.service.state } in
    let told = reading_of bytes in
    let says = c.reading-reading.ensures.says bytes held in
    let wrote = wrote_from _ _ _ _ _ c.mark-2.ensures.written c.write_line-written.ensures.written in (
      (
        go_halted g.J.Keeper here.state.history c.args.service.keeper c.in-Go.service c.into_keeper.result
            (next_kept g.J.Keeper here.state.history _ c.args.service.keeper c.turn-reply.result.1 c.in-Go.service (c.turn-reply.ensures.kept told says) c.in-Go.is) c.into_keeper.ensures.keeper c.into_keeper.ensures.fronts
            c.into_keeper.ensures.leaves,
        stops_at here bytes _ _ c.in-Go.service.state.history c.in-Go.service.state.history _ (answered_none here) (sym (c.is_skipped.ensures bytes held) ∙ c.if-is_skipped.false)
            (last_unwritten here c.now-moment.result told c.turn-reply.result.0 _ _ c.in-Go.service.state c.in-Err.stop c.write_line-written.result c.now-moment.ensures.moment
            (follows_go here.state c.in-Go.service _ told c.turn-reply.result (c.turn-reply.ensures.turn told says) c.in-Go.is) wrote c.in-Err.is),
      ),
      front_keeps_up g.J.Keeper c.args.service.keeper c.into_keeper.result _ _ _ c.turn-reply.result.0 _ c.turn-reply.result.1 c.in-Go.service c.write_line-written.result c.stamp.ensures.moment c.stamp.ensures.leaves c.turn-reply.ensures.numbered
          c.in-Go.is c.into_keeper.ensures.keeper c.mark-2.ensures.marks c.write_line-written.ensures.marks wrote,
    )

pub returns-in-Err-clause-halted : goal.returns-in-Err-clause-halted
returns-in-Err-clause-halted g c bytes held = (returns-in-Err-clause-keeps_up_to g c bytes held).0
