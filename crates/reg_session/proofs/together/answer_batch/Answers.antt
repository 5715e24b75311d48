use Rattle.std.proofs.Common.{◌≡◌, ◌∙◌, ◌++◌, refl, ap, List, ℕ, take}
use Rattle.reg_machine.specs.History.{State}
use Rattle.reg_outside.specs.Faults.{Rose}
use Rattle.reg_service.specs.Holding.{first_of}
use Rattle.reg_service.specs.Marks.{output_of}
use Rattle.reg_session.specs.Answered.{Point}
use Rattle.reg_session.specs.Lines.{lines_from}
use Rattle.reg_session.specs.Pending.{Holds}
use Rattle.reg_session.specs.Together.{HaltsTogether}
use Rattle.reg_session.proofs.BatchMarks.{replies_in}
use Rattle.reg_session.proofs.Batching.{feeds_moved}
use Rattle.reg_session.proofs.BatchStops.{first_back, kept_halts, says_fault, unkept_halts}
use Rattle.reg_session.proofs.Halting.{err_by}
use Rattle.reg_terms.specs.declared.reply.Reply.TheVariants as reply
use Rattle.reg_session.proofs.together.answer_batch.Goals as goal

-- what was written into the buffer are lines of replies
pub settle_batch-requires-clause-lines : goal.settle_batch-requires-clause-lines
settle_batch-requires-clause-lines g c =
    let keeps_up = rw c.new-replies.ensures at c.in-Ok.ensures.keeps_up in
    rw c.written.ensures (replies_in _ _ _ _ _ _ keeps_up _ refl)

-- the keeper has the history from before the batch
pub settle_batch-requires-clause-payloads : goal.settle_batch-requires-clause-payloads
settle_batch-requires-clause-payloads g c =
    let waits = c.in-Ok.ensures.kept in
    let grown : c.in-Ok.held.state.history ≡ c.args.service.state.history ++ waits.more = waits.grown ∙ ap (λ (s : State). s.history ++ waits.more) c.hold-held.ensures.state in
    let back : first_of c.in-Ok.held ≡ c.args.service.state.history = first_back _ _ waits.more _ grown (waits.object ∙ c.hold-held.ensures.name) in
    rw back c.hold-held.ensures.payloads

-- the batch was kept, and its replies written
pub returns-in-Ok-clause-fed : goal.returns-in-Ok-clause-fed
returns-in-Ok-clause-fed g c =
    let fed = rw (c.split_at.ensures.front, c.new-replies.ensures, c.hold-held.ensures.state) at c.in-Ok.ensures.fed in
    let wrote = rw c.written.ensures at c.in_ok-service-in-Ok.ensures.written in
    feeds_moved _ _ _ _ c.args.service.state c.in-Ok.held.state _ c.feed.new.out.written c.args.line c.in-Ok.line (take c.batch_end-end.result c.args.bytes.now) wrote c.in_ok-service-in-Ok.ensures.same fed

pub returns-in-Ok-clause-kept : goal.returns-in-Ok-clause-kept
returns-in-Ok-clause-kept g c =
    let waits = c.in-Ok.ensures.kept in
    let grown : c.in-Ok.held.state.history ≡ c.args.service.state.history ++ waits.more = waits.grown ∙ ap (λ (s : State). s.history ++ waits.more) c.hold-held.ensures.state in
    let back : first_of c.in-Ok.held ≡ c.args.service.state.history = first_back _ _ waits.more _ grown (waits.object ∙ c.hold-held.ensures.name) in
    let kept = rw (back, c.hold-held.ensures.keeper) at c.in_ok-service-in-Ok.ensures.kept in
    rw c.in_ok-service-in-Ok.ensures.same kept

-- it wasn't, or its replies weren't written
pub returns-in_err-service-in-Ok-clause-halted : goal.returns-in_err-service-in-Ok-clause-halted
returns-in_err-service-in-Ok-clause-halted g c =
    let here : Point = record { written = g.K.Sink.written c.args.out.now; moments = g.C.Clock.moments c.args.clock.now; state = c.args.service.state } in
    let failed : Type 0 = Rose (g.K.Sink.write_faults c.args.out.now) (g.K.Sink.write_faults c.settle_batch.new.out) in
    err_by
    (λ e. (before : List ℕ) → Holds c.args.line before
    → HaltsTogether c.args.most g.J.Keeper here c.args.service.keeper (lines_from before c.args.bytes.now) (output_of g.K.Sink c.args.out.now) (output_of g.K.Sink c.settle_batch.new.out) failed e.0 e.1)
    c.from_residual.result c.in_err-service-in-Ok.field-0.0 c.from_residual.ensures.1
    (λ before held.
    let fed = rw (c.split_at.ensures.front, c.new-replies.ensures, c.hold-held.ensures.state) at c.in-Ok.ensures.fed in
    let waits = c.in-Ok.ensures.kept in
    let grown : c.in-Ok.held.state.history ≡ c.args.service.state.history ++ waits.more = waits.grown ∙ ap (λ (s : State). s.history ++ waits.more) c.hold-held.ensures.state in
    let back : first_of c.in-Ok.held ≡ c.args.service.state.history = first_back _ _ waits.more _ grown (waits.object ∙ c.hold-held.ensures.name) in
    let kept = rw (back, c.hold-held.ensures.keeper) at c.in_err-service-in-Ok.ensures.given_back in
    let stops = rw (back, c.hold-held.ensures.keeper, c.written.ensures) at c.in_err-service-in-Ok.ensures.stops in
    let keeps_up = rw c.hold-held.ensures.keeper at c.in_err-service-in-Ok.ensures.keeps_up_to in
    kept_halts c.args.most g.J.Keeper _ _ c.args.service.state c.in-Ok.held.state c.args.service.keeper _ before c.args.bytes.now c.feed.new.out.written c.batch_end-end.result _ _ failed _ c.batch_end-end.ensures.few (fed before held).1 kept
    stops keeps_up)

-- there was no memory for it
pub returns-clause-halted : goal.returns-clause-halted
returns-clause-halted g c before held =
    let says = says_fault reply.NoMemory _ _ _ _ c.write_bytes.result c.no_memory_line.ensures c.write_bytes.ensures.written c.write_bytes.ensures.output c.write_bytes.ensures.front in
    unkept_halts c.args.most g.J.Keeper _ c.args.service.state c.args.service.keeper _ before c.args.bytes.now c.batch_end-end.result _ _ _ c.batch_end-end.ensures.few c.hold-held.ensures.stays c.hold-held.ensures.keeper
    c.hold-held.ensures.fronts c.hold-held.ensures.leaves says c.write_bytes.ensures.marks
