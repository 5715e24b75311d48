use Rattle.std.proofs.Common.{◌≡◌, ◌∙◌, ap, refl, sym, List, ℕ, Option, Ok}
use Rattle.reg_machine.specs.History.{State}
use Rattle.reg_outside.specs.Streams.{WritesFront}
use Rattle.reg_service.specs.Marks.{WritesAll}
use Rattle.reg_service.specs.Opening.{payloads_of}
use Rattle.reg_terms.specs.declared.reply.Reply.TheVariants as reply
use Rattle.reg_session.proofs.BatchMarks.{fault_keeps_up, replies_keep_up}
use Rattle.reg_session.proofs.Halting.{whole}
use Rattle.reg_session.proofs.together.settle_batch.Goals as goal

-- the replies stand behind the mark, whole or not
pub returns-in-Ok-write_bytes-clause-keeps_up : goal.returns-in-Ok-write_bytes-clause-keeps_up
returns-in-Ok-write_bytes-clause-keeps_up g c =
    let wrote = rw c.mark-in-Ok.ensures.written at c.in-Ok-write_bytes.ensures.written in
    replies_keep_up WritesAll g.J.Keeper c.args.keeper _ c.args.held.state.history _ _ _ c.args.replies.now c.stamp.result c.requires.lines wrote c.mark-in-Ok.ensures.marks c.write_bytes.ensures.marks c.stamp.ensures.moment
    (λ r left. c.stamp.ensures.leaves r left ∙ ap (λ (s : State). Ok (payloads_of s.history)) c.in-Ok.ensures.state)

pub returns-in-Err-write_bytes-clause-keeps_up_to : goal.returns-in-Err-write_bytes-clause-keeps_up_to
returns-in-Err-write_bytes-clause-keeps_up_to g c =
    let front = rw c.mark-in-Ok.ensures.written at c.write_bytes.ensures.front in
    let here = c.into_keeper.ensures.keeper in
    rw here
    (replies_keep_up WritesFront g.J.Keeper c.args.keeper _ c.args.held.state.history _ _ _ c.args.replies.now c.stamp.result c.requires.lines front c.mark-in-Ok.ensures.marks c.write_bytes.ensures.marks c.stamp.ensures.moment
    (λ r left. c.stamp.ensures.leaves r left ∙ ap (λ (s : State). Ok (payloads_of s.history)) c.in-Ok.ensures.state))

-- the line of the keeper's fault, with no mark
pub returns-in-Err-clause-keeps_up_to : goal.returns-in-Err-clause-keeps_up_to
returns-in-Err-clause-keeps_up_to g c =
    let front = rw c.keep_fault_line.ensures at c.write_bytes-in-Err.ensures.front in
    fault_keeps_up g.J.Keeper c.args.keeper _ _ _ _ reply.KeepFault refl front c.write_bytes-in-Err.ensures.marks

-- the replies weren't written, and all that the batch did is kept
pub returns-in-Err-write_bytes-clause-stops : goal.returns-in-Err-write_bytes-clause-stops
returns-in-Err-write_bytes-clause-stops g c =
    let front = rw c.mark-in-Ok.ensures.written at c.write_bytes.ensures.front in
    let fronts = rw c.in-Ok.ensures.state at c.into_keeper.ensures.fronts in
    rw c.in-Err-write_bytes.ensures.output.0 (
      front,
      whole g.J.Keeper c.args.held.state.history c.into_keeper.result (g.J.Keeper.payloads c.args.keeper) fronts
          (λ r left. c.into_keeper.ensures.leaves r left ∙ ap (λ (s : State). Ok (payloads_of s.history)) c.in-Ok.ensures.state),
    )
