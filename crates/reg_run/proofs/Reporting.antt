-- What is printed of a report.
use Rattle.std.proofs.Common.{◌≡◌, List, ℕ, Ok, Err, refl, inl, inr, subst}
use Rattle.std.specs.Prelude.{false}
use Rattle.reg_terms.specs.declared.refusal.Refusal.{Refusal}
use Rattle.reg_terms.specs.declared.reply.Reply.TheVariants as reply
use Rattle.reg_machine.specs.History.{State}
use Rattle.reg_service.specs.Turn.{at_moment}
use Rattle.reg_words.specs.declared.task.Report.{Report}
use Rattle.reg_report.specs.Reported.{Reported}
use Rattle.reg_run.specs.Due.{Told, due_of, TellsReport, ReportsAt}
use Rattle.reg_run.specs.Once.{Put}
use Rattle.reg_run.specs.World.{Out}
use Rattle.reg_run.specs.declared.status.End.{End}
use Rattle.reg_run.specs.declared.status.End.TheVariants as the_end

-- its bytes
pub told_bytes : (asked : Report) (s : State) (bytes : List ℕ) (end : End) (old new : Out) → Reported asked s (Ok bytes) → Put the_end.Done bytes end old new → Told (TellsReport asked s) end old new
told_bytes asked s bytes end old new is put = inl (record { bytes = bytes; refused = false }, (Ok bytes, is, refl), inl put)

-- or that it is refused
pub told_refusal : (asked : Report) (s : State) (refusal : Refusal) (end : End) (old new : Out) → Reported asked s (Err refusal) → Told (λ due. due ≡ due_of (reply.Refused refusal)) end old new
    → Told (TellsReport asked s) end old new
told_refusal asked s refusal end old new is (inl (due, same, printed)) = inl (due, (Err refusal, is, same), printed)
told_refusal asked s refusal end old new is (inr printed) = inr printed

-- it tells of the state to which the clock moved
pub told_at : (asked : Report) (from s : State) (m : ℕ) (end : End) (old new : Out) → s ≡ at_moment from m → Told (TellsReport asked s) end old new → Told (ReportsAt asked from m) end old new
told_at asked from s m end old new is told = subst (λ (x : State). Told (TellsReport asked x) end old new) is told
