-- What is delivered of a batch.
use Rattle.std.specs.Prelude.{◌≡◌, ◌≤◌, ℕ, List, true, Option, Some, Result, Ok, Err}
use Rattle.reg_base.specs.Names.{is_extension}
use Rattle.reg_terms.specs.declared.command.Stamped.{Stamped}
use Rattle.reg_facts.specs.Consumers.{consumer_place}
use Rattle.reg_machine.specs.History.{State, facts, now_facts}
use Rattle.reg_prov.specs.Wanted.{IsBatch}
use Rattle.reg_prov.specs.declared.target.TargetOp.{TargetOp}
use Rattle.reg_report.specs.declared.asked.Unreported.{Unreported}
use Rattle.reg_report.specs.Gives.{Fails}
use Rattle.reg_words.specs.declared.task.Provision.{Provision}
use Rattle.reg_report.specs.BatchAsked.{provision_asked}
use Rattle.reg_report.specs.BatchLines.{op_lines, place_line}
use Rattle.reg_report.specs.declared.delivery.Delivery.{Delivery}

-- the place of a consumer after a history, at a moment
abbrev pub place_at : List Stamped → ℕ → List ℕ → Option ℕ
place_at history t consumer = consumer_place consumer (facts history t).consumers

-- These lines are delivered of a batch that leads from a place to an end: those of its operations,
-- in order, where the place is the consumer's, and the clock is the state's.
pub record IsDelivered (asked : Provision) (s : State) (place end : ℕ) (lines : List ℕ)
    : Type 0 where
  pub person : ℕ
  pub about : provision_asked asked (now_facts s) ≡ Ok (place, person)
  pub stands : place_at s.history s.clock asked.consumer ≡ Some place
  pub ops : List TargetOp
  pub batch : IsBatch s.history s.clock place person asked.max ops end
  pub prints : lines ≡ op_lines (now_facts s).subjects ops

-- it is delivered; or what is asked is refused, or there was no memory
abbrev pub Delivers : Provision → State → Result Delivery Unreported → Type 0
Delivers asked s (Ok d) = IsDelivered asked s d.place d.end d.lines.items
Delivers asked s (Err e) = Fails e (provision_asked asked (now_facts s))

-- A delivery can be handed over: the consumer's text has its form, the place is the consumer's, the
-- end isn't before it, and the last line tells it.
pub record IsReady (consumer : List ℕ) (s : State) (d : Delivery) : Type 0 where
  pub form : is_extension consumer ≡ true
  pub stands : place_at s.history s.clock consumer ≡ Some d.place
  pub onward : d.place ≤ d.end
  pub tells : d.last.items ≡ place_line d.end
