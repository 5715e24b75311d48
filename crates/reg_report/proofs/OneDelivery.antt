-- One thing is delivered.
use Rattle.std.proofs.Common.{◌≡◌, ℕ, List, Result, Ok, Err, ap, sym, ◌∙◌}
use Rattle.reg_terms.specs.declared.command.Stamped.{Stamped}
use Rattle.reg_terms.specs.declared.refusal.Refusal.{Refusal}
use Rattle.reg_machine.specs.History.{State, now_facts}
use Rattle.reg_prov.specs.Wanted.{IsBatch}
use Rattle.reg_prov.specs.declared.target.TargetOp.{TargetOp}
use Rattle.reg_words.specs.declared.task.Provision.{Provision}
use Rattle.reg_report.specs.Delivered.{IsDelivered}
use Rattle.reg_report.specs.BatchLines.{op_lines}

-- two batches of one question are one
abbrev OneBatch : Type 0
OneBatch = (history : List Stamped) (clock place provisioner most end last : ℕ) (ops others : List TargetOp) → IsBatch history clock place provisioner most ops end → IsBatch history clock place provisioner most others last → (ops ≡ others) × (end ≡ last)

abbrev first_in : Result (ℕ × ℕ) Refusal → ℕ
first_in (Ok pair) = pair.0
first_in (Err refusal) = 0

abbrev second_in : Result (ℕ × ℕ) Refusal → ℕ
second_in (Ok pair) = pair.1
second_in (Err refusal) = 0

pub one_delivery : OneBatch → (asked : Provision) (s : State) (place end other last : ℕ) (lines more : List ℕ) → IsDelivered asked s place end lines → IsDelivered asked s other last more → (place ≡ other) × (end ≡ last) × (lines ≡ more)
one_delivery law asked s place end other last lines more a b =
    let same = sym a.about ∙ b.about in
    let same_place : place ≡ other = ap first_in same in
    let same_person : a.person ≡ b.person = ap second_in same in
    let batch : IsBatch s.history s.clock place a.person asked.max b.ops last = rw (same_place, same_person) b.batch in
    let one = law s.history s.clock place a.person asked.max end last a.ops b.ops a.batch batch in
    (same_place, one.1, a.prints ∙ (ap (op_lines (now_facts s).subjects) one.0 ∙ sym b.prints))
