use Rattle.std.proofs.Common.{◌≡◌, ◌≤◌, ◌+◌, ◌∙◌, ap, subst, sym, arith}
use Rattle.std.proofs.lemmas.Result.{IfOk-weaker}
use Rattle.reg_effect.specs.declared.live.Live.{Live}
use Rattle.reg_audit.specs.Notes.{notes_of}
use Rattle.reg_current.specs.Dates.{at_date, date_events}
use Rattle.reg_current.specs.Invariant.{Now}
use Rattle.reg_current.specs.Live.{live}
use Rattle.reg_machine.specs.Recording.{settled_step, Records}
use Rattle.reg_machine.proofs.Acting.{settled_now, steps_of_rules}
use Rattle.reg_current.proofs.RowFound.{on_ok}
use Rattle.reg_machine.proofs.recorded.Recorded.pass_date.Goals as goal

pub returns-clause-moved : goal.returns-clause-moved
returns-clause-moved g c =
    let L : Live = live c.args.self.current.clock c.args.self.current.facts in
    IfOk-weaker c.finished.result _ _ (λ r h. subst (λ (n : Now). r.current ≡ settled_now L n) c.in-Ok.ensures.moved (h L c.in-Ok.ensures.told)) c.finished.ensures.settled

pub returns-clause-recorded : goal.returns-clause-recorded
returns-clause-recorded g c =
    let before : Now = c.args.self.current in
    let L : Live = live before.clock before.facts in
    let es = date_events c.args.date before.facts in
    IfOk-weaker c.finished.result _ _ (λ r h. subst (λ (n : Now). Records c.args.self.audit r.audit (settled_step n.clock before.facts es L n.facts)) c.in-Ok.ensures.moved
    (h before.facts es L c.in-Ok.ensures.told (c.in-Ok.ensures.notes ∙ ap (λ (n : Now). notes_of n.clock before.facts es) (sym c.in-Ok.ensures.moved)) c.in-Ok.ensures.touches)) c.finished.ensures.recorded

pub returns-clause-cost : goal.returns-clause-cost
returns-clause-cost g c =
    let L : Live = live c.args.self.current.clock c.args.self.current.facts in
    on_ok c.finished.result c.finished.ensures.cost (λ most.
    let le : c.finished.new.steps ≤ c.passed-after.new.steps + steps_of_rules L (record { clock = c.args.date; facts = at_date c.args.date c.args.self.current.facts }) =
    subst (λ (n : Now). c.finished.new.steps ≤ c.passed-after.new.steps + steps_of_rules L n) c.in-Ok.ensures.moved (most L c.in-Ok.ensures.told) in
    omega (arith, le, c.in-Ok.ensures.cost))
