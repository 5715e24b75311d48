use Rattle.std.proofs.Common.{◌∙◌, ap, map}
use Rattle.reg_terms.specs.declared.query.Answer.TheVariants as answer
use Rattle.reg_view.specs.Answers.{row_span}
use Rattle.reg_view.proofs.HistoryRows.{rows_told}
use Rattle.reg_view.proofs.history.history_answer.Goals as goal

-- the persons of the past stand
pub returns : goal.returns
returns g c = ap (λ spans. answer.History spans) (
    c.in_ok-history.ensures
    ∙ ap (map (row_span c.args.facts.now)) c.deref.ensures.value
    ∙ rows_told c.args.machine.now.history c.args.machine.now.clock c.args.id c.args.facts.now c.in_ok-rows.rows.items c.law_sound.ensures c.requires c.law_past.ensures.known c.in_ok-rows.ensures)
