use Rattle.std.proofs.Common.{◌∙◌, Result, sym, ap}
use Rattle.reg_terms.specs.declared.refusal.Refusal.{Refusal}
use Rattle.reg_terms.specs.declared.query.Answer.{Answer}
use Rattle.reg_view.specs.AtClock.{asked_at, view}
use Rattle.reg_view.specs.Past.{past_at}
use Rattle.reg_view.specs.Show.{show}
use Rattle.reg_view.proofs.Moved.{at_clock, none_gone_at, unseen_at, unseen_object_at, tells_at, known_at, yields_at, if_ok}
use Rattle.reg_view.proofs.asking.ask.Goals as goal

-- the facts and the memberships are those at the clock
pub returns-clause-shown : goal.returns-clause-shown
returns-clause-shown g c = if_ok c.answer.result _ _ (λ (r : Result Answer Refusal) h. at_clock c.args.machine.now.history c.args.machine.now.clock c.args.question.by c.args.question.query (g.K.Kept.held c.kept-kept.result.now) c.facts-facts.result.now r c.kept-kept.ensures c.facts-facts.ensures h) (rw c.into_parts-by.ensures at c.answer.ensures.shown)

pub returns-clause-alike : goal.returns-clause-alike
returns-clause-alike g c = if_ok c.answer.result _ _ (λ r h history now e. h ∙ ap (λ v. show v c.args.question.query) (sym e)) (returns-clause-shown g c)

pub returns-clause-yields : goal.returns-clause-yields
returns-clause-yields g c = yields_at c.args.machine.now.history c.args.machine.now.clock c.args.question.by c.args.question.query (g.K.Kept.held c.kept-kept.result.now) c.facts-facts.result.now c.answer.result c.kept-kept.ensures c.facts-facts.ensures (rw c.into_parts-by.ensures at c.answer.ensures.yields)

pub returns-clause-unseen : goal.returns-clause-unseen
returns-clause-unseen g c group asks unseen gone = (rw c.into_parts-by.ensures at c.answer.ensures.unseen) group asks
    (unseen_at c.args.machine.now.history c.args.machine.now.clock c.args.question.by group (g.K.Kept.held c.kept-kept.result.now) c.facts-facts.result.now c.kept-kept.ensures c.facts-facts.ensures unseen)
    (none_gone_at (past_at c.args.machine.now) c.args.machine.now.history c.args.machine.now.clock c.args.question.by c.args.question.query (g.K.Kept.held c.kept-kept.result.now) c.facts-facts.result.now c.kept-kept.ensures c.facts-facts.ensures gone)

pub returns-clause-unseen_object : goal.returns-clause-unseen_object
returns-clause-unseen_object g c name asks unseen = (rw c.into_parts-by.ensures at c.answer.ensures.unseen_object) name asks
    (unseen_object_at c.args.machine.now.history c.args.machine.now.clock c.args.question.by name (g.K.Kept.held c.kept-kept.result.now) c.facts-facts.result.now c.kept-kept.ensures c.facts-facts.ensures unseen)

pub returns-clause-names : goal.returns-clause-names
returns-clause-names g c = if_ok c.answer.result _ _ (λ (r : Result Answer Refusal) h. tells_at (view c.args.machine.now.history c.args.machine.now.clock (asked_at c.args.machine.now.clock c.args.question.query) c.args.question.by) c.args.question.query r h) (returns-clause-shown g c)

pub returns-clause-tells : goal.returns-clause-tells
returns-clause-tells g c = if_ok c.answer.result _ _ (λ (r : Result Answer Refusal) h. known_at c.args.machine.now.history c.args.machine.now.clock c.args.question.by c.args.question.query r h) (returns-clause-shown g c)
