use Rattle.std.proofs.Common.{◌≡◌, ◌∙◌, Result, sym, ap, subst, IfErr}
use Rattle.reg_terms.specs.declared.refusal.Refusal.{Refusal}
use Rattle.reg_terms.specs.declared.query.Answer.{Answer}
use Rattle.reg_view.specs.Answers.{answer_of}
use Rattle.reg_view.specs.Missing.{MayYield, standing}
use Rattle.reg_view.specs.Past.{past_at}
use Rattle.reg_view.specs.Telling.{IfRefused}
use Rattle.reg_view.proofs.Yields.{exactly}
use Rattle.reg_view.proofs.Moved.{live_is, now_is}
use Rattle.reg_view.proofs.NotSeen.{unseen_is, unseen_object_is}
use Rattle.reg_view.proofs.Shown.{caller_shown, if_ok}
use Rattle.reg_view.proofs.answering.answer.Goals as goal

-- what is computed for a caller that stands is what its view shows
pub returns-clause-shown : goal.returns-clause-shown
returns-clause-shown g c = if_ok c.told.result _ _ (λ (r : Result Answer Refusal) (h : r ≡ answer_of (past_at c.args.machine.now) (g.K.Kept.held c.args.kept.now) c.args.facts.now c.args.machine.now.clock c.args.by.now c.in-Some.who c.args.query.now).
    h ∙ caller_shown c.law_by_bytes.ensures.sorted c.law_by_bytes.ensures.same (past_at c.args.machine.now) (g.K.Kept.held c.args.kept.now) c.args.facts.now c.law_sound.ensures c.law_held.ensures c.law_names.ensures c.args.machine.now.clock c.args.by.now
    (now_is c.args.machine.now.history c.args.machine.now.clock (g.K.Kept.held c.args.kept.now) c.requires.held) (sym c.requires.here)
    (live_is c.args.machine.now.history c.args.machine.now.clock (g.K.Kept.held c.args.kept.now) c.args.facts.now c.requires.here c.requires.held) c.in-Some.who c.args.query.now
    (ap (λ e. standing e c.args.facts.now) (sym c.requires.caller) ∙ sym c.standing.ensures ∙ c.in-Some.is)) c.told.ensures.told

pub returns-clause-yields : goal.returns-clause-yields
returns-clause-yields g c = subst (λ x. IfErr c.told.result (λ _. IfRefused MayYield x))
    (caller_shown c.law_by_bytes.ensures.sorted c.law_by_bytes.ensures.same (past_at c.args.machine.now) (g.K.Kept.held c.args.kept.now) c.args.facts.now c.law_sound.ensures c.law_held.ensures c.law_names.ensures c.args.machine.now.clock c.args.by.now
    (now_is c.args.machine.now.history c.args.machine.now.clock (g.K.Kept.held c.args.kept.now) c.requires.held) (sym c.requires.here)
    (live_is c.args.machine.now.history c.args.machine.now.clock (g.K.Kept.held c.args.kept.now) c.args.facts.now c.requires.here c.requires.held) c.in-Some.who c.args.query.now
    (ap (λ e. standing e c.args.facts.now) (sym c.requires.caller) ∙ sym c.standing.ensures ∙ c.in-Some.is)) c.told.ensures.yields

-- what isn't there for the caller is refused, whatever memory there is
pub returns-clause-unseen : goal.returns-clause-unseen
returns-clause-unseen g c group asks unseen gone = exactly c.told.result (answer_of (past_at c.args.machine.now) (g.K.Kept.held c.args.kept.now) c.args.facts.now c.args.machine.now.clock c.args.by.now c.in-Some.who c.args.query.now) group c.told.ensures.told c.told.ensures.yields
    (unseen_is (past_at c.args.machine.now) (g.K.Kept.held c.args.kept.now) c.args.facts.now c.args.machine.now.clock c.in-Some.who c.args.by.now group c.args.query.now
    (ap (λ e. standing e c.args.facts.now) (sym c.requires.caller) ∙ sym c.standing.ensures ∙ c.in-Some.is) asks unseen gone)

pub returns-clause-unseen_object : goal.returns-clause-unseen_object
returns-clause-unseen_object g c name asks unseen = exactly c.told.result (answer_of (past_at c.args.machine.now) (g.K.Kept.held c.args.kept.now) c.args.facts.now c.args.machine.now.clock c.args.by.now c.in-Some.who c.args.query.now) name c.told.ensures.told c.told.ensures.yields
    (unseen_object_is (past_at c.args.machine.now) (g.K.Kept.held c.args.kept.now) c.args.facts.now c.args.machine.now.clock c.in-Some.who c.args.by.now name c.args.query.now
    (ap (λ e. standing e c.args.facts.now) (sym c.requires.caller) ∙ sym c.standing.ensures ∙ c.in-Some.is) asks unseen)
