use Rattle.std.proofs.Common.{◌≡◌, ◌∙◌, List, ℕ, arith, subst}
use Rattle.std.proofs.lemmas.Result.{IfOk-weaker}
use Rattle.reg_json.specs.Reading.{reading_of}
use Rattle.reg_sample.specs.Lines.{line}
use Rattle.reg_session.specs.Pending.{ReadsAs}
use Rattle.reg_sample.proofs.Asking.{asked_one, some_at}
use Rattle.reg_sample.proofs.playing.ask.Goals as goal

-- the line was asked, and its reply counted
pub returns-clause-asked : goal.returns-clause-asked
returns-clause-asked c =
    let text : c.deref.result.now ≡ line c.args.seed c.args.size c.args.number = c.deref.ensures.value ∙ c.in_ok-text.ensures in
    let says : ReadsAs c.reading_of-reading.result (reading_of (line c.args.seed c.args.size c.args.number)) = subst (λ (l : List ℕ). ReadsAs c.reading_of-reading.result (reading_of l)) text c.reading_of-reading.ensures.says in
    IfOk-weaker c.going.result _ _
    (λ after h. asked_one c.args.seed c.args.size c.args.number c.args.service.state c.args.tally.now after.1 c.moment_of.result c.turn-reply.result after.0 c.moment_of.ensures
    (c.turn-reply.ensures.turn (reading_of (line c.args.seed c.args.size c.args.number)) says) h.0 (some_at _ c.counted-tally.result after.1 h.1 c.counted-tally.ensures.memory) (some_at _ c.counted-tally.result after.1 h.1 c.counted-tally.ensures.value)) c.going.ensures

pub returns-clause-refused : goal.returns-clause-refused
returns-clause-refused c = IfOk-weaker c.going.result _ _ (λ after h. let few = some_at _ c.counted-tally.result after.1 h.1 c.counted-tally.ensures.few in omega (arith, few, c.requires.refused)) c.going.ensures
