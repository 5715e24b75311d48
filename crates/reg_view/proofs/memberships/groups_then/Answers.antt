use Rattle.std.proofs.Common.{◌∙◌, ap}
use Rattle.reg_terms.specs.declared.query.Answer.TheVariants as answer
use Rattle.reg_view.specs.Answers.{readable_names}
use Rattle.reg_view.specs.Past.{past_at}
use Rattle.reg_view.proofs.Grouped.{names_of_ids}
use Rattle.reg_view.proofs.memberships.groups_then.Goals as goal

-- the groups of the past, of those that stand
pub returns : goal.returns
returns g c = ap (λ names. answer.Groups names) (
    c.in_ok-groups.ensures
    ∙ ap (readable_names (g.K.Kept.held c.args.kept.now) c.args.facts.now c.args.who.now) c.deref.ensures.value)
    ∙ names_of_ids (g.K.Kept.held c.args.kept.now) c.args.facts.now c.args.who.now (λ x. (past_at c.args.machine.now).was c.args.at x c.args.subject) c.in_ok-earlier.earlier.items c.law_sound.ensures c.in_ok-earlier.ensures.ascending c.in_ok-earlier.ensures.each
