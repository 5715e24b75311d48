use Rattle.std.proofs.Common.{◌≡◌, ◌∙◌, ◌∷◌, [], ℕ, Some, IfOk, sym, ap, subst}
use Rattle.std.specs.Option.{option_copied}
use Rattle.reg_terms.specs.declared.event.Event.TheVariants.{RuleGone}
use Rattle.reg_facts.specs.Rules.{rule_by}
use Rattle.reg_facts.proofs.RuleKeys.{found_id}
use Rattle.reg_edit.proofs.rule_editing.rule_delete.Goals as goal

-- the row that is found has the id
pub returns : goal.returns
returns c =
    let found : rule_by c.args.id c.args.facts.now.rules ≡ Some c.in-Some.row.now = sym c.rule.ensures ∙ ap option_copied c.in-Some.is in
    subst (λ (id : ℕ). IfOk c.one.result (λ events. events.items ≡ RuleGone id ∷ [])) (found_id c.args.facts.now.rules c.in-Some.row.now c.args.id found) c.one.ensures
