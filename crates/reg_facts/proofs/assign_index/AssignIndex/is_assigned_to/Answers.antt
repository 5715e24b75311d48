use Rattle.std.proofs.Common.{◌≡◌, ◌==◌, ◌∙◌, ap, rules}
use Rattle.std.specs.Prelude.{◌&&◌}
use Rattle.std.specs.List.{list_any}
use Rattle.reg_terms.specs.Kinds.{same_object}
use Rattle.reg_terms.specs.contracts.kinds.ObjectPartialEq.TheImpl as object_eq
use Rattle.reg_facts.specs.declared.assign_index.AssignKey.{AssignKey}
use Rattle.reg_facts.specs.declared.assign_index.ByPair.{ByPair}
use Rattle.reg_facts.proofs.AssignKeys.{owned_any}
use Rattle.reg_facts.proofs.assign_index.AssignIndex.is_assigned_to.Goals as goal

pub returns : goal.returns
returns c =
    let found : c.has_rows.result ≡ list_any (λ (pair : ByPair). object_eq.ghosts.eq pair.key.owner c.args.owner.now && (pair.key.attribute == c.args.attribute)) c.self.inside.pairs = search rules in
    found
    ∙ (ap (list_any (λ (pair : ByPair). object_eq.ghosts.eq pair.key.owner c.args.owner.now && (pair.key.attribute == c.args.attribute))) c.self.invariant
    ∙ (owned_any c.args.owner.now c.args.attribute c.self.inside.keys
    ∙ ap (list_any (λ (key : AssignKey). same_object key.owner c.args.owner.now && (key.attribute == c.args.attribute))) c.self.view_is))
