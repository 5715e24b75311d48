use Rattle.std.proofs.Common.{◌==◌, ◌∙◌, ap}
use Rattle.std.specs.Prelude.{◌&&◌}
use Rattle.std.specs.List.{list_any}
use Rattle.reg_terms.specs.Kinds.{same_object}
use Rattle.reg_facts.specs.Attributes.{is_assigned_to}
use Rattle.reg_facts.specs.declared.assign_index.AssignKey.{AssignKey}
use Rattle.reg_facts.proofs.AssignedRows.{pair_among}
use Rattle.reg_facts.proofs.assign_rows.AssignRows.is_assigned_to.Goals as goal

pub returns : goal.returns
returns c =
    c.is_assigned_to.ensures
    ∙ (ap (list_any (λ (key : AssignKey). same_object key.owner c.args.owner.now && (key.attribute == c.args.attribute))) c.self.invariant.same
    ∙ (pair_among c.args.owner.now c.args.attribute c.self.inside.rows ∙ ap (is_assigned_to c.args.owner.now c.args.attribute) c.self.view_is))
