use Rattle.std.proofs.Common.{◌==◌, ◌∙◌, ap}
use Rattle.std.specs.List.{list_any}
use Rattle.reg_facts.specs.Attributes.{is_assigned}
use Rattle.reg_facts.specs.declared.assign_index.AssignKey.{AssignKey}
use Rattle.reg_facts.proofs.AssignedRows.{attribute_among}
use Rattle.reg_facts.proofs.assign_rows.AssignRows.is_assigned.Goals as goal

pub returns : goal.returns
returns c =
    c.is_assigned.ensures
    ∙ (ap (list_any (λ (key : AssignKey). key.attribute == c.args.attribute)) c.self.invariant.same
    ∙ (attribute_among c.args.attribute c.self.inside.rows ∙ ap (is_assigned c.args.attribute) c.self.view_is))
