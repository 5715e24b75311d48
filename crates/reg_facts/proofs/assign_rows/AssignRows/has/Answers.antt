use Rattle.std.proofs.Common.{◌≡◌, ◌∙◌, ap, rules}
use Rattle.std.specs.List.{list_any}
use Rattle.reg_facts.specs.Assigning.{same_key}
use Rattle.reg_facts.specs.Attributes.{has_assign}
use Rattle.reg_facts.proofs.AssignedRows.{key_among}
use Rattle.reg_facts.proofs.assign_rows.AssignRows.has.Goals as goal

pub returns : goal.returns
returns c =
    let found : c.contains.result ≡ list_any (same_key (record { owner = c.args.owner.now; attribute = c.args.attribute; id = c.args.id })) c.self.inside.index = search rules in
    found
    ∙ (ap (list_any (same_key (record { owner = c.args.owner.now; attribute = c.args.attribute; id = c.args.id }))) c.self.invariant.same
    ∙ (key_among c.args.id c.args.owner.now c.args.attribute c.self.inside.rows ∙ ap (has_assign c.args.id c.args.owner.now c.args.attribute) c.self.view_is))
