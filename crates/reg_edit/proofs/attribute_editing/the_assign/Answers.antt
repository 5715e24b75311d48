use Rattle.std.proofs.Common.{◌≡◌, ◌∙◌, Some, sym, ap}
use Rattle.std.specs.Option.{option_copied}
use Rattle.reg_facts.specs.Attributes.{assign_row}
use Rattle.reg_facts.proofs.AttributeIds.{found_assign_id}
use Rattle.reg_edit.proofs.attribute_editing.the_assign.Goals as goal

-- the row that is found has the id
pub returns : goal.returns
returns c =
    let found : assign_row c.args.id c.args.facts.now.assigns ≡ Some c.in-Some.row.now = sym c.assign.ensures ∙ ap option_copied c.in-Some.is in
    found_assign_id c.args.facts.now.assigns c.in-Some.row.now c.args.id found
