use Rattle.std.proofs.Common.{◌≡◌, ◌==◌, ◌∙◌, ap, rules}
use Rattle.std.specs.List.{list_any}
use Rattle.reg_facts.specs.Attributes.{has_attributes}
use Rattle.reg_facts.specs.Defining.{defined_by}
use Rattle.reg_facts.specs.declared.attribute_rows.Defined.{Defined}
use Rattle.reg_facts.proofs.RowsById.{any_seen}
use Rattle.reg_facts.proofs.attribute_rows.AttributeRows.has_of.Goals as goal

pub returns : goal.returns
returns c =
    let found : c.has_rows.result ≡ list_any (λ (defined : Defined). defined.definition == c.args.definition) c.self.inside.index = search rules in
    found
    ∙ (ap (list_any (λ (defined : Defined). defined.definition == c.args.definition)) c.self.invariant.same
    ∙ (any_seen defined_by (λ (defined : Defined). defined.definition == c.args.definition) c.self.inside.list.items ∙ ap (has_attributes c.args.definition) c.self.view_is))
