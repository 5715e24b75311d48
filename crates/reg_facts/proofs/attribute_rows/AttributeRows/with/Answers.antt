use Rattle.std.proofs.Common.{◌∙◌, List, ap, map}
use Rattle.std.specs.List.{list_any}
use Rattle.reg_terms.specs.declared.rows.AttributeRow.{AttributeRow}
use Rattle.reg_facts.specs.Defining.{defined_by}
use Rattle.reg_facts.proofs.DefinedRows.{is_defined, none_defined}
use Rattle.reg_facts.proofs.attribute_rows.AttributeRows.with.Goals as goal

-- a later id is new to the index
pub push-requires : goal.push-requires
push-requires c = record {
  free = ap (list_any (is_defined c.args.row)) (c.self.invariant.same ∙ ap (λ (rows : List AttributeRow). map defined_by rows) c.self.view_is) ∙ none_defined c.args.self c.args.row c.requires;
}
