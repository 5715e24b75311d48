use Rattle.std.proofs.Common.{◌≡◌, ◌∙◌, List, None, Some, sym, ap, filter, map, not, rules}
use Rattle.std.specs.Option.{option_copied}
use Rattle.reg_terms.specs.declared.rows.AttributeRow.{AttributeRow}
use Rattle.reg_facts.specs.Attributes.{attribute_row}
use Rattle.reg_facts.specs.Defining.{defined_by}
use Rattle.reg_facts.specs.declared.attribute_rows.Defined.{Defined}
use Rattle.reg_facts.proofs.DefinedRows.{is_defined, taken_by_key}
use Rattle.reg_facts.proofs.RowsById.{none_taken}
use Rattle.reg_facts.proofs.attribute_rows.unlist.Goals as goal

-- the attribute of this id goes by its key
pub returns-in-Some : goal.returns-in-Some
returns-in-Some c =
    let less : c.remove.new.self ≡ filter (λ (other : Defined). not (is_defined c.in-Some.row.now other)) c.args.index.now = search rules in
    let found : attribute_row c.args.id c.args.list.now ≡ Some c.in-Some.row.now = sym c.row_by_id.ensures ∙ ap option_copied c.in-Some.is in
    less
    ∙ (ap (λ (defined : List Defined). filter (λ (other : Defined). not (is_defined c.in-Some.row.now other)) defined) c.requires.same
    ∙ taken_by_key c.args.list.now c.in-Some.row.now c.args.id c.requires.ascend found)

-- no attribute has this id
pub returns-in_default : goal.returns-in_default
returns-in_default c =
    let none : attribute_row c.args.id c.args.list.now ≡ None = sym c.row_by_id.ensures ∙ ap option_copied c.in_default.is in
    c.requires.same ∙ ap (λ (rows : List AttributeRow). map defined_by rows) (sym (none_taken (λ (row : AttributeRow). row.id) c.args.id c.args.list.now none))
