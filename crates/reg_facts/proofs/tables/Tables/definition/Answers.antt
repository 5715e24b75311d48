use Rattle.std.proofs.Common.{◌≡◌, sym, ap, map, rules}
use Rattle.std.specs.List.Sorted.{IsStrictlySortedBy}
use Rattle.std.specs.Ordering.{nat_cmp}
use Rattle.reg_terms.specs.declared.rows.DefinitionRow.{DefinitionRow}
use Rattle.reg_facts.specs.Lists.{Lists}
use Rattle.reg_facts.proofs.Searched.{definitions_ascend}
use Rattle.reg_facts.proofs.tables.Tables.definition.Goals as goal

-- ids of sound facts ascend
pub row_by_id-requires : goal.row_by_id-requires
row_by_id-requires c =
    let same : c.args.self.now.definitions ≡ c.self.inside.definition_rows.items = sym (ap (λ (f : Lists). f.definitions) c.self.view_is) in
    let up : IsStrictlySortedBy nat_cmp (map (λ (row : DefinitionRow). row.id) c.as_slice.result.now) = rw (c.as_slice.ensures.value, ← same) (definitions_ascend c.args.self.now c.requires) in
    search (rules, up)
