use Rattle.std.proofs.Common.{◌++◌, ◌∷◌, [], map, sym}
use Rattle.std.specs.List.Sorted.{IsStrictlySortedBy}
use Rattle.std.specs.Ordering.{nat_cmp}
use Rattle.reg_terms.specs.declared.rows.FolderRow.{FolderRow}
use Rattle.reg_facts.proofs.tables.Tables.start.Goals as goal

-- one row alone ascends
pub push-requires : goal.push-requires
unfolding IsStrictlySortedBy
push-requires c = rw c.new-folder_rows.ensures (tt, tt)
