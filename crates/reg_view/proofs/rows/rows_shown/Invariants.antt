use Rattle.std.proofs.Common.{◌≡◌, ◌++◌, drop, map}
use Rattle.std.specs.List.{AllByRecursion}
use Rattle.reg_facts.specs.Sound.{RowStands}
use Rattle.reg_terms.specs.declared.rows.MemberRow.{MemberRow}
use Rattle.reg_view.specs.Texts.{row_shown}
use Rattle.reg_view.proofs.rows.rows_shown.Given as goal

-- those so far, and those that are left, whose groups stand
abbrev pub invariant-loop-row : goal.invariant-loop-row
invariant-loop-row l = record {
  shown : l.shown ++ map (row_shown l.facts) (drop l.row-index l.rows) ≡ map (row_shown l.facts) l.rows;
  stand : AllByRecursion (λ (row : MemberRow). RowStands l.facts.groups row) (drop l.row-index l.rows);
}
