use Rattle.std.proofs.Common.{◌≡◌, ◌==◌, ◌++◌, ◌&&◌, not, map, filter}
use Rattle.std.specs.List.{flat_map}
use Rattle.reg_terms.specs.declared.rows.GroupRow.{GroupRow}
use Rattle.reg_terms.specs.Rows.{is_composite}
use Rattle.reg_loader.specs.Plan.{persons_in}
use Rattle.reg_loader.proofs.standing.in_folder.Given as goal

-- the persons so far, and those of the groups that are left, are all
abbrev pub invariant-loop-row : goal.invariant-loop-row
invariant-loop-row l =
    l.found.items ++ flat_map (persons_in l.facts) (map (λ (row : GroupRow). row.id) (filter (λ (row : GroupRow). (row.folder == l.folder) && not (is_composite row.id l.facts.composites)) l.row-iterator))
    ≡ flat_map (persons_in l.facts) (map (λ (row : GroupRow). row.id) (filter (λ (row : GroupRow). (row.folder == l.folder) && not (is_composite row.id l.facts.composites)) l.initial.row-iterator))
