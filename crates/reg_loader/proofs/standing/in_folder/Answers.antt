use Rattle.std.proofs.Common.{◌==◌, ◌∙◌, ◌&&◌, List, not, map, filter, sym, ap}
use Rattle.std.specs.List.{flat_map}
use Rattle.std.proofs.lemmas.List.{append-nil}
use Rattle.reg_terms.specs.declared.rows.GroupRow.{GroupRow}
use Rattle.reg_terms.specs.Rows.{is_composite}
use Rattle.reg_loader.specs.Plan.{persons_in}
use Rattle.reg_loader.proofs.standing.in_folder.Goals as goal

pub returns : goal.returns
returns c =
    sym (append-nil c.loop-row.found.items)
    ∙ ((rw c.in-None.ensures.steps.0 at c.loop-row.invariant)
    ∙ ap (λ (rows : List GroupRow). flat_map (persons_in c.args.facts.now) (map (λ (row : GroupRow). row.id) (filter (λ (row : GroupRow). (row.folder == c.args.folder) && not (is_composite row.id c.args.facts.now.composites)) rows)))
    (c.into_iter-row-iterator.ensures.into_iter_gives ∙ c.groups-row-items.ensures))
