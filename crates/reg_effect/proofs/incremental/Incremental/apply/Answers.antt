use Rattle.std.proofs.Common.{◌∙◌, ap}
use Rattle.reg_graph.specs.Sets.{holds}
use Rattle.reg_graph.specs.Edges.{IsAcyclic}
use Rattle.reg_effect.specs.Member.{member}
use Rattle.reg_effect.specs.Edges.{edges}
use Rattle.reg_effect.specs.Asked.{IsWell}
use Rattle.reg_effect.specs.Changes.{Fits}
use Rattle.reg_effect.specs.Invariant.{IsCounted}
use Rattle.reg_effect.specs.Walk.{begins, ends}
use Rattle.reg_effect.proofs.Apart.{touches}
use Rattle.reg_effect.proofs.Asking.{not_asked_at, well_kept}
use Rattle.reg_effect.proofs.Lists.{began_is, ended_is}
use Rattle.reg_effect.proofs.Totals.{total_at}
use Rattle.reg_effect.proofs.incremental.Incremental.apply.Goals as goal

pub walk-requires-clause-once : goal.walk-requires-clause-once
walk-requires-clause-once g c =
    let fits : Fits c.args.change.now c.self.inside.live = rw (← c.self.view_is) at c.requires.fits in
    let well : IsWell c.edit.new.self = rw c.in_ok-edit.ensures (well_kept c.args.change.now c.self.inside.live c.self.invariant.table.well fits) in
    well.once

pub walk-requires-clause-counted : goal.walk-requires-clause-counted
walk-requires-clause-counted g c = rw c.in_ok-edit.ensures c.in_ok-relink.ensures

pub walk-requires-clause-touches : goal.walk-requires-clause-touches
walk-requires-clause-touches g c =
    let no_circle : IsAcyclic (edges c.edit.new.self) = rw c.in_ok-edit.ensures (rw (← c.self.view_is) at c.requires.no_circle) in
    rw c.group-group.ensures (touches c.args.change.now c.self.inside.live c.edit.new.self c.in_ok-edit.ensures c.self.invariant.table.no_circle no_circle (λ y q. holds y q c.self.inside.sets) c.self.invariant.table.sets)

pub walk-requires-clause-asked : goal.walk-requires-clause-asked
walk-requires-clause-asked g c =
    let fits : Fits c.args.change.now c.self.inside.live = rw (← c.self.view_is) at c.requires.fits in
    let no_circle : IsAcyclic (edges c.edit.new.self) = rw c.in_ok-edit.ensures (rw (← c.self.view_is) at c.requires.no_circle) in
    rw (c.group-group.ensures, c.as_slice.ensures.value) (not_asked_at c.args.change.now c.self.inside.live c.edit.new.self c.in_ok-edit.ensures c.self.invariant.table.well fits c.self.invariant.table.no_circle no_circle (λ y q. holds y q c.self.inside.sets) c.self.invariant.table.sets c.in_ok-asked.asked.items c.in_ok-asked.ensures.value)

pub invariant_of-result : goal.invariant_of-result
invariant_of-result g c =
    let fits : Fits c.args.change.now c.self.inside.live = rw (← c.self.view_is) at c.requires.fits in
    let well : IsWell c.edit.new.self = rw c.in_ok-edit.ensures (well_kept c.args.change.now c.self.inside.live c.self.invariant.table.well fits) in
    let no_circle : IsAcyclic (edges c.edit.new.self) = rw c.in_ok-edit.ensures (rw (← c.self.view_is) at c.requires.no_circle) in
    let counted : IsCounted c.edit.new.self c.relink.new.graph = rw c.in_ok-edit.ensures c.in_ok-relink.ensures in
    record { table = record { sets = c.in_ok-walk.ensures.sets; no_circle = no_circle; well = well }; counted = counted }

pub returns-clause-began : goal.returns-clause-began
returns-clause-began g c = rw (← c.self.view_is, ← c.in_ok-edit.ensures)
    (c.in_ok-began.ensures.value ∙ began_is c.self.inside.live c.edit.new.self c.walk.new.began (rw c.in_ok-began.ensures.value at c.in_ok-began.ensures.ordered)
    (λ y q. c.in_ok-walk.ensures.began y q ∙ ap (λ b. begins b (member c.edit.new.self y q)) (c.self.invariant.table.sets y q)))

pub returns-clause-ended : goal.returns-clause-ended
returns-clause-ended g c = rw (← c.self.view_is, ← c.in_ok-edit.ensures)
    (c.in_ok-ended.ensures.value ∙ ended_is c.self.inside.live c.edit.new.self c.walk.new.ended (rw c.in_ok-ended.ensures.value at c.in_ok-ended.ensures.ordered)
    (λ y q. c.in_ok-walk.ensures.ended y q ∙ ap (λ b. ends b (member c.edit.new.self y q)) (c.self.invariant.table.sets y q)))

pub returns-clause-cost : goal.returns-clause-cost
returns-clause-cost g c =
    let fits : Fits c.args.change.now c.self.inside.live = rw (← c.self.view_is) at c.requires.fits in
    rw (← c.self.view_is) (total_at c.args.change.now c.self.inside.live c.edit.new.self c.in_ok-edit.ensures c.self.invariant.table.well fits c.self.invariant.table.no_circle c.in_ok-asked.asked.items c.in_ok-asked.ensures.distinct
    (λ y q. holds y q c.self.inside.sets) c.self.invariant.table.sets c.in_ok-asked.ensures.value _ c.ask.new.steps _ (c.in_ok-asked.ensures.cost c.self.inside.live c.self.invariant.table fits)
    (rw (c.as_slice.ensures.value, c.group-group.ensures) at c.in_ok-walk.ensures.cost))
