use Rattle.reg_graph.specs.Edges.{IsAcyclic}
use Rattle.reg_effect.specs.Asked.{IsWell}
use Rattle.reg_effect.specs.Edges.{edges}
use Rattle.reg_effect.proofs.Asking.{well_kept}
use Rattle.reg_effect.proofs.Rounds.{tables_began, tables_ended}
use Rattle.reg_effect.proofs.plain.PlainKept.change.Goals as goal

pub memberships-requires : goal.memberships-requires
memberships-requires g c = rw (c.in_ok-edit.ensures) (well_kept c.args.change.now c.self.inside.live c.self.invariant.well (rw (← c.self.view_is) at c.requires.fits))

pub invariant_of-result : goal.invariant_of-result
invariant_of-result g c =
    let well : IsWell c.edit.new.self = rw (c.in_ok-edit.ensures) (well_kept c.args.change.now c.self.inside.live c.self.invariant.well (rw (← c.self.view_is) at c.requires.fits)) in
    let no_circle : IsAcyclic (edges c.edit.new.self) = rw c.in_ok-edit.ensures (rw (← c.self.view_is) at c.requires.no_circle) in
    record { sets = c.in_ok-next.ensures; no_circle = no_circle; well = well }

pub returns-clause-began : goal.returns-clause-began
returns-clause-began g c = rw (← c.self.view_is, ← c.in_ok-edit.ensures) (tables_began c.self.inside.live c.edit.new.self _ _ _ c.self.invariant.sets c.in_ok-next.ensures c.in_ok-began.ensures.value c.in_ok-began.ensures.ordered)

pub returns-clause-ended : goal.returns-clause-ended
returns-clause-ended g c = rw (← c.self.view_is, ← c.in_ok-edit.ensures) (tables_ended c.self.inside.live c.edit.new.self _ _ _ c.self.invariant.sets c.in_ok-next.ensures c.in_ok-ended.ensures.value c.in_ok-ended.ensures.ordered)
