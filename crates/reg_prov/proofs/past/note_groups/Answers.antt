use Rattle.std.proofs.Common.{◌<◌, sym, subst, length, List, [], arith}
use Rattle.reg_prov.specs.declared.turn.Turn.{Turn}
use Rattle.reg_prov.proofs.Grouped.{PastsNoted, none_pasted, past_ordered, group_new, group_pasted}
use Rattle.reg_prov.proofs.past.note_groups.Goals as goal

pub loop-past-init : goal.loop-past-init
loop-past-init c = subst (λ (turns : List Turn). PastsNoted c.args.boundaries.now [] turns) (sym c.new-turns.ensures) (none_pasted c.args.boundaries.now)

pub note_group-requires-clause-ordered : goal.note_group-requires-clause-ordered
note_group-requires-clause-ordered c =
    let inside : c.loop-past.past-index < length c.args.pasts.now = omega arith in
    rw c.deref-in-loop-past.ensures.value (past_ordered c.args.pasts.now c.loop-past.past-index c.past-item.result inside c.past-item.is c.requires.ordered)

pub note_group-requires-clause-new : goal.note_group-requires-clause-new
note_group-requires-clause-new c =
    let inside : c.loop-past.past-index < length c.args.pasts.now = omega arith in
    group_new c.args.boundaries.now c.args.pasts.now c.loop-past.past-index c.past-item.result inside c.past-item.is c.requires.ordered c.loop-past.turns c.loop-past.invariant

pub loop-past-preserved : goal.loop-past-preserved
loop-past-preserved c =
    let inside : c.loop-past.past-index < length c.args.pasts.now = omega arith in
    group_pasted c.args.boundaries.now c.args.pasts.now c.loop-past.past-index c.past-item.result inside c.past-item.is c.requires.ordered c.loop-past.turns c.loop-past.invariant c.note_group.new.turns
    (rw (c.deref.ensures.value, c.deref-in-loop-past.ensures.value) at c.in_ok-note_group.ensures.noted) c.in_ok-note_group.ensures.others
