use Rattle.std.proofs.Common.{rules, ◌<◌, ◌^◌}
use Rattle.reg_graph.proofs.Kept.{holds_is, updates_add}
use Rattle.reg_graph.proofs.Turned.{turned_add, turned_back}
use Rattle.reg_graph.proofs.sets.Sets.add.Goals as goal

pub invariant_of-self-in-Ok : goal.invariant_of-self-in-Ok
invariant_of-self-in-Ok g c =
    let small_g : c.args.g < 2 ^ 32 = search rules in
    let small_s : c.args.s < 2 ^ 32 = search rules in
    turned_add c.args.g c.args.s _ _ _ _ c.self.invariant small_g small_s c.in-Ok.ensures.keys c.in-Ok.ensures.ordered c.in-Ok.ensures.updates.0
    c.in_ok-insert.ensures.keys c.in_ok-insert.ensures.ordered c.in_ok-insert.ensures.updates.0

pub invariant_of-self-in-Err : goal.invariant_of-self-in-Err
invariant_of-self-in-Err g c =
    let small_g : c.args.g < 2 ^ 32 = search rules in
    turned_back c.args.g c.args.s _ _ _ _ _ _ c.self.invariant small_g c.in-Err.ensures.err c.in-Err.ensures.absent
    c.in_ok-insert.ensures.keys c.in_ok-insert.ensures.ordered c.in_ok-insert.ensures.updates.0
    c.remove.ensures.keys c.remove.ensures.ordered c.remove.ensures.updates.0

pub returns-in-Ok-clause-added : goal.returns-in-Ok-clause-added
returns-in-Ok-clause-added g c = rw (← c.self.view_is) (updates_add _ _ _ _ c.in-Ok.ensures.updates.0)

pub returns-in-Ok-clause-lacked : goal.returns-in-Ok-clause-lacked
returns-in-Ok-clause-lacked g c = rw (← c.self.view_is, ← (holds_is c.args.g c.args.s c.self.inside.pairs.keys)) c.in-Ok.ensures.added
