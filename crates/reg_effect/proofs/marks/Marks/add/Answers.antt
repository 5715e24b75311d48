use Rattle.std.proofs.Common.{rules, ◌<◌, ◌^◌}
use Rattle.reg_graph.proofs.Kept.{updates_add, kept_add}
use Rattle.reg_effect.proofs.marks.Marks.add.Goals as goal

pub invariant_of-self-2 : goal.invariant_of-self-2
invariant_of-self-2 c =
    let small : c.args.s < 2 ^ 32 = search rules in
    kept_add _ _ _ _ c.self.invariant c.in_ok-insert.ensures.keys c.in_ok-insert.ensures.ordered small

pub returns : goal.returns
returns c = rw (← c.self.view_is) (updates_add _ _ _ _ c.in_ok-insert.ensures.updates.0)
