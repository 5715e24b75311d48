use Rattle.std.proofs.Common.{◌≤◌, ◌+◌, ◌*◌, ℕ, Bool, List, drop, length}
use Rattle.reg_graph.specs.Sets.{holds}
use Rattle.reg_graph.specs.Edges.{InputsFirst}
use Rattle.reg_effect.specs.Edges.{edges}
use Rattle.reg_effect.specs.Bound.{leaving}
use Rattle.reg_effect.specs.Walk.{begins, ends, climb}
use Rattle.reg_effect.proofs.Walking.{Walked, Marked}
use Rattle.reg_effect.proofs.walk.walk.Given as goal

abbrev pub invariant-loop-x : goal.invariant-loop-x
invariant-loop-x g l =
    let rest : List ℕ = drop l.x-index l.x-items in
    let was : ℕ → ℕ → Bool = λ y q. holds y q l.fn.sets in
    record {
      sets : Walked was l.live l.g rest (λ y q. holds y q l.sets);
      began : Marked begins was l.live l.g rest (λ y q. holds y q l.began);
      ended : Marked ends was l.live l.g rest (λ y q. holds y q l.ended);
      first : InputsFirst (edges l.live) rest;
      cost : l.steps + length l.changed.items * climb (edges l.live) l.g rest ≤ l.fn.steps + length l.asked * (leaving (edges l.live) l.g + 2) + length l.changed.items * climb (edges l.live) l.g l.x-items;
    }
