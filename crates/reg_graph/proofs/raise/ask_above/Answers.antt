use Rattle.std.proofs.Common.{◌≡◌, ◌+◌, ◌∷◌, ◌++◌, [], ℕ, List, take, get_or, true}
use Rattle.std.proofs.lemmas.List.{take_more}
use Rattle.reg_graph.specs.Edges.{among}
use Rattle.reg_graph.specs.Levels.{level_of}
use Rattle.reg_graph.proofs.Asks.{asks_one, asks_none, among_at}
use Rattle.reg_graph.proofs.raise.ask_above.Goals.{then-old-level+in_ok-ask, else-old-level}
use Rattle.reg_graph.proofs.raise.ask_above.Goals as goal

pub loop-higher-preserved : goal.loop-higher-preserved
loop-higher-preserved c =
    let items : List ℕ = c.deref-higher-items.result.now in
    let h : ℕ = get_or items c.loop-higher.higher-index 0 in
    let t : take (c.loop-higher.higher-index + 1) items ≡ take c.loop-higher.higher-index items ++ h ∷ [] = take_more items c.loop-higher.higher-index 0 c.loop-higher-test.true in
    let here : among h items ≡ true = among_at items c.loop-higher.higher-index c.loop-higher-test.true in
    elim c.if-old-level.branch [
      | then-old-level+in_ok-ask w ↦
          rw (w.pending-is, t) (asks_one (level_of c.args.levels.now) c.args.level (take c.loop-higher.higher-index items) items c.args.pending.now.entries c.loop-higher.pending.entries c.loop-higher.invariant
          w.ask.new.pending.entries h c.in-Some.next here c.in-Some.ensures.1 (rw c.of-old.ensures at w.in_ok-ask.ensures.level) (rw c.of-old.ensures at w.in_ok-ask.ensures.written))
      | else-old-level w ↦
          rw (w.pending-is, t) (asks_none (level_of c.args.levels.now) c.args.level (take c.loop-higher.higher-index items) items c.args.pending.now.entries c.loop-higher.pending.entries c.loop-higher.invariant
          h (rw c.of-old.ensures at w.if-old-level.false))
    ]
