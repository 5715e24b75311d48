use Rattle.std.proofs.Common.{◌≡◌, ◌∙◌, ◌+◌, ◌∷◌, ◌++◌, [], ℕ, List, take, take_all, get_or, refl}
use Rattle.std.proofs.lemmas.List.{take_more}
use Rattle.reg_graph.specs.Levels.{level_of}
use Rattle.reg_graph.proofs.Kept.{updates_add}
use Rattle.reg_graph.proofs.Climbing.{await_more}
use Rattle.reg_graph.proofs.dag.await_above.Goals as goal

pub loop-higher-preserved : goal.loop-higher-preserved
loop-higher-preserved c =
    let items : List ℕ = c.deref-higher-items.result.now in
    let h : ℕ = get_or items c.loop-higher.higher-index 0 in
    let t : take (c.loop-higher.higher-index + 1) items ≡ take c.loop-higher.higher-index items ++ h ∷ [] = take_more items c.loop-higher.higher-index 0 c.loop-higher-test.true in
    rw t (await_more (level_of c.args.levels.now) (take c.loop-higher.higher-index items) c.args.pending.now.keys c.loop-higher.pending.keys c.insert.new.self.keys h c.loop-higher.invariant
    (rw c.of.ensures at (updates_add c.of.result h c.loop-higher.pending.keys c.insert.new.self.keys c.in_ok-insert.ensures.updates.0)))

pub returns : goal.returns
returns c = λ l q.
    let all : take c.loop-higher.higher-index c.deref-higher-items.result.now ≡ c.in_ok-above.above.items = take_all c.loop-higher.higher-index c.deref-higher-items.result.now c.loop-higher-test.false ∙ c.deref-higher-items.ensures.value in
    c.loop-higher.invariant l q ∙ rw (all, c.in_ok-above.ensures q) refl
