use Rattle.std.proofs.Common.{◌≡◌, ◌∷◌, ◌++◌, [], ℕ, List, max, rules}
use Rattle.reg_graph.specs.Levels.{level_of, planned, target, IsRising}
use Rattle.reg_graph.proofs.Levelling.{raise_last, raise_total}
use Rattle.reg_graph.proofs.Rising.{rising_last}
use Rattle.reg_graph.proofs.raise.raise.Goals as goal

pub loop-group-preserved : goal.loop-group-preserved
loop-group-preserved c =
    let x : ℕ = c.in-Some.group in
    let v : ℕ = c.in-Some.level in
    let rest : List (ℕ × ℕ) = c.pop.new.self.items in
    let cut : c.loop-group.plan.items ≡ rest ++ (x, v) ∷ [] = search rules in
    let is : c.max-level.result ≡ max (level_of c.loop-group.levels x) v = rw c.of.ensures at c.max-level.ensures in
    let rising : IsRising (level_of c.args.levels.now) (rest ++ (x, v) ∷ []) = rw cut at c.loop-group.invariant.rising in
    let total : (q : ℕ) → max (level_of c.loop-group.levels q) (planned (rest ++ (x, v) ∷ []) q) ≡ target (level_of c.args.levels.now) c.in_ok-plan.plan.items q = λ q. rw cut at (c.loop-group.invariant.total q) in
    record {
      levelled = raise_last c.args.edges.now c.loop-group.levels c.set.new.self (level_of c.args.levels.now) (target (level_of c.args.levels.now) c.in_ok-plan.plan.items) rest x v c.max-level.result
          c.loop-group.invariant.levelled c.requires.falls c.in_ok-plan.ensures.falls rising total is c.in_ok-set.ensures.level c.in_ok-set.ensures.written;
      total = raise_total c.loop-group.levels c.set.new.self (target (level_of c.args.levels.now) c.in_ok-plan.plan.items) rest x v c.max-level.result total is c.in_ok-set.ensures.level;
      rising = (rising_last (level_of c.args.levels.now) rest x v rising).0;
    }
