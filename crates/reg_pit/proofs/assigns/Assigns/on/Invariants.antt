use Rattle.std.proofs.Common.{◌≡◌, ◌++◌, map, filter}
use Rattle.reg_pit.specs.Lives.{had, row_of, values_at}
use Rattle.reg_pit.proofs.assigns.Assigns.on.Given as goal

-- the rows so far, and those of the lives that are left, are all
abbrev pub invariant-loop-life : goal.invariant-loop-life
invariant-loop-life l =
    l.rows.items ++ map (row_of (λ a. values_at l.fn.self.1 a l.fn.t)) (filter (had l.fn.t) l.life-iterator) ≡ map (row_of (λ a. values_at l.fn.self.1 a l.fn.t)) (filter (had l.fn.t) l.initial.life-iterator)
