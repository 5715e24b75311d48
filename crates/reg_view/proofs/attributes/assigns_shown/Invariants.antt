use Rattle.std.proofs.Common.{◌≡◌, ◌++◌}
use Rattle.std.specs.Vec.Iter.{into_iter_items}
use Rattle.reg_view.specs.Past.{past_at}
use Rattle.reg_view.specs.View.{assigns_shown}
use Rattle.reg_view.proofs.attributes.assigns_shown.Given as goal

-- those so far, and those of what is left
abbrev pub invariant-loop-row : goal.invariant-loop-row
invariant-loop-row g l =
    let readable = assigns_shown (past_at l.machine) (g.K.Kept.held l.kept) l.facts l.who in
    l.shown ++ readable (into_iter_items l.row-iterator) ≡ readable (into_iter_items l.initial.row-iterator)
