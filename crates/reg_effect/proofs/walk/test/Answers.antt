use Rattle.std.proofs.Common.{◌∙◌, ℕ, Bool}
use Rattle.reg_graph.specs.Sets.{holds}
use Rattle.reg_effect.proofs.Own.{by_rows}
use Rattle.reg_effect.proofs.walk.test.Goals as goal

pub returns-then-has-clause-value : goal.returns-then-has-clause-value
returns-then-has-clause-value g c =
    let M : ℕ → Bool = λ h. holds h c.args.s c.args.sets.now in
    rw c.if-has.true at (by_rows M c.args.live.now c.args.g c.args.s c.of.result c.has.result c.of.ensures c.in_default.is c.has.ensures)

pub returns-clause-value : goal.returns-clause-value
returns-clause-value g c =
    let M : ℕ → Bool = λ h. holds h c.args.s c.args.sets.now in
    c.any_nested.ensures.value ∙ (rw c.if-has.false at (by_rows M c.args.live.now c.args.g c.args.s c.of.result c.has.result c.of.ensures c.in_default.is c.has.ensures))
