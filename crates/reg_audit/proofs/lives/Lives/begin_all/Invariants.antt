use Rattle.std.proofs.Common.{◌≡◌, drop}
use Rattle.reg_terms.specs.declared.kinds.Object.{Object}
use Rattle.reg_audit.specs.Kept.{life_in}
use Rattle.reg_audit.specs.Lives.{begun}
use Rattle.reg_audit.proofs.lives.Lives.begin_all.Given as goal

abbrev pub invariant-loop-object : goal.invariant-loop-object
invariant-loop-object l = (o : Object) → begun l.at (drop l.object-index l.made) o (life_in l.self o) ≡ begun l.at l.made o (life_in l.fn.self o)
