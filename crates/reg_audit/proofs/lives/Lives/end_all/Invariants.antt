use Rattle.std.proofs.Common.{◌≡◌, drop, map}
use Rattle.reg_terms.specs.declared.kinds.Object.{Object}
use Rattle.reg_audit.specs.Kept.{life_in}
use Rattle.reg_audit.specs.Lives.{ended}
use Rattle.reg_audit.specs.declared.gone.Gone.{Gone}
use Rattle.reg_audit.proofs.lives.Lives.end_all.Given as goal

abbrev pub invariant-loop-one : goal.invariant-loop-one
invariant-loop-one l = (o : Object) → ended l.at (map (λ (g : Gone). g.object) (drop l.one-index l.gone)) o (life_in l.self o) ≡ ended l.at (map (λ (g : Gone). g.object) l.gone) o (life_in l.fn.self o)
