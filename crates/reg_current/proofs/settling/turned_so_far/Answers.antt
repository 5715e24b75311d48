use Rattle.std.proofs.Common.{◌≡◌, ◌∙◌, ap}
use Rattle.reg_effect.specs.Turned.{turns}
use Rattle.reg_rules.specs.Settling.{losses}
use Rattle.reg_rules.proofs.Losing.{losses_ended}
use Rattle.reg_current.specs.Live.{live}
use Rattle.reg_current.proofs.settling.turned_so_far.Goals as goal

pub returns-clause-ended : goal.returns-clause-ended
returns-clause-ended g c M h =
    let all : c.in_ok-turns.turns.items ≡ turns M (live c.args.current.now.clock c.args.current.now.facts) = (rw c.kept.ensures at c.in_ok-turns.ensures) M h in
    c.in_ok-ended.ensures ∙ (ap losses (c.deref.ensures.value ∙ all) ∙ losses_ended M (live c.args.current.now.clock c.args.current.now.facts))
