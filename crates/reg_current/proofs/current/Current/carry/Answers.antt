use Rattle.std.proofs.Common.{◌≡◌, ◌∙◌, ap, subst, sym}
use Rattle.reg_effect.specs.declared.live.Live.{Live}
use Rattle.reg_effect.specs.Turned.{Remembers}
use Rattle.reg_current.specs.Invariant.{Now}
use Rattle.reg_current.specs.Live.{live}
use Rattle.reg_current.proofs.Carrying.{carried, carrying_suits, holds_now}
use Rattle.reg_current.proofs.current.Current.carry.Goals as goal

pub carry_beside-carried-requires-clause-suit : goal.carry_beside-carried-requires-clause-suit
carry_beside-carried-requires-clause-suit g c =
    carrying_suits c.current.inside.moment c.args.event c.current.inside.facts (g.K.Kept.held c.current.inside.sets) c.current.inside.graph c.current.inside.dates c.current.invariant c.law_sound.ensures c.acyclic.ensures
    (holds_now c.current.inside.moment c.current.inside.facts c.args.self c.args.event c.current.view_is c.requires)

pub invariant_of-current : goal.invariant_of-current
invariant_of-current g c =
    carried c.current.inside.moment c.args.event c.current.inside.facts c.in-Ok-taken.facts (g.K.Kept.held c.current.inside.sets) (g.K.Kept.held c.in-Ok.sets) c.current.inside.graph c.carry_beside-carried.new.graph c.current.inside.dates c.carry_beside-carried.new.dates c.current.invariant
    (holds_now c.current.inside.moment c.current.inside.facts c.args.self c.args.event c.current.view_is c.requires) c.in-Ok-taken.ensures c.in-Ok.ensures.held c.in-Ok.ensures.edges c.in-Ok.ensures.coming

pub returns-clause-told : goal.returns-clause-told
returns-clause-told g c M h =
    let after =
    carried c.current.inside.moment c.args.event c.current.inside.facts c.in-Ok-taken.facts (g.K.Kept.held c.current.inside.sets) (g.K.Kept.held c.in-Ok.sets) c.current.inside.graph c.carry_beside-carried.new.graph c.current.inside.dates c.carry_beside-carried.new.dates c.current.invariant
    (holds_now c.current.inside.moment c.current.inside.facts c.args.self c.args.event c.current.view_is c.requires) c.in-Ok-taken.ensures c.in-Ok.ensures.held c.in-Ok.ensures.edges c.in-Ok.ensures.coming in
    let before : live c.args.self.clock c.args.self.facts ≡ g.K.Kept.held c.current.inside.sets = ap (λ (n : Now). live n.clock n.facts) (sym c.current.view_is) ∙ sym c.current.invariant.sets in
    subst (λ (L : Live). Remembers M L c.carry_beside-carried.new.turned) after.sets (c.in-Ok.ensures.told M (subst (λ (L : Live). Remembers M L c.args.turned.now) before h))
