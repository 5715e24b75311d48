use Rattle.std.proofs.Common.{◌≡◌, ◌∙◌, ap}
use Rattle.reg_effect.specs.declared.live.Live.{Live}
use Rattle.reg_effect.specs.Turned.{turns}
use Rattle.reg_rules.specs.Live.{live_now}
use Rattle.reg_rules.specs.Settling.{gains, losses}
use Rattle.reg_rules.proofs.Losing.{gains_began, losses_ended}
use Rattle.reg_rules.proofs.Outcomes.{in_step}
use Rattle.reg_rules.proofs.settling.next_round.Goals as goal

pub returns-clause-round : goal.returns-clause-round
returns-clause-round g c =
    let L : Live = live_now (g.C.Carrier.stands c.args.carrier) in
    let N : Live = live_now (g.C.Carrier.stands c.in_ok-carrier.carrier) in
    let all : c.deref.result.now ≡ turns L N = c.deref.ensures.value ∙ c.in_ok-turns.ensures L (c.in_ok-carrier.ensures.told L (c.new-in_round.ensures L)) in
    in_step _ _ _ _ _ c.args.turned.now c.add.new.self
    (λ M h. c.in_ok-add.ensures M L N h (c.in_ok-delta.ensures.began ∙ (ap gains all ∙ gains_began L N)) (c.in_ok-delta.ensures.ended ∙ (ap losses all ∙ losses_ended L N)))
    c.in_ok-carrier.ensures

pub returns-clause-ended : goal.returns-clause-ended
returns-clause-ended g c =
    let L : Live = live_now (g.C.Carrier.stands c.args.carrier) in
    let N : Live = live_now (g.C.Carrier.stands c.in_ok-carrier.carrier) in
    let all : c.deref.result.now ≡ turns L N = c.deref.ensures.value ∙ c.in_ok-turns.ensures L (c.in_ok-carrier.ensures.told L (c.new-in_round.ensures L)) in
    c.in_ok-delta.ensures.ended ∙ (ap losses all ∙ losses_ended L N)
