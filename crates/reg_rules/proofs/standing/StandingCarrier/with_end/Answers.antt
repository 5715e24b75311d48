use Rattle.std.proofs.Common.{◌∙◌, ap, subst, sym}
use Rattle.reg_effect.specs.declared.live.Live.{Live}
use Rattle.reg_effect.specs.Turned.{Remembers}
use Rattle.reg_rules.specs.Live.{Now, live_now, IsOnSince}
use Rattle.reg_rules.proofs.Acting.{live_ended, on_stands, since_on}
use Rattle.reg_rules.proofs.standing.StandingCarrier.with_end.Goals as goal

pub set_until-requires : goal.set_until-requires
set_until-requires g c =
    let now : Now = record { clock = c.self.inside.at; facts = c.self.inside.facts } in
    let on : IsOnSince now c.args.group c.args.person c.args.from = subst (λ (n : Now). IsOnSince n c.args.group c.args.person c.args.from) (sym c.self.view_is) c.requires.on in
    on_stands now c.args.group c.args.person (since_on now c.args.group c.args.person c.args.from on)

pub invariant_of-result : goal.invariant_of-result
invariant_of-result g c =
    let now : Now = record { clock = c.self.inside.at; facts = c.self.inside.facts } in
    let on : IsOnSince now c.args.group c.args.person c.args.from = subst (λ (n : Now). IsOnSince n c.args.group c.args.person c.args.from) (sym c.self.view_is) c.requires.on in
    c.self.invariant ∙ sym (live_ended now c.args.group c.args.person c.args.from c.args.until c.in_ok-facts.facts c.law_sound.ensures.rows_once on c.in_ok-facts.ensures)

pub returns-clause-told : goal.returns-clause-told
returns-clause-told g c M h =
    let now : Now = record { clock = c.self.inside.at; facts = c.self.inside.facts } in
    let on : IsOnSince now c.args.group c.args.person c.args.from = subst (λ (n : Now). IsOnSince n c.args.group c.args.person c.args.from) (sym c.self.view_is) c.requires.on in
    subst (λ (L : Live). Remembers M L c.args.turned.now) (ap (λ (n : Now). live_now n) (sym c.self.view_is) ∙ sym (live_ended now c.args.group c.args.person c.args.from c.args.until c.in_ok-facts.facts c.law_sound.ensures.rows_once on c.in_ok-facts.ensures)) h
