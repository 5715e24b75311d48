use Rattle.std.proofs.Common.{◌≡◌, ◌∙◌, [], length, ap, sym}
use Rattle.std.proofs.lemmas.Bool.{eqb-true}
use Rattle.reg_effect.specs.Deltas.{ended}
use Rattle.reg_rules.proofs.Rounds.{none_left}
use Rattle.reg_current.specs.Live.{live}
use Rattle.reg_current.proofs.Acting.{none_follow, none_stand}
use Rattle.reg_current.proofs.settling.settled.Goals as goal

-- no membership ended
pub returns-then-is_empty-clause-stands : goal.returns-then-is_empty-clause-stands
returns-then-is_empty-clause-stands g c M h =
    let none : c.in-Ok.ended ≡ [] = none_left c.in-Ok.ended (ap length (sym c.list.ensures) ∙ eqb-true (length c.list.result.now) 0 (sym c.is_empty.ensures ∙ c.if-is_empty.true)) in
    none_stand (ended M (live c.args.current.clock c.args.current.facts)) c.args.current (sym (c.in-Ok.ensures.ended M h) ∙ none)

pub returns-then-is_empty-clause-actions : goal.returns-then-is_empty-clause-actions
returns-then-is_empty-clause-actions g c M h =
    let none : c.in-Ok.ended ≡ [] = none_left c.in-Ok.ended (ap length (sym c.list.ensures) ∙ eqb-true (length c.list.result.now) 0 (sym c.is_empty.ensures ∙ c.if-is_empty.true)) in
    c.new.ensures.items ∙ sym (none_follow (ended M (live c.args.current.clock c.args.current.facts)) c.args.current.clock c.args.current.facts (sym (c.in-Ok.ensures.ended M h) ∙ none))
