use Rattle.std.proofs.Common.{◌≡◌, ◌∙◌, [], drop, nat_le, sym}
use Rattle.std.proofs.lemmas.List.{drop_all}
use Rattle.reg_audit.proofs.Changing.{keeps_more}
use Rattle.reg_audit.proofs.Turning.{turn_noted, both_ways}
use Rattle.reg_audit.proofs.noting.note_turns.Goals as goal

pub loop-turn-preserved : goal.loop-turn-preserved
loop-turn-preserved c = record {
  noted = λ g s t. turn_noted c.args.turned.now c.loop-turn.turn-index c.turn-item.result c.args.at t g s _ _ c.loop-turn-test.true c.turn-item.is (c.in_ok-past.ensures.noted g s t) ∙ c.loop-turn.invariant.noted g s t;
  grants = λ o p h t. c.in_ok-past.ensures.grants o p h t ∙ c.loop-turn.invariant.grants o p h t;
  assigns = keeps_more c.args.past c.loop-turn.past c.in_ok-past.past c.loop-turn.invariant.assigns c.in_ok-past.ensures.assigns;
  wheel = λ t. c.in_ok-past.ensures.wheel t ∙ c.loop-turn.invariant.wheel t;
  last = c.in_ok-past.ensures.last;
}

pub returns-clause-noted : goal.returns-clause-noted
returns-clause-noted c g s t =
    let none : drop c.loop-turn.turn-index c.args.turned.now ≡ [] = drop_all c.loop-turn.turn-index c.args.turned.now c.loop-turn-test.false in
    sym (both_ways (nat_le c.args.at t) _) ∙ (rw none at (c.loop-turn.invariant.noted g s t))
