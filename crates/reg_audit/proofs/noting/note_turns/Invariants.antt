use Rattle.std.proofs.Common.{◌≡◌, ℕ, drop, nat_le, if◌then◌else◌}
use Rattle.reg_effect.specs.Turned.{after_turns}
use Rattle.reg_pit.specs.Past.{was_member, NotedBy, KeepsGrants, KeepsWheel, KeepsAssigns}
use Rattle.reg_audit.proofs.noting.note_turns.Given as goal

abbrev pub invariant-loop-turn : goal.invariant-loop-turn
invariant-loop-turn l = record {
  noted : (g s t : ℕ) → (if nat_le l.at t then after_turns (drop l.turn-index l.turned) g s (was_member l.past g s t) else was_member l.past g s t) ≡ (if nat_le l.at t then after_turns l.turned g s (was_member l.fn.past g s t) else was_member l.fn.past g s t);
  grants : KeepsGrants l.fn.past l.past;
  wheel : KeepsWheel l.fn.past l.past;
  assigns : KeepsAssigns l.fn.past l.past;
  last : NotedBy l.at l.past;
}
