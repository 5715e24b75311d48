use Rattle.std.proofs.Common.{ℕ, Bool, ◌||◌, take}
use Rattle.reg_prov.specs.Notes.{AreNoted, OthersStay, reached}
use Rattle.reg_prov.specs.Spans.{limits_of, wished}
use Rattle.reg_prov.proofs.noting.note_spans.Given as goal

abbrev pub invariant-loop-span : goal.invariant-loop-span
invariant-loop-span l =
    ((test : ℕ → Bool) → AreNoted (wished l.grants l.members) l.boundaries l.pair.group l.pair.subject test l.initial.turns
    → AreNoted (wished l.grants l.members) l.boundaries l.pair.group l.pair.subject (λ n. test n || reached l.boundaries n (limits_of (take l.span-index l.spans))) l.turns)
    × OthersStay l.pair.group l.pair.subject l.initial.turns l.turns
