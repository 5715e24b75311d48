use Rattle.std.proofs.Common.{◌≡◌, ◌≤◌, length, drop, false}
use Rattle.std.specs.List.{All}
use Rattle.reg_base.specs.Names.{is_colon}
use Rattle.reg_base.proofs.name_parts.extension_start.Given as goal

-- no byte from here on is a colon
abbrev pub invariant-loop-start : goal.invariant-loop-start
invariant-loop-start l = (l.start ≤ length l.text) × All (λ b. is_colon b ≡ false) (drop l.start l.text)

abbrev pub decreases-loop-start : goal.decreases-loop-start
decreases-loop-start l = l.start
