use Rattle.std.proofs.Common.{◌≢◌, take}
use Rattle.std.specs.Prelude.{All}
use Rattle.reg_session.proofs.session.line_end.Given as goal

-- no byte so far is an LF
abbrev pub invariant-loop-at : goal.invariant-loop-at
invariant-loop-at l = All (λ b. b ≢ 10) (take l.at l.bytes)
