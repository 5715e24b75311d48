use Rattle.std.proofs.Common.{◌≡◌, map, take}
use Rattle.reg_pit.specs.Lives.{gone_if}
use Rattle.reg_pit.proofs.Ending.{is_among}
use Rattle.reg_pit.proofs.assign_lives.AssignLives.end_on.Given as goal

-- those whose ids were gone through have ended
abbrev pub invariant-loop-id : goal.invariant-loop-id
invariant-loop-id l = l.after ≡ map (gone_if (is_among l.owner (take l.id-index l.id-items)) l.at) l.initial.after
