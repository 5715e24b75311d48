use Rattle.std.proofs.Common.{◌≡◌, ◌<◌, take}
use Rattle.reg_session.specs.Together.{line_feeds}
use Rattle.reg_session.proofs.together.batch_end.Given as goal

-- the LFs so far were counted, and are fewer than the most
abbrev pub invariant-loop-at : goal.invariant-loop-at
invariant-loop-at l =
    record {
      count : l.ended ≡ line_feeds (take l.at l.bytes);
      few : l.ended < l.most;
    }
