use Rattle.std.proofs.Common.{sym, ◌∙◌}
use Rattle.reg_access.proofs.Finding.{added, passed}
use Rattle.reg_access.proofs.moments.push_moments.Goals as goal
use Rattle.reg_access.proofs.moments.push_moments.Goals.{in-Some+in_ok-push, in_default}

pub loop-value-preserved : goal.loop-value-preserved
loop-value-preserved c =
    elim c.match-moment_given.branch [
      | in-Some+in_ok-push w ↦ rw w.moments-is (added c.args.values.now c.loop-value.value-index c.value-item.result c.loop-value-test.true c.value-item.is
          c.args.moments.now.items c.loop-value.moments.items w.push.new.self.items w.in-Some.moment c.loop-value.invariant (sym c.moment_given.ensures ∙ w.in-Some.is) w.in_ok-push.ensures.items)
      | in_default w ↦ rw w.moments-is (passed c.args.values.now c.loop-value.value-index c.value-item.result c.loop-value-test.true c.value-item.is
          c.args.moments.now.items c.loop-value.moments.items c.loop-value.invariant (sym c.moment_given.ensures ∙ w.in_default.is))
    ]
