use Rattle.std.proofs.Common.{◌<◌, ◌≤◌, ◌∙◌, length, sym, arith}
use Rattle.reg_prov.proofs.Lines.{all_moments, moment_added, never_past}
use Rattle.reg_prov.proofs.moments.moments_of.Goals.{in-Some+in_ok-push, in_default}
use Rattle.reg_prov.proofs.moments.moments_of.Goals as goal

pub loop-before-preserved : goal.loop-before-preserved
loop-before-preserved c =
    elim c.match-moment_of.branch [
      | in-Some+in_ok-push w ↦ rw (w.moments-is, w.in_ok-push.ensures.items, c.loop-before.invariant)
          (moment_added c.args.log.now c.loop-before.before w.in-Some.moment (sym w.in-Some.is ∙ c.moment_of.ensures))
      | in_default w ↦
          let inside : c.loop-before.before < length c.args.log.now = omega arith in
          absurd (never_past c.args.log.now c.loop-before.before inside (sym w.in_default.is ∙ c.moment_of.ensures))
    ]

pub returns : goal.returns
returns c =
    let past : length c.args.log.now ≤ c.loop-before.before = omega arith in
    c.loop-before.invariant ∙ all_moments c.args.log.now c.loop-before.before past
