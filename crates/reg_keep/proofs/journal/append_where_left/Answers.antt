use Rattle.std.proofs.Common.{◌∷◌, subst}
use Rattle.reg_outside.specs.Disk.{Leaves}
use Rattle.reg_keep.specs.Settled.{IsBeforeOrAll}
use Rattle.reg_keep.proofs.Left.{as_left, not_both, settled_still, leaves_both, looked}
use Rattle.reg_keep.proofs.journal.append_where_left.Goals as goal

pub append_frames-requires-clause-settled : goal.append_frames-requires-clause-settled
append_frames-requires-clause-settled g c =
    let d = g.D.Disk in
    settled_still d.moment d.may_leave d.left_since c.args.gate _ _ _ _ (c.requires.settled (as_left c.args.gate c.args.size _ _ c.in_ok-ends_as_left.ensures.left c.if-not-branch.false)) c.ends_as_left.ensures.same c.ends_as_left.ensures.crash

pub returns-in_err-ends_as_left-clause-any_moment : goal.returns-in_err-ends_as_left-clause-any_moment
returns-in_err-ends_as_left-clause-any_moment g c =
    let d = g.D.Disk in
    λ left. looked d.moment d.may_leave d.left_since c.args.gate c.args.first.now c.args.rest.now _ _ _ (g.met.D.Disk.only_now c.args.disk.now) (c.requires.settled left) c.ends_as_left.ensures.crash

pub returns-then-not-branch-clause-any_moment : goal.returns-then-not-branch-clause-any_moment
returns-then-not-branch-clause-any_moment g c =
    let d = g.D.Disk in
    λ left. looked d.moment d.may_leave d.left_since c.args.gate c.args.first.now c.args.rest.now _ _ _ (g.met.D.Disk.only_now c.args.disk.now) (c.requires.settled left) c.ends_as_left.ensures.crash

pub returns-in_err-next-clause-any_moment : goal.returns-in_err-next-clause-any_moment
returns-in_err-next-clause-any_moment g c =
    let d = g.D.Disk in
    λ left. leaves_both d.moment d.may_leave d.left_since (IsBeforeOrAll (d.contents c.args.disk.now) (c.args.first.now ∷ c.args.rest.now)) c.args.disk.now c.ends_as_left.new.disk c.append_frames.new.disk
    (looked d.moment d.may_leave d.left_since c.args.gate c.args.first.now c.args.rest.now _ _ _ (g.met.D.Disk.only_now c.args.disk.now) (c.requires.settled left) c.ends_as_left.ensures.crash)
    (subst (λ o. Leaves d.moment d.left_since (IsBeforeOrAll o (c.args.first.now ∷ c.args.rest.now)) c.ends_as_left.new.disk c.append_frames.new.disk) c.ends_as_left.ensures.same c.append_frames.ensures.any_moment)

pub returns-clause-any_moment : goal.returns-clause-any_moment
returns-clause-any_moment g c =
    let d = g.D.Disk in
    λ left. leaves_both d.moment d.may_leave d.left_since (IsBeforeOrAll (d.contents c.args.disk.now) (c.args.first.now ∷ c.args.rest.now)) c.args.disk.now c.ends_as_left.new.disk c.append_frames.new.disk
    (looked d.moment d.may_leave d.left_since c.args.gate c.args.first.now c.args.rest.now _ _ _ (g.met.D.Disk.only_now c.args.disk.now) (c.requires.settled left) c.ends_as_left.ensures.crash)
    (subst (λ o. Leaves d.moment d.left_since (IsBeforeOrAll o (c.args.first.now ∷ c.args.rest.now)) c.ends_as_left.new.disk c.append_frames.new.disk) c.ends_as_left.ensures.same c.append_frames.ensures.any_moment)

pub returns-in_err-next-clause-refused : goal.returns-in_err-next-clause-refused
returns-in_err-next-clause-refused g c = not_both _ c.args.gate c.args.size _ (as_left c.args.gate c.args.size _ _ c.in_ok-ends_as_left.ensures.left c.if-not-branch.false)

pub returns-in_err-next-clause-same : goal.returns-in_err-next-clause-same
returns-in_err-next-clause-same g c = not_both _ c.args.gate c.args.size _ (as_left c.args.gate c.args.size _ _ c.in_ok-ends_as_left.ensures.left c.if-not-branch.false)

pub returns-in_err-next-clause-untouched : goal.returns-in_err-next-clause-untouched
returns-in_err-next-clause-untouched g c = not_both _ c.args.gate c.args.size _ (as_left c.args.gate c.args.size _ _ c.in_ok-ends_as_left.ensures.left c.if-not-branch.false)

pub returns-clause-refused : goal.returns-clause-refused
returns-clause-refused g c = not_both _ c.args.gate c.args.size _ (as_left c.args.gate c.args.size _ _ c.in_ok-ends_as_left.ensures.left c.if-not-branch.false)

pub returns-clause-same : goal.returns-clause-same
returns-clause-same g c = not_both _ c.args.gate c.args.size _ (as_left c.args.gate c.args.size _ _ c.in_ok-ends_as_left.ensures.left c.if-not-branch.false)

pub returns-clause-untouched : goal.returns-clause-untouched
returns-clause-untouched g c = not_both _ c.args.gate c.args.size _ (as_left c.args.gate c.args.size _ _ c.in_ok-ends_as_left.ensures.left c.if-not-branch.false)
