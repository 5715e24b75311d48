use Rattle.std.proofs.Common.{◌∷◌}
use Rattle.reg_keep.proofs.DiskCrash.{now_too}
use Rattle.reg_keep.specs.Flag.{going_of}
use Rattle.reg_keep.specs.JournalWords.{disk_of}
use Rattle.reg_keep.proofs.Faults.{told_all, stops_all}
use Rattle.reg_keep.proofs.Left.{left_of}
use Rattle.reg_keep.proofs.journal.Journal.add.Goals as goal

pub append_or_count-requires-clause-left : goal.append_or_count-requires-clause-left
append_or_count-requires-clause-left g c =
    let going = going_of _ _ _ _ (c.args.self.now.kept c.requires.going) in
    left_of c.args.self.now.gate c.args.self.now.size _ going.long going.settled.rest

pub returns-in-Err-clause-failed : goal.returns-in-Err-clause-failed
returns-in-Err-clause-failed g c =
    let d = g.D.Disk in
    told_all c.args.self.now.gate (c.args.first.now ∷ c.args.rest.now) _ _ (d.may_leave c.append_or_count.new.disk) (going_of _ _ _ _ (c.args.self.now.kept c.requires.going)).settled.rest c.append_or_count.ensures.told (g.met.D.Disk.reads_now c.append_or_count.new.disk)
    (now_too d.moment d.may_leave d.left_since _ c.args.self.now.disk c.append_or_count.new.disk (g.met.D.Disk.counts_now c.append_or_count.new.disk) c.append_or_count.ensures.any_moment)

pub returns-in-Err-clause-any_moment : goal.returns-in-Err-clause-any_moment
returns-in-Err-clause-any_moment g c =
    let d = g.D.Disk in
    stops_all d.moment d.left_since (λ j. disk_of j) c.args.self.now.gate (c.args.first.now ∷ c.args.rest.now) _ c.args.self.now _ (going_of _ _ _ _ (c.args.self.now.kept c.requires.going)).settled.rest c.append_or_count.ensures.any_moment

pub returns-in-Ok-clause-any_moment : goal.returns-in-Ok-clause-any_moment
returns-in-Ok-clause-any_moment g c =
    let d = g.D.Disk in
    stops_all d.moment d.left_since (λ j. disk_of j) c.args.self.now.gate (c.args.first.now ∷ c.args.rest.now) _ c.args.self.now _ (going_of _ _ _ _ (c.args.self.now.kept c.requires.going)).settled.rest c.append_or_count.ensures.any_moment
