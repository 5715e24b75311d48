use Rattle.std.proofs.Common.{◌≡◌, ◌∷◌, option_map, IfSome, subst, sym, ◌∙◌, ap}
use Rattle.std.proofs.lemmas.Result.{on_ok_weaker, on_err_weaker}
use Rattle.reg_outside.specs.Disk.{Leaves}
use Rattle.reg_keep.specs.Frames.{with_frames}
use Rattle.reg_keep.specs.Flag.{going_of}
use Rattle.reg_keep.specs.JournalWords.{disk_of, payloads_of}
use Rattle.reg_keep.specs.Keeping.{AreAllOrNone, IsAllOrNone}
use Rattle.reg_keep.specs.Settled.{IsBeforeOrAll}
use Rattle.reg_keep.specs.Stops.{Stop}
use Rattle.reg_keep.proofs.DiskCrash.{now_too}
use Rattle.reg_keep.proofs.Faults.{sound_all, told_front, stops_front}
use Rattle.reg_keep.proofs.Spelled.{told_spelled}
use Rattle.reg_keep.proofs.journal.JournalKeeper.append_all.Goals as goal

pub returns-clause-spelled : goal.returns-clause-spelled
returns-clause-spelled g c =
    let d = g.D.Disk in
    let is = ap (λ b. b ∷ c.in-Some.rest.now) c.bytes.ensures ∙ sym c.in-Some.ensures.cases.0 in
    on_ok_weaker c.add.result
    (λ w. λ ps short held. told_spelled ps c.args.more.now _ _ short (subst (λ l. d.contents (disk_of c.add.new.self) ≡ option_map (λ file. with_frames file l) (d.contents (disk_of c.args.self.now))) is w) held)
    c.add.ensures.written

pub returns-clause-failed : goal.returns-clause-failed
returns-clause-failed g c =
    let is = ap (λ b. b ∷ c.in-Some.rest.now) c.bytes.ensures ∙ sym c.in-Some.ensures.cases.0 in
    on_err_weaker c.add.result
    (λ f. told_front c.args.more.now _ _ (subst (λ l. AreAllOrNone (payloads_of c.args.self.now) l (payloads_of c.add.new.self)) is f))
    c.add.ensures.failed

pub returns-clause-whole : goal.returns-clause-whole
returns-clause-whole g c =
    let d = g.D.Disk in
    let is = ap (λ b. b ∷ c.in-Some.rest.now) c.bytes.ensures ∙ sym c.in-Some.ensures.cases.0 in
    subst (λ l. IfSome (payloads_of c.args.self.now) (λ ps. Leaves (λ j. d.moment (disk_of j)) (λ j t. Stop (d.left_since (disk_of j) t)) (IsAllOrNone ps l) c.args.self.now c.add.new.self)) is c.add.ensures.any_moment

pub returns-clause-any_moment : goal.returns-clause-any_moment
returns-clause-any_moment g c =
    let d = g.D.Disk in
    stops_front (λ j. d.moment (disk_of j)) (λ j t. Stop (d.left_since (disk_of j) t)) c.args.more.now _ _ _ (returns-clause-whole g c)

pub returns-clause-sound : goal.returns-clause-sound
returns-clause-sound g c =
    let d = g.D.Disk in
    let new = disk_of c.add.new.self in
    let is = ap (λ b. b ∷ c.in-Some.rest.now) c.bytes.ensures ∙ sym c.in-Some.ensures.cases.0 in
    sound_all c.args.self.now.gate c.args.more.now _ _ (d.may_leave new) (going_of _ _ _ _ (c.args.self.now.kept c.requires.going)).settled.rest (g.met.D.Disk.reads_now new)
    (now_too d.moment d.may_leave d.left_since _ c.args.self.now.disk new (g.met.D.Disk.counts_now new)
    (subst (λ l. Leaves d.moment d.left_since (IsBeforeOrAll (d.contents (disk_of c.args.self.now)) l) (disk_of c.args.self.now) new) is c.add.ensures.images))
