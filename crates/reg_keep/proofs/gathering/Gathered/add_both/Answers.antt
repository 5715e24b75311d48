use Rattle.std.proofs.lemmas.Result.{on_ok_weaker}
use Rattle.reg_keep.proofs.Waits.{adds_both, front_on}
use Rattle.reg_keep.proofs.gathering.Gathered.add_both.Goals as goal

pub returns-clause-added : goal.returns-clause-added
returns-clause-added g c = on_ok_weaker c.add-2.result (λ second. adds_both c.args.one.now c.args.two.now c.args.self.now c.add.new.self c.add-2.new.self _ _ _ c.requires.within c.in_ok-add.ensures.added second) c.add-2.ensures.added

pub returns-clause-crash : goal.returns-clause-crash
returns-clause-crash g c =
    let d = g.D.Disk in
    front_on d.moment d.may_leave d.left_since c.args.self.now.0 c.add.new.self _ _ _ c.in_ok-add.ensures.added.later c.add.ensures.crash c.add-2.ensures.crash
