use Rattle.std.proofs.Common.{refl}
use Rattle.reg_keep.proofs.Waits.{written_out, within_behind, later_behind, adds_joined, adds_behind, adds_alone, front_on}
use Rattle.reg_keep.proofs.gathering.Gathered.add.Goals as goal

pub returns-then-join-clause-added : goal.returns-then-join-clause-added
returns-then-join-clause-added g c = adds_joined c.args.piece.now c.args.self.now c.join.new.self _ c.requires.within (c.join.ensures.joined c.if-join.true)

pub returns-then-join-2-clause-added : goal.returns-then-join-2-clause-added
returns-then-join-2-clause-added g c =
    let w = written_out c.args.self.now c.join.new.self c.write_out.new.self c.write_out.new.self _ _ c.requires.within (c.join.ensures.full c.if-join.false) c.in_ok-write_out.ensures.none c.in_ok-write_out.ensures.written refl in
    adds_behind c.args.piece.now c.args.self.now c.write_out.new.self c.join-2.new.self _ _ w (c.join-2.ensures.joined c.if-join-2.true)

pub write_alone-requires-clause-within : goal.write_alone-requires-clause-within
write_alone-requires-clause-within g c =
    let w = written_out c.args.self.now c.join.new.self c.write_out.new.self c.join-2.new.self _ _ c.requires.within (c.join.ensures.full c.if-join.false) c.in_ok-write_out.ensures.none c.in_ok-write_out.ensures.written (c.join-2.ensures.full c.if-join-2.false) in
    within_behind c.args.self.now c.join-2.new.self _ _ w

pub returns-clause-added : goal.returns-clause-added
returns-clause-added g c =
    let w = written_out c.args.self.now c.join.new.self c.write_out.new.self c.join-2.new.self _ _ c.requires.within (c.join.ensures.full c.if-join.false) c.in_ok-write_out.ensures.none c.in_ok-write_out.ensures.written (c.join-2.ensures.full c.if-join-2.false) in
    adds_alone c.args.piece.now c.args.self.now c.join-2.new.self c.write_alone.new.self _ _ _ w c.in_ok-write_alone.ensures.next c.in_ok-write_alone.ensures.written

pub returns-in_err-write_alone-clause-crash : goal.returns-in_err-write_alone-clause-crash
returns-in_err-write_alone-clause-crash g c =
    let d = g.D.Disk in
    let stays = c.join.ensures.full c.if-join.false in
    let w = written_out c.args.self.now c.join.new.self c.write_out.new.self c.join-2.new.self _ _ c.requires.within stays c.in_ok-write_out.ensures.none c.in_ok-write_out.ensures.written (c.join-2.ensures.full c.if-join-2.false) in
    front_on d.moment d.may_leave d.left_since c.args.self.now.0 c.join-2.new.self _ _ _ (later_behind c.args.self.now c.join-2.new.self _ _ w) (rw stays at c.write_out.ensures.crash) c.write_alone.ensures.crash

pub returns-clause-crash : goal.returns-clause-crash
returns-clause-crash g c =
    let d = g.D.Disk in
    let stays = c.join.ensures.full c.if-join.false in
    let w = written_out c.args.self.now c.join.new.self c.write_out.new.self c.join-2.new.self _ _ c.requires.within stays c.in_ok-write_out.ensures.none c.in_ok-write_out.ensures.written (c.join-2.ensures.full c.if-join-2.false) in
    front_on d.moment d.may_leave d.left_since c.args.self.now.0 c.join-2.new.self _ _ _ (later_behind c.args.self.now c.join-2.new.self _ _ w) (rw stays at c.write_out.ensures.crash) c.write_alone.ensures.crash
