use Rattle.std.proofs.Common.{◌≡◌, ◌+◌, ◌≤◌, length, is_some}
use Rattle.reg_outside.specs.Disk.{Changes}
use Rattle.reg_keep.specs.Settled.{SameFront}
use Rattle.reg_keep.specs.Waiting.{IsWithin, end_of, with_waiting}
use Rattle.reg_keep.proofs.Framing.{Filling}
use Rattle.reg_keep.proofs.writing.write_frames.Given as goal

-- with those that wait the frames so far are written
abbrev pub invariant-frames : goal.invariant-frames
invariant-frames g l =
    let d = g.D.Disk in
    record {
      filling : Filling l.gate l.first l.rest (d.contents l.fn.disk) l.left (with_waiting l.frames (d.contents l.disk)) (end_of l.frames);
      within : IsWithin l.frames (d.contents l.disk);
      later : l.gate + 1 ≤ l.frames.0;
      crash : Changes d.moment d.may_leave d.left_since (SameFront (l.gate + 1)) l.fn.disk l.disk;
      object : d.name l.disk ≡ d.name l.fn.disk;
      told : is_some (d.contents l.disk) ≡ is_some (d.contents l.fn.disk);
      still : d.faults l.disk ≡ d.faults l.fn.disk;
    }

abbrev pub decreases-frames : goal.decreases-frames
decreases-frames g l = length l.left
