use Rattle.std.proofs.Common.{◌≡◌, ◌≤◌, length, is_some}
use Rattle.reg_outside.specs.Disk.{Changes}
use Rattle.reg_keep.specs.Frames.{payloads_of_records}
use Rattle.reg_keep.specs.Settled.{SameFront}
use Rattle.reg_keep.specs.Waiting.{IsWithin, end_of, with_waiting}
use Rattle.reg_keep.proofs.Framing.{Filling}
use Rattle.reg_keep.proofs.fill.write_records.Given as goal

-- with those that wait the frames so far are written
abbrev pub invariant-frames : goal.invariant-frames
invariant-frames g l =
    let d = g.D.Disk in
    record {
      filling : Filling 8 l.fn.first (payloads_of_records l.fn.rest) (d.contents l.fn.disk) (payloads_of_records l.rest) (with_waiting l.frames (d.contents l.disk)) (end_of l.frames);
      within : IsWithin l.frames (d.contents l.disk);
      later : 9 ≤ l.frames.0;
      crash : Changes d.moment d.may_leave d.left_since (SameFront 9) l.fn.disk l.disk;
      object : d.name l.disk ≡ d.name l.fn.disk;
      told : is_some (d.contents l.disk) ≡ is_some (d.contents l.fn.disk);
      still : d.faults l.disk ≡ d.faults l.fn.disk;
    }

abbrev pub decreases-frames : goal.decreases-frames
decreases-frames g l = length l.rest
