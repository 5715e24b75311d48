use Rattle.std.proofs.Common.{refl}
use Rattle.reg_keep.specs.JournalWords.{disk_of}
use Rattle.reg_run.proofs.Crashing.{begins, begun_free, refused_same, taken_untouched}
use Rattle.reg_run.proofs.perform.init.Goals as goal

-- the journal was begun
pub returns-in-Ok-clause-did : goal.returns-in-Ok-clause-did
returns-in-Ok-clause-did g c w =
    let new = disk_of c.in-Ok.journal in
    let free = begun_free g.D.Disk c.args.disk new c.in-Ok.ensures.free in
    rw c.into_disk.ensures (record {
      ends = (c.in-Ok.ensures.empty, c.in-Ok.ensures.free, c.in-Ok.ensures.still);
      disk = record {
        begins = begins g.D.Disk 0 c.args.disk new c.in-Ok.ensures.crash (g.met.D.Disk.only_now c.args.disk) (λ is. (c.in-Ok.ensures.empty, c.in-Ok.ensures.durable)) free;
        taken = taken_untouched g.D.Disk c.args.disk new (g.met.D.Disk.only_now c.args.disk) free;
      };
      input = (refl, refl);
      output = (refl, refl, refl);
      clock = refl;
      net = refl;
    })

-- the file is taken
pub returns-in-Err-Exists-default-clause-did : goal.returns-in-Err-Exists-default-clause-did
returns-in-Err-Exists-default-clause-did g c w =
    let new = c.in-Err-Exists-default.disk in
    let e = c.in-Err-Exists-default.ensures in
    let same = refused_same g.D.Disk c.args.disk new e.untouched e.same_err in
    record {
      ends = (e.exists c.in-Err-Exists-default.field-0-0-is, e.still_exists c.in-Err-Exists-default.field-0-0-is);
      disk = record {
        begins = begins g.D.Disk 10 c.args.disk new e.crash_err (g.met.D.Disk.only_now c.args.disk) (λ is. absurd (cc)) same;
        taken = taken_untouched g.D.Disk c.args.disk new (g.met.D.Disk.only_now c.args.disk) same;
      };
      input = (refl, refl);
      output = (refl, refl, refl);
      clock = refl;
      net = refl;
    }

-- the disk failed
pub returns-in-Err-Fault-default-clause-did : goal.returns-in-Err-Fault-default-clause-did
returns-in-Err-Fault-default-clause-did g c w =
    let new = c.in-Err-Fault-default.disk in
    let e = c.in-Err-Fault-default.ensures in
    let same = refused_same g.D.Disk c.args.disk new e.untouched e.same_err in
    record {
      ends = e.fault c.in-Err-Fault-default.field-0-0-is;
      disk = record {
        begins = begins g.D.Disk 4 c.args.disk new e.crash_err (g.met.D.Disk.only_now c.args.disk) (λ is. absurd (cc)) same;
        taken = taken_untouched g.D.Disk c.args.disk new (g.met.D.Disk.only_now c.args.disk) same;
      };
      input = (refl, refl);
      output = (refl, refl, refl);
      clock = refl;
      net = refl;
    }
