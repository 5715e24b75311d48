use Rattle.reg_keep.specs.JournalWords.{disk_of}
use Rattle.reg_run.proofs.Opened.{image_opens, bytes_open}
use Rattle.reg_run.proofs.perform.close.Goals as goal

-- each image opens to the history
pub returns-clause-images : goal.returns-clause-images
returns-clause-images g c image here =
    image_opens (g.D.Disk.may_leave (disk_of c.into_keeper.result)) c.args.service.state.history c.into_keeper.ensures.fronts c.into_keeper.ensures.leaves image (rw c.into_disk.ensures at here)

-- and so do the bytes
pub returns-clause-opens : goal.returns-clause-opens
returns-clause-opens g c =
    rw c.into_disk.ensures (bytes_open (g.D.Disk.contents (disk_of c.into_keeper.result)) (g.D.Disk.may_leave (disk_of c.into_keeper.result)) c.args.service.state.history (g.met.D.Disk.reads_now (disk_of c.into_keeper.result))
    (image_opens (g.D.Disk.may_leave (disk_of c.into_keeper.result)) c.args.service.state.history c.into_keeper.ensures.fronts c.into_keeper.ensures.leaves))
