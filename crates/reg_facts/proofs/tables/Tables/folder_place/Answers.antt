use Rattle.std.proofs.Common.{◌∙◌, sym, ap, Some, None}
use Rattle.reg_facts.proofs.Frames.{place_up}
use Rattle.reg_facts.proofs.PlacedRows.{folder_by_row}
use Rattle.reg_facts.proofs.tables.Tables.folder_place.Goals as goal

pub returns-in-Some-parent : goal.returns-in-Some-parent
returns-in-Some-parent c =
    rw c.as_str.ensures (sym (ap (λ up. place_up c.args.id up c.in-Some.row.now.extension) c.in-Some-parent.is)
    ∙ folder_by_row c.args.id (Some c.in-Some.row.now) c.args.self.now c.requires (rw c.in-Some.is at c.folder.ensures))

pub returns-in-None-parent : goal.returns-in-None-parent
returns-in-None-parent c =
    sym (ap (λ up. place_up c.args.id up c.in-Some.row.now.extension) c.in-None-parent.is)
    ∙ folder_by_row c.args.id (Some c.in-Some.row.now) c.args.self.now c.requires (rw c.in-Some.is at c.folder.ensures)

pub returns-in-None : goal.returns-in-None
returns-in-None c = folder_by_row c.args.id None c.args.self.now c.requires (rw c.in-None.is at c.folder.ensures)
