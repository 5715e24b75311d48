use Rattle.std.proofs.Common.{◌≡◌, ◌∙◌, sym, ap, Some, None}
use Rattle.std.specs.Prelude.{option_and_then}
use Rattle.std.specs.Option.{option_copied}
use Rattle.reg_terms.specs.declared.rows.FolderRow.{FolderRow}
use Rattle.reg_facts.specs.Rows.{folder_row}
use Rattle.reg_priv.proofs.Parents.{parent_by_row}
use Rattle.reg_audit.proofs.held.parent.Goals as goal

pub returns-in-Some : goal.returns-in-Some
returns-in-Some c =
    let e : Some c.in-Some.row.now ≡ folder_row c.args.folder c.args.facts.now.folders = ap option_copied (sym c.in-Some.is) ∙ c.folder.ensures in
    ap (option_and_then (λ (row : FolderRow). row.parent)) e ∙ parent_by_row c.args.folder c.args.facts.now.folders

pub returns-in-None : goal.returns-in-None
returns-in-None c =
    let e : None ≡ folder_row c.args.folder c.args.facts.now.folders = ap option_copied (sym c.in-None.is) ∙ c.folder.ensures in
    ap (option_and_then (λ (row : FolderRow). row.parent)) e ∙ parent_by_row c.args.folder c.args.facts.now.folders
