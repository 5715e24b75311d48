use Rattle.std.proofs.Common.{not, filter}
use Rattle.reg_terms.specs.Rows.{is_row}
use Rattle.reg_terms.specs.declared.rows.MemberRow.{MemberRow}
use Rattle.reg_current.proofs.ComingRows.{windowed_finds}
use Rattle.reg_current.proofs.RowFound.{on_ok}
use Rattle.reg_current.proofs.redating.window_member.Goals as goal

pub returns : goal.returns
returns c =
    on_ok c.add_row.result c.add_row.ensures (λ more. windowed_finds _ c.args.clock c.args.row.now.from c.args.row.now.until c.args.row.now.group c.args.row.now.member c.args.facts.now.rows c.args.facts.now.grants c.requires.there
    (more (filter (λ (row : MemberRow). not (is_row c.args.row.now.group c.args.row.now.member row)) c.args.facts.now.rows) c.args.facts.now.grants c.drop_member.ensures))
