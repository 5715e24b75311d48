use Rattle.reg_export.proofs.Whole.{line_reads}
use Rattle.reg_export.proofs.line.command_text.Goals as goal

pub returns-clause-object : goal.returns-clause-object
returns-clause-object c =
    line_reads c.args.number c.args.place c.args.made c.args.stamped.now c.in_ok-bytes.bytes.items c.ranges.number.fits c.ranges.place.fits c.law_id_is_whole.ensures c.law_command_is_whole.ensures
    c.in_ok-bytes.ensures.utf8 c.in_ok-bytes.ensures.text
