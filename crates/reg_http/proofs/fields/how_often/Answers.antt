use Rattle.std.proofs.Common.{sym}
use Rattle.httparse.specs.Spans.{header_bytes}
use Rattle.reg_http.proofs.Lists.{values_more_yes, values_more_no}
use Rattle.reg_http.proofs.fields.how_often.Goals.{then-same_name, else-same_name}
use Rattle.reg_http.proofs.fields.how_often.Goals as goal

pub loop-field-preserved : goal.loop-field-preserved
loop-field-preserved c = elim c.if-same_name.branch [
  | then-same_name w ↦
      let named = rw c.of.ensures at (sym w.if-same_name.ensures) in
      let values = values_more_yes c.args.name.now (header_bytes c.args.bytes.now) c.args.fields.now c.loop-field.field-index _ c.loop-field-test.true named in
      rw (w.found-is, values) (w.more-found.ensures c.args.bytes.now _ c.loop-field.invariant (c.requires c.loop-field.field-index _ c.loop-field-test.true).1)
  | else-same_name w ↦
      let named = rw c.of.ensures at (sym w.if-same_name.ensures) in
      let values = values_more_no c.args.name.now (header_bytes c.args.bytes.now) c.args.fields.now c.loop-field.field-index _ c.loop-field-test.true named in
      rw (w.found-is, values) c.loop-field.invariant
]
