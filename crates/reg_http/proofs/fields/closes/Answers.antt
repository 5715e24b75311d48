use Rattle.std.proofs.Common.{sym, ◌&&◌}
use Rattle.std.specs.Prelude.{codes}
use Rattle.std.proofs.lemmas.Bool.{and_from}
use Rattle.httparse.specs.Spans.{header_bytes}
use Rattle.reg_http.specs.Fields.{is_named, lists_close}
use Rattle.reg_http.proofs.Lists.{any_at}
use Rattle.reg_http.proofs.fields.closes.Goals as goal

pub returns-then-lists_close : goal.returns-then-lists_close
returns-then-lists_close c =
    let named = rw c.of.ensures at (sym c.if-same_name.ensures) in
    let listed = rw c.of-then-same_name.ensures at (sym c.if-lists_close.ensures) in
    sym (any_at (λ field. is_named (codes "connection") field && lists_close field.1) (header_bytes c.args.bytes.now) c.args.fields.now _ _ c.loop-field-test.true (and_from _ _ named listed))
