use Rattle.std.proofs.Common.{◌≡◌, false, map, take}
use Rattle.httparse.specs.Spans.{header_bytes}
use Rattle.reg_http.specs.Fields.{closes}
use Rattle.reg_http.proofs.fields.closes.Given as goal

abbrev pub invariant-loop-field : goal.invariant-loop-field
invariant-loop-field l = closes (map (header_bytes l.bytes) (take l.field-index l.fields)) ≡ false
