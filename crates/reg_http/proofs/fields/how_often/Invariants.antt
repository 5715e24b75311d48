use Rattle.std.proofs.Common.{map, take}
use Rattle.httparse.specs.Spans.{header_bytes}
use Rattle.reg_http.specs.Fields.{values_named}
use Rattle.reg_http.specs.Standings.{IsStanding}
use Rattle.reg_http.proofs.fields.how_often.Given as goal

abbrev pub invariant-loop-field : goal.invariant-loop-field
invariant-loop-field l = IsStanding l.bytes (values_named l.name (map (header_bytes l.bytes) (take l.field-index l.fields))) l.found
