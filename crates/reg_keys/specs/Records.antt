-- The commands that are kept.
use Rattle.std.specs.Prelude.{List, map}
use Rattle.reg_keys.specs.declared.records.Records.{Records}
use Rattle.reg_keys.specs.Kept.{Kept, kept_by}

-- the commands that are kept, in the order in which they came
abbrev pub kept : Records → List Kept
kept records = map (kept_by records.bytes.items) records.entries.items
