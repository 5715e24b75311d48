use Rattle.std.proofs.Common.{◌≡◌}
use Rattle.std.specs.List.{flat_map}
use Rattle.reg_table.specs.Keyed.{in_order, put_into}
use Rattle.reg_access.specs.Spoken.{spoken}
use Rattle.reg_access.specs.Statements.{statement_cmp}
use Rattle.reg_access.proofs.Later.{later}
use Rattle.reg_access.proofs.spoken.statements_on.Given as goal

-- what later assignments add
abbrev pub invariant-loop-before : goal.invariant-loop-before
invariant-loop-before l =
    put_into statement_cmp l.found.keys (flat_map (spoken l.resource l.action l.facts.attributes) (later l.before l.facts.assigns))
    ≡ in_order statement_cmp (flat_map (spoken l.resource l.action l.facts.attributes) l.facts.assigns)
