use Rattle.std.proofs.Common.{◌∙◌}
use Rattle.reg_current.proofs.DatedPlaces.{small_removed, fewer, kept_at, none_left}
use Rattle.reg_current.proofs.dated_rows.DatedRows.forget.Goals as goal

pub invariant_of-self : goal.invariant_of-self
invariant_of-self c = record { are_small = small_removed _ c.loop-row.self.rows c.remove.new.self c.remove.ensures.keys c.loop-row.self.are_small }

pub loop-row-preserved : goal.loop-row-preserved
loop-row-preserved c d g m other = kept_at c.loop-row.self.rows c.remove.new.self c.in-Some.row c.args.date c.in-Some.ensures.0 c.remove.ensures.updates d g m other ∙ c.loop-row.invariant d g m other

pub loop-row-smaller : goal.loop-row-smaller
loop-row-smaller c = fewer c.remove.result _ _ c.loop-row.self.rows c.in-Some.row c.in-Some.ensures.1 c.remove.ensures.test c.remove.ensures.len

pub returns : goal.returns
returns c = none_left c.loop-row.self c.args.self.now c.args.date c.in_default.ensures c.loop-row.invariant
