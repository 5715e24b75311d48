use Rattle.std.proofs.Common.{◌∙◌, [], sym, ap, map}
use Rattle.std.specs.Map.{values_of}
use Rattle.std.specs.BTreeMap.{values}
use Rattle.reg_table.proofs.Written.{written, plain, insert_plain, values_plain, order_written}
use Rattle.reg_table.proofs.table.Table.stamped.Goals as goal

-- one more is written
pub loop-stamped-preserved : goal.loop-stamped-preserved
loop-stamped-preserved g c =
    ap (λ es. written (map plain es) c.next.new.self) c.in_ok-insert.ensures.entries
    ∙ (ap (λ es. written es c.next.new.self) (insert_plain _ _ c.loop-stamped.found.entries)
    ∙ (ap (written (map plain c.loop-stamped.found.entries)) (sym c.in-Some.ensures.steps)
    ∙ c.loop-stamped.invariant))

-- all are written
pub returns : goal.returns
returns g c =
    values_plain c.loop-stamped.found.entries
    ∙ (ap values_of (ap (written (map plain c.loop-stamped.found.entries)) (sym c.in-None.ensures.steps.0) ∙ c.loop-stamped.invariant)
    ∙ (ap (λ es. values_of (written (map plain es) c.into_iter-stamped-iterator.result)) c.new-found.ensures.empty
    ∙ (ap (λ rows. values_of (written [] rows)) (c.into_iter-stamped-iterator.ensures.into_iter_gives ∙ c.values-stamped-items.ensures.rest)
    ∙ (order_written (values c.self.inside.rows) c.self.invariant.apart ∙ c.self.view_is))))
