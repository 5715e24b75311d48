use Rattle.std.proofs.Common.{◌≡◌, ◌∷◌, ◌∙◌, ◌+◌, ap, drop, get_or, false, refl, rules}
use Rattle.std.proofs.lemmas.List.{drop_more}
use Rattle.reg_load.specs.PersonRows.{comes_twice}
use Rattle.reg_load.specs.Sets.{holds}
use Rattle.reg_load.proofs.Found.{none_seen, twice_next}
use Rattle.reg_load.proofs.row_set.comes_twice.Goals as goal

pub loop-row-init : goal.loop-row-init
loop-row-init c = rw (none_seen (holds c.in_ok-seen.seen) c.in_ok-seen.ensures c.args.rows.now) refl

-- a row that wasn't seen is seen from then on
pub loop-row-preserved : goal.loop-row-preserved
loop-row-preserved c =
    let rest = drop (c.loop-row.row-index + 1) c.args.rows.now in
    let here : get_or c.args.rows.now c.loop-row.row-index c.row-item.result ≡ c.row-item.result = search rules in
    let next : drop c.loop-row.row-index c.args.rows.now ≡ c.row-item.result ∷ rest = drop_more c.args.rows.now c.loop-row.row-index c.row-item.result c.loop-row-test.true ∙ ap (λ row. row ∷ rest) here in
    let new : holds c.loop-row.seen c.row-item.result ≡ false = search rules in
    twice_next (holds c.loop-row.seen) (holds c.add.new.self) c.row-item.result rest (comes_twice c.args.rows.now) c.in_ok-fresh.ensures.added new (rw next at c.loop-row.invariant)
