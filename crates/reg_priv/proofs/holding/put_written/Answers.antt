use Rattle.std.proofs.Common.{rules, ◌≡◌, ◌∷◌, ◌∙◌, sym}
use Rattle.reg_priv.proofs.Gathering.{written_in}
use Rattle.reg_priv.proofs.holding.put_written.Goals as goal

pub loop-row-preserved-in-Continue-1 : goal.loop-row-preserved-in-Continue-1
loop-row-preserved-in-Continue-1 c =
    let e : c.loop-row.row-iterator ≡ c.in-Some.row.now ∷ c.next.new.self = search rules in
    λ x. written_in x c.in-Some.row.now c.loop-row.found c.put.new.self _ _ c.in_ok-put.ensures (sym c.has_begun.ensures ∙ c.if-has_begun.true) (rw e at (c.loop-row.invariant x))
