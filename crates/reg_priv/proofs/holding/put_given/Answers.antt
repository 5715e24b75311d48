use Rattle.std.proofs.Common.{rules, ◌≡◌, ◌∷◌, ◌∙◌, sym}
use Rattle.reg_priv.proofs.Gathering.{given_in}
use Rattle.reg_priv.proofs.holding.put_given.Goals as goal

pub loop-row-preserved-then-is_of : goal.loop-row-preserved-then-is_of
loop-row-preserved-then-is_of c =
    let e : c.loop-row.row-iterator ≡ c.in-Some.row.now ∷ c.next.new.self = search rules in
    λ x. given_in x c.in-Some.row.now c.args.object.now c.args.scope.now c.loop-row.found c.put.new.self _ _ c.in_ok-put.ensures (sym c.is.ensures ∙ c.if-is.true) (sym c.is_of.ensures ∙ c.if-is_of.true) (rw e at (c.loop-row.invariant x))
