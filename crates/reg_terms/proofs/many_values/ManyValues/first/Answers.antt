use Rattle.std.proofs.Common.{◌≡◌, ◌==◌, ◌∙◌, ap, filter, rules, sym}
use Rattle.reg_table.specs.Keyed.{in_order}
use Rattle.reg_terms.specs.declared.many_values.PlacedValue.{PlacedValue}
use Rattle.reg_terms.proofs.Placing.{first_here, first_in, first_is, placed_order}
use Rattle.reg_terms.proofs.many_values.ManyValues.first.Goals as goal

pub returns-then-is : goal.returns-then-is
returns-then-is c =
    let rows : c.rows_of-placed-items.result ≡ in_order placed_order (filter (λ (p : PlacedValue). p.digest == c.digest.result) c.self.inside.rows) = search rules in
    sym (first_here c.args.value.now c.in-Some.placed.now c.next.new.self (sym c.is.ensures ∙ c.if-is.true))
    ∙ (ap (first_in c.args.value.now) (sym c.in-Some.ensures.steps)
    ∙ (c.loop-placed.invariant
    ∙ (ap (first_in c.args.value.now) (c.into_iter-placed-iterator.ensures.into_iter_gives ∙ rows)
    ∙ (first_is c.args.value.now c.digest.result c.self.inside.next c.self.inside.rows c.self.invariant c.digest.ensures.is
    ∙ ap (first_in c.args.value.now) c.self.view_is))))

pub returns : goal.returns
returns c =
    let rows : c.rows_of-placed-items.result ≡ in_order placed_order (filter (λ (p : PlacedValue). p.digest == c.digest.result) c.self.inside.rows) = search rules in
    ap (first_in c.args.value.now) (sym c.in-None.ensures.steps.0)
    ∙ (c.loop-placed.invariant
    ∙ (ap (first_in c.args.value.now) (c.into_iter-placed-iterator.ensures.into_iter_gives ∙ rows)
    ∙ (first_is c.args.value.now c.digest.result c.self.inside.next c.self.inside.rows c.self.invariant c.digest.ensures.is
    ∙ ap (first_in c.args.value.now) c.self.view_is)))
