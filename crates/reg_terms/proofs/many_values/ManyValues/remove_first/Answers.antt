use Rattle.std.proofs.Common.{◌≡◌, ◌∙◌, Some, ap, filter, not, option_copied, rules, sym}
use Rattle.reg_terms.specs.declared.many_values.PlacedValue.{PlacedValue}
use Rattle.reg_terms.specs.Placed.{values_of}
use Rattle.reg_terms.proofs.Placing.{first_gone, first_in, is_placed, left_placed, none_gone, none_had}
use Rattle.reg_terms.proofs.many_values.ManyValues.remove_first.Goals as goal

-- none is this one
pub returns-in_default : goal.returns-in_default
returns-in_default c = sym (none_gone c.args.value.now (values_of c.args.self.now) (none_had c.args.value.now c.args.self.now (sym c.first.ensures ∙ ap option_copied c.in_default.is)))

pub invariant_of-self : goal.invariant_of-self
invariant_of-self c =
    let left : c.remove.new.self ≡ filter (λ (p : PlacedValue). not (is_placed c.in-Some.placed.now.digest c.in-Some.placed.now.number p)) c.self.inside.rows = search rules in
    rw left (left_placed (λ (p : PlacedValue). not (is_placed c.in-Some.placed.now.digest c.in-Some.placed.now.number p)) c.self.inside.next c.self.inside.rows c.self.invariant)

pub returns : goal.returns
returns c =
    let left : c.remove.new.self ≡ filter (λ (p : PlacedValue). not (is_placed c.in-Some.placed.now.digest c.in-Some.placed.now.number p)) c.self.inside.rows = search rules in
    let found : first_in c.args.value.now c.self.inside.rows ≡ Some c.in-Some.placed.now = ap (first_in c.args.value.now) c.self.view_is ∙ (sym c.first.ensures ∙ ap option_copied c.in-Some.is) in
    rw (left, ← c.self.view_is) (first_gone c.args.value.now c.in-Some.placed.now c.self.inside.next c.self.inside.rows c.self.invariant found)
