use Rattle.std.proofs.Common.{◌≡◌, ◌∙◌, ◌++◌, List, true, false, ap, sym}
use Rattle.reg_terms.specs.Placed.{values_of}
use Rattle.reg_terms.specs.Values.{has_value, without_first}
use Rattle.reg_terms.specs.declared.kinds.AttrValue.{AttrValue}
use Rattle.reg_terms.proofs.Placing.{gone_before, gone_behind}
use Rattle.reg_terms.proofs.attr_values.AttrValues.remove_first.Goals as goal

pub returns-then-is_among : goal.returns-then-is_among
returns-then-is_among c =
    let had : has_value c.args.value.now c.self.inside.few.items ≡ true = ap (has_value c.args.value.now) (sym c.deref.ensures.value) ∙ (sym c.is_among.ensures ∙ c.if-is_among.true) in
    ap (λ (xs : List AttrValue). xs ++ values_of c.self.inside.many) c.remove_first_of.ensures
    ∙ (sym (gone_before c.args.value.now c.self.inside.few.items (values_of c.self.inside.many) had) ∙ ap (without_first c.args.value.now) c.self.view_is)

pub returns-else-is_among : goal.returns-else-is_among
returns-else-is_among c =
    let none : has_value c.args.value.now c.self.inside.few.items ≡ false = ap (has_value c.args.value.now) (sym c.deref.ensures.value) ∙ (sym c.is_among.ensures ∙ c.if-is_among.false) in
    ap (λ (xs : List AttrValue). c.self.inside.few.items ++ xs) c.remove_first.ensures
    ∙ (sym (gone_behind c.args.value.now c.self.inside.few.items (values_of c.self.inside.many) none) ∙ ap (without_first c.args.value.now) c.self.view_is)
