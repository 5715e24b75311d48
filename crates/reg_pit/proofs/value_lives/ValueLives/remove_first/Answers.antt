use Rattle.std.proofs.Common.{◌≡◌, ◌∙◌, List, Some, None, sym, ap, filter, not, rules}
use Rattle.std.specs.Option.{option_copied}
use Rattle.reg_terms.specs.Digests.{digest}
use Rattle.reg_pit.specs.Lives.{first_open, values_at}
use Rattle.reg_pit.specs.declared.value_lives.Standing.{Standing}
use Rattle.reg_pit.specs.declared.value_lives.ValueLife.{ValueLife}
use Rattle.reg_pit.proofs.Numbered.{is_standing, closed_is, none_first, values_closed}
use Rattle.reg_pit.proofs.Valued.{first_closed, first_removed, less_by}
use Rattle.reg_pit.proofs.value_lives.ValueLives.remove_first.Goals as goal

-- none is this one
pub returns-in_default-clause-removed : goal.returns-in_default-clause-removed
returns-in_default-clause-removed c a t =
    let none : first_open c.args.assign c.args.value c.args.self.now ≡ None = sym c.first.ensures ∙ ap option_copied c.in_default.is in
    ap (λ (values : List ValueLife). values_at values a t) (sym (none_first c.args.at c.args.assign c.args.value c.args.self.now none))
    ∙ first_removed c.args.at c.args.assign c.args.value c.args.self.now a t c.requires

pub invariant_of-self : goal.invariant_of-self
invariant_of-self c =
    let found : first_open c.args.assign c.args.value c.self.inside.values ≡ Some c.in-Some.life.now = ap (first_open c.args.assign c.args.value) c.self.view_is ∙ (sym c.first.ensures ∙ ap option_copied c.in-Some.is) in
    let closed : c.close.new.values ≡ first_closed c.args.at c.args.assign c.args.value c.self.inside.values = c.close.ensures ∙ closed_is c.args.at c.args.assign c.args.value c.self.inside.values c.in-Some.life.now c.self.invariant.rising found in
    let left : c.remove.new.self ≡ filter (λ (s : Standing). not (is_standing c.args.assign (digest c.args.value) c.in-Some.life.now.number s)) c.self.inside.standing = search rules in
    rw (closed, left) (values_closed c.args.at c.args.assign c.args.value c.self.inside.values c.self.inside.standing c.self.inside.next c.in-Some.life.now c.self.invariant found)

pub returns-clause-removed : goal.returns-clause-removed
returns-clause-removed c a t =
    let found : first_open c.args.assign c.args.value c.self.inside.values ≡ Some c.in-Some.life.now = ap (first_open c.args.assign c.args.value) c.self.view_is ∙ (sym c.first.ensures ∙ ap option_copied c.in-Some.is) in
    let closed : c.close.new.values ≡ first_closed c.args.at c.args.assign c.args.value c.self.inside.values = c.close.ensures ∙ closed_is c.args.at c.args.assign c.args.value c.self.inside.values c.in-Some.life.now c.self.invariant.rising found in
    ap (λ (values : List ValueLife). values_at values a t) (closed ∙ ap (first_closed c.args.at c.args.assign c.args.value) c.self.view_is) ∙ first_removed c.args.at c.args.assign c.args.value c.args.self.now a t c.requires

pub returns-clause-last : goal.returns-clause-last
returns-clause-last c =
    let found : first_open c.args.assign c.args.value c.self.inside.values ≡ Some c.in-Some.life.now = ap (first_open c.args.assign c.args.value) c.self.view_is ∙ (sym c.first.ensures ∙ ap option_copied c.in-Some.is) in
    let closed : c.close.new.values ≡ first_closed c.args.at c.args.assign c.args.value c.self.inside.values = c.close.ensures ∙ closed_is c.args.at c.args.assign c.args.value c.self.inside.values c.in-Some.life.now c.self.invariant.rising found in
    rw (closed, c.self.view_is) (less_by c.args.at c.args.assign c.args.value c.args.self.now c.requires)
