use Rattle.std.proofs.Common.{◌≡◌, ◌∙◌, ℕ, List, Some, None, sym, ap, filter, map, rules}
use Rattle.std.specs.List.{find}
use Rattle.std.specs.Option.{option_copied}
use Rattle.reg_table.specs.Keyed.{in_order}
use Rattle.reg_terms.specs.Digests.{digest}
use Rattle.reg_terms.specs.declared.kinds.AttrValue.{AttrValue}
use Rattle.reg_pit.specs.Lives.{is_numbered, is_open, first_open, standing_of, AreValues}
use Rattle.reg_pit.specs.declared.value_lives.Standing.{Standing}
use Rattle.reg_pit.specs.declared.value_lives.ValueLife.{ValueLife}
use Rattle.reg_pit.proofs.Numbered.{is_of, seek, seek_here, seek_past, seek_none, first_sought, standing_order, standing_in_order}
use Rattle.reg_pit.proofs.value_lives.ValueLives.first.Goals as goal

pub loop-standing-preserved-else-is : goal.loop-standing-preserved-else-is
loop-standing-preserved-else-is c =
    let found : find (is_numbered c.args.assign c.in-Some.standing.now.number) c.self.inside.values ≡ Some c.in-Some-get.life.now = sym c.get.ensures ∙ ap option_copied c.in-Some-get.is in
    sym (seek_past c.args.assign c.args.value.now c.self.inside.values c.in-Some.standing.now c.next.new.self c.in-Some-get.life.now found (sym c.is.ensures ∙ c.if-is.false))
    ∙ (ap (seek c.args.assign c.args.value.now c.self.inside.values) (sym c.in-Some.ensures.steps) ∙ c.loop-standing.invariant)

pub loop-standing-preserved : goal.loop-standing-preserved
loop-standing-preserved c =
    let none : find (is_numbered c.args.assign c.in-Some.standing.now.number) c.self.inside.values ≡ None = sym c.get.ensures ∙ ap option_copied c.in_default.is in
    sym (seek_none c.args.assign c.args.value.now c.self.inside.values c.in-Some.standing.now c.next.new.self none)
    ∙ (ap (seek c.args.assign c.args.value.now c.self.inside.values) (sym c.in-Some.ensures.steps) ∙ c.loop-standing.invariant)

-- the first of those that stand is the first of all that have no end
whole : (a d : ℕ) (v : AttrValue) (values self : List ValueLife) (standing items : List Standing) (next : ℕ) → AreValues values standing next → d ≡ digest v → values ≡ self
    → items ≡ in_order standing_order (filter (is_of a d) standing) → seek a v values items ≡ first_open a v self
whole a d v values self standing items next h of view rows =
    ap (seek a v values) (rows ∙ (ap (λ (ss : List Standing). in_order standing_order (filter (is_of a d) ss)) h.known ∙ (standing_in_order a d values h.rising ∙ ap (λ n. filter (is_of a n) (map standing_of (filter is_open values))) of)))
    ∙ (first_sought a v values h.rising ∙ ap (first_open a v) view)

pub returns-then-is : goal.returns-then-is
returns-then-is c =
    let rows : c.rows_of-standing-items.result ≡ in_order standing_order (filter (is_of c.args.assign c.digest.result) c.self.inside.standing) = search rules in
    let found : find (is_numbered c.args.assign c.in-Some.standing.now.number) c.self.inside.values ≡ Some c.in-Some-get.life.now = sym c.get.ensures ∙ ap option_copied c.in-Some-get.is in
    sym (seek_here c.args.assign c.args.value.now c.self.inside.values c.in-Some.standing.now c.next.new.self c.in-Some-get.life.now found (sym c.is.ensures ∙ c.if-is.true))
    ∙ (ap (seek c.args.assign c.args.value.now c.self.inside.values) (sym c.in-Some.ensures.steps)
    ∙ (c.loop-standing.invariant
    ∙ whole c.args.assign c.digest.result c.args.value.now c.self.inside.values c.args.self.now c.self.inside.standing c.into_iter-standing-iterator.result c.self.inside.next c.self.invariant c.digest.ensures.is c.self.view_is (c.into_iter-standing-iterator.ensures.into_iter_gives ∙ rows)))

pub returns : goal.returns
returns c =
    let rows : c.rows_of-standing-items.result ≡ in_order standing_order (filter (is_of c.args.assign c.digest.result) c.self.inside.standing) = search rules in
    ap (seek c.args.assign c.args.value.now c.self.inside.values) (sym c.in-None.ensures.steps.0)
    ∙ (c.loop-standing.invariant
    ∙ whole c.args.assign c.digest.result c.args.value.now c.self.inside.values c.args.self.now c.self.inside.standing c.into_iter-standing-iterator.result c.self.inside.next c.self.invariant c.digest.ensures.is c.self.view_is (c.into_iter-standing-iterator.ensures.into_iter_gives ∙ rows))
