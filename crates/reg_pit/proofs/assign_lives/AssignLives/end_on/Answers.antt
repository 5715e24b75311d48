use Rattle.std.proofs.Common.{◌≡◌, ◌∙◌, ◌+◌, ◌||◌, ℕ, List, map, take, length, sym, ap, arith}
use Rattle.std.proofs.Math.Seq.{take-length}
use Rattle.std.proofs.lemmas.List.Folds.{list_any_more}
use Rattle.std.specs.List.{list_any}
use Rattle.reg_pit.specs.Lives.{gone_if, is_life}
use Rattle.reg_pit.proofs.Ending.{is_among, none_among, among_more, all_end}
use Rattle.reg_pit.proofs.assign_lives.AssignLives.end_on.Goals as goal

pub loop-id-init : goal.loop-id-init
loop-id-init c = none_among c.args.owner c.args.at c.args.self

pub loop-id-preserved : goal.loop-id-preserved
loop-id-preserved c =
    c.end_of.ensures
    ∙ (ap (map (gone_if (is_life c.args.owner c.id-item.result) c.args.at)) c.loop-id.invariant
    ∙ among_more c.args.owner c.id-item.result c.args.at (take c.loop-id.id-index c.deref-id-items.result.now) (take (c.loop-id.id-index + 1) c.deref-id-items.result.now) c.args.self
    (λ p. list_any_more p c.deref-id-items.result.now c.loop-id.id-index c.id-item.result c.loop-id-test.true ∙ ap (λ (x : ℕ). list_any p (take c.loop-id.id-index c.deref-id-items.result.now) || p x) (sym c.id-item.is)))

-- all of them have ended
pub returns : goal.returns
returns c =
    let whole : c.loop-id.id-index ≡ length c.deref-id-items.result.now = omega (arith, c.loop-id-test.false, c.loop-id.auto.id-index-end) in
    let all : take c.loop-id.id-index c.deref-id-items.result.now ≡ c.in_ok-ids.ids.items = rw (whole, take-length) c.deref-id-items.ensures.value in
    c.loop-id.invariant ∙ (ap (λ (ids : List ℕ). map (gone_if (is_among c.args.owner ids) c.args.at) c.args.self) (all ∙ c.in_ok-ids.ensures) ∙ all_end c.args.owner c.args.at c.args.self)
