use Rattle.std.proofs.Common.{rules, arith, ◌≡◌, ◌∙◌, ◌+◌, ◌++◌, ◌∷◌, ◌<◌, [], ℕ, suc, List, Some, drop, length, ap, sym}
use Rattle.std.proofs.Math.Seq.{drop-cons}
use Rattle.serde_json.specs.View.{items_view, view}
use Rattle.serde_json.specs.declared.value.Value.{Value}
use Rattle.reg_terms.specs.declared.shown.AssignShown.{AssignShown}
use Rattle.reg_json.specs.Taking.{all_of, assign_from}
use Rattle.reg_json.proofs.Takings.{after, taken_more}
use Rattle.reg_json.proofs.taken_attributes.assigns_of.Goals as goal

pub loop-item-preserved : goal.loop-item-preserved
loop-item-preserved c =
    let within : c.loop-item.item-index < length c.args.items.now = search rules in
    let next : suc c.loop-item.item-index ≡ c.loop-item.item-index + 1 = omega arith in
    let left = drop (c.loop-item.item-index + 1) c.args.items.now in
    let split : drop c.loop-item.item-index c.args.items.now ≡ c.item-item.result ∷ left =
    drop-cons c.args.items.now c.loop-item.item-index c.item-item.result within ∙ (ap (λ (x : Value). x ∷ drop (suc c.loop-item.item-index) c.args.items.now) (sym c.item-item.is) ∙ ap (λ (n : ℕ). c.item-item.result ∷ drop n c.args.items.now) next) in
    let read : assign_from (view c.item-item.result) ≡ Some c.in_ok-assign.assign = c.in_ok-assign.ensures in
    let rest = all_of assign_from (items_view left) in
    let more : after c.loop-item.assigns (all_of assign_from (items_view (drop c.loop-item.item-index c.args.items.now))) ≡ after (c.loop-item.assigns ++ c.in_ok-assign.assign ∷ []) rest =
    ap (λ (items : List Value). after c.loop-item.assigns (all_of assign_from (items_view items))) split ∙ taken_more assign_from c.loop-item.assigns c.in_ok-assign.assign (view c.item-item.result) (items_view left) read in
    c.loop-item.invariant ∙ (more ∙ ap (λ (xs : List AssignShown). after xs rest) (sym c.in_ok-push.ensures.ok))
