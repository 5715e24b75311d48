use Rattle.std.proofs.Common.{rules, ◌≡◌, ◌∷◌}
use Rattle.reg_json.proofs.Arrays.{item_step}
use Rattle.reg_json.proofs.array.place_items.Goals as goal

pub loop-text-preserved : goal.loop-text-preserved
loop-text-preserved c =
    let before = c.loop-text in
    let next : before.pieces ≡ c.in-Some.text.now ∷ c.next.new.self = search rules in
    item_step c.args.room.now before.room c.place_item-at.new.room c.args.start before.at c.place_item-at.result before.later before.rest.now c.split_at.result.1.now c.in-Some.text.now c.next.new.self c.args.texts.now (rw next at before.invariant) c.split_at.ensures.back c.place_item-at.ensures
