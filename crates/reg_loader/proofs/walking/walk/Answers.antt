use Rattle.std.proofs.Common.{◌≡◌, ◌∙◌, ◌+◌, ◌++◌, ◌∷◌, [], ap, sym, take, length, map, arith}
use Rattle.std.specs.Prelude.{string_bytes}
use Rattle.std.proofs.lemmas.List.{length-take-le, take_more}
use Rattle.reg_loader.specs.declared.tables.TableRow.{TableRow}
use Rattle.reg_loader.specs.Mentions.{mention}
use Rattle.reg_loader.proofs.Steps.{counted}
use Rattle.reg_loader.proofs.walking.walk.Goals as goal

pub take-requires-clause-unknown : goal.take-requires-clause-unknown
take-requires-clause-unknown c =
    let w = c.loop-row.walked in
    let so_far = take c.loop-row.row-index c.args.rows.now in
    let long : length so_far ≡ c.loop-row.row-index = length-take-le c.loop-row.row-index c.args.rows.now (omega (arith, c.loop-row-test.true)) in
    let most = counted c.args.job.now c.args.facts.now so_far (map (λ t. string_bytes t) w.names.keys) w.wanted.keys w.bad_group w.unknown w.repeated c.loop-row.invariant.walked in
    omega (arith, long, c.loop-row-test.true, most.1)

pub take-requires-clause-repeated : goal.take-requires-clause-repeated
take-requires-clause-repeated c =
    let w = c.loop-row.walked in
    let so_far = take c.loop-row.row-index c.args.rows.now in
    let long : length so_far ≡ c.loop-row.row-index = length-take-le c.loop-row.row-index c.args.rows.now (omega (arith, c.loop-row-test.true)) in
    let most = counted c.args.job.now c.args.facts.now so_far (map (λ t. string_bytes t) w.names.keys) w.wanted.keys w.bad_group w.unknown w.repeated c.loop-row.invariant.walked in
    omega (arith, long, c.loop-row-test.true, most.2)

pub take-requires-clause-bad_group : goal.take-requires-clause-bad_group
take-requires-clause-bad_group c =
    let w = c.loop-row.walked in
    let so_far = take c.loop-row.row-index c.args.rows.now in
    let long : length so_far ≡ c.loop-row.row-index = length-take-le c.loop-row.row-index c.args.rows.now (omega (arith, c.loop-row-test.true)) in
    let most = counted c.args.job.now c.args.facts.now so_far (map (λ t. string_bytes t) w.names.keys) w.wanted.keys w.bad_group w.unknown w.repeated c.loop-row.invariant.walked in
    omega (arith, long, c.loop-row-test.true, most.0)

pub loop-row-preserved : goal.loop-row-preserved
loop-row-preserved c =
    let row = c.row-item.result in
    let so_far = take c.loop-row.row-index c.args.rows.now in
    let more : take (c.loop-row.row-index + 1) c.args.rows.now ≡ so_far ++ row ∷ [] = take_more c.args.rows.now c.loop-row.row-index row c.loop-row-test.true ∙ ap (λ (x : TableRow). so_far ++ x ∷ []) (sym c.row-item.is) in
    record {
      walked = rw more (c.in_ok-take.ensures so_far c.loop-row.invariant.walked);
      text = c.group_text-text.utf8;
      last = c.in_ok-next.ensures ∙ ap (λ t. mention c.args.job.now.target t c.args.facts.now) (c.group_text.ensures ∙ sym c.group_text-text.ensures);
    }
