use Rattle.std.proofs.Common.{◌≡◌, take, length, arith}
use Rattle.std.proofs.lemmas.List.{length-take-le}
use Rattle.reg_loader.specs.Plan.{Key, is_among, is_vetoed}
use Rattle.reg_loader.proofs.Lists.{count_within}
use Rattle.reg_loader.proofs.fates.told.Goals as goal

pub overflow_add-fates : goal.overflow_add-fates
overflow_add-fates g c =
    let so_far = take c.loop-key.key-index c.args.keys.now in
    let long : length so_far ≡ c.loop-key.key-index = length-take-le c.loop-key.key-index c.args.keys.now (omega (arith, c.loop-key-test.true)) in
    omega (arith, long, c.loop-key-test.true, c.loop-key.invariant.unchanged_are, count_within (λ (key : Key). is_among key c.args.there.now.keys) so_far)

pub overflow_add-fates-then-is_forbidden : goal.overflow_add-fates-then-is_forbidden
overflow_add-fates-then-is_forbidden g c =
    let so_far = take c.loop-key.key-index c.args.keys.now in
    let long : length so_far ≡ c.loop-key.key-index = length-take-le c.loop-key.key-index c.args.keys.now (omega (arith, c.loop-key-test.true)) in
    omega (arith, long, c.loop-key-test.true, c.loop-key.invariant.vetoed_are, count_within (is_vetoed (g.K.Kept.held c.args.kept.now) c.args.there.now.keys c.args.facts.now) so_far)
