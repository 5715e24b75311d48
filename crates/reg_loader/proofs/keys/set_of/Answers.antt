use Rattle.std.proofs.Common.{◌∙◌, sym, ap, get_or, []}
use Rattle.std.proofs.lemmas.List.Sums.{fold_more}
use Rattle.indexmap.specs.IndexSet.{insert_key}
use Rattle.reg_loader.specs.Plan.{same_key}
use Rattle.reg_loader.proofs.keys.set_of.Goals as goal

pub loop-key-preserved : goal.loop-key-preserved
loop-key-preserved c =
    let keys = c.args.keys.now in
    let at = c.loop-key.key-index in
    c.in_ok-insert.ensures.keys ∙ ap (λ s. insert_key same_key s (get_or keys at (0, 0))) c.loop-key.invariant ∙ sym (fold_more (insert_key same_key) [] keys at (0, 0) c.loop-key-test.true)
