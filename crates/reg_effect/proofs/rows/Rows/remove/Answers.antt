use Rattle.std.proofs.Common.{rules, ◌≡◌, ◌∙◌}
use Rattle.std.specs.BTreeMap.{is_at}
use Rattle.std.specs.Set.{remove_key}
use Rattle.std.proofs.lemmas.Map.Views.{All-remove_key}
use Rattle.reg_effect.specs.Order.{row_cmp, IsSmall}
use Rattle.reg_effect.proofs.Edits.{rows_removed}
use Rattle.reg_effect.proofs.rows.Rows.remove.Goals as goal

pub invariant_of-self : goal.invariant_of-self
invariant_of-self c = rw c.remove.ensures.keys (All-remove_key _ (λ row. IsSmall row.1) c.self.inside.rows.keys c.self.invariant)

pub returns : goal.returns
returns c =
    let keys : c.remove.new.self.keys ≡ remove_key (is_at (row_cmp (c.args.group, c.args.member))) c.self.inside.rows.keys = search rules in
    keys ∙ rw (← c.self.view_is) (rows_removed c.args.group c.args.member c.self.inside.rows.keys)
