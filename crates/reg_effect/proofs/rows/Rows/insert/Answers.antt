use Rattle.std.proofs.Common.{rules, ◌≡◌}
use Rattle.std.specs.BTreeSet.{insert_key}
use Rattle.std.proofs.lemmas.Map.Views.{All-insert_key}
use Rattle.reg_effect.specs.Order.{row_cmp, IsSmall}
use Rattle.reg_effect.proofs.rows.Rows.insert.Goals as goal

pub invariant_of-self-2 : goal.invariant_of-self-2
invariant_of-self-2 c =
    let keys : c.insert.new.self.keys ≡ insert_key row_cmp c.self.inside.rows.keys (c.args.group, c.args.member) = search rules in
    let small : IsSmall c.args.member = search rules in
    rw keys (All-insert_key row_cmp (c.args.group, c.args.member) (λ row. IsSmall row.1) c.self.inside.rows.keys c.self.invariant small)
