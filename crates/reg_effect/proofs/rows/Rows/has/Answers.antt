use Rattle.std.proofs.Common.{rules, ◌≡◌, ◌∙◌}
use Rattle.std.specs.List.{list_any}
use Rattle.std.specs.BTreeMap.{is_at}
use Rattle.reg_effect.specs.Order.{row_cmp}
use Rattle.reg_effect.proofs.Edits.{rows_absent}
use Rattle.reg_effect.proofs.rows.Rows.has.Goals as goal

pub returns : goal.returns
returns c =
    let found : c.contains.result ≡ list_any (is_at (row_cmp (c.args.group, c.args.member))) c.self.inside.rows.keys = search rules in
    found ∙ rw (← c.self.view_is) (rows_absent c.args.group c.args.member c.self.inside.rows.keys)
