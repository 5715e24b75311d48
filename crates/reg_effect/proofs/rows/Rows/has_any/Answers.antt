use Rattle.std.proofs.Common.{rules, ◌≡◌, ◌∙◌, filter}
use Rattle.reg_effect.proofs.Places.{range_all, any_is}
use Rattle.reg_effect.proofs.rows.Rows.has_any.Goals as goal

pub returns : goal.returns
returns c =
    let part : c.range.result ≡ filter (range_all c.args.group) c.self.inside.rows.keys = search rules in
    c.is_some.ensures ∙ any_is c.args.group c.next.result c.range.result c.next.new.self c.self.inside.rows.keys c.args.self.now c.next.ensures.steps part c.self.invariant c.self.view_is
