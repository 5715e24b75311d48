use Rattle.std.proofs.Common.{◌==◌, ◌∙◌, ap}
use Rattle.std.specs.List.{list_any}
use Rattle.reg_facts.specs.declared.nest.Nest.{Nest}
use Rattle.reg_terms.specs.Rows.{is_nested}
use Rattle.reg_facts.proofs.Nested.{nested_any}
use Rattle.reg_facts.proofs.member_rows.MemberRows.is_nested.Goals as goal

pub returns : goal.returns
returns c =
    c.has_rows.ensures
    ∙ (ap (list_any (λ (nest : Nest). nest.nested == c.args.group)) c.self.invariant
    ∙ (nested_any c.args.group c.self.inside.rows ∙ ap (is_nested c.args.group) c.self.view_is))
