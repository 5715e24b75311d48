use Rattle.std.proofs.Common.{List, ◌++◌, ◌∙◌, sym, ap}
use Rattle.reg_facts.specs.declared.nest.Nest.{Nest}
use Rattle.reg_terms.specs.Rows.{has_row}
use Rattle.reg_facts.specs.Nests.{nest_of, nests_of, has_nest}
use Rattle.reg_facts.proofs.Nested.{none_nested, nests_push}
use Rattle.reg_facts.proofs.member_rows.MemberRows.with.Goals as goal

pub add_nest-requires : goal.add_nest-requires
add_nest-requires c =
    ap (has_nest c.args.row.group c.args.row.member) c.self.invariant
    ∙ none_nested c.args.row.group c.args.row.member c.self.inside.rows (ap (has_row c.args.row.group c.args.row.member) c.self.view_is ∙ c.requires)

pub invariant_of-result : goal.invariant_of-result
invariant_of-result c =
    c.in_ok-add_nest.ensures
    ∙ (ap (λ (ns : List Nest). ns ++ nest_of c.args.row) c.self.invariant
    ∙ (sym (nests_push c.self.inside.rows c.args.row) ∙ ap nests_of (sym c.in_ok-push.ensures.added)))
