use Rattle.std.proofs.Common.{◌≡◌, ◌∙◌, sym, ap, filter, not, rules}
use Rattle.reg_terms.specs.declared.rows.MemberRow.{MemberRow}
use Rattle.reg_terms.specs.Rows.{is_row}
use Rattle.reg_facts.specs.Nests.{nests_of, without_nest}
use Rattle.reg_facts.proofs.Nested.{nests_less}
use Rattle.reg_facts.proofs.member_rows.MemberRows.remove.Goals as goal

pub invariant_of-self : goal.invariant_of-self
invariant_of-self c =
    let left : c.remove.new.self ≡ filter (λ (row : MemberRow). not (is_row c.args.group c.args.member.now row)) c.self.inside.rows = search rules in
    c.remove_nest.ensures
    ∙ (ap (without_nest c.args.group c.args.member.now) c.self.invariant
    ∙ (sym (nests_less c.args.group c.args.member.now c.self.inside.rows) ∙ ap nests_of (sym left)))
