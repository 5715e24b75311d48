use Rattle.std.proofs.Common.{◌≡◌, ◌==◌, ◌∙◌, sym, ap, filter, rules}
use Rattle.std.proofs.lemmas.List.{append-nil}
use Rattle.reg_terms.specs.declared.rows.MemberRow.{MemberRow}
use Rattle.reg_table.specs.Keyed.{in_order}
use Rattle.reg_facts.specs.RowOrder.{member_order, rows_of}
use Rattle.reg_facts.proofs.Ordered.{rows_are}
use Rattle.reg_facts.proofs.member_rows.MemberRows.rows_of.Goals as goal

pub returns : goal.returns
returns c =
    let rows : c.rows_of-row-items.result ≡ in_order member_order (filter (λ (row : MemberRow). row.group == c.args.group) c.self.inside.rows) = search rules in
    sym (append-nil c.loop-row.found.items)
    ∙ ((rw c.in-None.ensures.steps.0 at c.loop-row.invariant)
    ∙ (c.into_iter-row-iterator.ensures.into_iter_gives
    ∙ (rows ∙ (rows_are c.args.group c.self.inside.rows ∙ ap (rows_of c.args.group) c.self.view_is))))
