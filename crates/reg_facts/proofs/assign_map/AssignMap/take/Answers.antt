use Rattle.std.proofs.Common.{◌≡◌, ◌==◌, ◌∙◌, List, Some, sym, ap, filter, not, arith}
use Rattle.std.specs.BTreeMap.{is_at}
use Rattle.std.specs.Map.{lookup, values_of}
use Rattle.std.specs.Ordering.{nat_cmp}
use Rattle.reg_terms.specs.declared.rows.AssignRow.{AssignRow}
use Rattle.reg_facts.specs.Attributes.{assign_row}
use Rattle.reg_facts.proofs.AssignEntries.{count_less, found_by_id, less_by_id, less_values}
use Rattle.reg_facts.proofs.assign_map.AssignMap.take.Goals as goal

-- whether it is there or not, what has this id isn't left
pub returns-in_err-row-clause-left : goal.returns-in_err-row-clause-left
returns-in_err-row-clause-left c =
    ap values_of c.remove.ensures.entries
    ∙ (less_values c.args.id c.self.inside.rows.entries c.self.invariant.by_id ∙ ap (λ (rows : List AssignRow). filter (λ (row : AssignRow). not (row.id == c.args.id)) rows) c.self.view_is)

pub returns-in_err-row-clause-taken : goal.returns-in_err-row-clause-taken
returns-in_err-row-clause-taken c =
    c.from_residual.ensures
    ∙ (sym c.in_err-row.was ∙ (c.remove.ensures.value ∙ (found_by_id c.args.id c.self.inside.rows.entries c.self.invariant.by_id ∙ ap (assign_row c.args.id) c.self.view_is)))

pub returns-clause-left : goal.returns-clause-left
returns-clause-left c =
    ap values_of c.remove.ensures.entries
    ∙ (less_values c.args.id c.self.inside.rows.entries c.self.invariant.by_id ∙ ap (λ (rows : List AssignRow). filter (λ (row : AssignRow). not (row.id == c.args.id)) rows) c.self.view_is)

pub returns-clause-taken : goal.returns-clause-taken
returns-clause-taken c = sym c.in_ok-row.was ∙ (c.remove.ensures.value ∙ (found_by_id c.args.id c.self.inside.rows.entries c.self.invariant.by_id ∙ ap (assign_row c.args.id) c.self.view_is))

-- its values are among those that are counted
pub overflow_sub-self : goal.overflow_sub-self
overflow_sub-self c =
    let found : lookup (is_at (nat_cmp c.args.id)) c.self.inside.rows.entries ≡ Some c.in_ok-row.row = sym c.remove.ensures.value ∙ c.in_ok-row.was in
    let less = count_less (is_at (nat_cmp c.args.id)) c.self.inside.rows.entries c.in_ok-row.row found in
    let all = c.self.invariant.counted in
    let own = c.len.ensures in
    omega (arith, less, all, own)

pub invariant_of-self-2 : goal.invariant_of-self-2
invariant_of-self-2 c =
    let found : lookup (is_at (nat_cmp c.args.id)) c.self.inside.rows.entries ≡ Some c.in_ok-row.row = sym c.remove.ensures.value ∙ c.in_ok-row.was in
    let less = count_less (is_at (nat_cmp c.args.id)) c.self.inside.rows.entries c.in_ok-row.row found in
    let all = c.self.invariant.counted in
    let own = c.len.ensures in
    record {
      by_id = rw c.remove.ensures.entries (less_by_id c.args.id c.self.inside.rows.entries c.self.invariant.by_id);
      counted = rw c.remove.ensures.entries (omega (arith, less, all, own));
    }
