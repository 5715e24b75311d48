use Rattle.std.proofs.Common.{◌∙◌, List, ap, map, arith}
use Rattle.std.specs.Map.{values_of}
use Rattle.reg_terms.specs.Values.{with_value}
use Rattle.reg_terms.specs.declared.rows.AssignRow.{AssignRow}
use Rattle.reg_facts.proofs.AssignEntries.{values_changed, with_by_id}
use Rattle.reg_facts.proofs.assign_map.AssignMap.add_value.Goals as goal

pub invariant_of-result : goal.invariant_of-result
invariant_of-result c =
    let count = c.in_ok-added.ensures.count in
    let all = c.self.invariant.counted in
    record {
      by_id = rw c.in_ok-added.ensures.added (with_by_id c.args.id c.args.value c.self.inside.rows.entries c.self.invariant.by_id);
      counted = omega (arith, count, all);
    }

pub returns : goal.returns
returns c =
    ap values_of c.in_ok-added.ensures.added
    ∙ (values_changed (with_value c.args.id c.args.value) c.self.inside.rows.entries ∙ ap (λ (rows : List AssignRow). map (with_value c.args.id c.args.value) rows) c.self.view_is)
