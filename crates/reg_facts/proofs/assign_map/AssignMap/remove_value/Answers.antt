use Rattle.std.proofs.Common.{◌∙◌, List, ap, map, arith}
use Rattle.std.specs.Map.{values_of}
use Rattle.reg_terms.specs.Values.{without_value}
use Rattle.reg_terms.specs.declared.rows.AssignRow.{AssignRow}
use Rattle.reg_facts.proofs.AssignEntries.{values_changed, without_by_id}
use Rattle.reg_facts.proofs.assign_map.AssignMap.remove_value.Goals as goal

pub invariant_of-self : goal.invariant_of-self
invariant_of-self c =
    let count = c.take_from.ensures.count in
    let all = c.self.invariant.counted in
    record {
      by_id = rw c.take_from.ensures.taken (without_by_id c.args.id c.args.value.now c.self.inside.rows.entries c.self.invariant.by_id);
      counted = omega (arith, count, all);
    }

pub returns : goal.returns
returns c =
    ap values_of c.take_from.ensures.taken
    ∙ (values_changed (without_value c.args.id c.args.value.now) c.self.inside.rows.entries ∙ ap (λ (rows : List AssignRow). map (without_value c.args.id c.args.value.now) rows) c.self.view_is)
