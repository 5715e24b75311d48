use Rattle.std.proofs.Common.{◌++◌, ◌∷◌, ◌∙◌, [], List, sym, ap, subst}
use Rattle.std.specs.Map.{values_of}
use Rattle.reg_terms.specs.declared.rows.AssignRow.{AssignRow}
use Rattle.reg_facts.specs.Ascending.{AssignsAscend}
use Rattle.reg_facts.specs.Attributes.{value_count}
use Rattle.reg_facts.proofs.AssignEntries.{count_last, more_by_id, more_values}
use Rattle.reg_facts.proofs.assign_map.AssignMap.with.Goals as goal

pub invariant_of-result : goal.invariant_of-result
invariant_of-result c =
    let up : AssignsAscend (values_of c.self.inside.rows.entries ++ c.args.row ∷ []) = subst (λ (rows : List AssignRow). AssignsAscend (rows ++ c.args.row ∷ [])) (sym c.self.view_is) c.requires.ascend in
    record {
      by_id = rw c.in_ok-insert.ensures.entries (more_by_id c.self.inside.rows.entries c.args.row c.self.invariant.by_id up);
      counted =
          c.self.invariant.counted
          ∙ sym (ap (λ es. value_count (values_of es)) c.in_ok-insert.ensures.entries ∙ (ap value_count (more_values c.self.inside.rows.entries c.args.row c.self.invariant.by_id up) ∙ count_last (values_of c.self.inside.rows.entries) c.args.row c.requires.empty));
    }

pub returns : goal.returns
returns c =
    let up : AssignsAscend (values_of c.self.inside.rows.entries ++ c.args.row ∷ []) = subst (λ (rows : List AssignRow). AssignsAscend (rows ++ c.args.row ∷ [])) (sym c.self.view_is) c.requires.ascend in
    ap values_of c.in_ok-insert.ensures.entries
    ∙ (more_values c.self.inside.rows.entries c.args.row c.self.invariant.by_id up ∙ ap (λ (rows : List AssignRow). rows ++ c.args.row ∷ []) c.self.view_is)
