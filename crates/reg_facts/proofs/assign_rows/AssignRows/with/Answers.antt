use Rattle.std.proofs.Common.{◌++◌, ◌∷◌, ◌∙◌, [], List, sym, ap, subst}
use Rattle.std.specs.List.{list_any}
use Rattle.reg_terms.specs.declared.rows.AssignRow.{AssignRow}
use Rattle.reg_facts.specs.Ascending.{AssignsAscend}
use Rattle.reg_facts.specs.Assigning.{same_key, key_of}
use Rattle.reg_facts.proofs.AssignedRows.{key_new}
use Rattle.reg_facts.proofs.assign_rows.AssignRows.with.Goals as goal

-- a later id is new to the index
pub with-requires : goal.with-requires
with-requires c =
    let up : AssignsAscend (c.self.inside.rows ++ c.args.row ∷ []) = subst (λ (rows : List AssignRow). AssignsAscend (rows ++ c.args.row ∷ [])) (sym c.self.view_is) c.requires.ascend in
    rw c.key_of.ensures (ap (list_any (same_key (key_of c.args.row))) c.self.invariant.same ∙ key_new c.self.inside.rows c.args.row up)
