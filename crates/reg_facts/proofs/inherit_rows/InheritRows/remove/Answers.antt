use Rattle.std.proofs.Common.{◌∙◌, ap, filter, not, List}
use Rattle.reg_terms.specs.declared.rows.InheritRow.{InheritRow}
use Rattle.reg_facts.specs.Grants.{same_inherit}
use Rattle.reg_facts.proofs.GrantKeys.{inherit_others}
use Rattle.reg_facts.proofs.inherit_rows.InheritRows.remove.Goals as goal

pub returns : goal.returns
returns c = (rw c.place.ensures at c.remove.ensures.removed) ∙ (inherit_others c.args.row.now c.self.inside.rows ∙ ap (λ (rows : List InheritRow). filter (λ (other : InheritRow). not (same_inherit c.args.row.now other)) rows) c.self.view_is)
