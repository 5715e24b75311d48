use Rattle.std.proofs.Common.{◌∙◌, ap, map, List}
use Rattle.reg_terms.specs.declared.rows.GrantRow.{GrantRow}
use Rattle.reg_facts.specs.Grants.{replaced}
use Rattle.reg_facts.proofs.GrantKeys.{grant_replaced}
use Rattle.reg_facts.proofs.grant_rows.GrantRows.replace.Goals as goal

pub returns : goal.returns
returns c = c.replace.ensures.replaced ∙ (grant_replaced c.args.row c.self.inside.rows ∙ ap (λ (rows : List GrantRow). map (replaced c.args.row) rows) c.self.view_is)
