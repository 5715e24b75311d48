use Rattle.std.proofs.Common.{not, filter}
use Rattle.reg_facts.specs.Grants.{same_grant}
use Rattle.reg_terms.specs.declared.rows.GrantRow.{GrantRow}
use Rattle.reg_current.proofs.ComingGrants.{replaced_finds}
use Rattle.reg_current.proofs.RowFound.{on_ok}
use Rattle.reg_current.proofs.redating.begin_grant.Goals as goal

pub returns : goal.returns
returns c =
    on_ok c.add_grant.result c.add_grant.ensures (λ more. replaced_finds _ c.args.clock c.args.row.now c.args.facts.now.rows c.args.facts.now.grants c.requires.there
    (more c.args.facts.now.rows (filter (λ (other : GrantRow). not (same_grant c.args.row.now other)) c.args.facts.now.grants) c.drop_grant.ensures))
