use Rattle.std.proofs.Common.{◌∙◌, sym, ap}
use Rattle.reg_audit.proofs.Looking.{begun_of, written_one}
use Rattle.reg_audit.proofs.held.is_written.Goals as goal

-- the one that stands decides
pub returns-in-Some : goal.returns-in-Some
returns-in-Some c =
    c.has_begun.ensures
    ∙ (ap begun_of (sym c.in-Some.is ∙ c.grant-found.ensures)
    ∙ sym (written_one c.args.object.now c.args.privilege c.args.holder.now c.args.facts.now.grants c.law_held.ensures.grants_once))

pub returns-in-None : goal.returns-in-None
returns-in-None c =
    ap begun_of (sym c.in-None.is ∙ c.grant-found.ensures)
    ∙ sym (written_one c.args.object.now c.args.privilege c.args.holder.now c.args.facts.now.grants c.law_held.ensures.grants_once)
