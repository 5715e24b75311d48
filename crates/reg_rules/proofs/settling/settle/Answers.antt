use Rattle.std.proofs.Common.{◌≡◌}
use Rattle.reg_rules.proofs.settling.settle.Goals as goal

-- what is kept at the end is what is live then
pub returns-clause-told : goal.returns-clause-told
returns-clause-told g c M before =
    rw c.parts-facts.ensures.kept (c.in_ok-standing.ensures.told M (rw (c.new-standing.ensures, ← c.requires) before))
