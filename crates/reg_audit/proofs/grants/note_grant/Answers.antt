use Rattle.std.proofs.Common.{◌&&◌, ◌∙◌, Bool, ap, sym, nat_le, if◌then◌else◌}
use Rattle.reg_terms.specs.Kinds.{same_object}
use Rattle.reg_pit.specs.Past.{was_granted}
use Rattle.reg_priv.specs.Filling.{is_among}
use Rattle.reg_priv.specs.Grants.{Grant, grants}
use Rattle.reg_audit.proofs.Looking.{one_grant}
use Rattle.reg_audit.proofs.Granting.{one_held}
use Rattle.reg_audit.proofs.OrderedGrants.{has_among, is_that}
use Rattle.reg_audit.proofs.grants.note_grant.Goals as goal

-- the one that is looked up is the one that is noted
pub returns-clause-noted : goal.returns-clause-noted
returns-clause-noted c o p h t =
    c.in_ok-past.ensures.noted o p h t
    ∙ (ap (λ (b : Bool). if (same_object o c.args.object && b) && nat_le c.args.at t then c.is_granted-is_held.result else was_granted c.args.past o p h t) (is_that p h (c.args.privilege, c.args.holder))
    ∙ one_held (same_object o c.args.object) _ (nat_le c.args.at t) _ _ _ (λ same. c.is_granted-is_held.ensures ∙ (ap (λ (g : Grant). is_among g (grants c.args.object c.args.facts.now)) (sym (one_grant (p, h) (c.args.privilege, c.args.holder) same)) ∙ sym (has_among p h (grants c.args.object c.args.facts.now)))))
