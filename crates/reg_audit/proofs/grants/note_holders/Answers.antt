use Rattle.std.proofs.Common.{◌&&◌, ◌∙◌, Bool, ap, nat_le, if◌then◌else◌}
use Rattle.reg_terms.specs.Kinds.{same_object}
use Rattle.reg_pit.specs.Past.{was_granted}
use Rattle.reg_audit.proofs.OrderedGrants.{has_holders}
use Rattle.reg_audit.proofs.grants.note_holders.Goals as goal

-- who is among the holders has a grant
pub returns-clause-noted : goal.returns-clause-noted
returns-clause-noted c o p h t =
    rw (c.deref.ensures.value, c.in_ok-held.ensures) at c.in_ok-past.ensures.noted o p h t
    ∙ ap (λ (b : Bool). if same_object o c.args.object && nat_le c.args.at t then b else was_granted c.args.past o p h t) (has_holders c.args.object c.args.facts.now p h)
