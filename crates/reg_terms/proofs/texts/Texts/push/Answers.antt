use Rattle.reg_terms.proofs.Cutting.{cuts_more, pieces_more}
use Rattle.reg_terms.proofs.texts.Texts.push.Goals as goal

pub invariant_of-self-else-is_err : goal.invariant_of-self-else-is_err
invariant_of-self-else-is_err c = rw (c.in_ok-push.ensures.items, c.push_str.ensures.bytes, c.if-is_err.ensures.negation) (cuts_more _ _ _ c.self.invariant c.utf8.item)

pub returns-clause-ok : goal.returns-clause-ok
returns-clause-ok c = rw (c.in_ok-push.ensures.items, c.push_str.ensures.bytes, c.if-is_err.ensures.negation, ← c.self.view_is) (pieces_more _ _ _ c.self.invariant)
