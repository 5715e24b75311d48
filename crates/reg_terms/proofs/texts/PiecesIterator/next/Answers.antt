use Rattle.reg_terms.proofs.Cutting.{boundary}
use Rattle.reg_terms.proofs.texts.PiecesIterator.next.Goals as goal

-- the first length ends a text
pub split_at-requires : goal.split_at-requires
split_at-requires c = boundary c.in_ok-len.len.now c.in_ok-len.lens.now c.self.inside.rest.now (rw c.in_ok-len.ensures.cases.0 at c.self.invariant)
