use Rattle.reg_terms.proofs.EntryKinds.{worded_has, worded_own}
use Rattle.reg_terms.proofs.entry_kinds.EntryKind.parse.Goals as goal

pub returns-clause-has : goal.returns-clause-has
returns-clause-has c = rw c.worded.ensures (worded_has c.args.word.now)

pub returns-clause-own : goal.returns-clause-own
returns-clause-own c = λ k is. rw c.worded.ensures (worded_own k c.args.word.now is)
