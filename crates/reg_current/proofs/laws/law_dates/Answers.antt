use Rattle.reg_current.proofs.Due.{due_none, due_some}
use Rattle.reg_current.proofs.Passing.{pass_none, pass_some, pass_then}
use Rattle.reg_current.proofs.laws.law_dates.Goals as goal

pub returns-clause-none : goal.returns-clause-none
returns-clause-none c a b f none = due_none a b f none

pub returns-clause-least : goal.returns-clause-least
returns-clause-least c a b d f first = due_some a b d f first

pub returns-clause-last : goal.returns-clause-last
returns-clause-last c a b f none = pass_none a b f none

pub returns-clause-next : goal.returns-clause-next
returns-clause-next c a b d f first = pass_some a b d f first

pub returns-clause-parts : goal.returns-clause-parts
returns-clause-parts c a b later f up on = pass_then a b later f up on
