use Rattle.std.proofs.Common.{◌≡◌, Some}
use Rattle.reg_current.specs.Dates.{due}
use Rattle.reg_current.proofs.DateChanges.{date_suits}
use Rattle.reg_current.proofs.DateEvents.{date_holds, date_made}
use Rattle.reg_current.proofs.Due.{due_some, some_still}
use Rattle.reg_current.proofs.current.Current.law_date.Goals as goal

pub returns-clause-hold : goal.returns-clause-hold
returns-clause-hold g c = rw (← c.self.view_is) (date_holds c.self.inside.moment c.args.date c.self.inside.facts c.law_sound.ensures.rows_once c.law_held.ensures c.self.invariant.grants_open)

pub returns-clause-gone : goal.returns-clause-gone
returns-clause-gone g c = rw (← c.self.view_is) (date_made c.args.date c.self.inside.facts c.law_sound.ensures.rows_once c.law_held.ensures.grants_once)

pub returns-clause-suit : goal.returns-clause-suit
returns-clause-suit g c =
    let first : due c.self.inside.moment c.args.date c.self.inside.facts ≡ Some c.args.date = rw (← c.self.view_is) at c.requires in
    let later = (due_some c.self.inside.moment c.args.date c.args.date c.self.inside.facts first).later in
    let still = some_still c.self.inside.moment c.args.date c.args.date c.self.inside.facts first in
    rw (← c.self.view_is) (date_suits c.self.inside.moment c.args.date c.self.inside.facts later still c.self.invariant.ends c.law_sound.ensures c.self.inside.graph c.self.invariant.edges c.acyclic.ensures)
