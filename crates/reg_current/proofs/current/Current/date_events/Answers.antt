use Rattle.std.proofs.Common.{◌≡◌, ◌<◌}
use Rattle.reg_current.proofs.current.Current.date_events.Goals as goal

pub events_at-requires-clause-found : goal.events_at-requires-clause-found
events_at-requires-clause-found g c = c.self.invariant.coming

pub events_at-requires-clause-later : goal.events_at-requires-clause-later
events_at-requires-clause-later g c = rw (← c.self.view_is) at c.requires

pub returns : goal.returns
returns g c = rw (← c.self.view_is) c.events_at.ensures
