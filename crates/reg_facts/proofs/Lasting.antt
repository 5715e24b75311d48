-- What is true of the facts of every history is true after a command too.
use Rattle.std.proofs.Common.{List, [], ◌∷◌}
use Rattle.reg_terms.specs.declared.event.Event.{Event}
use Rattle.reg_facts.specs.Events.{happened, all_happened}
use Rattle.reg_facts.specs.Lists.{Lists}
use Rattle.reg_facts.specs.Named.{AreNamed}
use Rattle.reg_facts.specs.Sound.{IsSound}
use Rattle.reg_facts.specs.Suiting.{AllSuit}
use Rattle.reg_facts.proofs.Resolving.{resolve_names, names_resolve}
use Rattle.reg_facts.proofs.Sounding.{happened_sound}

pub sound_named : (f : Lists) → IsSound f → AreNamed f
sound_named f s = record { finds = λ o named. names_resolve o f s named; found = λ text o h. resolve_names text o f s h }

pub all_sound : (es : List Event) (f : Lists) → AllSuit es f → IsSound f → IsSound (all_happened es f)
all_sound [] f suit s = s
all_sound (e ∷ es) f suit s = all_sound es (happened e f) suit.1 (happened_sound e f suit.0 s)
