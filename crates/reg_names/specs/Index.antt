-- The index of names.
use Rattle.reg_facts.specs.Lists.{Lists}
use Rattle.reg_facts.specs.Named.{AreNamed}
use Rattle.reg_names.specs.declared.names.Names.{Names}

-- the index is in step with the facts, which keep it: an object that has a name is found by it, and
-- nothing by another text
abbrev pub IsInStep : Names → Lists → Type 0
IsInStep names f = AreNamed f
