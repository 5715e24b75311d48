use Rattle.worked.proofs.tests.settling.settled_uncounted.Given as goal

abbrev pub ghosts-settled : goal.ghosts-settled
ghosts-settled a = record { name = a.blank.name; parts = a.blank.parts }
