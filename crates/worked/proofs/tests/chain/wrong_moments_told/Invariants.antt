use Rattle.worked.proofs.tests.chain.wrong_moments_told.Given as goal

abbrev pub ghosts-wrong_moments : goal.ghosts-wrong_moments
ghosts-wrong_moments a = record { name = a.blank.name; parts = a.blank.parts }
