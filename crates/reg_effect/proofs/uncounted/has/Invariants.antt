use Rattle.reg_effect.proofs.uncounted.has.Given as goal

abbrev pub ghosts-has_from : goal.ghosts-has_from
ghosts-has_from a = record { name = a.blank.name; parts = a.blank.parts }
