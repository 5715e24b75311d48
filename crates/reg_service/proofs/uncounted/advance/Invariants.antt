use Rattle.reg_service.proofs.uncounted.advance.Given as goal

abbrev pub ghosts-advance_from : goal.ghosts-advance_from
ghosts-advance_from a = record { name = a.blank.name; parts = a.blank.parts }
