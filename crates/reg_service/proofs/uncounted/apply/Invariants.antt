use Rattle.reg_service.proofs.uncounted.apply.Given as goal

abbrev pub ghosts-apply_from : goal.ghosts-apply_from
ghosts-apply_from a = record { name = a.blank.name; parts = a.blank.parts }
