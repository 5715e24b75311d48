use Rattle.reg_effect.proofs.uncounted.list.Given as goal

abbrev pub ghosts-list_from : goal.ghosts-list_from
ghosts-list_from a = record { name = a.blank.name; parts = a.blank.parts }
