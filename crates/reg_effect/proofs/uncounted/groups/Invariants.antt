use Rattle.reg_effect.proofs.uncounted.groups.Given as goal

abbrev pub ghosts-groups_from : goal.ghosts-groups_from
ghosts-groups_from a = record { name = a.blank.name; parts = a.blank.parts }
