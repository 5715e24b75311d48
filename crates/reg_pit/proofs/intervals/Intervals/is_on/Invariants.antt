use Rattle.reg_pit.proofs.intervals.Intervals.is_on.Given as goal

abbrev pub ghosts-is_on_from : goal.ghosts-is_on_from
ghosts-is_on_from g a = record { name = a.blank.name; parts = a.blank.parts }
