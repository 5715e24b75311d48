use Rattle.reg_view.proofs.earlier.was_member.Given as goal

abbrev pub ghosts-was_member_from : goal.ghosts-was_member_from
ghosts-was_member_from g a = record { name = a.blank.name; parts = a.blank.parts }
