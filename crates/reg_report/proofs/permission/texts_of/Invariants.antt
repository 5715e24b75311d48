use Rattle.std.proofs.Common.{◌≡◌, ◌++◌, drop}
use Rattle.reg_report.specs.Permissions.{texts_of}
use Rattle.reg_report.proofs.permission.texts_of.Given as goal

-- the texts so far, and those of the persons to come, are all
abbrev pub invariant-loop-person : goal.invariant-loop-person
invariant-loop-person l = l.texts ++ texts_of (drop l.person-index l.persons) l.facts.subjects ≡ texts_of l.fn.persons l.fn.facts.subjects
