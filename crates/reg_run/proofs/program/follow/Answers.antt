use Rattle.std.proofs.Common.{rules, refl, inl, sym, ◌∙◌, ◌≡◌, Some, None, map, string_bytes}
use Rattle.reg_words.specs.Words.{task_of}
use Rattle.reg_run.proofs.Usage.{idle_did}
use Rattle.reg_run.proofs.program.follow.Goals as goal

-- the task's end
pub returns-in-Ok-Some-clause-did : goal.returns-in-Ok-Some-clause-did
returns-in-Ok-Some-clause-did g c =
    let is : task_of (map string_bytes c.args.words.now) ≡ Some c.in-Ok-Some.task = sym c.in-Ok-Some.ensures.asked ∙ c.in-Ok-Some.field-0-is in
    rw is (inl (search rules))

-- the words ask for nothing
pub returns-in-Ok-None-clause-did : goal.returns-in-Ok-None-clause-did
returns-in-Ok-None-clause-did g c =
    let is : task_of (map string_bytes c.args.words.now) ≡ None = sym c.in-Ok-None.ensures.asked ∙ c.in-Ok-None.field-0-is in
    rw is (inl refl, (refl, refl, refl))

-- words that name no command ask for nothing
pub returns-in-Ok-Some-clause-unknown : goal.returns-in-Ok-Some-clause-unknown
returns-in-Ok-Some-clause-unknown g c unknown =
    let none = c.in-Ok-Some.ensures.unknown unknown in
    let some = c.in-Ok-Some.field-0-is in
    absurd (cc)

pub returns-in-Err-clause-unknown : goal.returns-in-Err-clause-unknown
returns-in-Err-clause-unknown g c unknown =
    let none = c.in-Err.ensures.unknown unknown in
    absurd (cc)

-- there was no memory to read them
pub returns-in-Err-clause-did : goal.returns-in-Err-clause-did
returns-in-Err-clause-did g c = idle_did g.D.Disk g.E.Disk _ _ _ _
