use Rattle.reg_ops.proofs.LoadWord.{load_named, never_command}
use Rattle.reg_ops.proofs.laws.law_load_word.Goals as goal

pub returns-clause-own : goal.returns-clause-own
returns-clause-own c = load_named

pub returns-clause-never : goal.returns-clause-never
returns-clause-never c = never_command
