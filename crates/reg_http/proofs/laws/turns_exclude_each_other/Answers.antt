use Rattle.reg_http.proofs.Excluding.{one_message, message_or_unfinished, message_or_fault, unfinished_or_fault, one_fault}
use Rattle.reg_http.proofs.laws.turns_exclude_each_other.Goals as goal

pub returns-clause-one_message : goal.returns-clause-one_message
returns-clause-one_message c = one_message

pub returns-clause-no_more : goal.returns-clause-no_more
returns-clause-no_more c = message_or_unfinished

pub returns-clause-no_fault : goal.returns-clause-no_fault
returns-clause-no_fault c = message_or_fault

pub returns-clause-open_point : goal.returns-clause-open_point
returns-clause-open_point c = unfinished_or_fault

pub returns-clause-one_fault : goal.returns-clause-one_fault
returns-clause-one_fault c = one_fault
