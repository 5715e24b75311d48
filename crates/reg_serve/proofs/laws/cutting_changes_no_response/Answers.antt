use Rattle.reg_serve.proofs.Cutting.{same_responses}
use Rattle.reg_serve.proofs.laws.cutting_changes_no_response.Goals as goal

pub returns : goal.returns
returns c before taken one two first second =
    let laws = c.turns_exclude_each_other.ensures in
    same_responses (record { one_message = laws.one_message; no_more = laws.no_more; no_fault = laws.no_fault; open_point = laws.open_point; one_fault = laws.one_fault }) before taken one two first second
