use Rattle.reg_serve.proofs.Conversing.{joined_turns, turn_continues}
use Rattle.reg_serve.proofs.OneList.{turns_lead}
use Rattle.reg_serve.proofs.laws.turns_are_one_session.Goals as goal

pub returns-clause-continues : goal.returns-clause-continues
returns-clause-continues c start mid new earlier v s last moments later unused had all turn =
    turn_continues c.turns_are_of_all_bytes.ensures.fed start mid new earlier v s last moments later unused had all turn

pub returns-clause-joined : goal.returns-clause-joined
returns-clause-joined c number start new visits s last moments later unused had all =
    joined_turns c.turns_are_of_all_bytes.ensures.fed number start new visits s last moments later unused had all

pub returns-clause-one_list : goal.returns-clause-one_list
returns-clause-one_list c visits s last moments later all = turns_lead s last moments later visits all
