use Rattle.std.proofs.Common.{refl, inr}
use Rattle.reg_serve.specs.Answered.{goes}
use Rattle.reg_serve.proofs.Turning.{served_turn, remains, fails_turn, ok_so, err_so}
use Rattle.reg_serve.proofs.Upkeep.{fails_up, quiet_up}
use Rattle.reg_serve.proofs.serving.serve_turn.Goals as goal

-- there was no memory
pub returns-in-Err-clause-ended : goal.returns-in-Err-clause-ended
returns-in-Err-clause-ended g c = (goes c.args.service.state, inr ((refl, refl, refl), refl), (refl, c.stays.ensures))

pub returns-in-Err-clause-keeps_up_to : goal.returns-in-Err-clause-keeps_up_to
returns-in-Err-clause-keeps_up_to g c = (returns-in-Err-clause-ended g c, quiet_up g.K.Keeper c.args.service.keeper c.args.service.keeper c.args.service.state.history _ _ refl refl)

-- a turn was taken
pub returns-in-Ok-clause-served : goal.returns-in-Ok-clause-served
returns-in-Ok-clause-served g c = ok_so _ _ c.take_turn.result c.take_turn.ensures.served (λ after s. served_turn c.turns_are_of_all_bytes.ensures.given _ _ _ _ c.in-Ok.turn after.1 c.in-Ok.ensures.turn s)

pub returns-in-Ok-clause-more : goal.returns-in-Ok-clause-more
returns-in-Ok-clause-more g c = ok_so _ _ c.take_turn.result c.take_turn.ensures.served (λ after s. remains _ _ _ _ c.in-Ok.turn after.1 c.requires c.in-Ok.ensures.turn s)

pub returns-in-Ok-clause-ended : goal.returns-in-Ok-clause-ended
returns-in-Ok-clause-ended g c = err_so _ _ c.take_turn.result c.take_turn.ensures.ended (λ e f. fails_turn g.K.Keeper _ _ _ _ c.in-Ok.turn _ _ e c.requires c.in-Ok.ensures.turn f)

pub returns-in-Ok-clause-keeps_up_to : goal.returns-in-Ok-clause-keeps_up_to
returns-in-Ok-clause-keeps_up_to g c = err_so _ _ c.take_turn.result c.take_turn.ensures.keeps_up_to (λ e f. fails_up g.K.Keeper _ _ _ _ c.in-Ok.turn _ _ _ e c.requires c.in-Ok.ensures.turn f)
