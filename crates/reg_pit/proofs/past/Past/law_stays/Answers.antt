use Rattle.reg_pit.proofs.Alone.{after_last}
use Rattle.reg_pit.proofs.Notes.{noted_stays}
use Rattle.reg_pit.specs.Lives.{values_at}
use Rattle.reg_pit.proofs.Ending.{rows_stay}
use Rattle.reg_pit.proofs.Valued.{values_stay}
use Rattle.reg_pit.proofs.past.Past.law_stays.Goals as goal

pub returns-clause-members : goal.returns-clause-members
returns-clause-members c at t g s w h = after_last at t _ w (h.members (g, s))

pub returns-clause-grants : goal.returns-clause-grants
returns-clause-grants c at t o p h w n = after_last at t _ w (n.grants (o, p, h))

pub returns-clause-wheel : goal.returns-clause-wheel
returns-clause-wheel c at t w h = noted_stays at t _ w h.wheel

pub returns-clause-assigns : goal.returns-clause-assigns
returns-clause-assigns c at t w h =
    rows_stay at t (λ a. values_at c.args.self.now.assigns.1 a at) (λ a. values_at c.args.self.now.assigns.1 a t) c.args.self.now.assigns.0 w h.assigns.lives (λ a. values_stay at t a c.args.self.now.assigns.1 w h.assigns.values)
