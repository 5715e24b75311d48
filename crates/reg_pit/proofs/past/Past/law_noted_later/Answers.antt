use Rattle.reg_pit.proofs.Alone.{no_later_more}
use Rattle.reg_pit.proofs.Ending.{lives_later}
use Rattle.reg_pit.proofs.Notes.{noted_later}
use Rattle.reg_pit.proofs.Valued.{values_later}
use Rattle.reg_pit.proofs.past.Past.law_noted_later.Goals as goal

pub returns : goal.returns
returns c a b w h = record {
  members = λ k. no_later_more a b _ w (h.members k);
  grants = λ k. no_later_more a b _ w (h.grants k);
  wheel = noted_later a b _ w h.wheel;
  assigns = record { lives = lives_later a b _ w h.assigns.lives; values = values_later a b _ w h.assigns.values };
}
