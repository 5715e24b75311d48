use Rattle.std.proofs.Common.{◌∙◌, sym}
use Rattle.std.proofs.lemmas.Slice.Eq.{slice_eq-Decides}
use Rattle.reg_effect.proofs.Marked.{pair_decides}
use Rattle.reg_effect.proofs.marks.Marks.same.Goals as goal

pub returns : goal.returns
returns c = λ t. sym c.self.view_is ∙ ((slice_eq-Decides pair_decides _ _ _ c.eq.ensures).0 t ∙ c.other.view_is)
