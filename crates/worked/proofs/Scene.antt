-- The membership of the scene suits what is live before it: nothing.
use Rattle.std.proofs.Common.{◌≡◌, true, false, refl}
use Rattle.reg_terms.specs.declared.kinds.Member.TheVariants.{Person}
use Rattle.reg_effect.specs.Changes.{Suits, nothing}
use Rattle.reg_effect.specs.Edges.{edges}
use Rattle.reg_effect.specs.declared.live.Change.TheVariants.{RowOn}

pub suits_live : Suits (RowOn 2 (Person 1)) nothing
unfolding edges
suits_live = record { fits = (refl, refl); no_circle = λ a b e. absurd (let no : false ≡ true = e in let clash : ⊥ = cc in clash) }
