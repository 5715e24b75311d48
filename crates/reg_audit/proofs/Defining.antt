-- Definitions of attributes, noted one after another.
use Rattle.std.proofs.Common.{◌≡◌, ◌==◌, ◌++◌, ℕ, List, [], ◌∷◌, Option, Some, if◌then◌else◌, refl}
use Rattle.reg_audit.specs.Definitions.{last_definition, all_attributes, attributes_made}
use Rattle.reg_audit.specs.Steps.{Step}
use Rattle.reg_audit.proofs.Stepping.{flat_more}

pub attributes_more : (steps : List Step) (step : Step) → all_attributes (steps ++ step ∷ []) ≡ all_attributes steps ++ attributes_made step.events
attributes_more steps step = flat_more (λ (s : Step). attributes_made s.events) steps step

pub definition_more : (a : ℕ) (xs ys : List (ℕ × ℕ)) (known : Option ℕ) → last_definition a known (xs ++ ys) ≡ last_definition a (last_definition a known xs) ys
definition_more a [] ys known = refl
definition_more a (x ∷ xs) ys known = definition_more a xs ys (if x.0 == a then Some x.1 else known)
