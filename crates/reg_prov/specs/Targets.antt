-- A target: which pairs of a group and a person an outside list has.
use Rattle.std.specs.Prelude.{ℕ, ◌==◌, ◌&&◌, ◌||◌, List, [], ◌∷◌, Bool, not}
use Rattle.std.specs.List.{list_any}
use Rattle.reg_prov.specs.declared.target.TargetOp.{TargetOp}
use Rattle.reg_prov.specs.declared.target.TargetOp.TheVariants.{Add, Remove}

-- whether a pair is among some
abbrev pub holds : List (ℕ × ℕ) → ℕ → ℕ → Bool
holds pairs g s = list_any (λ (pair : ℕ × ℕ). (pair.0 == g) && (pair.1 == s)) pairs

-- the target after an operation: a pair is put in, or taken out
abbrev pub after_op : TargetOp → (ℕ → ℕ → Bool) → ℕ → ℕ → Bool
after_op (Add group subject) target g s = ((group == g) && (subject == s)) || target g s
after_op (Remove group subject) target g s = not ((group == g) && (subject == s)) && target g s

-- the target after operations, one after another
abbrev pub after_ops : List TargetOp → (ℕ → ℕ → Bool) → ℕ → ℕ → Bool
after_ops [] target g s = target g s
after_ops (op ∷ ops) target g s = after_ops ops (after_op op target) g s
