-- Which objects an inherit on a folder reaches.
use Rattle.std.specs.Prelude.{ℕ, Bool, false, ◌==◌, Option, None, Some}
use Rattle.reg_terms.specs.declared.kinds.Object.{Object}
use Rattle.reg_terms.specs.declared.kinds.Scope.{Scope}
use Rattle.reg_terms.specs.declared.kinds.Scope.TheVariants.{One, Sub}
use Rattle.reg_facts.specs.Lists.{Lists}
use Rattle.reg_facts.specs.Naming.{Placed, placed, place_of, lies_in, most_levels}

-- whether the folder in which an object stands is this folder, or lies below it
abbrev pub stands_in : ℕ → Scope → ℕ → Lists → Bool
stands_in folder One home f = home == folder
stands_in folder Sub home f = lies_in most_levels home folder f.folders

-- whether a place is in the scope of a folder; what stands nowhere isn't
abbrev pub place_in_scope : ℕ → Scope → Option Placed → Lists → Bool
place_in_scope folder scope None f = false
place_in_scope folder scope (Some p) f = stands_in folder scope p.folder f

-- whether an object is in the scope of a folder: directly in it, or at any depth below it
abbrev pub in_scope : ℕ → Scope → Object → Lists → Bool
in_scope folder scope o f = place_in_scope folder scope (place_of o (placed f)) f
