-- Flat objects as JSON data.
use Rattle.std.specs.Prelude.{ℕ, List, [], ◌∷◌, Option, Some, None}
use Rattle.std.specs.Borrow.{Bor}
use Rattle.serde_json.specs.Data.{Data, Members, null, member, no_members, number, unsigned}
use Rattle.serde_json.specs.Data.{boolean, string}
use Rattle.reg_base.specs.MomentText.{text_of}
use Rattle.reg_json.specs.declared.flat.Scalar.{Scalar}
use Rattle.reg_json.specs.declared.flat.Scalar.TheVariants as scalar

-- a moment by its text, or null
abbrev pub moment_data : Option ℕ → Data
moment_data None = null
moment_data (Some moment) = string (text_of moment)

-- a value that holds no other
abbrev pub scalar_data : Scalar → Data
scalar_data (scalar.Text text) = string text.now
scalar_data (scalar.Number n) = number (unsigned n)
scalar_data (scalar.Moment moment) = moment_data moment
scalar_data (scalar.Flag flag) = boolean flag

-- members whose values hold no other
abbrev pub flat : List (Bor (List ℕ) × Scalar) → Members
flat [] = no_members
flat (m ∷ ms) = member m.0.now (scalar_data m.1) (flat ms)
