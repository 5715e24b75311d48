-- The numbers of objects and of holders.
use Rattle.std.specs.Prelude.{ℕ}
use Rattle.reg_terms.specs.declared.kinds.Holder.{Holder}
use Rattle.reg_terms.specs.declared.kinds.Holder.TheVariants as holder
use Rattle.reg_terms.specs.declared.kinds.Object.{Object}
use Rattle.reg_terms.specs.declared.kinds.Object.TheVariants as object

-- the number of an object
abbrev pub object_number : Object → ℕ
object_number (object.Folder d) = d
object_number (object.Group g) = g
object_number (object.Def a) = a
object_number (object.Attr a) = a
object_number (object.Subject s) = s

-- the number of a holder, if it has any
abbrev pub holder_number : Holder → ℕ
holder_number holder.Everyone = 0
holder_number (holder.Person s) = s
holder_number (holder.Group g) = g
