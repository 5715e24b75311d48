-- The words of states.
use Rattle.std.specs.Prelude.{ℕ, List, Bool, true, false, codes}
use Rattle.reg_access.specs.declared.state.StateKind.{StateKind}
use Rattle.reg_access.specs.declared.state.StateKind.TheVariants as kind

-- the word of a state
abbrev pub word_of : StateKind → List ℕ
word_of kind.None = codes "none"
word_of kind.Never = codes "never"
word_of kind.Attested = codes "attested"
word_of kind.Due = codes "due"
word_of kind.Overdue = codes "overdue"

-- owners are reminded of a state: the group wasn't certified yet, or soon isn't, or isn't any more
abbrev pub is_reminded : StateKind → Bool
is_reminded kind.None = false
is_reminded kind.Never = true
is_reminded kind.Attested = false
is_reminded kind.Due = true
is_reminded kind.Overdue = true
