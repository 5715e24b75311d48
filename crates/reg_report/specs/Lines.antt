-- The lines that reports print: compact JSON whose keys ascend by bytes, each with LF.
use Rattle.std.specs.Prelude.{ℕ, Bool, true, List, [], ◌∷◌, ◌++◌, Option, Some, None, map, codes}
use Rattle.serde_json.specs.Data.{Data, Items, null, array, object, member, no_members, number}
use Rattle.serde_json.specs.Data.{unsigned, boolean, string}
use Rattle.serde_json.specs.View.{items_of}
use Rattle.serde_json.specs.Written.{compact_text}
use Rattle.reg_base.specs.MomentText.{text_of}
use Rattle.reg_access.specs.Words.{word_of}
use Rattle.reg_access.specs.declared.state.State.{State}
use Rattle.reg_access.specs.declared.state.StateKind.{StateKind}

-- a line: the text of its data, and LF
abbrev pub line : Data → List ℕ
line d = compact_text d ++ 10 ∷ []

-- a number, or null
abbrev pub number_data : Option ℕ → Data
number_data None = null
number_data (Some n) = number (unsigned n)

-- a moment by its text, or null
abbrev pub moment_data : Option ℕ → Data
moment_data None = null
moment_data (Some moment) = string (text_of moment)

-- texts as an array's items
abbrev pub strings : List (List ℕ) → Items
strings texts = items_of (map string texts)

-- whether a person may act so, and the assignment that decides it, if one does
unfoldable pub permit_data : Bool → Option ℕ → Data
permit_data allowed assign =
    object (member (codes "allowed") (boolean allowed)
    (member (codes "ground") (number_data assign)
    (member (codes "ok") (boolean true) no_members)))

-- the texts of those who may act so
unfoldable pub permitted_data : List (List ℕ) → Data
permitted_data subjects =
    object (member (codes "ok") (boolean true)
    (member (codes "subjects") (array (strings subjects)) no_members))

-- a state of attestation, and its end, if it has one
unfoldable pub attested_data : State → Data
attested_data state =
    object (member (codes "ok") (boolean true)
    (member (codes "state") (string (word_of state.kind))
    (member (codes "until") (moment_data state.until) no_members)))

-- a state of attestation, and the moment from which on it lasts
abbrev pub period_data : ℕ × StateKind → Data
period_data period =
    object (member (codes "from") (string (text_of period.0))
    (member (codes "state") (string (word_of period.1)) no_members))

-- such states as an array's items
abbrev pub period_items : List (ℕ × StateKind) → Items
period_items states = items_of (map period_data states)

-- the states of an attestation from the beginning on
unfoldable pub attestation_data : List (ℕ × StateKind) → Data
attestation_data states =
    object (member (codes "ok") (boolean true)
    (member (codes "states") (array (period_items states)) no_members))
