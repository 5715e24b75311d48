-- The lines that are delivered of a batch: one for each operation, and a last one with its end.
use Rattle.std.specs.Prelude.{ℕ, List, true, codes}
use Rattle.std.specs.List.{flat_map}
use Rattle.serde_json.specs.Data.{Data, object, member, no_members, number, unsigned, boolean}
use Rattle.serde_json.specs.Data.{string}
use Rattle.reg_terms.specs.declared.rows.SubjectRow.{SubjectRow}
use Rattle.reg_facts.specs.Rows.{subject_row}
use Rattle.reg_prov.specs.declared.target.TargetOp.{TargetOp}
use Rattle.reg_prov.specs.declared.target.TargetOp.TheVariants.{Add, Remove}
use Rattle.reg_report.specs.Lines.{line}
use Rattle.reg_report.specs.Permissions.{text_of_row}

-- what is done with a pair: the number of its group, and the text of its person
unfoldable pub pair_data : List ℕ → ℕ → List ℕ → Data
pair_data word group subject =
    object (member (codes "do") (string word)
    (member (codes "group") (number (unsigned group))
    (member (codes "subject") (string subject) no_members)))

-- the text of a person, among subjects
abbrev pub text_of : List SubjectRow → ℕ → List ℕ
text_of subjects person = text_of_row (subject_row person subjects)

-- an operation
abbrev pub op_data : List SubjectRow → TargetOp → Data
op_data subjects (Add group person) = pair_data (codes "add") group (text_of subjects person)
op_data subjects (Remove group person) = pair_data (codes "remove") group (text_of subjects person)

-- the lines of operations, in order
abbrev pub op_lines : List SubjectRow → List TargetOp → List ℕ
op_lines subjects ops = flat_map (λ op. line (op_data subjects op)) ops

-- the place to which a batch leads
unfoldable pub place_data : ℕ → Data
place_data place =
    object (member (codes "ok") (boolean true)
    (member (codes "place") (number (unsigned place)) no_members))

-- the last line
abbrev pub place_line : ℕ → List ℕ
place_line place = line (place_data place)
