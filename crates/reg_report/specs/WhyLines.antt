-- The line of why a person is, or isn't, a member of a group: compact JSON whose keys ascend by bytes.
use Rattle.std.specs.Prelude.{ℕ, Bool, true, List, [], map, codes, ◌++◌}
use Rattle.serde_json.specs.Data.{Data, Items, null, array, object, member, no_members, number}
use Rattle.serde_json.specs.Data.{unsigned, boolean, string}
use Rattle.serde_json.specs.View.{items_of}
use Rattle.reg_base.specs.MomentText.{text_of}
use Rattle.reg_terms.specs.declared.kinds.Member.{Member}
use Rattle.reg_terms.specs.declared.kinds.Member.TheVariants.{Person, Group}
use Rattle.reg_terms.specs.declared.kinds.Object.TheVariants as object
use Rattle.reg_terms.specs.declared.kinds.SetOp.{SetOp}
use Rattle.reg_terms.specs.declared.kinds.SetOp.TheVariants.{Intersection, Complement, Union}
use Rattle.reg_terms.specs.declared.rows.MemberRow.{MemberRow}
use Rattle.reg_facts.specs.Lists.{Lists}
use Rattle.reg_facts.specs.Naming.{name_of}
use Rattle.reg_facts.specs.Rows.{subject_row}
use Rattle.reg_reasons.specs.Ways.{Way}
use Rattle.reg_reasons.specs.declared.statement.Grounds.{Grounds}
use Rattle.reg_reasons.specs.declared.statement.Grounds.TheVariants.{Factors, Rows}
use Rattle.reg_reasons.specs.declared.statement.Statement.{Statement}
use Rattle.reg_report.specs.Lines.{moment_data}
use Rattle.reg_report.specs.Permissions.{text_of_row}

-- the name of a group
abbrev pub group_text : Lists → ℕ → List ℕ
group_text f g = name_of (object.Group g) f

-- the text of a member: a person's, and a group's name behind `g:gsa/`
abbrev pub member_text : Lists → Member → List ℕ
member_text f (Person s) = text_of_row (subject_row s f.subjects)
member_text f (Group g) = codes "g:gsa/" ++ group_text f g

-- an immediate membership, with its group
unfoldable pub row_data : Lists → MemberRow → Data
row_data f row =
    object (member (codes "from") (string (text_of row.from))
    (member (codes "group") (string (group_text f row.group))
    (member (codes "member") (string (member_text f row.member))
    (member (codes "until") (moment_data row.until) no_members))))

-- immediate memberships as an array's items
abbrev pub row_items : Lists → Way → Items
row_items f way = items_of (map (row_data f) way)

-- ways as an array's items: each is the array of its rows
abbrev pub way_items : Lists → List Way → Items
way_items f ways = items_of (map (λ way. array (row_items f way)) ways)

-- the word of a kind of composite
abbrev pub kind_word : SetOp → List ℕ
kind_word Intersection = codes "intersection"
kind_word Complement = codes "complement"
kind_word Union = codes "union"

-- the factors of a composite
unfoldable pub factors_data : Lists → SetOp → (left right : ℕ) → Data
factors_data f op left right =
    object (member (codes "kind") (string (kind_word op))
    (member (codes "left") (string (group_text f left))
    (member (codes "right") (string (group_text f right)) no_members)))

-- a composite's factors, or null
abbrev pub composite_data : Lists → Grounds → Data
composite_data f (Rows count ways) = null
composite_data f (Factors op left right) = factors_data f op left right

-- how many ways there are by rows
abbrev pub number_of : Grounds → ℕ
number_of (Rows count ways) = count
number_of (Factors op left right) = 0

-- those that are listed
abbrev pub ways_of : Grounds → List Way
ways_of (Rows count ways) = ways.items
ways_of (Factors op left right) = []

-- a statement on a group
unfoldable pub statement_data : Lists → Statement → Data
statement_data f st =
    object (member (codes "composite") (composite_data f st.grounds)
    (member (codes "group") (string (group_text f st.group))
    (member (codes "member") (boolean st.has)
    (member (codes "number") (number (unsigned (number_of st.grounds)))
    (member (codes "ways") (array (way_items f (ways_of st.grounds))) no_members)))))

-- statements as an array's items
abbrev pub statement_items : Lists → List Statement → Items
statement_items f statements = items_of (map (statement_data f) statements)

-- whether a person is a member, and the statements that say why
unfoldable pub why_data : Lists → Bool → List Statement → Data
why_data f has statements =
    object (member (codes "explained") (array (statement_items f statements))
    (member (codes "member") (boolean has)
    (member (codes "ok") (boolean true) no_members)))
