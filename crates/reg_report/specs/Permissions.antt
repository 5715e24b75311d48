-- What is printed of permissions.
use Rattle.std.specs.Prelude.{◌≡◌, ℕ, List, [], Bool, Result, Option, None, Some, map, option_map}
use Rattle.reg_current.specs.Live.{live}
use Rattle.reg_terms.specs.declared.refusal.Refusal.{Refusal}
use Rattle.reg_terms.specs.declared.rows.SubjectRow.{SubjectRow}
use Rattle.reg_facts.specs.Rows.{subject_row}
use Rattle.reg_machine.specs.History.{State, now_facts}
use Rattle.reg_access.specs.Grounds.{AreThose, allows, first_of, grounds, is_allowed}
use Rattle.reg_access.specs.declared.ground.Ground.{Ground}
use Rattle.reg_report.specs.Asked.{permit_asked, permitted_asked}
use Rattle.reg_report.specs.Lines.{line, permit_data, permitted_data}
use Rattle.reg_report.specs.Printed.{Printed}

-- the line of what decides: whether it allows, and its assignment
abbrev pub ground_line : Option Ground → List ℕ
ground_line found =
    line (permit_data (allows found) (option_map (λ (g : Ground). g.assign) found))

-- the grounds of a person for an action on a resource now, in order
abbrev pub grounds_now : State → ℕ → ℕ → List ℕ → List Ground
grounds_now s person resource action =
    grounds (live s.clock (now_facts s)) (now_facts s) person resource action

-- what is told of whether a person may act so: the first of the grounds decides
abbrev pub PermitTold : State → List ℕ → List ℕ → List ℕ → Result (List ℕ) Refusal → Type 0
PermitTold s subject resource action told =
    Printed (permit_asked subject resource action (now_facts s))
    (λ (asked : ℕ × ℕ) bytes. bytes
    ≡ ground_line (first_of (grounds_now s asked.0 asked.1 action))) told

-- the text of a person
abbrev pub text_of_row : Option SubjectRow → List ℕ
text_of_row None = []
text_of_row (Some row) = row.text

-- the texts of persons
abbrev pub texts_of : List ℕ → List SubjectRow → List (List ℕ)
texts_of persons subjects = map (λ s. text_of_row (subject_row s subjects)) persons

-- whether a person may act so on a resource now
abbrev pub may_act : State → ℕ → List ℕ → ℕ → Bool
may_act s resource action person =
    is_allowed (live s.clock (now_facts s)) (now_facts s) resource action person

-- these bytes are the line of the persons who may act so on a resource, by id
pub record IsPermittedLine (s : State) (resource : ℕ) (action bytes : List ℕ) : Type 0 where
  pub persons : List ℕ
  pub those : AreThose (may_act s resource action) persons
  pub prints : bytes ≡ line (permitted_data (texts_of persons (now_facts s).subjects))

-- what is told of who may act so
abbrev pub PermittedTold : State → List ℕ → List ℕ → Result (List ℕ) Refusal → Type 0
PermittedTold s resource action told =
    Printed (permitted_asked resource action (now_facts s))
    (λ (r : ℕ) bytes. IsPermittedLine s r action bytes) told
