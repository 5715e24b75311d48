-- The reminders: a line for each group whose members its owners have to confirm.
use Rattle.std.specs.Prelude.{ℕ, ◌++◌, List, [], ◌∷◌, Option, Some, None, codes}
use Rattle.std.specs.Prelude.{if◌then◌else◌}
use Rattle.std.specs.List.{flat_map}
use Rattle.reg_base.specs.MomentText.{text_of}
use Rattle.reg_machine.specs.History.{facts}
use Rattle.reg_machine.specs.Past.{last_name}
use Rattle.reg_terms.specs.declared.command.Stamped.{Stamped}
use Rattle.reg_terms.specs.declared.kinds.Object.TheVariants.{Group}
use Rattle.reg_terms.specs.declared.rows.GroupRow.{GroupRow}
use Rattle.reg_access.specs.declared.state.State.{State}
use Rattle.reg_access.specs.Groups.{attested_at}
use Rattle.reg_access.specs.Words.{is_reminded, word_of}

-- what a line says of an end
abbrev pub end_text : Option ℕ → List ℕ
end_text None = []
end_text (Some end) = codes " " ++ text_of end

-- the line of a group, if its state is one of which owners are reminded
abbrev pub reminder : List ℕ → State → List ℕ
reminder name state =
    if is_reminded state.kind
    then name ++ codes " " ++ word_of state.kind ++ end_text state.until ++ 10 ∷ [] else []

-- the line of a group now
abbrev pub reminder_of : List Stamped → ℕ → ℕ → List ℕ
reminder_of history now g =
    reminder (last_name history now (Group g)) (attested_at history now g now)

-- the lines of the groups that stand now, by id
abbrev pub reminders_of : List Stamped → ℕ → List ℕ
reminders_of history now =
    flat_map (λ (row : GroupRow). reminder_of history now row.id) (facts history now).groups
