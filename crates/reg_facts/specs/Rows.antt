-- Rows by their ids.
use Rattle.std.specs.Prelude.{ℕ, ◌==◌, List, Option}
use Rattle.std.specs.List.{find}
use Rattle.reg_terms.specs.declared.rows.FolderRow.{FolderRow}
use Rattle.reg_terms.specs.declared.rows.GroupRow.{GroupRow}
use Rattle.reg_terms.specs.declared.rows.SubjectRow.{SubjectRow}
use Rattle.reg_terms.specs.declared.rows.DefinitionRow.{DefinitionRow}
use Rattle.reg_terms.specs.declared.rows.AttributeRow.{AttributeRow}
use Rattle.reg_terms.specs.declared.rows.JobRow.{JobRow}

-- the row of this id, of each kind
abbrev pub folder_row : ℕ → List FolderRow → Option FolderRow
folder_row id rows = find (λ (row : FolderRow). row.id == id) rows

abbrev pub group_row : ℕ → List GroupRow → Option GroupRow
group_row id rows = find (λ (row : GroupRow). row.id == id) rows

abbrev pub subject_row : ℕ → List SubjectRow → Option SubjectRow
subject_row id rows = find (λ (row : SubjectRow). row.id == id) rows

abbrev pub definition_row : ℕ → List DefinitionRow → Option DefinitionRow
definition_row id rows = find (λ (row : DefinitionRow). row.id == id) rows

abbrev pub attribute_row : ℕ → List AttributeRow → Option AttributeRow
attribute_row id rows = find (λ (row : AttributeRow). row.id == id) rows

abbrev pub job_row : ℕ → List JobRow → Option JobRow
job_row id rows = find (λ (row : JobRow). row.id == id) rows
