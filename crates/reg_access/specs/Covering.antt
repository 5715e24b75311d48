-- Resources, and which attribute covers which.
use Rattle.std.specs.Prelude.{◌==◌, ◌++◌, [], ◌∷◌, Bool, true, false, ◌&&◌, ◌||◌, nat_eq}
use Rattle.std.specs.List.{starts_with}
use Rattle.reg_terms.specs.declared.kinds.DefKind.{DefKind}
use Rattle.reg_terms.specs.declared.kinds.DefKind.TheVariants.{Marker, Integer, Text, Timestamp}
use Rattle.reg_terms.specs.declared.rows.AttributeRow.{AttributeRow}
use Rattle.reg_terms.specs.declared.rows.DefinitionRow.{DefinitionRow}

-- whether values of this kind are texts
abbrev pub is_text : DefKind → Bool
is_text Marker = false
is_text Integer = false
is_text Text = true
is_text Timestamp = false

-- whether the attributes of a definition are resources: their values are texts, several of which
-- may stand in one assignment, and they are assigned to groups
abbrev pub is_permission : DefinitionRow → Bool
is_permission row = is_text row.kind && (row.many && row.owners.group)

-- whether an attribute covers another: it is the same, or both are of one definition, stand in one
-- folder, and the other's extension begins with its own and a point
abbrev pub covers : AttributeRow → AttributeRow → Bool
covers a r =
    (a.definition == r.definition) && ((a.id == r.id)
    || ((a.folder == r.folder) && starts_with nat_eq r.extension (a.extension ++ 46 ∷ [])))
