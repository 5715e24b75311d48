-- Lists of fields that are seen one behind the other.
use Rattle.std.proofs.Common.{◌≡◌, ◌&&◌, List, ◌∷◌}
use Rattle.std.specs.List.{list_all}
use Rattle.std.proofs.lemmas.List.Folds.{list_all-append}
use Rattle.reg_ops.specs.declared.parts.FieldRef.{FieldRef}
use Rattle.reg_ops.specs.Forms.{is_field}
use Rattle.reg_ops.specs.Parts.{seen, seen_all}

-- the test of a field and those behind it
pub seen_test : (r : FieldRef) (rs : List FieldRef) → list_all is_field (seen_all (r ∷ rs)) ≡ (list_all is_field (seen r) && list_all is_field (seen_all rs))
seen_test r rs = list_all-append is_field (seen r) (seen_all rs)
