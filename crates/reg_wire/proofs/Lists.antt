-- Lists of fields that are seen one behind the other, and what is true of each of a list.
use Rattle.std.proofs.Common.{◌≡◌, ℕ, zero, suc, ◌<◌, Bool, true, ◌&&◌, List, [], ◌∷◌, ◌++◌, length, get_or, sym, ◌∙◌, arith}
use Rattle.std.specs.List.{list_all, flat_map}
use Rattle.std.proofs.lemmas.Bool.{and_parts}
use Rattle.std.proofs.lemmas.Grind.{flat_map-append}
use Rattle.std.proofs.lemmas.List.Folds.{list_all-append}
use Rattle.reg_ops.specs.declared.parts.FieldRef.{FieldRef}
use Rattle.reg_ops.specs.Forms.{is_field}
use Rattle.reg_ops.specs.Parts.{seen, seen_all}
use Rattle.reg_wire.specs.Fields.{field_bytes}

-- the bytes of a field and those behind it
pub seen_bytes : (r : FieldRef) (rs : List FieldRef) → flat_map field_bytes (seen_all (r ∷ rs)) ≡ flat_map field_bytes (seen r) ++ flat_map field_bytes (seen_all rs)
seen_bytes r rs = flat_map-append field_bytes (seen r) (seen_all rs)

seen_test : (r : FieldRef) (rs : List FieldRef) → list_all is_field (seen_all (r ∷ rs)) ≡ (list_all is_field (seen r) && list_all is_field (seen_all rs))
seen_test r rs = list_all-append is_field (seen r) (seen_all rs)

-- each of fields that all fit fits
pub seen_fit : (r : FieldRef) (rs : List FieldRef) → list_all is_field (seen_all (r ∷ rs)) ≡ true → (list_all is_field (seen r) ≡ true) × (list_all is_field (seen_all rs) ≡ true)
seen_fit r rs h = and_parts _ _ (sym (seen_test r rs) ∙ h)

-- what all of a list pass each passes
pub each_passes : {A : Type 0} (test : A → Bool) (xs : List A) (i : ℕ) (d : A) → list_all test xs ≡ true → i < length xs → test (get_or xs i d) ≡ true
each_passes test [] i d h lt = absurd (omega arith)
each_passes test (x ∷ xs) zero d h lt = (and_parts _ _ h).0
each_passes test (x ∷ xs) (suc i) d h lt = each_passes test xs i d (and_parts _ _ h).1 (omega arith)
