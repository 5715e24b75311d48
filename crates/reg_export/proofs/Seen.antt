-- Fields that are seen one behind the other, each under its key.
use Rattle.std.proofs.Common.{◌≡◌, true, false, List, [], ◌∷◌, refl}
use Rattle.std.proofs.lemmas.Bool.{false≢true, true≢false}
use Rattle.serde_json.specs.Data.{Members}
use Rattle.reg_ops.specs.Parts.{seen_all}
use Rattle.reg_ops.specs.declared.field.Field.{Field}
use Rattle.reg_ops.specs.declared.parts.FieldRef.{FieldRef}
use Rattle.reg_ops.specs.declared.parts.FieldRef.TheVariants as reference
use Rattle.reg_export.specs.Lines.{Keyed, is_nothing, with_data, with_fields}
use Rattle.reg_export.specs.Members.{reference_data}

-- where no field is seen, those behind it are all
pub nothing_seen : (v : FieldRef) (vs : List FieldRef) (keyed : List Keyed) (ms : Members) → is_nothing v ≡ true → with_fields (seen_all (v ∷ vs)) keyed ms ≡ with_fields (seen_all vs) keyed ms
nothing_seen reference.Nothing vs keyed ms h = refl
nothing_seen _ vs keyed ms h = absurd (false≢true h)

-- where one is seen, it stands under the first key
pub field_seen : (v : FieldRef) (vs : List FieldRef) (k : Keyed) (keyed : List Keyed) (ms : Members) → is_nothing v ≡ false → with_fields (seen_all (v ∷ vs)) (k ∷ keyed) ms ≡ with_fields (seen_all vs) keyed (with_data k.0 (reference_data v) ms)
field_seen reference.Nothing vs k keyed ms h = absurd (true≢false h)
field_seen _ vs k keyed ms h = refl

-- no key is left
pub none_left : (fs : List Field) (ms : Members) → with_fields fs [] ms ≡ ms
none_left [] ms = refl
none_left (f ∷ fs) ms = refl

pub ruleset seen_lemmas = (nothing_seen, field_seen, none_left)
