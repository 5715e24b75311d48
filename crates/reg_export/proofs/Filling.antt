-- What stands under which key of an object that has the fields of an op.
use Rattle.std.proofs.Common.{◌≡◌, ℕ, Bool, true, false, ◌&&◌, not, List, [], ◌∷◌, Option, Some, None, refl, sym, ◌∙◌}
use Rattle.std.specs.Prelude.{⊤}
use Rattle.std.specs.List.{list_all}
use Rattle.std.specs.Str.{bytes_eq}
use Rattle.std.proofs.lemmas.Bool.{and_parts, false≢true, or_parts}
use Rattle.serde_json.specs.Data.{Data, Members, no_members}
use Rattle.serde_json.specs.Find.{get_member}
use Rattle.serde_json.proofs.Views.{get_member-put, get_member-put_other}
use Rattle.reg_ops.specs.declared.field.Field.{Field}
use Rattle.reg_export.specs.Fields.{field_data}
use Rattle.reg_export.specs.Lines.{Keyed, has_key, with_data, with_fields}
use Rattle.reg_export.proofs.Putting.{AreKnown, differ, is_known, known_put}

-- each field stands under its key
abbrev pub AllThere : List Field → List Keyed → Members → Type 0
AllThere [] keyed ms = ⊤
AllThere (f ∷ fs) [] ms = ⊤
AllThere (f ∷ fs) (k ∷ keyed) ms = (get_member k.0 ms ≡ field_data f) × AllThere fs keyed ms

-- nothing stands under these keys
abbrev pub AllAbsent : List Keyed → Members → Type 0
AllAbsent [] ms = ⊤
AllAbsent (k ∷ keyed) ms = (get_member k.0 ms ≡ None) × AllAbsent keyed ms

-- no key comes twice
abbrev pub all_differ : List Keyed → Bool
all_differ [] = true
all_differ (k ∷ keyed) = not (has_key k.0 keyed) && all_differ keyed

-- each key is a known one
abbrev pub all_known : List (List ℕ) → List Keyed → Bool
all_known known keyed = list_all (λ (k : Keyed). is_known known k.0) keyed

pub isnt : (b : Bool) → not b ≡ true → b ≡ false
isnt true h = absurd (false≢true h)
isnt false h = refl

-- a key that isn't theirs differs from the first, and from the others
other_parts : (key : List ℕ) (k : Keyed) (keyed : List Keyed) → has_key key (k ∷ keyed) ≡ false → (bytes_eq key k.0 ≡ false) × (has_key key keyed ≡ false)
other_parts key k keyed h = or_parts (bytes_eq key k.0) (has_key key keyed) h

-- ---- other keys stay

pub kept_data : (q k : List ℕ) (found : Option Data) (ms : Members) → (q ≡ k → ⊥) → get_member q (with_data k found ms) ≡ get_member q ms
kept_data q k None ms other = refl
kept_data q k (Some d) ms other = get_member-put_other q k d ms other

pub kept_fields : (q : List ℕ) (fs : List Field) (keyed : List Keyed) (ms : Members) → has_key q keyed ≡ false → get_member q (with_fields fs keyed ms) ≡ get_member q ms
kept_fields q [] keyed ms h = refl
kept_fields q (f ∷ fs) [] ms h = refl
kept_fields q (f ∷ fs) (k ∷ keyed) ms h =
    let parts = other_parts q k keyed h in
    kept_fields q fs keyed (with_data k.0 (field_data f) ms) parts.1 ∙ kept_data q k.0 (field_data f) ms (differ q k.0 parts.0)

pub absent_kept : (keyed : List Keyed) (key : List ℕ) (found : Option Data) (ms : Members) → has_key key keyed ≡ false → AllAbsent keyed ms → AllAbsent keyed (with_data key found ms)
absent_kept [] key found ms h absent = tt
absent_kept (k ∷ keyed) key found ms h absent =
    let parts = other_parts key k keyed h in
    (kept_data k.0 key found ms (λ e. differ key k.0 parts.0 (sym e)) ∙ absent.0, absent_kept keyed key found ms parts.1 absent.1)

pub all_absent : (keyed : List Keyed) → AllAbsent keyed no_members
all_absent [] = tt
all_absent (k ∷ keyed) = (refl, all_absent keyed)

pub there_kept : (fs : List Field) (keyed : List Keyed) (key : List ℕ) (found : Option Data) (ms : Members) → has_key key keyed ≡ false → AllThere fs keyed ms → AllThere fs keyed (with_data key found ms)
there_kept [] keyed key found ms h there = tt
there_kept (f ∷ fs) [] key found ms h there = tt
there_kept (f ∷ fs) (k ∷ keyed) key found ms h there =
    let parts = other_parts key k keyed h in
    (kept_data k.0 key found ms (λ e. differ key k.0 parts.0 (sym e)) ∙ there.0, there_kept fs keyed key found ms parts.1 there.1)

-- ---- each field is there

pub found_data : (key : List ℕ) (found : Option Data) (ms : Members) → get_member key ms ≡ None → get_member key (with_data key found ms) ≡ found
found_data key None ms absent = absent
found_data key (Some d) ms absent = get_member-put key d ms

pub all_there : (fs : List Field) (keyed : List Keyed) (ms : Members) → all_differ keyed ≡ true → AllAbsent keyed ms → AllThere fs keyed (with_fields fs keyed ms)
all_there [] keyed ms one absent = tt
all_there (f ∷ fs) [] ms one absent = tt
all_there (f ∷ fs) (k ∷ keyed) ms one absent =
    let parts = and_parts (not (has_key k.0 keyed)) (all_differ keyed) one in
    let other = isnt (has_key k.0 keyed) parts.0 in
    let more = with_data k.0 (field_data f) ms in
    (kept_fields k.0 fs keyed more other ∙ found_data k.0 (field_data f) ms absent.0, all_there fs keyed more parts.1 (absent_kept keyed k.0 (field_data f) ms other absent.1))

-- ---- and no other key

pub known_data : (known : List (List ℕ)) (key : List ℕ) (found : Option Data) (ms : Members) → is_known known key ≡ true → AreKnown known ms → AreKnown known (with_data key found ms)
known_data known key None ms a all = all
known_data known key (Some d) ms a all = known_put known key d ms a all

pub known_fields : (known : List (List ℕ)) (fs : List Field) (keyed : List Keyed) (ms : Members) → all_known known keyed ≡ true → AreKnown known ms → AreKnown known (with_fields fs keyed ms)
known_fields known [] keyed ms each all = all
known_fields known (f ∷ fs) [] ms each all = all
known_fields known (f ∷ fs) (k ∷ keyed) ms each all =
    let parts = and_parts (is_known known k.0) (all_known known keyed) each in
    known_fields known fs keyed (with_data k.0 (field_data f) ms) parts.1 (known_data known k.0 (field_data f) ms parts.0 all)
