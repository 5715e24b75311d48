-- No two consumers share a name, at the start and after each event that suits.
use Rattle.std.proofs.Common.{◌≡◌, ◌++◌, ◌∙◌, ℕ, List, [], ◌∷◌, Bool, true, false, Option, Some, None, map, inl, inr, refl}
use Rattle.std.specs.Prelude.{if◌then◌else◌}
use Rattle.std.specs.Str.{bytes_eq}
use Rattle.std.proofs.lemmas.Bool.{cases_Bool}
use Rattle.reg_terms.specs.declared.event.Event.{Event}
use Rattle.reg_terms.specs.declared.event.Event.TheVariants.{ConsumerAdded, ConsumerAcked}
use Rattle.reg_terms.specs.declared.rows.ConsumerRow.{ConsumerRow}
use Rattle.reg_facts.specs.Consumers.{consumer_place, acknowledged, AreConsumersOnce}
use Rattle.reg_facts.specs.Events.{happened}
use Rattle.reg_facts.specs.Lists.{Lists}
use Rattle.reg_facts.specs.Suiting.{Suits}
use Rattle.reg_facts.proofs.Held.{subject_apart, text_other}

-- who isn't at the head, nor behind it, isn't there
none_by : (b : Bool) (place : ℕ) (o : Option ℕ) → b ≡ false → o ≡ None → (if b then Some place else o) ≡ None
none_by b place o apart none = rw apart none

-- a consumer more, of another name
none_more : (name : List ℕ) (rows : List ConsumerRow) (row : ConsumerRow) → consumer_place name rows ≡ None → bytes_eq row.name name ≡ false → consumer_place name (rows ++ row ∷ []) ≡ None
none_more name [] row none apart = none_by (bytes_eq row.name name) row.place None apart refl
none_more name (r ∷ rows) row none apart =
    let parts = subject_apart (bytes_eq r.name name) r.place (consumer_place name rows) none in
    none_by (bytes_eq r.name name) r.place (consumer_place name (rows ++ row ∷ [])) parts.0 (none_more name rows row parts.1 apart)

once_more : (rows : List ConsumerRow) (row : ConsumerRow) → AreConsumersOnce rows → consumer_place row.name rows ≡ None → AreConsumersOnce (rows ++ row ∷ [])
once_more [] row once new = (refl, tt)
once_more (r ∷ rows) row once new =
    let parts = subject_apart (bytes_eq r.name row.name) r.place (consumer_place row.name rows) new in
    (none_more r.name rows row once.0 (text_other r.name row.name parts.0), once_more rows row once.1 parts.1)

-- who has read further has the same name
name_kept : (name : List ℕ) (seq : ℕ) (row : ConsumerRow) → (acknowledged name seq row).name ≡ row.name
name_kept name seq row = elim (cases_Bool (bytes_eq row.name name)) [ inl t ↦ rw t refl | inr t ↦ rw t refl ]

none_still : (name : List ℕ) (seq : ℕ) (other : List ℕ) (rows : List ConsumerRow) → consumer_place other rows ≡ None → consumer_place other (map (acknowledged name seq) rows) ≡ None
none_still name seq other [] none = refl
none_still name seq other (r ∷ rows) none =
    let parts = subject_apart (bytes_eq r.name other) r.place (consumer_place other rows) none in
    none_by (bytes_eq (acknowledged name seq r).name other) (acknowledged name seq r).place (consumer_place other (map (acknowledged name seq) rows)) (rw (name_kept name seq r) parts.0) (none_still name seq other rows parts.1)

once_still : (name : List ℕ) (seq : ℕ) (rows : List ConsumerRow) → AreConsumersOnce rows → AreConsumersOnce (map (acknowledged name seq) rows)
once_still name seq [] once = tt
once_still name seq (r ∷ rows) once = (rw (name_kept name seq r) (none_still name seq r.name rows once.0), once_still name seq rows once.1)

-- an event that suits
pub happened_consumers : (e : Event) (f : Lists) → Suits e f → AreConsumersOnce f.consumers → AreConsumersOnce (happened e f).consumers
happened_consumers (ConsumerAdded row) f suits once = once_more f.consumers row once suits.0
happened_consumers (ConsumerAcked name seq) f suits once = once_still name seq f.consumers once
happened_consumers _ f suits once = once
