-- What steps do to the consumers of the change log.
use Rattle.std.specs.Prelude.{ℕ, List, [], ◌∷◌, true, false, Option, Some, None, option_map}
use Rattle.std.specs.Prelude.{if◌then◌else◌}
use Rattle.std.specs.Option.{option_or}
use Rattle.std.specs.Str.{bytes_eq}
use Rattle.reg_terms.specs.declared.event.Event.{Event}
use Rattle.reg_terms.specs.declared.event.Event.TheVariants.{ConsumerAdded, ConsumerAcked}
use Rattle.reg_audit.specs.declared.consumers.ConsumerNote.{ConsumerNote}

-- what an event does to a consumer, if it does something
abbrev pub consumer_note : Event → Option ConsumerNote
consumer_note (ConsumerAdded row) =
    Some (record { name = row.name; place = row.place; is_new = true })
consumer_note (ConsumerAcked consumer seq) =
    Some (record { name = consumer; place = seq; is_new = false })
consumer_note _ = None

-- the place of the consumer of a name, after this was done to one: a new one is at its place unless
-- the name is taken, and one that has read further is at the new place if it is there
abbrev pub place_after : List ℕ → Option ℕ → ConsumerNote → Option ℕ
place_after name place note =
    if note.is_new then option_or place (if bytes_eq note.name name then Some note.place else None)
    else (if bytes_eq note.name name then option_map (λ p. note.place) place else place)

-- and after several of these
abbrev pub places_after : List ℕ → Option ℕ → List ConsumerNote → Option ℕ
places_after name place [] = place
places_after name place (note ∷ notes) = places_after name (place_after name place note) notes
