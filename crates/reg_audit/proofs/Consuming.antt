-- Places of consumers, event by event.
use Rattle.std.proofs.Common.{◌≡◌, ◌++◌, ℕ, List, [], ◌∷◌, true, false, Option, Some, None, map, filter_map, option_map, if◌then◌else◌, refl, sym, ap, ◌∙◌, inl, inr}
use Rattle.std.proofs.lemmas.Bool.{cases_Bool}
use Rattle.std.proofs.lemmas.Slice.Eq.{bytes_eq-Decides}
use Rattle.std.specs.List.{cons_option}
use Rattle.std.specs.Option.{option_or}
use Rattle.std.specs.Str.{bytes_eq}
use Rattle.reg_terms.specs.declared.event.Event.{Event}
use Rattle.reg_terms.specs.declared.event.Event.TheVariants.{ConsumerAdded, ConsumerAcked}
use Rattle.reg_terms.specs.declared.rows.ConsumerRow.{ConsumerRow}
use Rattle.reg_facts.specs.Consumers.{consumer_place, acknowledged}
use Rattle.reg_facts.specs.Events.{happened, all_happened}
use Rattle.reg_facts.specs.Lists.{Lists}
use Rattle.reg_audit.specs.Consumers.{consumer_note, place_after, places_after}
use Rattle.reg_audit.specs.declared.consumers.ConsumerNote.{ConsumerNote}

-- one consumer more
one_more : (n : List ℕ) (rows : List ConsumerRow) (row : ConsumerRow) → consumer_place n (rows ++ row ∷ []) ≡ option_or (consumer_place n rows) (if bytes_eq row.name n then Some row.place else None)
one_more n [] row = refl
one_more n (r ∷ rs) row = elim (cases_Bool (bytes_eq r.name n)) [
  | inl y ↦ rw y refl
  | inr f ↦ rw f (one_more n rs row)
]

same_bytes : (a b : List ℕ) → bytes_eq a b ≡ true → a ≡ b
same_bytes a b h = (bytes_eq-Decides a b).0 h

-- one consumer has read further
one_moved : (n name : List ℕ) (seq : ℕ) (rows : List ConsumerRow) → consumer_place n (map (acknowledged name seq) rows) ≡ (if bytes_eq name n then option_map (λ (p : ℕ). seq) (consumer_place n rows) else consumer_place n rows)
one_moved n name seq [] = elim (cases_Bool (bytes_eq name n)) [ inl y ↦ rw y refl | inr f ↦ rw f refl ]
one_moved n name seq (r ∷ rs) = elim (cases_Bool (bytes_eq r.name name)) [
  | inl a ↦ elim (cases_Bool (bytes_eq r.name n)) [
    | inl b ↦ let c : bytes_eq name n ≡ true = rw (← same_bytes r.name name a) b in rw (a, b, c) refl
    | inr b ↦ let c : bytes_eq name n ≡ false = rw (← same_bytes r.name name a) b in let rest = rw c at (one_moved n name seq rs) in rw (a, b, c) rest
  ]
  | inr a ↦ elim (cases_Bool (bytes_eq r.name n)) [
    | inl b ↦ let c : bytes_eq name n ≡ false = apart r.name n name a b in rw (a, b, c) refl
    | inr b ↦ rw (a, b) (one_moved n name seq rs)
  ]
]
  where
    apart : (r n name : List ℕ) → bytes_eq r name ≡ false → bytes_eq r n ≡ true → bytes_eq name n ≡ false
    apart r n name a b = elim (cases_Bool (bytes_eq name n)) [
      | inl y ↦ let e : bytes_eq r name ≡ true = rw (same_bytes name n y) b in let no : true ≡ false = sym e ∙ a in cc
      | inr f ↦ f
    ]

-- the place after an event, by what it does to a consumer
abbrev pub place_or : List ℕ → Option ℕ → Option ConsumerNote → Option ℕ
place_or n place None = place
place_or n place (Some note) = place_after n place note

one_event : (n : List ℕ) (e : Event) (f : Lists) → consumer_place n (happened e f).consumers ≡ place_or n (consumer_place n f.consumers) (consumer_note e)
one_event n (ConsumerAdded row) f = one_more n f.consumers row
one_event n (ConsumerAcked name seq) f = one_moved n name seq f.consumers
one_event n _ f = refl

first_of : (n : List ℕ) (place : Option ℕ) (o : Option ConsumerNote) (notes : List ConsumerNote) → places_after n place (cons_option o notes) ≡ places_after n (place_or n place o) notes
first_of n place None notes = refl
first_of n place (Some note) notes = refl

-- the places after some events
pub all_events : (n : List ℕ) (events : List Event) (f : Lists) → consumer_place n (all_happened events f).consumers ≡ places_after n (consumer_place n f.consumers) (filter_map consumer_note events)
all_events n [] f = refl
all_events n (e ∷ es) f =
    all_events n es (happened e f)
    ∙ (ap (λ place. places_after n place (filter_map consumer_note es)) (one_event n e f)
    ∙ sym (first_of n (consumer_place n f.consumers) (consumer_note e) (filter_map consumer_note es)))
