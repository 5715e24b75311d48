-- At each moment up to the clock an attribute is of the definition that the steps tell.
use Rattle.std.proofs.Common.{◌≡◌, ◌⊎◌, ◌≤◌, ◌<◌, ◌+◌, ◌==◌, ℕ, List, [], ◌∷◌, ◌++◌, true, false, not, Option, None, Some, nat_le, filter, if◌then◌else◌, arith, refl, sym, ◌∙◌, ap, subst, inl, inr}
use Rattle.std.proofs.lemmas.Bool.{cases_Bool, eqb-true}
use Rattle.std.proofs.lemmas.Bool.Decides.{nat_tests}
use Rattle.std.proofs.lemmas.List.{append-nil, append_assoc}
use Rattle.std.specs.List.{AllByRecursion}
use Rattle.reg_base.specs.declared.entity.Entity.{Entity}
use Rattle.reg_terms.specs.declared.command.Stamped.{Stamped}
use Rattle.reg_terms.specs.declared.command.Command.{Command}
use Rattle.reg_terms.specs.declared.event.Event.{Event}
use Rattle.reg_terms.specs.declared.event.Event.TheVariants.{AttributeMade, AttributeGone}
use Rattle.reg_terms.specs.declared.rows.AttributeRow.{AttributeRow}
use Rattle.reg_facts.specs.Attributes.{attribute_row}
use Rattle.reg_facts.specs.Events.{all_happened, events_of, happened}
use Rattle.reg_facts.specs.Lists as the_facts
use Rattle.reg_facts.specs.Lists.{Lists}
use Rattle.reg_facts.specs.Sound.{AscendFrom, IsSound}
use Rattle.reg_facts.specs.Suiting.{Suits, AllSuit}
use Rattle.reg_facts.proofs.Sounding.{happened_sound}
use Rattle.reg_audit.specs.Definitions.{all_attributes, attributes_made, definition_in, last_definition}
use Rattle.reg_audit.specs.Steps.{Step}
use Rattle.reg_effect.specs.Deltas as deltas
use Rattle.reg_rules.specs.Settling.{settle}
use Rattle.reg_current.specs.Dates.{at_date, date_events, date_passed, due, pass}
use Rattle.reg_machine.specs.Defining.{AreDefined}
use Rattle.reg_machine.specs.History.{State, acted, facts}
use Rattle.reg_current.specs.Holding.{AllHold}
use Rattle.reg_machine.specs.Invariant.{IsBy}
use Rattle.reg_current.specs.Live.{live}
use Rattle.reg_machine.specs.Past.{command_step, date_step, def_of, steps}
use Rattle.reg_machine.proofs.DateEvents.{each_date}
use Rattle.reg_machine.proofs.Lived.{facts_earlier, none_before, none_within}
use Rattle.reg_machine.proofs.Moments.{facts_push, next_comes, none_comes}
use Rattle.reg_current.proofs.Due.{due_some}
use Rattle.reg_machine.proofs.Settled.{settle_is}
use Rattle.reg_machine.proofs.StepByStep.{no_steps, steps_next, steps_none, steps_push}
use Rattle.reg_machine.proofs.Stood.{all_suit}

-- ---- one step more

-- an attribute's definition after an event, by what was known before it
abbrev defined_by : ℕ → Event → Option ℕ → Option ℕ
defined_by a (AttributeMade row) known = if row.id == a then Some row.definition else known
defined_by a _ known = known

-- and after some events, one after another
abbrev defined_after : ℕ → List Event → Option ℕ → Option ℕ
defined_after a [] known = known
defined_after a (e ∷ es) known = defined_after a es (defined_by a e known)

after_is : (a : ℕ) (es : List Event) (known : Option ℕ) → last_definition a known (attributes_made es) ≡ defined_after a es known
after_is a [] known = refl
after_is a (AttributeMade row ∷ es) known = after_is a es (if row.id == a then Some row.definition else known)
after_is a (e ∷ es) known = after_is a es known

last_more : (a : ℕ) (known : Option ℕ) (xs ys : List (ℕ × ℕ)) → last_definition a known (xs ++ ys) ≡ last_definition a (last_definition a known xs) ys
last_more a known [] ys = refl
last_more a known (x ∷ xs) ys = last_more a (if x.0 == a then Some x.1 else known) xs ys

all_more : (ss : List Step) (step : Step) → all_attributes (ss ++ step ∷ []) ≡ all_attributes ss ++ attributes_made step.events
all_more [] step = append-nil (attributes_made step.events)
all_more (s ∷ ss) step = ap (λ more. attributes_made s.events ++ more) (all_more ss step) ∙ sym (append_assoc (attributes_made s.events) (all_attributes ss) (attributes_made step.events))

one_more : (a : ℕ) (ss : List Step) (step : Step) → definition_in a (ss ++ step ∷ []) ≡ defined_after a step.events (definition_in a ss)
unfolding definition_in
one_more a ss step = ap (last_definition a None) (all_more ss step) ∙ (last_more a None (all_attributes ss) (attributes_made step.events) ∙ after_is a step.events (last_definition a None (all_attributes ss)))

-- ---- rows by their ids

row_more : (a : ℕ) (rows : List AttributeRow) (row found : AttributeRow) → attribute_row a (rows ++ row ∷ []) ≡ Some found → (attribute_row a rows ≡ Some found) ⊎ ((row.id == a) ≡ true) × (row ≡ found)
row_more a [] row found h = elim (cases_Bool (row.id == a)) [
  | inl y ↦ let is : Some row ≡ Some found = rw y at h in inr (y, let same : row ≡ found = cc in same)
  | inr n ↦ absurd (let none : None ≡ Some found = rw n at h in let clash : ⊥ = cc in clash)
]
row_more a (r ∷ rows) row found h = elim (cases_Bool (r.id == a)) [
  | inl y ↦ inl (rw y (rw y at h))
  | inr n ↦ elim (row_more a rows row found (rw n at h)) [ inl k ↦ inl (rw n k) | inr k ↦ inr k ]
]

-- a row of another id is found as before, and none of this id is left
row_fewer : (a id : ℕ) (rows : List AttributeRow) (found : AttributeRow) → attribute_row a (filter (λ (r : AttributeRow). not (r.id == id)) rows) ≡ Some found → attribute_row a rows ≡ Some found
row_fewer a id rows found h = elim (cases_Bool (a == id)) [
  | inl y ↦ absurd (none_left rows (eqb-true a id y) h)
  | inr n ↦ others rows n h
]
  where
    none_left : (rs : List AttributeRow) → a ≡ id → attribute_row a (filter (λ (r : AttributeRow). not (r.id == id)) rs) ≡ Some found → ⊥
    none_left [] same h = cc
    none_left (r ∷ rs) same h = elim (cases_Bool (r.id == id)) [
      | inl y ↦ none_left rs same (rw y at h)
      | inr n ↦ let other : (r.id == a) ≡ false = rw same n in none_left rs same (rw (n, other) at h)
    ]

    others : (rs : List AttributeRow) → (a == id) ≡ false → attribute_row a (filter (λ (r : AttributeRow). not (r.id == id)) rs) ≡ Some found → attribute_row a rs ≡ Some found
    others [] n h = h
    others (r ∷ rs) n h = elim (cases_Bool (r.id == id)) [
      | inl y ↦
          let same : r.id ≡ id = eqb-true r.id id y in
          let other : (r.id == a) ≡ false = grind (arith, nat_tests, n, same) in
          rw other (others rs n (rw y at h))
      | inr m ↦ elim (cases_Bool (r.id == a)) [
        | inl z ↦ rw z (rw (m, z) at h)
        | inr z ↦ rw z (others rs n (rw (m, z) at h))
      ]
    ]

-- ---- what is known of attributes

-- of those that stand, and of those that weren't made
pub record AreKnownOf (rows : List AttributeRow) (made : ℕ) (known : ℕ → Option ℕ) : Type 0 where
  pub has : (a : ℕ) (row : AttributeRow) → attribute_row a rows ≡ Some row → known a ≡ Some row.definition
  pub new : (a : ℕ) → made < a → known a ≡ None

-- what was known stays so
abbrev pub Stays : (ℕ → Option ℕ) → (ℕ → Option ℕ) → Type 0
Stays known after = (a d : ℕ) → known a ≡ Some d → after a ≡ Some d

-- what is known of an attribute was made
was_known : (rows : List AttributeRow) (made : ℕ) (known : ℕ → Option ℕ) (a d : ℕ) → AreKnownOf rows made known → known a ≡ Some d → a ≤ made
was_known rows made known a d h is = elim (cases_Bool (nat_le a made)) [
  | inl y ↦ grind (arith, nat_tests, y)
  | inr n ↦ absurd (let none : known a ≡ None = h.new a (grind (arith, nat_tests, n)) in let clash : ⊥ = cc in clash)
]

made_known : (row : AttributeRow) (rows : List AttributeRow) (made : ℕ) (known : ℕ → Option ℕ) → row.id ≡ made + 1 → AreKnownOf rows made known
    → AreKnownOf (rows ++ row ∷ []) row.id (λ a. defined_by a (AttributeMade row) (known a)) × Stays known (λ a. defined_by a (AttributeMade row) (known a))
made_known row rows made known new h = (record { has = has; new = next }, stays)
  where
    stays : Stays known (λ a. defined_by a (AttributeMade row) (known a))
    stays a d is =
        let low : a ≤ made = was_known rows made known a d h is in
        let other : (row.id == a) ≡ false = grind (arith, nat_tests, new, low) in
        rw other is

    has : (a : ℕ) (found : AttributeRow) → attribute_row a (rows ++ row ∷ []) ≡ Some found → defined_by a (AttributeMade row) (known a) ≡ Some found.definition
    has a found is = elim (row_more a rows row found is) [
      | inl old ↦ stays a found.definition (h.has a found old)
      | inr one ↦ rw one.0 (ap (λ (r : AttributeRow). Some r.definition) one.1)
    ]

    next : (a : ℕ) → row.id < a → defined_by a (AttributeMade row) (known a) ≡ None
    next a later =
        let other : (row.id == a) ≡ false = grind (arith, nat_tests, later) in
        rw other (h.new a (omega (arith, new, later)))

-- one event
abbrev Kept : Event → Lists → (ℕ → Option ℕ) → Type 0
Kept e f known = AreKnownOf (happened e f).attributes (happened e f).made.attributes (λ a. defined_by a e (known a)) × Stays known (λ a. defined_by a e (known a))

event_known : (e : Event) (f : Lists) (known : ℕ → Option ℕ) → Suits e f → AreKnownOf f.attributes f.made.attributes known → Kept e f known
event_known (AttributeMade row) f known suits h = made_known row f.attributes f.made.attributes known suits.0 h
event_known (AttributeGone id) f known suits h = (record { has = λ a row is. h.has a row (row_fewer a id f.attributes row is); new = h.new }, λ a d is. is)
event_known e f known suits h = (h, λ a d is. is)

-- and some, one after another
events_known : (es : List Event) (f : Lists) (known : ℕ → Option ℕ) → AllSuit es f → AreKnownOf f.attributes f.made.attributes known
    → AreKnownOf (all_happened es f).attributes (all_happened es f).made.attributes (λ a. defined_after a es (known a)) × Stays known (λ a. defined_after a es (known a))
events_known [] f known suit h = (h, λ a d is. is)
events_known (e ∷ es) f known suit h =
    let one = event_known e f known suit.0 h in
    let rest = events_known es (happened e f) (λ a. defined_by a e (known a)) suit.1 one.0 in
    (rest.0, λ a d is. rest.1 a d (one.1 a d is))

-- ---- over a history

-- the attributes of the facts at the clock
now_known : (history : List Stamped) (t : ℕ) → AreDefined history t → AreKnownOf (facts history t).attributes (facts history t).made.attributes (λ a. definition_in a (steps history t))
now_known history t h = record { has = λ a row is. h.defined t a row (omega arith) is; new = h.new }

settle_attributes : (pairs : List (ℕ × ℕ)) (at : ℕ) (f : Lists) → (settle pairs at f).attributes ≡ f.attributes
settle_attributes pairs at f = ap (λ (x : Lists). x.attributes) (settle_is pairs at f)

settle_count : (pairs : List (ℕ × ℕ)) (at : ℕ) (f : Lists) → (settle pairs at f).made.attributes ≡ f.made.attributes
settle_count pairs at f = ap (λ (x : Lists). x.made.attributes) (settle_is pairs at f)

pub defined_later : (history : List Stamped) (t u : ℕ) → AllByRecursion (IsBy t) history → AreDefined history t → t ≤ u → due t u (facts history t) ≡ None → AreDefined history u
defined_later history t u by h w none =
    let same = steps_none t u history by w none in
    record {
      defined = λ v a row x is. rw same (elim (cases_Bool (nat_le v t)) [
        | inl y ↦ h.defined v a row (grind (arith, nat_tests, y)) is
        | inr n ↦
            let later : t ≤ v = grind (arith, nat_tests, n) in
            h.defined t a row (omega arith) (rw (sym (none_comes t v history by later (none_within t u v (facts history t) none x))) is)
      ]);
      new = λ a x. rw same (h.new a (subst (λ (f : Lists). f.made.attributes < a) (none_comes t u history by w none) x));
    }

-- a date makes nothing
none_defined : (a : ℕ) (es : List Event) (known : Option ℕ) → AllByRecursion (λ e. (k : Option ℕ) → defined_by a e k ≡ k) es → defined_after a es known ≡ known
none_defined a [] known h = refl
none_defined a (e ∷ es) known h = ap (defined_after a es) (h.0 known) ∙ none_defined a es known h.1

date_defines : (a d : ℕ) (f : Lists) (known : Option ℕ) → defined_after a (date_events d f) known ≡ known
date_defines a d f known = none_defined a (date_events d f) known (each_date (λ e. (k : Option ℕ) → defined_by a e k ≡ k) d f (record { row = λ g m k. refl; gone = λ grant k. refl; began = λ grant k. refl }))

pub defined_next : (history : List Stamped) (t d : ℕ) → AllByRecursion (IsBy t) history → AreDefined history t → due t d (facts history t) ≡ Some d → AreDefined history d
defined_next history t d by h first =
    let f = facts history t in
    let are : facts history d ≡ date_passed t d f = next_comes t d d history by first in
    let lost = deltas.ended (live t f) (live d (at_date d f)) in
    let same : (a : ℕ) → definition_in a (steps history d) ≡ definition_in a (steps history t) = λ a. ap (definition_in a) (steps_next t d d history by first) ∙ (one_more a (steps history t) (date_step t d f) ∙ date_defines a d f (definition_in a (steps history t))) in
    let attributes : (facts history d).attributes ≡ f.attributes = ap (λ (x : Lists). x.attributes) are ∙ settle_attributes lost d (at_date d f) in
    let count : (facts history d).made.attributes ≡ f.made.attributes = ap (λ (x : Lists). x.made.attributes) are ∙ settle_count lost d (at_date d f) in
    record {
      defined = λ v a row x is. same a ∙ elim (cases_Bool (nat_le d v)) [
        | inl y ↦
            let last : v ≡ d = grind (arith, nat_tests, y, x) in
            h.defined t a row (omega arith) (ap (attribute_row a) (sym attributes) ∙ rw (sym last) is)
        | inr n ↦
            let less : v < d = grind (arith, nat_tests, n) in
            elim (cases_Bool (nat_le v t)) [
              | inl y ↦ h.defined v a row (grind (arith, nat_tests, y)) is
              | inr m ↦
                  let later : t ≤ v = grind (arith, nat_tests, m) in
                  h.defined t a row (omega arith) (ap (λ (x : Lists). attribute_row a x.attributes) (sym (none_comes t v history by later (none_before t d v f first less))) ∙ is)
            ]
      ];
      new = λ a x. same a ∙ h.new a (subst (λ n. n < a) count x);
    }

pub defined_push : (history : List Stamped) (at : ℕ) (by : Entity) (key : Option (List ℕ)) (command : Command) → AllByRecursion (IsBy at) history → AreDefined history at → AllHold at (events_of at by command (facts history at)) (facts history at) → AreDefined (history ++ (record { at = at; by = by; key = key; command = command }) ∷ []) at
defined_push history at by key command before h hold =
    let more = history ++ (record { at = at; by = by; key = key; command = command }) ∷ [] in
    let f = facts history at in
    let es = events_of at by command f in
    let lost = deltas.ended (live at f) (live at (all_happened es f)) in
    let are : facts more at ≡ acted at by command f = facts_push at by key command history before in
    let same : (a : ℕ) → definition_in a (steps more at) ≡ defined_after a es (definition_in a (steps history at)) = λ a. ap (definition_in a) (steps_push at by key command history before) ∙ one_more a (steps history at) (command_step at by command f) in
    let after = events_known es f (λ a. definition_in a (steps history at)) (all_suit at es f hold) (now_known history at h) in
    let attributes : (facts more at).attributes ≡ (all_happened es f).attributes = ap (λ (x : Lists). x.attributes) are ∙ settle_attributes lost at (all_happened es f) in
    let count : (facts more at).made.attributes ≡ (all_happened es f).made.attributes = ap (λ (x : Lists). x.made.attributes) are ∙ settle_count lost at (all_happened es f) in
    record {
      defined = λ v a row x is. same a ∙ elim (cases_Bool (nat_le at v)) [
        | inl y ↦
            let last : v ≡ at = grind (arith, nat_tests, y, x) in
            after.0.has a row (ap (attribute_row a) (sym attributes) ∙ subst (λ n. attribute_row a (facts more n).attributes ≡ Some row) last is)
        | inr n ↦
            let less : v < at = grind (arith, nat_tests, n) in
            after.1 a row.definition (h.defined v a row (omega (arith, less)) (ap (λ (x : Lists). attribute_row a x.attributes) (sym (facts_earlier history at v by key command less)) ∙ is))
      ];
      new = λ a x. same a ∙ after.0.new a (subst (λ n. n < a) count x);
    }

pub defined_start : AreDefined [] 0
unfolding facts pass definition_in
defined_start = record {
  defined = λ t a row w is. absurd (let clash : None ≡ Some row = is in let no : ⊥ = cc in no);
  new = λ a w. rw no_steps refl;
}

-- of a machine that is seen as a state
pub defined_told : (history : List Stamped) (clock : ℕ) (s : State) → AreDefined history clock → record { history = history; clock = clock } ≡ s → (t a : ℕ) (row : AttributeRow) → t ≤ s.clock → attribute_row a (facts s.history t).attributes ≡ Some row → def_of s.history s.clock a ≡ Some row.definition
unfolding def_of
defined_told history clock s h is t a row w = subst (λ (x : State). t ≤ x.clock → attribute_row a (facts x.history t).attributes ≡ Some row → def_of x.history x.clock a ≡ Some row.definition) is (λ v there. h.defined t a row v there) w
