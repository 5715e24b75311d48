-- What stands stays in step with an event, and with some, one after another.
use Rattle.std.proofs.Common.{◌≡◌, ◌≤◌, ◌+◌, ℕ, List, [], ◌∷◌, None, length, refl, sym, ap, subst, ◌∙◌, arith}
use Rattle.std.specs.List.Sorted.{IsPermutation}
use Rattle.reg_terms.specs.declared.event.Event.{Event}
use Rattle.reg_facts.specs.Events.{happened, all_happened}
use Rattle.reg_facts.specs.Lists.{Lists}
use Rattle.reg_facts.specs.Sound.{IsSound}
use Rattle.reg_graph.specs.Edges.{IsAcyclic}
use Rattle.reg_effect.specs.declared.live.Live.{Live}
use Rattle.reg_effect.specs.Changes.{changed_by, SuitAll}
use Rattle.reg_effect.specs.Standing.{standing}
use Rattle.reg_current.specs.declared.dates.Dates.{Dates}
use Rattle.reg_current.specs.Coming.{FindsDates}
use Rattle.reg_current.specs.Dates.{due}
use Rattle.reg_current.specs.Holding.{Holds, AllHold}
use Rattle.reg_current.specs.Invariant.{IsBeside, Now}
use Rattle.reg_current.specs.Steps.{changes_of, event_steps, events_steps}
use Rattle.reg_current.proofs.DatesGone.{later_finds}
use Rattle.reg_current.proofs.Due.{none_still, none_still_grants}
use Rattle.reg_current.proofs.Opening.{still_open, still_grants_open, open_still, open_grants_still}
use Rattle.reg_current.proofs.Passing.{live_stays}
use Rattle.reg_current.proofs.Stepping.{stepped, suit}

-- after an event
pub carried : (at : ℕ) (e : Event) (lists next : Lists) (kept sets : Live) (old new : List (ℕ × ℕ)) (before after : Dates) → IsBeside at lists kept old before → Holds at e lists
    → next ≡ happened e lists → sets ≡ changed_by (changes_of at e kept) kept → IsPermutation new (standing (happened e lists).rows (happened e lists).composites) → FindsDates after at (happened e lists) → IsBeside at next sets new after
carried at e lists next kept sets old new before after h holds made changed edges coming = rw made (record {
  sets = changed ∙ (ap (λ (L : Live). changed_by (changes_of at e L) L) h.sets ∙ sym (stepped at e lists holds.suits));
  edges = edges;
  ends = still_open at e lists h.ends holds.later;
  grants_open = still_grants_open at e lists h.grants_open holds.later;
  coming = coming;
})

-- its changes suit
pub carrying_suits : (at : ℕ) (e : Event) (lists : Lists) (kept : Live) (graph : List (ℕ × ℕ)) (dates : Dates) → IsBeside at lists kept graph dates → IsSound lists → IsAcyclic graph → Holds at e lists → SuitAll (changes_of at e kept) kept
carrying_suits at e lists kept graph dates h sound none holds = suit at e lists graph kept sound h.edges none h.sets holds.suits holds.no_circle

-- some events are left, which lead from what stands now to what comes, in so many steps at most
pub record AreLeft (left : List Event) (now after : Now) (steps most : ℕ) : Type 0 where
  pub hold : AllHold now.clock left now.facts
  pub lead : record { clock = now.clock; facts = all_happened left now.facts } ≡ after
  pub cost : steps + events_steps now.clock left now.facts ≤ most

pub left_first : (left es : List Event) (now : Now) (steps : ℕ) → left ≡ es → AllHold now.clock es now.facts → AreLeft left now (record { clock = now.clock; facts = all_happened es now.facts }) steps (steps + events_steps now.clock es now.facts)
left_first left es now steps same holds = rw same (record { hold = holds; lead = refl; cost = omega arith })

pub left_holds : (left rest : List Event) (e : Event) (now after : Now) (steps most : ℕ) → left ≡ e ∷ rest → AreLeft left now after steps most → Holds now.clock e now.facts
left_holds left rest e now after steps most is all = (subst (λ (xs : List Event). AllHold now.clock xs now.facts) is all.hold).0

pub left_next : (left rest : List Event) (e : Event) (now next after : Now) (first last most : ℕ) → left ≡ e ∷ rest → next ≡ record { clock = now.clock; facts = happened e now.facts } → last ≤ first + event_steps now.clock e now.facts → AreLeft left now after first most → AreLeft rest next after last most
left_next left rest e now next after first last most is made le all =
    let same : AreLeft (e ∷ rest) now after first most = subst (λ (xs : List Event). AreLeft xs now after first most) is all in
    rw made (record { hold = same.hold.1; lead = same.lead; cost = omega (arith, same.cost, le) })

pub left_none : (left : List Event) (now after : Now) (steps most : ℕ) → length left ≡ 0 → AreLeft left now after steps most → (now ≡ after) × (steps ≤ most)
left_none [] now after steps most h all = (all.lead, omega (arith, all.cost))
left_none (e ∷ left) now after steps most h all = absurd (omega (arith, h))

-- ---- the same of what is seen as a moment and facts
pub holds_now : (clock : ℕ) (lists : Lists) (now : Now) (e : Event) → record { clock = clock; facts = lists } ≡ now → Holds now.clock e now.facts → Holds clock e lists
holds_now clock lists now e is h = subst (λ (n : Now). Holds n.clock e n.facts) (sym is) h

-- a moment up to which no date comes
pub waited : (at to : ℕ) (f : Lists) (kept : Live) (graph : List (ℕ × ℕ)) (dates : Dates) (now : Now) → record { clock = at; facts = f } ≡ now → now.clock ≤ to → due now.clock to now.facts ≡ None → IsBeside at f kept graph dates → IsBeside to f kept graph dates
waited at to f kept graph dates now is later none h =
    let l : at ≤ to = subst (λ (n : Now). n.clock ≤ to) (sym is) later in
    let e : due at to f ≡ None = subst (λ (n : Now). due n.clock to n.facts ≡ None) (sym is) none in
    record {
      sets = h.sets ∙ sym (live_stays at to f l e);
      edges = h.edges;
      ends = open_still at to f.rows h.ends (none_still at to f e);
      grants_open = open_grants_still at to f.grants h.grants_open (none_still_grants at to f e);
      coming = later_finds dates at to f h.coming e l;
    }
