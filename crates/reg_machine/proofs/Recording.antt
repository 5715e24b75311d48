-- The machine stays in step and records its steps: with a date that comes, with a later clock, and with a command.
use Rattle.std.proofs.Common.{◌≡◌, ◌≤◌, ◌++◌, ◌∷◌, [], ℕ, List, Option, true, None, Some, arith, refl, sym, ◌∙◌, ap, subst}
use Rattle.std.specs.List.{AllByRecursion}
use Rattle.reg_base.specs.declared.entity.Entity.{Entity}
use Rattle.reg_terms.specs.declared.command.Stamped.{Stamped}
use Rattle.reg_terms.specs.declared.command.Command.{Command}
use Rattle.reg_terms.specs.declared.event.Event.{Event}
use Rattle.reg_terms.specs.declared.event.Event.TheVariants.{AssignMade}
use Rattle.reg_terms.specs.declared.kinds.Object.{Object}
use Rattle.reg_facts.specs.Events.{all_happened, events_of, happened}
use Rattle.reg_facts.specs.Lists as the_facts
use Rattle.reg_facts.specs.Lists.{Lists}
use Rattle.reg_facts.specs.Sound.{IsSound}
use Rattle.reg_facts.specs.Suiting.{AllSuit, Suits}
use Rattle.reg_facts.proofs.Sounding.{start_sound}
use Rattle.reg_effect.specs.declared.live.Live.{Live}
use Rattle.reg_effect.specs.Member.{member}
use Rattle.reg_priv.specs.Grants.{grants}
use Rattle.reg_ops.specs.Forms.{key_fits, takes_key}
use Rattle.reg_audit.specs.Assigning.{AllMakeNew, MakesNew}
use Rattle.reg_audit.specs.Audit.{IsAudit}
use Rattle.reg_audit.specs.Steps.{Step, FollowsOn, left_by}
use Rattle.reg_effect.specs.Deltas.{ended}
use Rattle.reg_rules.specs.Settling.{settle}
use Rattle.reg_current.specs.Dates.{at_date, date_events, date_passed, due}
use Rattle.reg_machine.specs.History.{facts}
use Rattle.reg_current.specs.Holding.{AllHold}
use Rattle.reg_current.specs.Invariant.{Now}
use Rattle.reg_machine.specs.Invariant.{IsInStep}
use Rattle.reg_current.specs.Live.{live}
use Rattle.reg_machine.specs.Keys.{is_free}
use Rattle.reg_machine.specs.Past.{AreKnown, AreLived, command_step, date_step, steps}
use Rattle.reg_machine.specs.Recording.{IsRecorded, Recording, Records, carried_step, settled_after}
use Rattle.reg_machine.specs.Refusals.{refusal}
use Rattle.reg_machine.specs.Standing.{AreStood}
use Rattle.reg_machine.proofs.Acting.{settled_grants}
use Rattle.reg_machine.proofs.DateEvents.{each_date}
use Rattle.reg_machine.proofs.Defined.{defined_later, defined_next, defined_push, defined_start}
use Rattle.reg_current.proofs.Due.{due_some}
use Rattle.reg_machine.proofs.Formed.{carried_formed, date_formed, start_formed}
use Rattle.reg_machine.proofs.GrantWindows.{opened_later, opened_next, opened_push, opened_start}
use Rattle.reg_machine.proofs.InStep.{command_in_step, later_in_step, next_in_step}
use Rattle.reg_machine.proofs.KnownPersons.{known_later, known_next, known_push, known_start}
use Rattle.reg_machine.proofs.Lived.{last_is, last_left, last_moment_by, lived_later, lived_next, lived_push, lived_start}
use Rattle.reg_machine.proofs.Settled.{settle_is}
use Rattle.reg_machine.proofs.StepByStep.{no_steps, steps_next, steps_none, steps_push}
use Rattle.reg_machine.proofs.Starting.{start_in_step}
use Rattle.reg_machine.proofs.Stood.{all_suit, stood_later, stood_next, stood_push, stood_start}

-- rules change no consumer
settle_consumers : (pairs : List (ℕ × ℕ)) (at : ℕ) (f : Lists) → (settle pairs at f).consumers ≡ f.consumers
settle_consumers pairs at f = ap (λ (x : Lists). x.consumers) (settle_is pairs at f)

date_consumers : (a d : ℕ) (f : Lists) → (date_passed a d f).consumers ≡ f.consumers
date_consumers a d f = settle_consumers (ended (live a f) (live d (at_date d f))) d (at_date d f)

-- and neither assignments
settle_assigns : (pairs : List (ℕ × ℕ)) (at : ℕ) (f : Lists) → (settle pairs at f).assigns ≡ f.assigns
settle_assigns pairs at f = ap (λ (x : Lists). x.assigns) (settle_is pairs at f)

date_assigns : (a d : ℕ) (f : Lists) → (date_passed a d f).assigns ≡ f.assigns
date_assigns a d f = settle_assigns (ended (live a f) (live d (at_date d f))) d (at_date d f)

-- nor the grants on an object
date_grants : (a d : ℕ) (f : Lists) (o : Object) → grants o (date_passed a d f) ≡ grants o (at_date d f)
date_grants a d f o = settled_grants (ended (live a f) (live d (at_date d f))) d (at_date d f) o

settle_count : (pairs : List (ℕ × ℕ)) (at : ℕ) (f : Lists) → (settle pairs at f).made.assigns ≡ f.made.assigns
settle_count pairs at f = ap (λ (x : Lists). x.made.assigns) (settle_is pairs at f)

date_count : (a d : ℕ) (f : Lists) → (date_passed a d f).made.assigns ≡ f.made.assigns
date_count a d f = settle_count (ended (live a f) (live d (at_date d f))) d (at_date d f)

-- an assignment that is made has a later id than all before, and no value yet
makes_new : (e : Event) (f : Lists) → Suits e f → MakesNew e f
makes_new (AssignMade row) f suits = (omega (arith, suits.0), suits.4)
makes_new e f suits = tt

all_make_new : (es : List Event) (f : Lists) → AllSuit es f → AllMakeNew es f
all_make_new [] f suit = tt
all_make_new (e ∷ es) f suit = (makes_new e f suit.0, all_make_new es (happened e f) suit.1)

none_new : (es : List Event) (f : Lists) → AllByRecursion (λ e. (g : Lists) → MakesNew e g) es → AllMakeNew es f
none_new [] f h = tt
none_new (e ∷ es) f h = (h.0 f, none_new es (happened e f) h.1)

date_makes_none : (d : ℕ) (f : Lists) → AllMakeNew (date_events d f) f
date_makes_none d f = none_new (date_events d f) f (each_date (λ e. (g : Lists) → MakesNew e g) d f (record { row = λ g m k. tt; gone = λ grant k. tt; began = λ grant k. tt }))

-- a step from the live data at the clock on comes after those of the history
follows : (history : List Stamped) (clock : ℕ) (step : Step) → AreLived history clock → clock ≤ step.at → step.live ≡ live clock (facts history clock) → step.before ≡ facts history clock → step.after.consumers ≡ (all_happened step.events step.before).consumers
    → step.after.assigns ≡ (all_happened step.events step.before).assigns → step.after.made.assigns ≡ (all_happened step.events step.before).made.assigns → AllMakeNew step.events step.before
    → ((o : Object) → grants o step.after ≡ grants o (all_happened step.events step.before)) → FollowsOn (steps history clock) step
follows history clock step h later is from after assigned made new granted =
    let moment = last_moment_by clock (steps history clock) h.by in
    record {
      later = omega (arith, moment, later);
      members = λ g s. ap (λ (L : Live). member L g s) is ∙ (sym (h.lived clock g s (omega arith)) ∙ ap (λ o. member (left_by o) g s) (last_is clock (steps history clock) h.by));
      before = from ∙ sym (last_left history clock h);
      consumers_after = after;
      assigns_after = assigned;
      made_after = made;
      new_assigns = new;
      grants_after = granted;
    }

-- the next date comes after the steps so far, and so does what events make at the clock
pub next_follows : (history : List Stamped) (d : ℕ) (r : Recording) → IsRecorded history r → due r.now.clock d r.now.facts ≡ Some d → all_happened (date_events d r.now.facts) r.now.facts ≡ at_date d r.now.facts → FollowsOn (steps history r.now.clock) (date_step r.now.clock d r.now.facts)
next_follows history d r h first are =
    let later = (due_some r.now.clock d d r.now.facts first).later in
    follows history r.now.clock (date_step r.now.clock d r.now.facts) h.lived (omega (arith, later)) (ap (λ (f : Lists). live r.now.clock f) h.in_step.facts) h.in_step.facts
    (date_consumers r.now.clock d r.now.facts ∙ ap (λ (f : Lists). f.consumers) (sym are)) (date_assigns r.now.clock d r.now.facts ∙ ap (λ (f : Lists). f.assigns) (sym are))
    (date_count r.now.clock d r.now.facts ∙ ap (λ (f : Lists). f.made.assigns) (sym are)) (date_makes_none d r.now.facts)
    (λ o. date_grants r.now.clock d r.now.facts o ∙ ap (grants o) (sym are))

pub carried_follows : (history : List Stamped) (r : Recording) (es : List Event) → IsRecorded history r → AllHold r.now.clock es r.now.facts → FollowsOn (steps history r.now.clock) (carried_step r.now es)
carried_follows history r es h hold = follows history r.now.clock (carried_step r.now es) h.lived (omega arith) (ap (λ (f : Lists). live r.now.clock f) h.in_step.facts) h.in_step.facts (settle_consumers (ended (live r.now.clock r.now.facts) (live r.now.clock (all_happened es r.now.facts))) r.now.clock (all_happened es r.now.facts))
    (settle_assigns (ended (live r.now.clock r.now.facts) (live r.now.clock (all_happened es r.now.facts))) r.now.clock (all_happened es r.now.facts))
    (settle_count (ended (live r.now.clock r.now.facts) (live r.now.clock (all_happened es r.now.facts))) r.now.clock (all_happened es r.now.facts)) (all_make_new es r.now.facts (all_suit r.now.clock es r.now.facts hold))
    (settled_grants (ended (live r.now.clock r.now.facts) (live r.now.clock (all_happened es r.now.facts))) r.now.clock (all_happened es r.now.facts))

known_then : (history : List Stamped) (d : ℕ) (r new : Recording) → IsRecorded history r → new.now ≡ record { clock = d; facts = date_passed r.now.clock d r.now.facts } → due r.now.clock d (facts history r.now.clock) ≡ Some d → IsInStep history new.now → IsSound new.now.facts → AreKnown history new.now.clock
known_then history d r new h is there stands sound =
    let clock : new.now.clock ≡ d = ap (λ (n : Now). n.clock) is in
    let here : new.now.facts ≡ facts history d = stands.facts ∙ ap (facts history) clock in
    rw clock (known_next history r.now.clock d h.in_step.by h.known there (rw here at sound))

known_more : (history : List Stamped) (by : Entity) (key : Option (List ℕ)) (c : Command) (r new : Recording) → IsRecorded history r → new.now.clock ≡ r.now.clock → IsInStep (history ++ (record { at = r.now.clock; by = by; key = key; command = c }) ∷ []) new.now
    → IsSound new.now.facts → AreKnown (history ++ (record { at = r.now.clock; by = by; key = key; command = c }) ∷ []) new.now.clock
known_more history by key c r new h clock stands sound =
    let here : new.now.facts ≡ facts (history ++ (record { at = r.now.clock; by = by; key = key; command = c }) ∷ []) r.now.clock = stands.facts ∙ ap (facts (history ++ (record { at = r.now.clock; by = by; key = key; command = c }) ∷ [])) clock in
    rw clock (known_push history r.now.clock by key c h.in_step.by h.known (rw here at sound))

stood_then : (history : List Stamped) (d : ℕ) (r new : Recording) → IsRecorded history r → new.now ≡ record { clock = d; facts = date_passed r.now.clock d r.now.facts } → due r.now.clock d (facts history r.now.clock) ≡ Some d → IsInStep history new.now → IsSound new.now.facts → AreStood history new.now.clock
stood_then history d r new h is there stands sound =
    let clock : new.now.clock ≡ d = ap (λ (n : Now). n.clock) is in
    let here : new.now.facts ≡ facts history d = stands.facts ∙ ap (facts history) clock in
    rw clock (stood_next history r.now.clock d h.in_step.by h.stood there (rw here at sound))

stood_more : (history : List Stamped) (by : Entity) (key : Option (List ℕ)) (c : Command) (r new : Recording) (es : List Event) → IsRecorded history r → new.now.clock ≡ r.now.clock → IsInStep (history ++ (record { at = r.now.clock; by = by; key = key; command = c }) ∷ []) new.now
    → es ≡ events_of r.now.clock by c r.now.facts → AllHold r.now.clock es r.now.facts → IsSound new.now.facts → AreStood (history ++ (record { at = r.now.clock; by = by; key = key; command = c }) ∷ []) new.now.clock
stood_more history by key c r new es h clock stands are hold sound =
    let here : new.now.facts ≡ facts (history ++ (record { at = r.now.clock; by = by; key = key; command = c }) ∷ []) r.now.clock = stands.facts ∙ ap (facts (history ++ (record { at = r.now.clock; by = by; key = key; command = c }) ∷ [])) clock in
    let held = subst (λ (f : Lists). AllHold r.now.clock (events_of r.now.clock by c f) f) h.in_step.facts (subst (λ (xs : List Event). AllHold r.now.clock xs r.now.facts) are hold) in
    rw clock (stood_push history r.now.clock by key c h.in_step.by h.stood held (rw here at sound))

-- a date that comes next
pub next_recorded : (history : List Stamped) (d : ℕ) (r new : Recording) → IsRecorded history r → due r.now.clock d r.now.facts ≡ Some d → all_happened (date_events d r.now.facts) r.now.facts ≡ at_date d r.now.facts → new.now ≡ record { clock = d; facts = date_passed r.now.clock d r.now.facts } → Records r.audit new.audit (date_step r.now.clock d r.now.facts)
    → IsSound new.now.facts → IsRecorded history new
next_recorded history d r new h first are_events is records sound =
    let stands : IsInStep history new.now = rw is (next_in_step history d r.now h.in_step first) in
    let there : due r.now.clock d (facts history r.now.clock) ≡ Some d = rw (← h.in_step.facts) first in
    let step = date_step r.now.clock d r.now.facts in
    let more = records (steps history r.now.clock) h.audit (next_follows history d r h first are_events) in
    let are : steps history r.now.clock ++ step ∷ [] ≡ steps history d = ap (λ (f : Lists). steps history r.now.clock ++ date_step r.now.clock d f ∷ []) h.in_step.facts ∙ sym (steps_next r.now.clock d d history h.in_step.by there) in
    record {
      in_step = stands;
      audit = rw is (subst (λ ss. IsAudit ss new.audit) are more);
      lived = rw is (lived_next history r.now.clock d h.in_step.by h.lived there);
      known = known_then history d r new h is there stands sound;
      stood = stood_then history d r new h is there stands sound;
      defined = rw is (defined_next history r.now.clock d h.in_step.by h.defined there);
      formed = rw is (date_formed r.now.clock d r.now.facts h.formed);
      opened = rw is (opened_next history r.now.clock d h.in_step.by h.opened there);
    }

-- a clock up to which no date comes
pub later_recorded : (history : List Stamped) (u : ℕ) (r new : Recording) → IsRecorded history r → r.now.clock ≤ u → due r.now.clock u r.now.facts ≡ None → new.now ≡ record { clock = u; facts = r.now.facts } → new.audit ≡ r.audit → IsRecorded history new
later_recorded history u r new h later none is same =
    let there : due r.now.clock u (facts history r.now.clock) ≡ None = rw (← h.in_step.facts) none in
    record {
      in_step = rw is (later_in_step history u r.now h.in_step later none);
      audit = rw (is, same) (subst (λ ss. IsAudit ss r.audit) (sym (steps_none r.now.clock u history h.in_step.by later there)) h.audit);
      lived = rw is (lived_later history r.now.clock u h.in_step.by h.lived later there);
      known = rw is (known_later history r.now.clock u h.in_step.by h.known later there);
      stood = rw is (stood_later history r.now.clock u h.in_step.by h.stood later there);
      defined = rw is (defined_later history r.now.clock u h.in_step.by h.defined later there);
      formed = rw is h.formed;
      opened = rw is (opened_later history r.now.clock u h.in_step.by h.opened later there);
    }

-- a command more
pub command_recorded : (history : List Stamped) (by : Entity) (key : Option (List ℕ)) (c : Command) (r new : Recording) (es : List Event) → IsRecorded history r → refusal history r.now.clock by c ≡ None → is_free history by key ≡ true → key_fits (takes_key c) key ≡ true → es ≡ events_of r.now.clock by c r.now.facts → AllHold r.now.clock es r.now.facts → new.now ≡ record { clock = r.now.clock; facts = settled_after r.now es } → Records r.audit new.audit (carried_step r.now es)
    → IsSound new.now.facts → IsRecorded (history ++ (record { at = r.now.clock; by = by; key = key; command = c }) ∷ []) new
command_recorded history by key c r new es h allowed free fits are hold is records sound =
    let stands = command_in_step history by key c r.now new.now es h.in_step allowed free fits are is in
    let step = carried_step r.now es in
    let more = records (steps history r.now.clock) h.audit (carried_follows history r es h hold) in
    let same : step ≡ command_step r.now.clock by c r.now.facts = ap (carried_step r.now) are in
    let led : steps history r.now.clock ++ step ∷ [] ≡ steps (history ++ (record { at = r.now.clock; by = by; key = key; command = c }) ∷ []) r.now.clock =
    ap (λ (x : Step). steps history r.now.clock ++ x ∷ []) same
    ∙ (ap (λ (f : Lists). steps history r.now.clock ++ command_step r.now.clock by c f ∷ []) h.in_step.facts
    ∙ sym (steps_push r.now.clock by key c history h.in_step.by)) in
    record {
      in_step = stands;
      audit = rw is (subst (λ ss. IsAudit ss new.audit) led more);
      lived = rw is (lived_push history r.now.clock by key c h.in_step.by h.lived);
      known = known_more history by key c r new h (ap (λ (n : Now). n.clock) is) stands sound;
      stood = stood_more history by key c r new es h (ap (λ (n : Now). n.clock) is) stands are hold sound;
      defined = rw is (defined_push history r.now.clock by key c h.in_step.by h.defined (subst (λ (f : Lists). AllHold r.now.clock (events_of r.now.clock by c f) f) h.in_step.facts (subst (λ (xs : List Event). AllHold r.now.clock xs r.now.facts) are hold)));
      formed = rw is (carried_formed r.now es (all_suit r.now.clock es r.now.facts hold) h.formed);
      opened = rw is (opened_push history r.now.clock by key c h.in_step.by h.opened (subst (λ (f : Lists). AllHold r.now.clock (events_of r.now.clock by c f) f) h.in_step.facts (subst (λ (xs : List Event). AllHold r.now.clock xs r.now.facts) are hold)));
    }

-- nothing stands in an empty history
pub start_recorded : (r : Recording) → r.now ≡ record { clock = 0; facts = the_facts.start } → IsAudit [] r.audit → IsRecorded [] r
start_recorded r is none = record {
  in_step = rw is start_in_step;
  audit = rw (is, no_steps) none;
  lived = rw is lived_start;
  known = rw is known_start;
  stood = rw is (stood_start start_sound);
  defined = rw is defined_start;
  formed = rw is start_formed;
  opened = rw is opened_start;
}
