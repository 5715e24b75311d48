-- What rules do after a step: no grants change by it, and what is noted of it.
use Rattle.std.proofs.Common.{◌≡◌, ℕ, List, [], ◌∷◌, Bool, refl, ◌∙◌, ap}
use Rattle.reg_terms.specs.declared.event.Event.{Event}
use Rattle.reg_terms.specs.declared.kinds.Object.{Object}
use Rattle.reg_facts.specs.Lists.{Lists}
use Rattle.reg_effect.specs.declared.live.Live.{Live}
use Rattle.reg_effect.specs.Bound.{most_steps_of}
use Rattle.reg_effect.specs.Deltas.{ended}
use Rattle.reg_effect.specs.Turned.{turns}
use Rattle.reg_priv.specs.Grants.{grants}
use Rattle.reg_priv.proofs.Untouched.{stays}
use Rattle.reg_audit.specs.Notes.{StepNotes, acted_notes, notes_of}
use Rattle.reg_priv.specs.Touched.{KnowsTouched}
use Rattle.reg_rules.specs.declared.actions.Action.{Action}
use Rattle.reg_rules.specs.declared.actions.Action.TheVariants.{Removed, Ended}
use Rattle.reg_rules.specs.Actions.{done, all_done, changes_by}
use Rattle.reg_rules.specs.Live.{Now}
use Rattle.reg_rules.specs.Settling.{settle, settling}
use Rattle.reg_current.specs.Invariant as current
use Rattle.reg_current.specs.Live.{live}

-- ---- no object's grants change
grants_stay : (actions : List Action) (o : Object) (f : Lists) → grants o (all_done actions f) ≡ grants o f
grants_stay [] o f = refl
grants_stay (Removed rule g s ∷ actions) o f = grants_stay actions o (done (Removed rule g s) f) ∙ stays o f (done (Removed rule g s) f) refl refl refl refl refl refl
grants_stay (Ended rule g s until ∷ actions) o f = grants_stay actions o (done (Ended rule g s until) f) ∙ stays o f (done (Ended rule g s until) f) refl refl refl refl refl refl

pub settled_grants : (pairs : List (ℕ × ℕ)) (at : ℕ) (f : Lists) (o : Object) → grants o (settle pairs at f) ≡ grants o f
settled_grants pairs at f o = grants_stay (settling pairs at f) o f

pub settled_touches : (before f : Lists) (pairs : List (ℕ × ℕ)) (at : ℕ) (touched : List Object) → KnowsTouched before f touched → KnowsTouched before (settle pairs at f) touched
settled_touches before f pairs at touched h o none = settled_grants pairs at f o ∙ h o none

-- ---- what stands after what follows, and the steps of that, by what stood before the step and what stands after its own changes
abbrev pub settled_now : Live → current.Now → current.Now
settled_now before now = record { clock = now.clock; facts = settle (ended before (live now.clock now.facts)) now.clock now.facts }

abbrev pub steps_of_rules : Live → current.Now → ℕ
steps_of_rules before now = most_steps_of (changes_by (settling (ended before (live now.clock now.facts)) now.clock now.facts)) (live now.clock now.facts)

-- ---- what is noted of a step
pub notes_are : (acted notes : StepNotes) (at : ℕ) (before : Lists) (es : List Event) (done actions : List Action) → acted ≡ acted_notes notes done → notes ≡ notes_of at before es → done ≡ actions → acted ≡ acted_notes (notes_of at before es) actions
notes_are acted notes at before es done actions a b c = rw (a, b, c) refl

pub turns_are : (list : List (ℕ × ℕ × Bool)) (before : Live) (now after : current.Now) → list ≡ turns before (live now.clock now.facts) → now ≡ after → list ≡ turns before (live after.clock after.facts)
turns_are list before now after h e = h ∙ ap (λ (n : current.Now). turns before (live n.clock n.facts)) e
