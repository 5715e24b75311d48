-- Behind an acknowledgement the consumer's place is what was acknowledged.
use Rattle.std.proofs.Common.{◌≡◌, ℕ, Bool, true, false, List, [], ◌∷◌, Option, Some, map, refl, ap, ◌∙◌}
use Rattle.std.specs.List.{AllByRecursion}
use Rattle.std.specs.Str.{bytes_eq}
use Rattle.reg_base.specs.declared.entity.Entity.{Entity}
use Rattle.reg_terms.specs.declared.command.Command.TheVariants.{ConsumerAck}
use Rattle.reg_terms.specs.declared.rows.ConsumerRow.{ConsumerRow}
use Rattle.reg_facts.specs.Consumers.{acknowledged, consumer_place}
use Rattle.reg_facts.specs.Events.{edit, events_of}
use Rattle.reg_facts.specs.Lists.{Lists}
use Rattle.reg_rules.specs.declared.actions.Action.{Action}
use Rattle.reg_rules.specs.declared.actions.Action.TheVariants.{Removed, Ended}
use Rattle.reg_rules.specs.Actions.{all_done, done}
use Rattle.reg_machine.specs.History.{State, acted, appended, command_actions, now_facts}
use Rattle.reg_machine.specs.Invariant.{IsBy}
use Rattle.reg_machine.proofs.Moments.{facts_push}
use Rattle.reg_report.specs.Delivered.{place_at}

-- rules leave the consumers
consumers_stay : (actions : List Action) (f : Lists) → (all_done actions f).consumers ≡ f.consumers
consumers_stay [] f = refl
consumers_stay (Removed rule g s ∷ actions) f = consumers_stay actions (done (Removed rule g s) f)
consumers_stay (Ended rule g s until ∷ actions) f = consumers_stay actions (done (Ended rule g s until) f)

edited : (at : ℕ) (by : Entity) (consumer : List ℕ) (seq : ℕ) (f : Lists) → (edit at by (ConsumerAck consumer seq) f).consumers ≡ map (acknowledged consumer seq) f.consumers
unfolding events_of
edited at by consumer seq f = refl

acted_consumers : (at : ℕ) (by : Entity) (consumer : List ℕ) (seq : ℕ) (f : Lists) → (acted at by (ConsumerAck consumer seq) f).consumers ≡ map (acknowledged consumer seq) f.consumers
acted_consumers at by consumer seq f =
    consumers_stay (command_actions at by (ConsumerAck consumer seq) f) (edit at by (ConsumerAck consumer seq) f) ∙ edited at by consumer seq f

-- who reads further is there
moved_one : (name : List ℕ) (seq place : ℕ) (row : ConsumerRow) (rows : List ConsumerRow) (b : Bool) → bytes_eq row.name name ≡ b → (consumer_place name rows ≡ Some place → consumer_place name (map (acknowledged name seq) rows) ≡ Some seq)
    → consumer_place name (row ∷ rows) ≡ Some place → consumer_place name (map (acknowledged name seq) (row ∷ rows)) ≡ Some seq
moved_one name seq place row rows true is rest e = simp is
moved_one name seq place row rows false is rest e = let later : consumer_place name rows ≡ Some place = rw is at e in simp (is, rest later)

moved : (name : List ℕ) (seq place : ℕ) (rows : List ConsumerRow) → consumer_place name rows ≡ Some place → consumer_place name (map (acknowledged name seq) rows) ≡ Some seq
moved name seq place [] e = absurd (cc)
moved name seq place (row ∷ rows) e = moved_one name seq place row rows (bytes_eq row.name name) refl (moved name seq place rows) e

pub acknowledged_place : (s : State) (by : Entity) (key : Option (List ℕ)) (consumer : List ℕ) (place seq : ℕ) → AllByRecursion (IsBy s.clock) s.history → place_at s.history s.clock consumer ≡ Some place
    → place_at (appended s by key (ConsumerAck consumer seq)).history s.clock consumer ≡ Some seq
acknowledged_place s by key consumer place seq h e =
    ap (λ (f : Lists). consumer_place consumer f.consumers) (facts_push s.clock by key (ConsumerAck consumer seq) s.history h)
    ∙ (ap (consumer_place consumer) (acted_consumers s.clock by consumer seq (now_facts s)) ∙ moved consumer seq place (now_facts s).consumers e)
