-- What a load leads to, by what its command does.
use Rattle.std.proofs.Common.{◌≡◌, ◌∙◌, ◌++◌, ◌∷◌, [], List, ℕ, Bool, Option, Some, None, Result, Ok, Err, true, false, if◌then◌else◌, refl, ap, subst, arith, inl, inr}
use Rattle.reg_base.specs.Names.{is_extension}
use Rattle.reg_base.specs.declared.entity.Entity.{Entity}
use Rattle.reg_terms.specs.declared.command.Command.{Command}
use Rattle.reg_terms.specs.declared.command.Command.TheVariants.{Load}
use Rattle.reg_terms.specs.declared.lists.LoadRow.{LoadRow}
use Rattle.reg_terms.specs.declared.command.Stamped.{Stamped}
use Rattle.reg_terms.specs.declared.query.Answer.{Answer}
use Rattle.reg_terms.specs.declared.refusal.Refusal.{Refusal}
use Rattle.reg_terms.specs.declared.refusal.Refusal.TheVariants.{OtherCommand}
use Rattle.reg_terms.specs.declared.reply.LoadCounts.{LoadCounts}
use Rattle.reg_terms.specs.declared.reply.Reply.{Reply}
use Rattle.reg_terms.specs.declared.reply.Reply.TheVariants as reply
use Rattle.reg_terms.specs.declared.request.Op.TheVariants as op
use Rattle.reg_ops.specs.Forms.{op_has_form}
use Rattle.reg_machine.specs.History.{State, appended}
use Rattle.reg_machine.specs.Keys.{KeptCommand, keyed, same_command}
use Rattle.reg_machine.specs.Loads.{ListsFew, load_outcome}
use Rattle.reg_machine.specs.Refusals.{refusal}
use Rattle.reg_wire.specs.Payload.{AreFew}
use Rattle.reg_keep.specs.declared.keeper.Keeper.{Ghosts}
use Rattle.reg_service.specs.Kept.{IsLoaded}
use Rattle.reg_service.specs.Turn.{answered, at_moment, counted, decided, last_reply, load_ordered, loaded, ordered, ordered_again, ordered_by, Carries, GoesOn, KeepsHistory}
use Rattle.reg_service.specs.declared.service.Cause.{Cause}
use Rattle.reg_service.specs.declared.service.Cause.TheVariants as cause
use Rattle.reg_service.specs.declared.service.Next.{Next}
use Rattle.reg_service.specs.declared.service.Next.TheVariants as next

-- a command that isn't refused lists few names and rows
pub few_listed : (history : List Stamped) (at : ℕ) (by : Entity) (command : Command)
    → ((job : List ℕ) (created : List (List ℕ)) (removed added : List LoadRow) → refusal history at by (Load job created removed added) ≡ None → ListsFew created removed added) → refusal history at by command ≡ None → AreFew command
few_listed history at by (Load job created removed added) law sure = let few = law job created removed added sure in omega (arith, few.0, few.1, few.2)
few_listed history at by _ law sure = omega arith

-- a load that is asked has its form
pub load_form : (job table : List ℕ) → op_has_form (op.Load job table) ≡ true → is_extension job ≡ true
load_form job table form = form

stop_counted : (counts : LoadCounts) (why : Cause) → counted counts (last_reply why) ≡ last_reply why
stop_counted counts cause.Memory = refl
stop_counted counts cause.Disk = refl

-- what follows its command follows the load
pub counted_carries : {K : Type 0} (s : State) (by : Entity) (command : Command) (counts : LoadCounts) (told : Reply) (n : Next K) → refusal s.history s.clock by command ≡ None
    → Carries s (decided s by None command (refusal s.history s.clock by command)) (told, n) → Carries s (loaded s by (Ok (command, counts))) (counted counts told, n)
counted_carries s by command counts told (next.Go after) none (inl e) =
    let taken : (told, after.state) ≡ decided s by None command None = e ∙ ap (λ (o : Option Refusal). decided s by None command o) none in
    let number = ap (λ (p : Reply × State). p.0) taken in
    let state = ap (λ (p : Reply × State). p.1) taken in
    inl (rw (number, state) refl)
counted_carries s by command counts told (next.Go after) none (inr w) = inr (ap (counted counts) w.0, w.1)
counted_carries s by command counts told (next.Stop why keeper) none e = ap (counted counts) e ∙ stop_counted counts why

-- and so does the history
pub loaded_history : (s : State) (by : Entity) (command : Command) → refusal s.history s.clock by command ≡ None → (decided s by None command (refusal s.history s.clock by command)).1.history ≡ (appended s by None command).history
loaded_history s by command none = ap (λ (o : Option Refusal). (decided s by None command o).1.history) none

-- a load isn't answered as a command
pub counted_unnumbered : (counts : LoadCounts) (told : Reply) (n : ℕ) (id : Option ℕ) → counted counts told ≡ reply.Number n id → ⊥
counted_unnumbered counts (reply.Number m i) n id e = absurd (cc)
counted_unnumbered counts (reply.Loaded m other) n id e = absurd (cc)
counted_unnumbered counts (reply.Answer a) n id e = absurd (cc)
counted_unnumbered counts (reply.Refused r) n id e = absurd (cc)
counted_unnumbered counts reply.NoMemory n id e = absurd (cc)
counted_unnumbered counts reply.KeepFault n id e = absurd (cc)

-- nor anything else as a load
abbrev is_load : Reply → Bool
is_load (reply.Number n id) = false
is_load (reply.Loaded n counts) = true
is_load (reply.Answer a) = false
is_load (reply.Refused r) = false
is_load reply.NoMemory = false
is_load reply.KeepFault = false

stop_unloaded : (why : Cause) → is_load (last_reply why) ≡ false
stop_unloaded cause.Memory = refl
stop_unloaded cause.Disk = refl

carried_unloaded : {K : Type 0} (s : State) (expected : Reply × State) (told : Reply) (n : Next K) → is_load expected.0 ≡ false → Carries s expected (told, n) → is_load told ≡ false
carried_unloaded s expected told (next.Go after) none (inl e) = ap (λ (p : Reply × State). is_load p.0) e ∙ none
carried_unloaded s expected told (next.Go after) none (inr w) = ap is_load w.0
carried_unloaded s expected told (next.Stop why keeper) none e = ap is_load e ∙ stop_unloaded why

no_load : (told : Reply) (n : ℕ) (counts : LoadCounts) → is_load told ≡ false → told ≡ reply.Loaded n counts → ⊥
no_load told n counts none is = let load : is_load told ≡ true = ap is_load is in absurd (cc)

decided_unloaded : (s : State) (by : Entity) (key : Option (List ℕ)) (command : Command) (r : Option Refusal) → is_load (decided s by key command r).0 ≡ false
decided_unloaded s by key command None = refl
decided_unloaded s by key command (Some r) = refl

told_unloaded : (same : Bool) (n : ℕ) (id : Option ℕ) → is_load (if same then reply.Number n id else reply.Refused (OtherCommand n)) ≡ false
told_unloaded true n id = refl
told_unloaded false n id = refl

again_unloaded : (s : State) (by : Entity) (key : List ℕ) (command : Command) (o : Option KeptCommand) → is_load (ordered_again s by key command o).0 ≡ false
again_unloaded s by key command None = decided_unloaded s by (Some key) command (refusal s.history s.clock by command)
again_unloaded s by key command (Some k) = told_unloaded (same_command k.command command) k.number k.id

by_unloaded : (s : State) (by : Entity) (key : Option (List ℕ)) (command : Command) → is_load (ordered_by s by key command).0 ≡ false
by_unloaded s by None command = decided_unloaded s by None command (refusal s.history s.clock by command)
by_unloaded s by (Some key) command = again_unloaded s by key command (keyed s.history by key)

ordered_unloaded : (s : State) (by : Option Entity) (key : Option (List ℕ)) (command : Command) → is_load (ordered s by key command).0 ≡ false
ordered_unloaded s None key command = refl
ordered_unloaded s (Some by) key command = by_unloaded s by key command

answered_unloaded : (r : Result Answer Refusal) → is_load (answered r) ≡ false
answered_unloaded (Ok a) = refl
answered_unloaded (Err r) = refl

pub command_unloaded : {K : Type 0} (s : State) (by : Option Entity) (key : Option (List ℕ)) (command : Command) (told : Reply) (n : Next K) (k : ℕ) (counts : LoadCounts) → Carries s (ordered s by key command) (told, n) → told ≡ reply.Loaded k counts → ⊥
command_unloaded s by key command told n k counts carries is = no_load told k counts (carried_unloaded s (ordered s by key command) told n (ordered_unloaded s by key command) carries) is

pub query_unloaded : {K : Type 0} (s : State) (r : Result Answer Refusal) (told : Reply) (n : Next K) (k : ℕ) (counts : LoadCounts) → Carries s (answered r, s) (told, n) → told ≡ reply.Loaded k counts → ⊥
query_unloaded s r told n k counts carries is = no_load told k counts (carried_unloaded s (answered r, s) told n (answered_unloaded r) carries) is

-- a load is acknowledged by its command
pub counted_loaded : {K : Type 0} (g : Ghosts K) (s : State) (by : Entity) (command : Command) (why : Option Refusal) (counts : LoadCounts) (told : Reply) (n : Next K) (k : ℕ) (other : LoadCounts) → Carries s (decided s by None command why) (told, n)
    → ((m : ℕ) (id : Option ℕ) → told ≡ reply.Number m id → IsLoaded g s.history m n) → counted counts told ≡ reply.Loaded k other → IsLoaded g s.history k n
counted_loaded g s by command why counts (reply.Number m id) n k other carries kept e =
    let same : m ≡ k = cc in
    subst (λ (j : ℕ). IsLoaded g s.history j n) same (kept m id refl)
counted_loaded g s by command why counts (reply.Loaded m c) n k other carries kept e = absurd (no_load (reply.Loaded m c) m c (carried_unloaded s (decided s by None command why) (reply.Loaded m c) n (decided_unloaded s by None command why) carries) refl)
counted_loaded g s by command why counts (reply.Answer a) n k other carries kept e = absurd (cc)
counted_loaded g s by command why counts (reply.Refused r) n k other carries kept e = absurd (cc)
counted_loaded g s by command why counts reply.NoMemory n k other carries kept e = absurd (cc)
counted_loaded g s by command why counts reply.KeepFault n k other carries kept e = absurd (cc)

-- a load leads to one command more, or leaves the history
plan_keeps : (s at : State) (by : Entity) (plan : Result (Command × LoadCounts) Refusal) (told : Reply) (after : State) → at.history ≡ s.history → (told, after) ≡ loaded at by plan
    → KeepsHistory s told after × (after.clock ≡ at.clock)
plan_keeps s at by (Ok plan) told after same e =
    let told_is = ap (λ (p : Reply × State). p.0) e in
    let after_is = ap (λ (p : Reply × State). p.1) e in
    let one : Stamped = record { at = at.clock; by = by; key = None; command = plan.0 } in
    rw (told_is, after_is) ((one, ap (λ (h : List Stamped). h ++ one ∷ []) same, refl), refl)
plan_keeps s at by (Err r) told after same e =
    let told_is = ap (λ (p : Reply × State). p.0) e in
    let after_is = ap (λ (p : Reply × State). p.1) e in
    rw (told_is, after_is) (same, refl)

pub load_keeps : (s at : State) (by : Option Entity) (job table : List ℕ) (told : Reply) (after : State) → at.history ≡ s.history → (told, after) ≡ load_ordered at by job table
    → KeepsHistory s told after × (after.clock ≡ at.clock)
load_keeps s at None job table told after same e =
    let told_is = ap (λ (p : Reply × State). p.0) e in
    let after_is = ap (λ (p : Reply × State). p.1) e in
    rw (told_is, after_is) (same, refl)
load_keeps s at (Some by) job table told after same e = plan_keeps s at by (load_outcome at.history at.clock by job table) told after same e

pub load_goes_on : {K : Type 0} (s moved : State) (m : ℕ) (by : Option Entity) (job table : List ℕ) (told : Reply) (n : Next K) → moved ≡ at_moment s m → Carries moved (load_ordered moved by job table) (told, n) → GoesOn s m (told, n)
load_goes_on s moved m by job table told (next.Go after) is (inl e) =
    let kept = load_keeps s moved by job table told after.state (ap (λ (t : State). t.history) is) e in
    (kept.0, inr (kept.1 ∙ ap (λ (t : State). t.clock) is))
load_goes_on s moved m by job table told (next.Go after) is (inr w) =
    let same : after.state ≡ at_moment s m = w.1 ∙ is in
    (rw w.0 (ap (λ (t : State). t.history) same), inr (ap (λ (t : State). t.clock) same))
load_goes_on s moved m by job table told (next.Stop why keeper) is e = tt
