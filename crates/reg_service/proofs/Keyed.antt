-- A command under a key that its caller has: what is kept there, and what is answered.
use Rattle.std.proofs.Common.{◌≡◌, ◌∙◌, ◌++◌, ◌∷◌, [], List, ℕ, Bool, Option, Some, None, true, false, refl, ap, sym, subst, append_assoc, option_map, inl, inr}
use Rattle.std.specs.Prelude.{IfSome, if◌then◌else◌, is_none, ◌⊎◌}
use Rattle.reg_base.specs.declared.entity.Entity.{Entity}
use Rattle.reg_terms.specs.declared.command.Command.{Command}
use Rattle.reg_terms.specs.declared.command.Stamped.{Stamped}
use Rattle.reg_terms.specs.declared.refusal.Refusal.{Refusal}
use Rattle.reg_terms.specs.declared.refusal.Refusal.TheVariants.{OtherCommand}
use Rattle.reg_terms.specs.declared.reply.Reply.{Reply}
use Rattle.reg_terms.specs.declared.reply.Reply.TheVariants as reply
use Rattle.reg_wire.specs.Payload.{command_bytes}
use Rattle.reg_machine.specs.History.{State}
use Rattle.reg_machine.specs.Keys.{KeptCommand, is_free, is_keyed, is_kept_as, kept_after, keyed, keyed_from, same_command}
use Rattle.reg_machine.specs.Refusals.{refusal}
use Rattle.reg_machine.specs.Telling.{told_of}
use Rattle.reg_machine.specs.declared.keyed.Keyed.{Keyed}
use Rattle.reg_service.specs.KeptAt.{IsKeptAt}
use Rattle.reg_service.specs.Turn.{answered_again, at_moment, decided, ordered, ordered_again, ordered_by, Carries, GoesOn, KeepsHistory, MayTellAgain}
use Rattle.reg_service.specs.declared.service.Next.{Next}
use Rattle.reg_service.specs.declared.service.Next.TheVariants as next

-- ---- what is kept under a key stands in the history

one_of : (here : Bool) (before ss : List Stamped) (s : Stamped) (o : Option KeptCommand) (k : KeptCommand) → (o ≡ Some k → IsKeptAt k.number k.id ((before ++ s ∷ []) ++ ss))
    → (if here then Some (kept_after before s) else o) ≡ Some k → IsKeptAt k.number k.id (before ++ s ∷ ss)
one_of true before ss s o k rest e =
    let is : kept_after before s ≡ k = cc in
    subst (λ (x : KeptCommand). IsKeptAt x.number x.id (before ++ s ∷ ss)) is (before, ss, s, refl, refl, refl)
one_of false before ss s o k rest e = subst (λ (l : List Stamped). IsKeptAt k.number k.id l) (append_assoc before (s ∷ []) ss) (rest e)

kept_from : (before ss : List Stamped) (by : Entity) (key : List ℕ) (k : KeptCommand) → keyed_from before ss by key ≡ Some k → IsKeptAt k.number k.id (before ++ ss)
kept_from before [] by key k e = absurd (cc)
kept_from before (s ∷ ss) by key k e =
    one_of (is_keyed by key s) before ss s (keyed_from (before ++ s ∷ []) ss by key) k (λ there. kept_from (before ++ s ∷ []) ss by key k there) e

pub keyed_at : (history : List Stamped) (by : Entity) (key : List ℕ) (k : KeptCommand) → keyed history by key ≡ Some k → IsKeptAt k.number k.id history
unfolding keyed
keyed_at history by key k e = kept_from [] history by key k e

-- ---- what is told of it

pub tells_none : (o : Option KeptCommand) (command : Command) → option_map told_of o ≡ None → MayTellAgain o command None
tells_none None command e = refl
tells_none (Some k) command e = absurd (cc)

pub tells_no_memory : (o : Option KeptCommand) (kept : Keyed) (command : Command) → option_map told_of o ≡ Some kept → MayTellAgain o command (Some reply.NoMemory)
tells_no_memory None kept command e = absurd (cc)
tells_no_memory (Some k) kept command e = inr refl

pub tells_it : (o : Option KeptCommand) (kept : Keyed) (command : Command) (bytes : List ℕ) (r : Reply) → option_map told_of o ≡ Some kept → bytes ≡ command_bytes command
    → r ≡ (if is_kept_as o bytes then reply.Number kept.number kept.id else reply.Refused (OtherCommand kept.number)) → MayTellAgain o command (Some r)
tells_it None kept command bytes r e same is = absurd (cc)
tells_it (Some k) kept command bytes r e same is =
    let found : told_of k ≡ kept = cc in
    let by_bytes = ap (λ (xs : List ℕ). if is_kept_as (Some k) xs then reply.Number kept.number kept.id else reply.Refused (OtherCommand kept.number)) same in
    let by_found = ap (λ (x : Keyed). if same_command k.command command then reply.Number x.number x.id else reply.Refused (OtherCommand x.number)) (sym found) in
    inl (ap (λ (x : Reply). Some x) (is ∙ (by_bytes ∙ by_found)))

-- nothing is told where the key is free
pub again_free : (o : Option KeptCommand) (command : Command) (told : Option Reply) → MayTellAgain o command told → told ≡ None → is_none o ≡ true
again_free None command told h e = refl
again_free (Some k) command told (inl h) e = absurd (cc)
again_free (Some k) command told (inr h) e = absurd (cc)

-- else the turn's reply, or that there was no memory
pub again_told : (s : State) (by : Entity) (key : List ℕ) (command : Command) (o : Option KeptCommand) (told : Option Reply) → MayTellAgain o command told
    → IfSome told (λ r. (r ≡ reply.NoMemory) ⊎ ((r, s) ≡ ordered_again s by key command o))
again_told s by key command None told h = rw h tt
again_told s by key command (Some k) told (inl h) = rw h (inr refl)
again_told s by key command (Some k) told (inr h) = rw h (inl refl)

pub same_number : (same : Bool) (k : KeptCommand) (n : ℕ) (id : Option ℕ) → (if same then reply.Number k.number k.id else reply.Refused (OtherCommand k.number)) ≡ reply.Number n id → (k.number ≡ n) × (k.id ≡ id)
same_number true k n id e = (cc, cc)
same_number false k n id e = absurd (cc)

again_at : (h : List Stamped) (o : Option KeptCommand) (command : Command) (told : Option Reply) (n : ℕ) (id : Option ℕ) → ((k : KeptCommand) → o ≡ Some k → IsKeptAt k.number k.id h)
    → MayTellAgain o command told → told ≡ Some (reply.Number n id) → IsKeptAt n id h
again_at h None command told n id at m e = absurd (cc)
again_at h (Some k) command told n id at (inl m) e =
    let is : answered_again k command ≡ reply.Number n id = cc in
    let parts = same_number (same_command k.command command) k n id is in
    subst (λ (x : ℕ). IsKeptAt x id h) parts.0 (subst (λ (x : Option ℕ). IsKeptAt k.number x h) parts.1 (at k refl))
again_at h (Some k) command told n id at (inr m) e = absurd (cc)

-- a number that is told is that of a command that was kept
pub again_kept : (h : List Stamped) (by : Entity) (key : List ℕ) (command : Command) (told : Option Reply) (n : ℕ) (id : Option ℕ) → MayTellAgain (keyed h by key) command told
    → told ≡ Some (reply.Number n id) → IsKeptAt n id h
again_kept h by key command told n id m e = again_at h (keyed h by key) command told n id (λ k is. keyed_at h by key k is) m e

-- ---- what is ordered

free_again : (s : State) (by : Entity) (key : List ℕ) (command : Command) (o : Option KeptCommand) → is_none o ≡ true
    → ordered_again s by key command o ≡ decided s by (Some key) command (refusal s.history s.clock by command)
free_again s by key command None e = refl
free_again s by key command (Some k) e = absurd (cc)

-- a command is decided where its key is free
pub ordered_free : (s : State) (by : Entity) (key : Option (List ℕ)) (command : Command) → is_free s.history by key ≡ true
    → ordered s (Some by) key command ≡ decided s by key command (refusal s.history s.clock by command)
ordered_free s by None command e = refl
ordered_free s by (Some key) command e = free_again s by key command (keyed s.history by key) e

-- a reply that changes nothing carries the order out
pub again_carries : {K : Type 0} (s : State) (by : Entity) (key : Option (List ℕ)) (command : Command) (told : Reply) (k : K) → (told ≡ reply.NoMemory) ⊎ ((told, s) ≡ ordered_by s by key command)
    → Carries s (ordered s (Some by) key command) (told, next.Go (record { state = s; keeper = k }))
again_carries s by key command told k (inl h) = inr (h, refl)
again_carries s by key command told k (inr h) = inl h

-- ---- a command goes into the history, or leaves it

decided_keeps : (s at : State) (by : Entity) (key : Option (List ℕ)) (command : Command) (why : Option Refusal) (told : Reply) (after : State) → at.history ≡ s.history → (told, after) ≡ decided at by key command why
    → KeepsHistory s told after × (after.clock ≡ at.clock)
decided_keeps s at by key command None told after same e =
    let told_is = ap (λ (p : Reply × State). p.0) e in
    let after_is = ap (λ (p : Reply × State). p.1) e in
    let one : Stamped = record { at = at.clock; by = by; key = key; command = command } in
    rw (told_is, after_is) (inl (one, ap (λ (h : List Stamped). h ++ one ∷ []) same, refl), refl)
decided_keeps s at by key command (Some r) told after same e =
    let told_is = ap (λ (p : Reply × State). p.0) e in
    let after_is = ap (λ (p : Reply × State). p.1) e in
    rw (told_is, after_is) (same, refl)

told_keeps : (same : Bool) (s at : State) (k : KeptCommand) → at.history ≡ s.history → IsKeptAt k.number k.id s.history
    → KeepsHistory s (if same then reply.Number k.number k.id else reply.Refused (OtherCommand k.number)) at
told_keeps true s at k history kept = inr (history, kept)
told_keeps false s at k history kept = history

again_keeps : (s at : State) (by : Entity) (key : List ℕ) (command : Command) (o : Option KeptCommand) (told : Reply) (after : State) → keyed at.history by key ≡ o → at.history ≡ s.history
    → (told, after) ≡ ordered_again at by key command o → KeepsHistory s told after × (after.clock ≡ at.clock)
again_keeps s at by key command None told after found same e = decided_keeps s at by (Some key) command (refusal at.history at.clock by command) told after same e
again_keeps s at by key command (Some k) told after found same e =
    let told_is = ap (λ (p : Reply × State). p.0) e in
    let after_is = ap (λ (p : Reply × State). p.1) e in
    let kept : IsKeptAt k.number k.id s.history = subst (λ (h : List Stamped). IsKeptAt k.number k.id h) same (keyed_at at.history by key k found) in
    let keeps : KeepsHistory s (answered_again k command) at = told_keeps (same_command k.command command) s at k same kept in
    rw (told_is, after_is) (keeps, refl)

by_keeps : (s at : State) (by : Entity) (key : Option (List ℕ)) (command : Command) (told : Reply) (after : State) → at.history ≡ s.history → (told, after) ≡ ordered_by at by key command
    → KeepsHistory s told after × (after.clock ≡ at.clock)
by_keeps s at by None command told after same e = decided_keeps s at by None command (refusal at.history at.clock by command) told after same e
by_keeps s at by (Some key) command told after same e = again_keeps s at by key command (keyed at.history by key) told after refl same e

pub ordered_keeps : (s at : State) (by : Option Entity) (key : Option (List ℕ)) (command : Command) (told : Reply) (after : State) → at.history ≡ s.history → (told, after) ≡ ordered at by key command
    → KeepsHistory s told after × (after.clock ≡ at.clock)
ordered_keeps s at None key command told after same e =
    let told_is = ap (λ (p : Reply × State). p.0) e in
    let after_is = ap (λ (p : Reply × State). p.1) e in
    rw (told_is, after_is) (same, refl)
ordered_keeps s at (Some by) key command told after same e = by_keeps s at by key command told after same e

pub command_goes_on : {K : Type 0} (s moved : State) (m : ℕ) (by : Option Entity) (key : Option (List ℕ)) (command : Command) (told : Reply) (n : Next K) → moved ≡ at_moment s m
    → Carries moved (ordered moved by key command) (told, n) → GoesOn s m (told, n)
command_goes_on s moved m by key command told (next.Go after) is (inl e) =
    let kept = ordered_keeps s moved by key command told after.state (ap (λ (t : State). t.history) is) e in
    (kept.0, inr (kept.1 ∙ ap (λ (t : State). t.clock) is))
command_goes_on s moved m by key command told (next.Go after) is (inr w) =
    let same : after.state ≡ at_moment s m = w.1 ∙ is in
    (rw w.0 (ap (λ (t : State). t.history) same), inr (ap (λ (t : State). t.clock) same))
command_goes_on s moved m by key command told (next.Stop why keeper) is e = tt
