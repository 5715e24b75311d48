-- How a session goes on or stops, from line to line.
use Rattle.std.proofs.Common.{◌≡◌, ◌≤◌, ◌++◌, List, ℕ, Option, Some, None, Result, Ok, Err, true, refl, ap, sym, ◌∙◌, append_assoc, subst, arith, length, length-append, take, ◌⊎◌, inl, inr}
use Rattle.std.specs.Prelude.{IfSome, IfOk, IfErr, is_some}
use Rattle.std.specs.Result.{IsErrAnd}
use Rattle.std.proofs.lemmas.List.{take_all, take-append-le}
use Rattle.reg_outside.specs.Disk.{Leaves}
use Rattle.reg_outside.specs.Faults.{Rose}
use Rattle.reg_base.specs.declared.entity.Entity.{Entity}
use Rattle.reg_terms.specs.declared.command.Command.{Command}
use Rattle.reg_terms.specs.declared.command.Stamped.{Stamped}
use Rattle.reg_terms.specs.declared.refusal.Refusal.{Refusal}
use Rattle.reg_terms.specs.declared.refusal.Refusal.TheVariants.{BadWindow}
use Rattle.reg_terms.specs.declared.reply.LoadCounts.{LoadCounts}
use Rattle.reg_terms.specs.declared.request.Request.{Request}
use Rattle.reg_terms.specs.declared.request.Op.{Op}
use Rattle.reg_terms.specs.declared.request.Op.TheVariants as op
use Rattle.reg_machine.specs.History.{State}
use Rattle.reg_machine.specs.Keys.{KeptCommand, keyed}
use Rattle.reg_machine.specs.Loads.{load_outcome}
use Rattle.reg_machine.specs.Refusals.{refusal}
use Rattle.reg_keep.specs.declared.keeper.Keeper.{Ghosts}
use Rattle.reg_service.specs.Opening.{payloads_of, Served, FrontsReopen}
use Rattle.reg_service.specs.Kept.{KeptOn, IsBetween, IsOneMore, Stopped, Halted, KeepsNext, Began, RoseAt}
use Rattle.reg_base.specs.Entities.{entity_of}
use Rattle.reg_service.specs.Turn.{requested, decided, load_ordered, loaded, turn, at_moment, ordered, ordered_again, ordered_by}
use Rattle.reg_service.specs.declared.service.Next.{Next}
use Rattle.reg_service.specs.declared.service.Next.TheVariants as next
use Rattle.reg_service.specs.declared.service.Cause.{Cause}
use Rattle.reg_service.specs.declared.service.Cause.TheVariants as cause
use Rattle.reg_session.specs.Pending.{ReadsAs}
use Rattle.reg_session.specs.Stops.{stop_of}
use Rattle.reg_session.specs.declared.pending.LineReading.{LineReading}
use Rattle.reg_session.specs.declared.pending.LineReading.TheVariants as read
use Rattle.reg_session.specs.declared.stop.Stop.{Stop}
use Rattle.reg_session.specs.declared.stop.Stop.TheVariants as stop

between_first : (h0 h1 h2 more : List Stamped) (r : Result (List (List ℕ)) ℕ) → h2 ≡ h1 ++ more → IsBetween h0 h1 r → IsBetween h0 h2 r
between_first h0 h1 h2 more r grown b =
    let front : take b.0 h2 ≡ take b.0 h1 = rw grown (take-append-le b.0 h1 more b.2) in
    (b.0, b.1, omega (arith, ap (λ (l : List Stamped). length l) grown, length-append h1 more, b.2), rw front b.3)

between_second : (h0 h1 h2 more : List Stamped) (r : Result (List (List ℕ)) ℕ) → h1 ≡ h0 ++ more → IsBetween h1 h2 r → IsBetween h0 h2 r
between_second h0 h1 h2 more r grown b = (b.0, omega (arith, ap (λ (l : List Stamped). length l) grown, length-append h0 more, b.1), b.2, b.3)

-- from one moment to a second and from that to a third
pub kept_then : {K : Type 0} (g : Ghosts K) (h0 h1 h2 : List Stamped) (k0 k1 k2 : K) → KeptOn g h0 k0 h1 k1 → KeptOn g h1 k1 h2 k2 → KeptOn g h0 k0 h2 k2
kept_then g h0 h1 h2 k0 k1 k2 a b = record {
  more = a.more ++ b.more;
  grown = b.grown ∙ (ap (λ (l : List Stamped). l ++ b.more) a.grown ∙ append_assoc h0 a.more b.more);
  object = b.object ∙ a.object;
  later = omega (arith, a.later, b.later);
  told = told (g.payloads k0) (g.payloads k1) a.told b.told;
  crash = crash (g.payloads k0) (g.payloads k1) a.told a.crash b.crash;
}
  where
    told : (o p : Option (List (List ℕ))) → IfSome o (λ ps. is_some p ≡ true) → IfSome p (λ ps. is_some (g.payloads k2) ≡ true) → IfSome o (λ ps. is_some (g.payloads k2) ≡ true)
    told None p x y = tt
    told (Some ps) None x y = absurd (cc)
    told (Some ps) (Some qs) x y = y

    both : Leaves g.keep_moment g.stopped_since (IsBetween h0 h1) k0 k1 → Leaves g.keep_moment g.stopped_since (IsBetween h1 h2) k1 k2 → Leaves g.keep_moment g.stopped_since (IsBetween h0 h2) k0 k2
    both x y = record {
      later = omega (arith, x.later, y.later);
      each = λ r left. each r (y.since (g.keep_moment k0) r x.later left);
      since = λ t r le left. since t r le (y.since t r (omega (arith, x.later)) left);
    }
      where
        each : (r : Result (List (List ℕ)) ℕ) → g.stopped_since k1 (g.keep_moment k0) r ⊎ IsBetween h1 h2 r → IsBetween h0 h2 r
        each r (inl left) = between_first h0 h1 h2 b.more r b.grown (x.each r left)
        each r (inr p) = between_second h0 h1 h2 a.more r a.grown p

        first : (t : ℕ) (r : Result (List (List ℕ)) ℕ) → g.stopped_since k0 t r ⊎ IsBetween h0 h1 r → g.stopped_since k0 t r ⊎ IsBetween h0 h2 r
        first t r (inl left) = inl left
        first t r (inr p) = inr (between_first h0 h1 h2 b.more r b.grown p)

        since : (t : ℕ) (r : Result (List (List ℕ)) ℕ) → t ≤ g.keep_moment k0 → g.stopped_since k1 t r ⊎ IsBetween h1 h2 r → g.stopped_since k0 t r ⊎ IsBetween h0 h2 r
        since t r le (inl left) = first t r (x.since t r le left)
        since t r le (inr p) = inr (between_second h0 h1 h2 a.more r a.grown p)

    crash : (o p : Option (List (List ℕ))) → IfSome o (λ ps. is_some p ≡ true) → IfSome o (λ ps. Leaves g.keep_moment g.stopped_since (IsBetween h0 h1) k0 k1)
        → IfSome p (λ ps. Leaves g.keep_moment g.stopped_since (IsBetween h1 h2) k1 k2) → IfSome o (λ ps. Leaves g.keep_moment g.stopped_since (IsBetween h0 h2) k0 k2)
    crash None p t x y = tt
    crash (Some ps) None t x y = absurd (cc)
    crash (Some ps) (Some qs) t x y = both x y

-- and from a second moment to a stop
abbrev pub halted_then : {K : Type 0} (g : Ghosts K) (h0 h1 : List Stamped) (k0 k1 k2 : K) → KeptOn g h0 k0 h1 k1 → Halted g h1 k1 k2 → Halted g h0 k0 k2
halted_then g h0 h1 k0 k1 k2 a b = record {
  answered = b.answered;
  after = b.after;
  first = omega (arith, b.first, ap (λ (l : List Stamped). length l) a.grown, length-append h0 a.more);
  last = b.last;
  kept = kept_then g h0 h1 b.after k0 k1 k2 a b.kept;
  stopped = stopped (g.payloads k0) (g.payloads k1) a.told b.stopped;
}
  where
    stopped : (o p : Option (List (List ℕ))) → IfSome o (λ ps. is_some p ≡ true) → IfSome p (λ ps. Stopped g b.answered b.after k2) → IfSome o (λ ps. Stopped g b.answered b.after k2)
    stopped None p t x = tt
    stopped (Some ps) None t x = absurd (cc)
    stopped (Some ps) (Some qs) t x = x

-- what follows a request, as it goes on
pub next_kept : {K : Type 0} (g : Ghosts K) (before expected : List Stamped) (old : K) (n : Next K) (s : Served K) → KeepsNext g before expected old n → n ≡ next.Go s → KeptOn g before old s.state.history s.keeper
next_kept g before expected old n s kept is = subst (KeepsNext g before expected old) is kept

pub one_more : (why : Cause) (before expected after : List Stamped) → IsOneMore before expected → Began why before expected after → IsOneMore before after
one_more cause.Memory before expected after more e = inl e
one_more cause.Disk before expected after more (inl e) = inl e
one_more cause.Disk before expected after more (inr e) = subst (IsOneMore before) (sym e) more

-- as it stops
abbrev pub next_halted : {K : Type 0} (g : Ghosts K) (before expected : List Stamped) (old : K) (n : Next K) (why : Cause) (k : K) → KeepsNext g before expected old n → n ≡ next.Stop why k → IsOneMore before expected → Halted g before old k
next_halted g before expected old n why k kept is more =
    let all : KeepsNext g before expected old (next.Stop why k) = subst (KeepsNext g before expected old) is kept in
    record { answered = before; after = all.0; first = omega arith; last = one_more why before expected all.0 more all.1; kept = all.2; stopped = all.3 }

pub next_began : {K : Type 0} (g : Ghosts K) (before expected : List Stamped) (old : K) (n : Next K) (why : Cause) (k : K) (kept : KeepsNext g before expected old n) (is : n ≡ next.Stop why k) (more : IsOneMore before expected)
    → Began why before expected (next_halted g before expected old n why k kept is more).after
next_began g before expected old n why k kept is more = let all : KeepsNext g before expected old (next.Stop why k) = subst (KeepsNext g before expected old) is kept in all.1

pub next_cause : {K : Type 0} (g : Ghosts K) (before expected : List Stamped) (old : K) (n : Next K) (why : Cause) (k : K) → KeepsNext g before expected old n → n ≡ next.Stop why k → RoseAt why (g.keep_faults old) (g.keep_faults k)
next_cause g before expected old n why k kept is =
    let all : KeepsNext g before expected old (next.Stop why k) = subst (KeepsNext g before expected old) is kept in all.4

rose_at : (why : Cause) (old new : ℕ) → stop_of why ≡ stop.Disk → RoseAt why old new → Rose old new
rose_at cause.Memory old new e rose = absurd (cc)
rose_at cause.Disk old new e rose = rose

pub next_rose : {K : Type 0} (g : Ghosts K) (before expected : List Stamped) (old : K) (n : Next K) (why : Cause) (k : K) (s : Stop) → KeepsNext g before expected old n → n ≡ next.Stop why k → s ≡ stop_of why → s ≡ stop.Disk
    → Rose (g.keep_faults old) (g.keep_faults k)
next_rose g before expected old n why k s kept is of disk = rose_at why (g.keep_faults old) (g.keep_faults k) (sym of ∙ disk) (next_cause g before expected old n why k kept is)

between_same : (h : List Stamped) (r : Result (List (List ℕ)) ℕ) → r ≡ Ok (payloads_of h) → IsBetween h h r
between_same h r e = (length h, omega arith, omega arith, e ∙ ap (λ (l : List Stamped). Ok (payloads_of l)) (sym (take_all (length h) h (omega arith))))

pub whole : {K : Type 0} (g : Ghosts K) (h : List Stamped) (k : K) (o : Option (List (List ℕ))) → FrontsReopen h → ((r : Result (List (List ℕ)) ℕ) → g.stop_leaves k r → r ≡ Ok (payloads_of h))
    → IfSome o (λ ps. Stopped g h h k)
whole g h k None fronts left = tt
whole g h k (Some ps) fronts left = (fronts, λ r here. between_same h r (left r here))

-- and as it goes on to a reply that isn't written, or gives its keeper back
abbrev pub go_halted : {K : Type 0} (g : Ghosts K) (before : List Stamped) (old : K) (s : Served K) (k : K) → KeptOn g before old s.state.history s.keeper → k ≡ s.keeper → FrontsReopen s.state.history
    → ((r : Result (List (List ℕ)) ℕ) → g.stop_leaves k r → r ≡ Ok (payloads_of s.state.history)) → Halted g before old k
go_halted g before old s k kept is fronts left = record {
  answered = s.state.history;
  after = s.state.history;
  first = omega (arith, ap (λ (l : List Stamped). length l) kept.grown, length-append before kept.more);
  last = inl refl;
  kept = subst (λ (x : _). KeptOn g before old s.state.history x) (sym is) kept;
  stopped = whole g s.state.history k (g.payloads old) fronts left;
}

-- what holds of an error that is passed on
pub err_by : {T E : Type 0} (P : E → Type 0) (r : Result T E) (e : E) → IsErrAnd r (λ y. y ≡ e) → P e → IfErr r P
err_by P (Ok x) e is p = tt
err_by P (Err y) e is p = subst P (sym is) p

-- what follows of a value, and of an error by two of its clauses
pub ok_so : {T E : Type 0} (P Q : T → Type 0) (r : Result T E) → IfOk r P → ((x : T) → P x → Q x) → IfOk r Q
ok_so P Q (Ok x) p h = h x p
ok_so P Q (Err e) p h = tt

pub err_so : {T E : Type 0} (P Q R : E → Type 0) (r : Result T E) → IfErr r P → IfErr r Q → ((e : E) → P e → Q e → R e) → IfErr r R
err_so P Q R (Ok x) p q h = tt
err_so P Q R (Err e) p q h = h e p q

-- what follows of a value by two of its clauses, and of an error by one
pub ok_both : {T E : Type 0} (P Q R : T → Type 0) (r : Result T E) → IfOk r P → IfOk r Q → ((x : T) → P x → Q x → R x) → IfOk r R
ok_both P Q R (Ok x) p q h = h x p q
ok_both P Q R (Err e) p q h = tt

pub err_one : {T E : Type 0} (P Q : E → Type 0) (r : Result T E) → IfErr r P → ((e : E) → P e → Q e) → IfErr r Q
err_one P Q (Ok x) p h = tt
err_one P Q (Err e) p h = h e p

decided_one : (s : State) (by : Entity) (key : Option (List ℕ)) (command : Command) (r : Option Refusal) → IsOneMore s.history (decided s by key command r).1.history
decided_one s by key command None = inr (record { at = s.clock; by = by; key = key; command = command }, refl)
decided_one s by key command (Some r) = inl refl

again_one : (s : State) (by : Entity) (key : List ℕ) (command : Command) (kept : Option KeptCommand) → IsOneMore s.history (ordered_again s by key command kept).1.history
again_one s by key command None = decided_one s by (Some key) command (refusal s.history s.clock by command)
again_one s by key command (Some kept) = inl refl

known_one : (s : State) (by : Entity) (key : Option (List ℕ)) (command : Command) → IsOneMore s.history (ordered_by s by key command).1.history
known_one s by None command = decided_one s by None command (refusal s.history s.clock by command)
known_one s by (Some key) command = again_one s by key command (keyed s.history by key)

ordered_one : (s : State) (by : Option Entity) (key : Option (List ℕ)) (command : Command) → IsOneMore s.history (ordered s by key command).1.history
ordered_one s None key command = inl refl
ordered_one s (Some by) key command = known_one s by key command

loaded_one : (s : State) (by : Entity) (plan : Result (Command × LoadCounts) Refusal) → IsOneMore s.history (loaded s by plan).1.history
loaded_one s by (Ok plan) = inr (record { at = s.clock; by = by; key = None; command = plan.0 }, refl)
loaded_one s by (Err r) = inl refl

load_one : (s : State) (by : Option Entity) (job table : List ℕ) → IsOneMore s.history (load_ordered s by job table).1.history
load_one s None job table = inl refl
load_one s (Some by) job table = loaded_one s by (load_outcome s.history s.clock by job table)

requested_one : (s : State) (by : List ℕ) (key : Option (List ℕ)) (asked : Op) → IsOneMore s.history (requested s by key asked).1.history
requested_one s by key (op.Command command) = ordered_one s (entity_of by) key command
requested_one s by key (op.Query query) = inl refl
requested_one s by key (op.Load job table) = load_one s (entity_of by) job table

-- a turn leads to the history, or to one command more
pub turn_one : (s : State) (m : ℕ) (reading : Result Request Refusal) → IsOneMore s.history (turn s m reading).1.history
turn_one s m (Ok request) = requested_one (at_moment s m) request.by request.key request.op
turn_one s m (Err r) = inl refl

-- something is told by each reading
pub told_of : (reading : LineReading) → (told : Result Request Refusal) × ReadsAs reading told
told_of (read.Asked request) = (Ok request, refl)
told_of (read.Refused refusal) = (Err refusal, refl)
told_of read.NoMemory = (Err BadWindow, tt)
