-- That the responses of connections keep up, from connection to connection.
use Rattle.std.proofs.Common.{◌≡◌, ◌≤◌, ◌<◌, ◌+◌, ◌++◌, ◌∷◌, [], List, ℕ, Option, Some, Result, Ok, refl, ◌⊎◌, Bool, true}
use Rattle.std.proofs.lemmas.List.Elements.{All-append, All-cons, All-nil, All-weaker}
use Rattle.reg_outside.specs.Connections.{Accepts, Connections, Seen}
use Rattle.reg_outside.specs.declared.listener.Accepted.{Accepted}
use Rattle.reg_outside.specs.Streams.{WritesFront}
use Rattle.reg_terms.specs.declared.command.Stamped.{Stamped}
use Rattle.reg_machine.specs.History.{State}
use Rattle.reg_keep.specs.declared.keeper.Keeper.{Ghosts}
use Rattle.reg_service.specs.Kept.{Halted, KeptOn}
use Rattle.reg_service.specs.Marked.{keeps_up_later, keeps_up_sooner}
use Rattle.reg_service.specs.Marks.{KeepsUpInPart}
use Rattle.reg_service.specs.Opening.{Served}
use Rattle.reg_service.specs.declared.service.Cause.{Cause}
use Rattle.reg_service.specs.declared.service.Next.{Next}
use Rattle.reg_service.specs.declared.service.Next.TheVariants as next
use Rattle.reg_serve.specs.Answered.{Outcome, goes, stops}
use Rattle.reg_serve.specs.Keeping.{IsLeft}
use Rattle.reg_serve.specs.KeepingUp.{BackKeepsUp, IsResponse, KeepsUpTo, VisitsKeepUp, output_seen}
use Rattle.reg_serve.specs.Visits.{CeasesNext, CeasesServing, IsTaken, IsVisit, NoneComes, ServedSo, ServesVisits, Visit, Visits, ceased_of}
use Rattle.reg_serve.specs.declared.ended.Ceased.{Ceased}
use Rattle.reg_serve.specs.declared.ended.Ceased.TheVariants as ceased
use Rattle.reg_serve.proofs.Visiting.{ceases_first, ceases_listener, ceases_stopped, ceases_then, one_told, served_none, served_then, serves_all}

-- one connection
abbrev IsUp : {K : Type 0} → Ghosts K → K → List Stamped → K → Visit → Type 0
IsUp g first after keeper v = KeepsUpInPart g IsResponse first (output_seen v.came) (output_seen v.back) after keeper

-- connections, and then others
both_up : {K : Type 0} (g : Ghosts K) (h0 h1 h2 : List Stamped) (k0 k1 k2 : K) (xs ys : List Visit) → KeptOn g h0 k0 h1 k1 → KeptOn g h1 k1 h2 k2 → VisitsKeepUp g k0 h1 k1 xs → VisitsKeepUp g k1 h2 k2 ys → VisitsKeepUp g k0 h2 k2 (xs ++ ys)
both_up g h0 h1 h2 k0 k1 k2 xs ys x y a b =
    All-append (IsUp g k0 h2 k2) xs ys
    (All-weaker (IsUp g k0 h1 k1) (IsUp g k0 h2 k2) (λ v. keeps_up_later WritesFront g IsResponse h0 h1 h2 k0 k1 k2 (output_seen v.came) (output_seen v.back) x y) xs a)
    (All-weaker (IsUp g k1 h2 k2) (IsUp g k0 h2 k2) (λ v. keeps_up_sooner WritesFront g IsResponse h0 h1 h2 k0 k1 k2 (output_seen v.came) (output_seen v.back) x) ys b)

one_up : {K : Type 0} (g : Ghosts K) (first keeper : K) (after : List Stamped) (v : Visit) → KeepsUpInPart g IsResponse first (output_seen v.came) (output_seen v.back) after keeper → VisitsKeepUp g first after keeper (v ∷ [])
one_up g first keeper after v up = All-cons (IsUp g first after keeper) v [] up (All-nil (IsUp g first after keeper))

-- ---- one connection

-- none was served
pub served_none_up : {K : Type 0} (g : Ghosts K) (first keeper : K) (s : State) (ms : Option (List ℕ)) (old new : Option Connections) → Visits old new [] → (x : ServedSo true 0 s ms old new s ms) × VisitsKeepUp g first s.history keeper x.visits
unfolding served_none
served_none_up g first keeper s ms old new told = (served_none s ms old new told, All-nil (IsUp g first s.history keeper))

-- one was, after which the service goes on
pub served_one_up : {C E K : Type 0} (see : C → Seen) (g : Ghosts K) (s : State) (k : K) (ms : Option (List ℕ)) (old mid new : Option Connections) (later : Option (List ℕ)) (accepted : Accepted C) (given : Bool) (r : Result (Option (Accepted C)) E) (n : Next K) (after : Served K)
    → Accepts see old mid r → r ≡ Ok (Some accepted) → BackKeepsUp g s k ms accepted.number (see accepted.conn) given mid new later n → n ≡ next.Go after
    → (x : ServedSo given 1 s ms old new after.state later) × VisitsKeepUp g k after.state.history after.keeper x.visits
served_one_up see g s k ms old mid new later accepted given r n after a took b is = go b.0.to b.0.is (rw is at b.0.leaves) (rw is at b.1)
  where
    visit : Visit
    visit = record { number = accepted.number; came = see accepted.conn; back = b.0.back; unfinished = b.0.unfinished; is_taken = given }

    go : (to : Outcome) (v : IsVisit s ms (record { number = accepted.number; came = see accepted.conn; back = b.0.back; unfinished = b.0.unfinished; is_taken = given }) b.0.end to later) → IsLeft g s.history k v.session.last.state.history to (next.Go after)
        → KeepsUpTo g k (output_seen (see accepted.conn)) (output_seen b.0.back) (next.Go after) to → (x : ServedSo given 1 s ms old new after.state later) × VisitsKeepUp g k after.state.history after.keeper x.visits
    go (goes t) v l up = (
      record { visits = (record { number = accepted.number; came = see accepted.conn; back = b.0.back; unfinished = b.0.unfinished; is_taken = given }) ∷ []; told = one_told see old mid new accepted b.0.back b.0.unfinished given r a took b.0.told; counted = refl; sessions = (b.0.end, t, later, v, (l.0, refl)); taken = λ is. All-cons IsTaken _ [] is (All-nil IsTaken) },
      one_up g k after.keeper after.state.history (record { number = accepted.number; came = see accepted.conn; back = b.0.back; unfinished = b.0.unfinished; is_taken = given }) up,
    )
    go (stops why h) v l up = absurd l

-- a call of the listener failed, before it or behind it
pub ceases_listener_up : {K : Type 0} (g : Ghosts K) (given : Bool) (count : ℕ) (s last : State) (k kept keeper : K) (ms : Option (List ℕ)) (old new : Option Connections) (later : Option (List ℕ)) → (x : ServedSo given count s ms old new last later) × VisitsKeepUp g k last.history kept x.visits → count ≤ 1
    → (h : Halted g s.history k keeper) → h.answered ≡ last.history → h.after ≡ last.history → keeper ≡ kept → (c : CeasesNext g s k ms old new later ceased.Listener keeper) × VisitsKeepUp g k c.halted.after keeper c.visits
unfolding ceases_listener
ceases_listener_up g given count s last k kept keeper ms old new later served one h answered after same = (ceases_listener g given count s last k keeper ms old new later served.0 one h answered after, rw (after, same) served.1)

-- the service stopped at it
pub stopped_one_up : {C E K : Type 0} (see : C → Seen) (g : Ghosts K) (s : State) (k : K) (ms : Option (List ℕ)) (old mid new : Option Connections) (later : Option (List ℕ)) (accepted : Accepted C) (given : Bool) (r : Result (Option (Accepted C)) E) (n : Next K) (why : Cause) (keeper : K)
    → Accepts see old mid r → r ≡ Ok (Some accepted) → BackKeepsUp g s k ms accepted.number (see accepted.conn) given mid new later n → n ≡ next.Stop why keeper → (c : CeasesNext g s k ms old new later (ceased_of why) keeper) × VisitsKeepUp g k c.halted.after keeper c.visits
unfolding ceases_stopped
stopped_one_up see g s k ms old mid new later accepted given r n why keeper a took b is = go b.0.to b.0.is (rw is at b.0.leaves) (rw is at b.1)
  where
    visit : Visit
    visit = record { number = accepted.number; came = see accepted.conn; back = b.0.back; unfinished = b.0.unfinished; is_taken = given }

    go : (to : Outcome) (v : IsVisit s ms visit b.0.end to later) → IsLeft g s.history k v.session.last.state.history to (next.Stop why keeper) → KeepsUpTo g k (output_seen (see accepted.conn)) (output_seen b.0.back) (next.Stop why keeper) to
        → (c : CeasesNext g s k ms old new later (ceased_of why) keeper) × VisitsKeepUp g k c.halted.after keeper c.visits
    go (goes t) v l up = absurd l
    go (stops cause after) v l up = (
      ceases_stopped g s k keeper ms old new later visit b.0.end why cause after v l.1.0 l.0 l.1.1 l.1.2 (one_told see old mid new accepted b.0.back b.0.unfinished given r a took b.0.told),
      rw l.1.2 (one_up g k keeper after visit up),
    )

-- ---- one after another

pub served_then_up : {K : Type 0} (g : Ghosts K) (m n : ℕ) (s mid last : State) (k0 k1 k2 : K) (ms between later : Option (List ℕ)) (old told new : Option Connections) → KeptOn g s.history k0 mid.history k1 → KeptOn g mid.history k1 last.history k2
    → (x : ServedSo true m s ms old told mid between) × VisitsKeepUp g k0 mid.history k1 x.visits → (x : ServedSo true n mid between told new last later) × VisitsKeepUp g k1 last.history k2 x.visits
    → (x : ServedSo true (m + n) s ms old new last later) × VisitsKeepUp g k0 last.history k2 x.visits
unfolding served_then
served_then_up g m n s mid last k0 k1 k2 ms between later old told new x y a b =
    (served_then m n s mid last ms between later old told new a.0 b.0, both_up g s.history mid.history last.history k0 k1 k2 a.0.visits b.0.visits x y a.1 b.1)

-- as many as were to be served, or all that were to come
pub serves_all_up : {K : Type 0} (g : Ghosts K) (first keeper : K) (count limit : ℕ) (s last : State) (ms later : Option (List ℕ)) (old new : Option Connections) → (x : ServedSo true count s ms old new last later) × VisitsKeepUp g first last.history keeper x.visits → count ≤ limit
    → (count ≡ limit) ⊎ NoneComes new → (x : ServesVisits limit s ms old new last later) × VisitsKeepUp g first last.history keeper x.visits
unfolding serves_all
serves_all_up g first keeper count limit s last ms later old new a few done = (serves_all count limit s last ms later old new a.0 few done, a.1)

-- no more were
pub ceases_then_up : {K : Type 0} (g : Ghosts K) (count limit : ℕ) (s mid : State) (k0 k1 keeper : K) (ms between later : Option (List ℕ)) (old told new : Option Connections) (why : Ceased) → KeptOn g s.history k0 mid.history k1 → count < limit
    → (x : ServedSo true count s ms old told mid between) × VisitsKeepUp g k0 mid.history k1 x.visits → (c : CeasesNext g mid k1 between told new later why keeper) × VisitsKeepUp g k1 c.halted.after keeper c.visits
    → (c : CeasesServing g limit s k0 ms old new later why keeper) × VisitsKeepUp g k0 c.halted.after keeper c.visits
unfolding ceases_then
ceases_then_up g count limit s mid k0 k1 keeper ms between later old told new why kept few a b = (
  ceases_then g count limit s mid k0 k1 keeper ms between later old told new why a.0 kept few b.0,
  both_up g s.history mid.history b.0.halted.after k0 k1 keeper a.0.visits b.0.visits kept b.0.halted.kept a.1 b.1,
)

-- there was no memory before the first
pub ceases_first_up : {K : Type 0} (g : Ghosts K) (limit : ℕ) (s : State) (k keeper : K) (ms : Option (List ℕ)) (told : Option Connections) (h : Halted g s.history k keeper) → h.answered ≡ s.history → h.after ≡ s.history
    → (c : CeasesServing g limit s k ms told told ms ceased.Memory keeper) × VisitsKeepUp g k c.halted.after keeper c.visits
unfolding ceases_first
ceases_first_up g limit s k keeper ms told h answered after = (ceases_first g limit s k keeper ms told h answered after, All-nil (IsUp g k h.after keeper))
