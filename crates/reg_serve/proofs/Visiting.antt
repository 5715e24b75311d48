-- From connection to connection of a listener.
use Rattle.std.proofs.Common.{◌≡◌, ◌≤◌, ◌<◌, ◌+◌, ◌++◌, ◌∷◌, [], List, ℕ, Option, Some, None, Result, Ok, Err, refl, ap, sym, ◌∙◌, append_assoc, arith, inl, inr, ◌⊎◌, length, length-append, option_map, Bool, true}
use Rattle.std.specs.Prelude.{IfSome, OnOk, OnErr, is_ok}
use Rattle.std.proofs.lemmas.List.Elements.{All-append, All-cons, All-nil}
use Rattle.reg_outside.specs.Connections.{Accepts, Arrival, Connections, HasOut, HasTurn, Seen, back_of, gives_back, next_turn, opens, sends}
use Rattle.reg_outside.specs.declared.listener.Accepted.{Accepted}
use Rattle.reg_outside.specs.Faults.{Rose}
use Rattle.reg_terms.specs.declared.command.Stamped.{Stamped}
use Rattle.reg_machine.specs.History.{State}
use Rattle.reg_keep.specs.declared.keeper.Keeper.{Ghosts}
use Rattle.reg_service.specs.Kept.{Halted, KeptOn, RoseAt}
use Rattle.reg_service.specs.Opening.{Served}
use Rattle.reg_service.specs.declared.service.Cause.{Cause}
use Rattle.reg_service.specs.declared.service.Cause.TheVariants as cause
use Rattle.reg_service.specs.declared.service.Next.{Next}
use Rattle.reg_service.specs.declared.service.Next.TheVariants as next
use Rattle.reg_session.proofs.Halting.{halted_then}
use Rattle.reg_serve.specs.Answered.{Outcome, goes, stops}
use Rattle.reg_serve.specs.Keeping.{IsLeft}
use Rattle.reg_serve.specs.Visits.{BreaksAt, CeasesAt, CeasesNext, CeasesServing, GivesBack, IsTaken, IsVisit, NoneComes, ServedSo, ServesVisits, Sessions, StopsAtLast, Visit, Visited, Visits, ceased_of}
use Rattle.reg_serve.specs.declared.ended.Ceased.{Ceased}
use Rattle.reg_serve.specs.declared.ended.Ceased.TheVariants as ceased
use Rattle.reg_serve.specs.declared.ended.Ended.{Ended}
use Rattle.reg_serve.specs.declared.ended.Ended.TheVariants as ended

-- ---- what a listener tells

-- an accepted connection can be given back
pub accepted_out : {C E : Type 0} (see : C → Seen) (old new : Option Connections) (accepted : Accepted C) (r : Result (Option (Accepted C)) E) → Accepts see old new r → r ≡ Ok (Some accepted) → IfSome new HasOut
accepted_out {E = E} see old new accepted r a is = go old new (rw is at a)
  where
    had : (turns : List Arrival) (number : ℕ) (conn : Seen) (old new : Connections) → HasTurn turns number conn old new → HasOut new
    had [] number conn old new t = absurd t
    had (opens first ∷ more) number conn old new t = rw t.2 (omega arith)
    had (sends sender bytes ∷ more) number conn old new t = rw t.2 (omega arith)

    go : (old new : Option Connections) → Accepts {E = E} see old new (Ok (Some accepted)) → IfSome new HasOut
    go None None a = tt
    go None (Some n) a = absurd a
    go (Some o) None a = absurd a
    go (Some o) (Some n) a = had (next_turn o.given_back o.coming) accepted.number (see accepted.conn) o n a

-- none was accepted: the call failed, or none is to come
pub failed_told : {C E : Type 0} (see : C → Seen) (old new : Option Connections) (e : E) (r : Result (Option (Accepted C)) E) → Accepts see old new r → r ≡ Err e → Visits old new []
failed_told {C = C} see old new e r a is = go old new (rw is at a)
  where
    go : (old new : Option Connections) → Accepts {C = C} see old new (Err e) → Visits old new []
    go None None a = tt
    go None (Some n) a = absurd a
    go (Some o) None a = absurd a
    go (Some o) (Some n) a = a

pub none_told : {C E : Type 0} (see : C → Seen) (old new : Option Connections) (r : Result (Option (Accepted C)) E) → Accepts see old new r → r ≡ Ok None → Visits old new [] × NoneComes new
none_told {C = C} {E = E} see old new r a is = go old new (rw is at a)
  where
    go : (old new : Option Connections) → Accepts {C = C} {E = E} see old new (Ok None) → Visits old new [] × NoneComes new
    go None None a = (tt, tt)
    go None (Some n) a = absurd a
    go (Some o) None a = absurd a
    go (Some o) (Some n) a = (a.1, rw a.1 a.0)

-- one was, and it was given back
pub one_told : {C E : Type 0} (see : C → Seen) (old mid new : Option Connections) (accepted : Accepted C) (back : Seen) (left : Option (List ℕ)) (given : Bool) (r : Result (Option (Accepted C)) E) → Accepts see old mid r → r ≡ Ok (Some accepted)
    → new ≡ option_map (gives_back (back_of accepted.number back left)) mid → Visits old new ((record { number = accepted.number; came = see accepted.conn; back = back; unfinished = left; is_taken = given }) ∷ [])
one_told {E = E} see old mid new accepted back left given r a is told = rw told (go old mid (rw is at a))
  where
    go : (old mid : Option Connections) → Accepts {E = E} see old mid (Ok (Some accepted))
        → Visits old (option_map (gives_back (back_of accepted.number back left)) mid) ((record { number = accepted.number; came = see accepted.conn; back = back; unfinished = left; is_taken = given }) ∷ [])
    go None None a = tt
    go None (Some m) a = absurd a
    go (Some o) None a = absurd a
    go (Some o) (Some m) a = (gives_back (back_of accepted.number back left) m, record { out = m; had = a; back = refl }, refl)

-- some visits, and then others
visited_then : (old mid new : Connections) (xs ys : List Visit) → Visited old mid xs → Visited mid new ys → Visited old new (xs ++ ys)
visited_then old mid new [] ys a b = rw a at b
visited_then old mid new (x ∷ xs) ys a b = (a.0, a.1, visited_then a.0 mid new xs ys a.2 b)

pub visits_then : (old mid new : Option Connections) (xs ys : List Visit) → Visits old mid xs → Visits mid new ys → Visits old new (xs ++ ys)
visits_then None None None xs ys a b = tt
visits_then None None (Some n) xs ys a b = absurd b
visits_then None (Some m) new xs ys a b = absurd a
visits_then (Some o) None new xs ys a b = absurd a
visits_then (Some o) (Some m) None xs ys a b = absurd b
visits_then (Some o) (Some m) (Some n) xs ys a b = visited_then o m n xs ys a b

-- ---- sessions

pub sessions_then : (s mid last : State) (ms between later : Option (List ℕ)) (xs ys : List Visit) → Sessions s ms xs mid between → Sessions mid between ys last later → Sessions s ms (xs ++ ys) last later
sessions_then s mid last ms between later [] ys a b = rw (← a.0, ← a.1) b
sessions_then s mid last ms between later (x ∷ xs) ys a b = (a.0, a.1, a.2, a.3, sessions_then a.1 mid last a.2 between later xs ys a.4 b)

-- a connection that no more bytes came of is open, or over where it couldn't be given back
pub silent_back : {A E : Type 0} (r : Result A E) (end : Ended) (unfinished : List ℕ) (number : ℕ) (conn : Seen) (old new : Option Connections) → end ≡ ended.Silent → OnOk r (new ≡ option_map (gives_back (back_of number conn (Some unfinished))) old)
    → OnErr r (new ≡ option_map (gives_back (back_of number conn None)) old) → (left : Option (List ℕ)) × IfSome left (λ bytes. (end ≡ ended.Silent) × (unfinished ≡ bytes)) × (is_ok r ≡ true → end ≡ ended.Silent → left ≡ Some unfinished) × (new ≡ option_map (gives_back (back_of number conn left)) old)
silent_back (Ok x) end unfinished number conn old new is back over = (Some unfinished, (is, refl), (λ t e. refl), back)
silent_back (Err e) end unfinished number conn old new is back over = (None, tt, (λ t e. absurd (cc)), over)

-- what a connection may come again with is what was read of it last
pub rests_so : (e : Ended) (rest held unfinished : List ℕ) (left : Option (List ℕ)) → (e ≡ ended.Silent → rest ≡ held) → unfinished ≡ held → IfSome left (λ bytes. (e ≡ ended.Silent) × (unfinished ≡ bytes))
    → IfSome left (λ bytes. (e ≡ ended.Silent) × (rest ≡ bytes))
rests_so e rest held unfinished None so is back = tt
rests_so e rest held unfinished (Some bytes) so is back = (back.0, so back.0 ∙ (sym is ∙ back.1))

pub kept_so : (e : Ended) (rest held unfinished : List ℕ) (left : Option (List ℕ)) (given : Bool) → (e ≡ ended.Silent → rest ≡ held) → unfinished ≡ held → (given ≡ true → e ≡ ended.Silent → left ≡ Some unfinished) → given ≡ true → e ≡ ended.Silent → left ≡ Some rest
kept_so e rest held unfinished left given so is back taken silent = back taken silent ∙ ap Some (is ∙ sym (so silent))

-- ---- one connection

-- none was served
unfoldable pub served_none : (s : State) (ms : Option (List ℕ)) (old new : Option Connections) → Visits old new [] → ServedSo true 0 s ms old new s ms
served_none s ms old new told = record { visits = []; told = told; counted = refl; sessions = (refl, refl); taken = λ is. All-nil IsTaken }

-- one was, after which the service goes on
pub served_one : {C E K : Type 0} (see : C → Seen) (g : Ghosts K) (s : State) (k : K) (ms : Option (List ℕ)) (old mid new : Option Connections) (later : Option (List ℕ)) (accepted : Accepted C) (given : Bool) (r : Result (Option (Accepted C)) E) (n : Next K) (after : Served K)
    → Accepts see old mid r → r ≡ Ok (Some accepted) → GivesBack g s k ms accepted.number (see accepted.conn) given mid new later n → n ≡ next.Go after
    → ServedSo given 1 s ms old new after.state later × KeptOn g s.history k after.state.history after.keeper
served_one see g s k ms old mid new later accepted given r n after a took b is = go b.to b.is (rw is at b.leaves)
  where
    go : (to : Outcome) (v : IsVisit s ms (record { number = accepted.number; came = see accepted.conn; back = b.back; unfinished = b.unfinished; is_taken = given }) b.end to later) → IsLeft g s.history k v.session.last.state.history to (next.Go after)
        → ServedSo given 1 s ms old new after.state later × KeptOn g s.history k after.state.history after.keeper
    go (goes t) v l = (
      record { visits = (record { number = accepted.number; came = see accepted.conn; back = b.back; unfinished = b.unfinished; is_taken = given }) ∷ []; told = one_told see old mid new accepted b.back b.unfinished given r a took b.told; counted = refl; sessions = (b.end, t, later, v, (l.0, refl)); taken = λ is. All-cons IsTaken _ [] is (All-nil IsTaken) },
      rw l.0 l.1,
    )
    go (stops why h) v l = absurd l

-- a call of the listener failed, before it or behind it
unfoldable pub ceases_listener : {K : Type 0} (g : Ghosts K) (given : Bool) (count : ℕ) (s last : State) (k keeper : K) (ms : Option (List ℕ)) (old new : Option Connections) (later : Option (List ℕ)) → ServedSo given count s ms old new last later → count ≤ 1
    → (h : Halted g s.history k keeper) → h.answered ≡ last.history → h.after ≡ last.history → CeasesNext g s k ms old new later ceased.Listener keeper
ceases_listener g given count s last k keeper ms old new later served one h answered after = record {
  visits = served.visits;
  told = served.told;
  few = omega (arith, served.counted, one);
  halted = h;
  ends = (last, served.sessions, answered, after);
}

pub breaks_stopped : (s : State) (ms : Option (List ℕ)) (visits : List Visit) (later : Option (List ℕ)) (answered after : List Stamped) (why : Cause) → StopsAtLast s ms visits later answered after why
    → BreaksAt s ms visits later answered after (ceased_of why)
breaks_stopped s ms visits later answered after cause.Memory t = t
breaks_stopped s ms visits later answered after cause.Disk t = t

-- the service stopped at it
pub stops_at_last : (s : State) (ms : Option (List ℕ)) (v : Visit) (e : Ended) (later : Option (List ℕ)) (why : Cause) (answered after : List Stamped) → (is : IsVisit s ms v e (stops why after) later)
    → answered ≡ is.session.last.state.history → StopsAtLast s ms (v ∷ []) later answered after why
stops_at_last s ms v e later why answered after is done = record { earlier = []; visit = v; cut = refl; mid = s; between = ms; sessions = (refl, refl); end = e; last = is; done = done }

unfoldable pub ceases_stopped : {K : Type 0} (g : Ghosts K) (s : State) (k keeper : K) (ms : Option (List ℕ)) (old new : Option Connections) (later : Option (List ℕ)) (visit : Visit) (e : Ended) (why cause : Cause) (after : List Stamped)
    → (v : IsVisit s ms visit e (stops cause after) later) (h : Halted g s.history k keeper) → why ≡ cause → h.answered ≡ v.session.last.state.history → h.after ≡ after → Visits old new (visit ∷ [])
    → CeasesNext g s k ms old new later (ceased_of why) keeper
ceases_stopped g s k keeper ms old new later visit e why cause after v h same answered kept told =
    record {
      visits = visit ∷ [];
      told = told;
      few = omega arith;
      halted = h;
      ends = rw (same, kept) (breaks_stopped s ms (visit ∷ []) later h.answered after cause (stops_at_last s ms visit e later cause h.answered after v answered));
    }

pub stopped_one : {C E K : Type 0} (see : C → Seen) (g : Ghosts K) (s : State) (k : K) (ms : Option (List ℕ)) (old mid new : Option Connections) (later : Option (List ℕ)) (accepted : Accepted C) (given : Bool) (r : Result (Option (Accepted C)) E) (n : Next K) (why : Cause) (keeper : K)
    → Accepts see old mid r → r ≡ Ok (Some accepted) → GivesBack g s k ms accepted.number (see accepted.conn) given mid new later n → n ≡ next.Stop why keeper → CeasesNext g s k ms old new later (ceased_of why) keeper
stopped_one see g s k ms old mid new later accepted given r n why keeper a took b is = go b.to b.is (rw is at b.leaves)
  where
    visit : Visit
    visit = record { number = accepted.number; came = see accepted.conn; back = b.back; unfinished = b.unfinished; is_taken = given }

    go : (to : Outcome) (v : IsVisit s ms visit b.end to later) → IsLeft g s.history k v.session.last.state.history to (next.Stop why keeper) → CeasesNext g s k ms old new later (ceased_of why) keeper
    go (goes t) v l = absurd l
    go (stops cause after) v l = ceases_stopped g s k keeper ms old new later visit b.end why cause after v l.1.0 l.0 l.1.1 l.1.2 (one_told see old mid new accepted b.back b.unfinished given r a took b.told)

pub stop_rose : {K : Type 0} (g : Ghosts K) (s : State) (k : K) (ms : Option (List ℕ)) (number : ℕ) (came : Seen) (given : Bool) (old new : Option Connections) (later : Option (List ℕ)) (n : Next K) (why : Cause) (keeper : K) → GivesBack g s k ms number came given old new later n
    → n ≡ next.Stop why keeper → ceased_of why ≡ ceased.Disk → Rose (g.keep_faults k) (g.keep_faults keeper)
stop_rose g s k ms number came given old new later n why keeper b is disk = at why disk (go b.to b.is (rw is at b.leaves))
  where
    go : (to : Outcome) (v : IsVisit s ms (record { number = number; came = came; back = b.back; unfinished = b.unfinished; is_taken = given }) b.end to later) → IsLeft g s.history k v.session.last.state.history to (next.Stop why keeper) → RoseAt why (g.keep_faults k) (g.keep_faults keeper)
    go (goes t) v l = absurd l
    go (stops cause after) v l = l.2

    at : (why : Cause) → ceased_of why ≡ ceased.Disk → RoseAt why (g.keep_faults k) (g.keep_faults keeper) → Rose (g.keep_faults k) (g.keep_faults keeper)
    at cause.Memory e rose = absurd (cc)
    at cause.Disk e rose = rose

-- ---- one after another

unfoldable pub served_then : (m n : ℕ) (s mid last : State) (ms between later : Option (List ℕ)) (old told new : Option Connections) → ServedSo true m s ms old told mid between → ServedSo true n mid between told new last later → ServedSo true (m + n) s ms old new last later
served_then m n s mid last ms between later old told new a b = record {
  visits = a.visits ++ b.visits;
  told = visits_then old told new a.visits b.visits a.told b.told;
  counted = omega (arith, length-append a.visits b.visits, a.counted, b.counted);
  sessions = sessions_then s mid last ms between later a.visits b.visits a.sessions b.sessions;
  taken = λ is. All-append IsTaken a.visits b.visits (a.taken refl) (b.taken refl);
}

-- as many as were to be served, or all that were to come
unfoldable pub serves_all : (count limit : ℕ) (s last : State) (ms later : Option (List ℕ)) (old new : Option Connections) → ServedSo true count s ms old new last later → count ≤ limit → (count ≡ limit) ⊎ NoneComes new → ServesVisits limit s ms old new last later
serves_all count limit s last ms later old new a few done = record { visits = a.visits; told = a.told; few = omega (arith, a.counted, few); done = ends done; sessions = a.sessions; taken = a.taken refl }
  where
    ends : (count ≡ limit) ⊎ NoneComes new → (length a.visits ≡ limit) ⊎ NoneComes new
    ends (inl e) = inl (a.counted ∙ e)
    ends (inr none) = inr none

pub stops_then : (s mid : State) (ms between later : Option (List ℕ)) (xs ys : List Visit) (answered after : List Stamped) (why : Cause) → Sessions s ms xs mid between → StopsAtLast mid between ys later answered after why
    → StopsAtLast s ms (xs ++ ys) later answered after why
stops_then s mid ms between later xs ys answered after why a b = record {
  earlier = xs ++ b.earlier;
  visit = b.visit;
  cut = ap (λ (l : List Visit). xs ++ l) b.cut ∙ sym (append_assoc xs b.earlier (b.visit ∷ []));
  mid = b.mid;
  between = b.between;
  sessions = sessions_then s mid b.mid ms between b.between xs b.earlier a b.sessions;
  end = b.end;
  last = b.last;
  done = b.done;
}

pub breaks_then : (s mid : State) (ms between later : Option (List ℕ)) (xs ys : List Visit) (answered after : List Stamped) (why : Ceased) → Sessions s ms xs mid between → BreaksAt mid between ys later answered after why
    → CeasesAt s ms (xs ++ ys) later answered after why
breaks_then s mid ms between later xs ys answered after ceased.Listener a b = (b.0, sessions_then s mid b.0 ms between later xs ys a b.1, b.2, b.3)
breaks_then s mid ms between later xs ys answered after ceased.Memory a b = inr (stops_then s mid ms between later xs ys answered after cause.Memory a b)
breaks_then s mid ms between later xs ys answered after ceased.Disk a b = stops_then s mid ms between later xs ys answered after cause.Disk a b

-- no more were
unfoldable pub ceases_then : {K : Type 0} (g : Ghosts K) (count limit : ℕ) (s mid : State) (k0 k1 keeper : K) (ms between later : Option (List ℕ)) (old told new : Option Connections) (why : Ceased) → ServedSo true count s ms old told mid between
    → KeptOn g s.history k0 mid.history k1 → count < limit → CeasesNext g mid k1 between told new later why keeper → CeasesServing g limit s k0 ms old new later why keeper
ceases_then g count limit s mid k0 k1 keeper ms between later old told new why a kept few b = record {
  visits = a.visits ++ b.visits;
  told = visits_then old told new a.visits b.visits a.told b.told;
  few = omega (arith, length-append a.visits b.visits, a.counted, b.few, few);
  halted = halted_then g s.history mid.history k0 k1 keeper kept b.halted;
  ends = breaks_then s mid ms between later a.visits b.visits b.halted.answered b.halted.after why a.sessions b.ends;
}

-- there was no memory before the first
pub same_told : (told : Option Connections) → Visits told told []
same_told None = tt
same_told (Some c) = refl

unfoldable pub ceases_first : {K : Type 0} (g : Ghosts K) (limit : ℕ) (s : State) (k keeper : K) (ms : Option (List ℕ)) (told : Option Connections) (h : Halted g s.history k keeper) → h.answered ≡ s.history → h.after ≡ s.history
    → CeasesServing g limit s k ms told told ms ceased.Memory keeper
ceases_first g limit s k keeper ms told h answered after = record {
  visits = [];
  told = same_told told;
  few = omega arith;
  halted = h;
  ends = inl (refl, (s, (refl, refl), answered, after));
}
