-- What a keeper has after a request.
use Rattle.std.proofs.Common.{◌≡◌, ◌≤◌, ◌++◌, ◌∷◌, [], List, ℕ, Bool, Option, Some, None, Result, Ok, Err, true, false, suc, refl, ap, sym, ◌∙◌, append-nil, subst, arith, option_map, length, length-append, ◌⊎◌, inl, inr}
use Rattle.std.specs.Prelude.{IfSome, is_some}
use Rattle.std.proofs.lemmas.List.{take_all, take_at}
use Rattle.reg_outside.specs.Disk.{Leaves}
use Rattle.reg_outside.specs.Faults.{Rose}
use Rattle.reg_terms.specs.declared.command.Stamped.{Stamped}
use Rattle.reg_machine.specs.History.{State, appended, facts}
use Rattle.reg_machine.specs.Ids.{made_id}
use Rattle.reg_machine.specs.Keys.{is_free}
use Rattle.reg_machine.specs.Refusals.{refusal}
use Rattle.reg_wire.specs.Payload.{payload, stamped_of}
use Rattle.reg_keep.specs.declared.keeper.Keeper.{Ghosts}
use Rattle.reg_keep.specs.Keeping.{IsOneOf, AreOneOf}
use Rattle.reg_service.specs.Opening.{payloads_of, IsServed, Reopens}
use Rattle.reg_service.specs.Kept.{KeptOn, IsBetween, Stopped, IsAcknowledged, IsLoaded, IsSafe}
use Rattle.reg_service.specs.KeptAt.{IsKeptAt}
use Rattle.reg_service.specs.Turn.{decided, answered, at_moment, Carries, GoesOn, KeepsHistory}
use Rattle.reg_service.specs.declared.service.Next.{Next}
use Rattle.reg_terms.specs.declared.query.Answer.{Answer}
use Rattle.reg_terms.specs.declared.refusal.Refusal.{Refusal}
use Rattle.reg_terms.specs.declared.reply.Reply.{Reply}
use Rattle.reg_service.specs.declared.service.Next.TheVariants as next
use Rattle.reg_service.proofs.Opens.{payloads_more, served_more, opens_more, fronts_more, whole_reopens}

between_same : (h : List Stamped) (r : Result (List (List ℕ)) ℕ) → r ≡ Ok (payloads_of h) → IsBetween h h r
between_same h r e = (length h, omega arith, omega arith, e ∙ ap (λ (l : List Stamped). Ok (payloads_of l)) (sym (take_all (length h) h (omega arith))))

between_one : (h : List Stamped) (s : Stamped) (ps : List (List ℕ)) (r : Result (List (List ℕ)) ℕ) → ps ≡ payloads_of h → IsOneOf ps (payload s) r → IsBetween h (h ++ s ∷ []) r
between_one h s ps r is (inl e) =
    (length h, omega arith, omega (arith, length-append h (s ∷ [])), e ∙ (ap (λ (l : List (List ℕ)). Ok l) is ∙ ap (λ (l : List Stamped). Ok (payloads_of l)) (sym (take_at h (s ∷ []) (length h) refl))))
between_one h s ps r is (inr e) = (
  length (h ++ s ∷ []),
  omega (arith, length-append h (s ∷ [])),
  omega arith,
  e ∙ (ap (λ (l : List (List ℕ)). Ok (l ++ payload s ∷ [])) is ∙ (ap (λ (l : List (List ℕ)). Ok l) (sym (payloads_more h s))
      ∙ ap (λ (l : List Stamped). Ok (payloads_of l)) (sym (take_all (length (h ++ s ∷ [])) (h ++ s ∷ []) (omega arith))))),
)

told_same : (told : Option (List (List ℕ))) → IfSome told (λ ps. is_some told ≡ true)
told_same None = tt
told_same (Some ps) = refl

-- a keeper that goes on leaves its payloads
pub kept_same : {K : Type 0} (g : Ghosts K) (s : State) (k : K) → IsServed s (g.payloads k) (g.has_failed k)
    → ((r : Result (List (List ℕ)) ℕ) → g.has_failed k ≡ false → g.stop_leaves k r → (ps : List (List ℕ)) × (g.payloads k ≡ Some ps) × (r ≡ Ok ps))
    → ((r : Result (List (List ℕ)) ℕ) → g.stopped_since k (g.keep_moment k) r → g.stop_leaves k r) → KeptOn g s.history k s.history k
kept_same g s k served now only = record {
  more = [];
  grown = sym (append-nil s.history);
  object = refl;
  later = omega arith;
  told = told_same (g.payloads k);
  crash = crash (g.payloads k) refl;
}
  where
    one : (r : Result (List (List ℕ)) ℕ) → g.stopped_since k (g.keep_moment k) r → IsBetween s.history s.history r
    one r left =
        let found = now r served.going (only r left) in
        let is : found.0 ≡ payloads_of s.history = subst (λ (o : Option (List (List ℕ))). IfSome o (λ ps. ps ≡ payloads_of s.history)) found.1 served.payloads in
        between_same s.history r (found.2 ∙ ap (λ (l : List (List ℕ)). Ok l) is)

    crash : (o : Option (List (List ℕ))) → g.payloads k ≡ o → IfSome o (λ ps. Leaves g.keep_moment g.stopped_since (IsBetween s.history s.history) k k)
    crash None e = tt
    crash (Some ps) e = record { later = omega arith; each = one; since = λ t x le left. inl left }

pub leaves_by : {K X : Type 0} (moment : K → ℕ) (since : K → ℕ → X → Type 0) (P Q : X → Type 0) (old new : K) → ((x : X) → P x → Q x) → Leaves moment since P old new → Leaves moment since Q old new
leaves_by moment since P Q old new h l = record { later = l.later; each = λ x left. h x (l.each x left); since = λ t x le left. either (l.since t x le left) }
  where
    either : {A : Type 0} {x : _} → A ⊎ P x → A ⊎ Q x
    either (inl a) = inl a
    either (inr p) = inr (h _ p)

-- an append leaves the history with one command more or without it
pub kept_one : {K : Type 0} (g : Ghosts K) (s : State) (st : Stamped) (old new : K) → IsServed s (g.payloads old) (g.has_failed old) → g.keep_name new ≡ g.keep_name old
    → g.keep_faults old ≤ g.keep_faults new → IfSome (g.payloads old) (λ ps. is_some (g.payloads new) ≡ true)
    → IfSome (g.payloads old) (λ ps. Leaves g.keep_moment g.stopped_since (IsOneOf ps (payload st)) old new) → KeptOn g s.history old (s.history ++ st ∷ []) new
kept_one g s st old new served object later told leaves = record {
  more = st ∷ [];
  grown = refl;
  object = object;
  later = later;
  told = told;
  crash = crash (g.payloads old) served.payloads leaves;
}
  where
    crash : (o : Option (List (List ℕ))) → IfSome o (λ ps. ps ≡ payloads_of s.history) → IfSome o (λ ps. Leaves g.keep_moment g.stopped_since (IsOneOf ps (payload st)) old new)
        → IfSome o (λ ps. Leaves g.keep_moment g.stopped_since (IsBetween s.history (s.history ++ st ∷ [])) old new)
    crash None is l = tt
    crash (Some ps) is l = leaves_by g.keep_moment g.stopped_since (IsOneOf ps (payload st)) (IsBetween s.history (s.history ++ st ∷ [])) old new (λ r p. between_one s.history st ps r is p) l

pub told_kept : (old new : Option (List (List ℕ))) (f : List (List ℕ) → List (List ℕ)) → new ≡ option_map f old → IfSome old (λ ps. is_some new ≡ true)
told_kept None new f e = tt
told_kept (Some ps) new f e = rw e refl

pub told_failed : (old new : Option (List (List ℕ))) (p : List ℕ) → AreOneOf old p new → IfSome old (λ ps. is_some new ≡ true)
told_failed None new p e = tt
told_failed (Some ps) new p (inl e) = rw e refl
told_failed (Some ps) new p (inr e) = rw e refl

-- after an append that failed a stop leaves the history with the command or without it
pub stopped_one : {K : Type 0} (g : Ghosts K) (s : State) (st : Stamped) (old new : K) → IsServed s (g.payloads old) (g.has_failed old) → st.at ≡ s.clock
    → is_free s.history st.by st.key ≡ true → refusal s.history s.clock st.by st.command ≡ None → stamped_of (payload st) ≡ Some st
    → ((r : Result (List (List ℕ)) ℕ) → g.keep_moment old ≤ g.keep_moment new → g.stop_leaves new r → g.stopped_since new (g.keep_moment old) r)
    → IfSome (g.payloads old) (λ ps. Leaves g.keep_moment g.stopped_since (IsOneOf ps (payload st)) old new) → IfSome (g.payloads old) (λ ps. Stopped g s.history (s.history ++ st ∷ []) new)
stopped_one g s st old new served at free sure back counts leaves = stopped (g.payloads old) served.payloads leaves
  where
    again : Reopens (s.history ++ st ∷ [])
    again = opens_more s.history st back (omega (arith, served.last)) free (subst (λ (n : ℕ). refusal s.history n st.by st.command ≡ None) (sym at) sure) (whole_reopens s.history served.opens)

    stopped : (o : Option (List (List ℕ))) → IfSome o (λ ps. ps ≡ payloads_of s.history) → IfSome o (λ ps. Leaves g.keep_moment g.stopped_since (IsOneOf ps (payload st)) old new)
        → IfSome o (λ ps. Stopped g s.history (s.history ++ st ∷ []) new)
    stopped None is l = tt
    stopped (Some ps) is l = (fronts_more s.history st served.opens again, λ r left. between_one s.history st ps r is (l.each r (counts r l.later left)))

-- the same where the values are told by equations
pub kept_at : {K : Type 0} (g : Ghosts K) (s : State) (k k0 : K) (h0 h1 : List Stamped) → IsServed s (g.payloads k) (g.has_failed k)
    → ((r : Result (List (List ℕ)) ℕ) → g.has_failed k ≡ false → g.stop_leaves k r → (ps : List (List ℕ)) × (g.payloads k ≡ Some ps) × (r ≡ Ok ps))
    → ((r : Result (List (List ℕ)) ℕ) → g.stopped_since k (g.keep_moment k) r → g.stop_leaves k r)
    → s.history ≡ h0 → k ≡ k0 → s.history ≡ h1 → KeptOn g h0 k0 h1 k
kept_at g s k k0 h0 h1 served now only a b c =
    subst (λ (h : List Stamped). KeptOn g h k0 h1 k) a (subst (λ (x : _). KeptOn g s.history x h1 k) b (subst (λ (h : List Stamped). KeptOn g s.history k h k) c (kept_same g s k served now only)))

-- a stop leaves the history of a service that goes on
pub leaves_history : {K : Type 0} (g : Ghosts K) (s : State) (k : K) → IsServed s (g.payloads k) (g.has_failed k)
    → ((r : Result (List (List ℕ)) ℕ) → g.has_failed k ≡ false → g.stop_leaves k r → (ps : List (List ℕ)) × (g.payloads k ≡ Some ps) × (r ≡ Ok ps))
    → (r : Result (List (List ℕ)) ℕ) → g.stop_leaves k r → r ≡ Ok (payloads_of s.history)
leaves_history g s k served now r left =
    let found = now r served.going left in
    let is : found.0 ≡ payloads_of s.history = subst (λ (o : Option (List (List ℕ))). IfSome o (λ ps. ps ≡ payloads_of s.history)) found.1 served.payloads in
    found.2 ∙ ap (λ (l : List (List ℕ)). Ok l) is

-- a keeper that each stop leaves with this history
pub stopped_whole : {K : Type 0} (g : Ghosts K) (s : State) (h : List Stamped) (k : K) (o told : Option (List (List ℕ))) (failed : Bool) → IsServed s told failed → s.history ≡ h
    → ((r : Result (List (List ℕ)) ℕ) → g.stop_leaves k r → r ≡ Ok (payloads_of s.history)) → IfSome o (λ ps. Stopped g h h k)
stopped_whole g s h k None told failed served is left = tt
stopped_whole g s h k (Some ps) told failed served is left =
    subst (λ (l : List Stamped). Stopped g l l k) is (served.opens, λ r here. between_same s.history r (left r here))

-- a service that stopped for want of memory has its history
pub stopped_at : {K : Type 0} (g : Ghosts K) (s : State) (k k0 : K) (h0 : List Stamped) → IsServed s (g.payloads k) (g.has_failed k)
    → ((r : Result (List (List ℕ)) ℕ) → g.has_failed k ≡ false → g.stop_leaves k r → (ps : List (List ℕ)) × (g.payloads k ≡ Some ps) × (r ≡ Ok ps))
    → ((r : Result (List (List ℕ)) ℕ) → g.stopped_since k (g.keep_moment k) r → g.stop_leaves k r)
    → s.history ≡ h0 → k ≡ k0 → (x : List Stamped) × (x ≡ h0) × KeptOn g h0 k0 x k × IfSome (g.payloads k0) (λ ps. Stopped g h0 x k) × Unit {0}
stopped_at g s k k0 h0 served now only a b =
    (h0, refl, kept_at g s k k0 h0 h0 served now only a b a, stopped_whole g s h0 k (g.payloads k0) (g.payloads k) (g.has_failed k) served a (leaves_history g s k served now), tt)

still_later : (a b c : ℕ) → a ≤ b → b ≤ c → a ≤ c
still_later a b c p q = omega arith

-- what is served stays so at a later clock
pub served_later : (s m : State) (to : ℕ) (told : Option (List (List ℕ))) (failed : Bool) → IsServed s told failed → s.clock ≤ to → m ≡ (record { history = s.history; clock = to }) → IsServed m told failed
served_later s m to told failed v later is =
    let moved : IsServed (record { history = s.history; clock = to }) told failed = record { payloads = v.payloads; going = v.going; opens = v.opens; last = still_later _ s.clock to v.last later } in
    rw is moved

-- an accepted command that is kept is served
pub served_one : (s m : State) (st : Stamped) (bytes : List ℕ) (told told2 : Option (List (List ℕ))) (failed failed2 : Bool) → IsServed s told failed → st.at ≡ s.clock
    → is_free s.history st.by st.key ≡ true → refusal s.history s.clock st.by st.command ≡ None → stamped_of (payload st) ≡ Some st → m ≡ appended s st.by st.key st.command → bytes ≡ payload st → told2 ≡ option_map (λ ps. ps ++ bytes ∷ []) told → failed2 ≡ false → IsServed m told2 failed2
served_one s m st bytes told told2 failed failed2 served at free sure back is same kept going =
    rw is (served_more s st told told2 failed failed2 served at free sure back (subst (λ (b : List ℕ). told2 ≡ option_map (λ ps. ps ++ b ∷ []) told) same kept) going)

with_payload : {K : Type 0} (g : Ghosts K) (st : Stamped) (bytes : List ℕ) (old new : K) → bytes ≡ payload st → IfSome (g.payloads old) (λ ps. Leaves g.keep_moment g.stopped_since (IsOneOf ps bytes) old new)
    → IfSome (g.payloads old) (λ ps. Leaves g.keep_moment g.stopped_since (IsOneOf ps (payload st)) old new)
with_payload g st bytes old new is l = subst (λ (b : List ℕ). IfSome (g.payloads old) (λ ps. Leaves g.keep_moment g.stopped_since (IsOneOf ps b) old new)) is l

-- and each stop meanwhile leaves the history with it or without it
pub kept_ok : {K : Type 0} (g : Ghosts K) (s m : State) (st : Stamped) (bytes : List ℕ) (old new : K) → IsServed s (g.payloads old) (g.has_failed old) → st.at ≡ s.clock → m ≡ appended s st.by st.key st.command
    → bytes ≡ payload st → g.keep_name new ≡ g.keep_name old → g.keep_faults old ≤ g.keep_faults new → g.payloads new ≡ option_map (λ ps. ps ++ bytes ∷ []) (g.payloads old)
    → IfSome (g.payloads old) (λ ps. Leaves g.keep_moment g.stopped_since (IsOneOf ps bytes) old new) → KeptOn g s.history old m.history new
kept_ok g s m st bytes old new served at is same object later kept leaves =
    let history : m.history ≡ s.history ++ st ∷ [] = ap (λ (t : State). t.history) is ∙ ap (λ (n : ℕ). s.history ++ (record { at = n; by = st.by; key = st.key; command = st.command }) ∷ []) (sym at) in
    rw history (kept_one g s st old new served object later (told_kept (g.payloads old) (g.payloads new) (λ ps. ps ++ bytes ∷ []) kept) (with_payload g st bytes old new same leaves))

-- an append that failed
pub kept_err : {K : Type 0} (g : Ghosts K) (s : State) (st : Stamped) (bytes : List ℕ) (old new : K) (expected : List Stamped) → IsServed s (g.payloads old) (g.has_failed old) → st.at ≡ s.clock
    → is_free s.history st.by st.key ≡ true → refusal s.history s.clock st.by st.command ≡ None → stamped_of (payload st) ≡ Some st → expected ≡ s.history ++ st ∷ []
    → bytes ≡ payload st → g.keep_name new ≡ g.keep_name old → g.keep_faults old ≤ g.keep_faults new → Rose (g.keep_faults old) (g.keep_faults new) → AreOneOf (g.payloads old) bytes (g.payloads new)
    → ((t : ℕ) (r : Result (List (List ℕ)) ℕ) → t ≤ g.keep_moment new → g.stop_leaves new r → g.stopped_since new t r)
    → IfSome (g.payloads old) (λ ps. Leaves g.keep_moment g.stopped_since (IsOneOf ps bytes) old new)
    → (x : List Stamped) × ((x ≡ s.history) ⊎ (x ≡ expected)) × KeptOn g s.history old x new × IfSome (g.payloads old) (λ ps. Stopped g s.history x new) × Rose (g.keep_faults old) (g.keep_faults new)
kept_err g s st bytes old new expected served at free sure back would same object later rose failed counts leaves =
    let all = with_payload g st bytes old new same leaves in (
      s.history ++ st ∷ [],
      inr (sym would),
      kept_one g s st old new served object later (told_failed (g.payloads old) (g.payloads new) bytes failed) all,
      stopped_one g s st old new served at free sure back (λ r le left. counts (g.keep_moment old) r le left) all,
      rose,
    )

-- what an accepted command would lead to
pub would_keep : (s : State) (st : Stamped) → st.at ≡ s.clock → refusal s.history s.clock st.by st.command ≡ None → (decided s st.by st.key st.command (refusal s.history s.clock st.by st.command)).1.history ≡ s.history ++ st ∷ []
would_keep s st at sure = rw (sure, ← at) refl

-- all that a service has is safe
safe_now : {K : Type 0} (g : Ghosts K) (s : State) (k : K) → IsServed s (g.payloads k) (g.has_failed k)
    → ((r : Result (List (List ℕ)) ℕ) → g.has_failed k ≡ false → g.stop_leaves k r → (ps : List (List ℕ)) × (g.payloads k ≡ Some ps) × (r ≡ Ok ps)) → IsSafe g s.history k
safe_now g s k served now = record { payloads = served.payloads; stops = leaves_history g s k served now }

one_more : (s m : State) (st : Stamped) → m ≡ appended s st.by st.key st.command → m.history ≡ s.history ++ (record { at = s.clock; by = st.by; key = st.key; command = st.command }) ∷ []
one_more s m st is = ap (λ (t : State). t.history) is

-- a command that was kept now is one more
pub loaded_one : {K : Type 0} (g : Ghosts K) (s m : State) (st : Stamped) (k : K) (n : ℕ) → IsServed m (g.payloads k) (g.has_failed k)
    → ((r : Result (List (List ℕ)) ℕ) → g.has_failed k ≡ false → g.stop_leaves k r → (ps : List (List ℕ)) × (g.payloads k ≡ Some ps) × (r ≡ Ok ps))
    → m ≡ appended s st.by st.key st.command → n ≡ length m.history → IsLoaded g s.history n (next.Go (record { state = m; keeper = k }))
loaded_one g s m st k n served now is count =
    let one : Stamped = record { at = s.clock; by = st.by; key = st.key; command = st.command } in
    ((one, one_more s m st is), count, safe_now g m k served now)

-- and is acknowledged
pub acknowledged_one : {K : Type 0} (g : Ghosts K) (s m : State) (st : Stamped) (k : K) (n : ℕ) (id : Option ℕ) → IsServed m (g.payloads k) (g.has_failed k)
    → ((r : Result (List (List ℕ)) ℕ) → g.has_failed k ≡ false → g.stop_leaves k r → (ps : List (List ℕ)) × (g.payloads k ≡ Some ps) × (r ≡ Ok ps))
    → m ≡ appended s st.by st.key st.command → n ≡ length m.history → id ≡ made_id st.command (facts s.history s.clock) → IsAcknowledged g s.history n id (next.Go (record { state = m; keeper = k }))
acknowledged_one g s m st k n id served now is count made =
    let one : Stamped = record { at = s.clock; by = st.by; key = st.key; command = st.command } in
    let history : m.history ≡ s.history ++ one ∷ [] = one_more s m st is in
    let number : n ≡ suc (length s.history) = omega (arith, count, ap (λ (l : List Stamped). length l) history, length-append s.history (one ∷ [])) in
    let kept : IsKeptAt n id m.history = (s.history, [], one, history, number, made) in
    (inl (one, history, count), kept, safe_now g m k served now)

-- and so is one that was kept before
pub acknowledged_again : {K : Type 0} (g : Ghosts K) (s : State) (k : K) (n : ℕ) (id : Option ℕ) → IsServed s (g.payloads k) (g.has_failed k)
    → ((r : Result (List (List ℕ)) ℕ) → g.has_failed k ≡ false → g.stop_leaves k r → (ps : List (List ℕ)) × (g.payloads k ≡ Some ps) × (r ≡ Ok ps))
    → IsKeptAt n id s.history → IsAcknowledged g s.history n id (next.Go (record { state = s; keeper = k }))
acknowledged_again g s k n id served now kept = (inr refl, kept, safe_now g s k served now)

-- an answered query leaves the history, and the clock as it was moved
pub answered_keeps : (s : State) (r : Result Answer Refusal) (told : Reply) (after : State) → told ≡ answered r → after.history ≡ s.history → KeepsHistory s told after
answered_keeps s (Ok a) told after is same = rw is same
answered_keeps s (Err e) told after is same = rw is same

pub query_goes_on : {K : Type 0} (s moved : State) (m : ℕ) (r : Result Answer Refusal) (told : Reply) (n : Next K) → moved ≡ at_moment s m → Carries moved (answered r, moved) (told, n) → GoesOn s m (told, n)
query_goes_on s moved m r told (next.Go after) is (inl e) =
    let same : after.state ≡ at_moment s m = ap (λ (p : Reply × State). p.1) e ∙ is in
    (answered_keeps s r told after.state (ap (λ (p : Reply × State). p.0) e) (ap (λ (t : State). t.history) same), inr (ap (λ (t : State). t.clock) same))
query_goes_on s moved m r told (next.Go after) is (inr w) =
    let same : after.state ≡ at_moment s m = w.1 ∙ is in
    (rw w.0 (ap (λ (t : State). t.history) same), inr (ap (λ (t : State). t.clock) same))
query_goes_on s moved m r told (next.Stop why keeper) is e = tt
