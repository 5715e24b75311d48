-- What records open to, and that a history with one more accepted command opens again.
use Rattle.std.proofs.Common.{◌≡◌, ◌≤◌, ◌++◌, ◌∷◌, [], List, ℕ, Bool, Option, Some, None, Result, Ok, Err, true, false, refl, ap, sym, ◌∙◌, append_assoc, append-nil, subst, map, arith, option_map, zero, suc, ◌+◌, length, length-append, take, drop, ◌⊎◌, inl, inr}
use Rattle.std.specs.Prelude.{IfSome, nat_lt, if◌then◌else◌, ◌||◌, not}
use Rattle.std.proofs.lemmas.Bool.Decides.{nat_tests}
use Rattle.std.proofs.lemmas.List.{take-append-drop, take-append-le, map-append, length-take-le, take_all, take_at}
use Rattle.reg_terms.specs.declared.command.Stamped.{Stamped}
use Rattle.reg_terms.specs.declared.refusal.Refusal.{Refusal}
use Rattle.reg_machine.specs.History.{State, start, appended}
use Rattle.reg_machine.specs.Keys.{is_free}
use Rattle.reg_machine.specs.Refusals.{refusal}
use Rattle.reg_wire.specs.Payload.{payload, stamped_of, IsWritable}
use Rattle.reg_service.specs.Opening.{payloads_of, last_from, at_last, accepted, after_stamped, after_payload, or_place, and_then, judged, IsServed, Reopens, FrontsReopen}

-- what bytes are read as has them as its payload
abbrev pub IsOnePayload : Type 0
IsOnePayload = (bytes : List ℕ) (stamped : Stamped) → stamped_of bytes ≡ Some stamped → (payload stamped ≡ bytes) × IsWritable stamped

abbrev pub Records : Type 0
Records = List (ℕ × List ℕ)

abbrev pub texts : Records → List (List ℕ)
texts records = map (λ (r : ℕ × List ℕ). r.1) records

append_cases : (o : Result State ℕ) (f g h : State → Result State ℕ) → ((a : State) → g a ≡ and_then (f a) h) → and_then o g ≡ and_then (and_then o f) h
append_cases (Ok a) f g h e = e a
append_cases (Err place) f g h e = refl

pub judged_append : (s : State) (xs ys : Records) → judged s (xs ++ ys) ≡ and_then (judged s xs) (λ t. judged t ys)
judged_append s [] ys = refl
judged_append s (r ∷ rs) ys = append_cases (or_place r.0 (after_payload s r.1)) (λ a. judged a rs) (λ a. judged a (rs ++ ys)) (λ t. judged t ys) (λ a. judged_append a rs ys)

same_place : (p q : ℕ) (o : Option State) (t : State) (f : State → Result State ℕ) (g : State → Result State ℕ) → ((a : State) → f a ≡ Ok t → g a ≡ Ok t) → and_then (or_place p o) f ≡ Ok t → and_then (or_place q o) g ≡ Ok t
same_place p q None t f g h e = absurd (cc)
same_place p q (Some a) t f g h e = h a e

-- records with the same payloads open to the same
pub judged_same : (s t : State) (xs ys : Records) → texts ys ≡ texts xs → judged s xs ≡ Ok t → judged s ys ≡ Ok t
judged_same s t [] [] same e = e
judged_same s t [] (y ∷ ys) same e = absurd (cc)
judged_same s t (x ∷ xs) [] same e = absurd (cc)
judged_same s t (x ∷ xs) (y ∷ ys) same e =
    let one : y.1 ≡ x.1 = cc in
    let rest : texts ys ≡ texts xs = cc in
    rw one (same_place x.0 y.0 (after_payload s x.1) t (λ a. judged a xs) (λ a. judged a ys) (λ a. judged_same a t xs ys rest) e)

pub payloads_more : (ss : List Stamped) (s : Stamped) → payloads_of (ss ++ s ∷ []) ≡ payloads_of ss ++ payload s ∷ []
payloads_more [] s = refl
payloads_more (x ∷ xs) s = ap (λ (l : List (List ℕ)). payload x ∷ l) (payloads_more xs s)

pub last_more : (m : ℕ) (ss : List Stamped) (s : Stamped) → last_from m (ss ++ s ∷ []) ≡ s.at
last_more m [] s = refl
last_more m (x ∷ xs) s = last_more x.at xs s

-- a stamped command that was accepted is at the end of the history, at the clock
pub record IsAfter (s : State) (bytes : List ℕ) (t : State) : Type 0 where
  pub history : payloads_of t.history ≡ payloads_of s.history ++ bytes ∷ []
  pub one : Stamped
  pub grown : t.history ≡ s.history ++ one ∷ []
  pub clock : t.clock ≡ last_from 0 t.history

accepted_after : (s t : State) (bytes : List ℕ) (stamped : Stamped) (r : Option Refusal) → payload stamped ≡ bytes → accepted s stamped r ≡ Some t → IsAfter s bytes t
accepted_after s t bytes stamped (Some r) p e = absurd (cc)
accepted_after s t bytes stamped None p e =
    let is : appended (record { history = s.history; clock = stamped.at }) stamped.by stamped.key stamped.command ≡ t = cc in
    subst (λ (x : State). IsAfter s bytes x) is (record {
      history = payloads_more s.history stamped ∙ ap (λ (b : List ℕ). payloads_of s.history ++ b ∷ []) p;
      one = stamped;
      grown = refl;
      clock = sym (last_more 0 s.history stamped);
    })

in_time_after : (s t : State) (bytes : List ℕ) (stamped : Stamped) (barred : Bool) → payload stamped ≡ bytes
    → (if barred then None else accepted s stamped (refusal s.history stamped.at stamped.by stamped.command)) ≡ Some t → IsAfter s bytes t
in_time_after s t bytes stamped true p e = absurd (cc)
in_time_after s t bytes stamped false p e = accepted_after s t bytes stamped (refusal s.history stamped.at stamped.by stamped.command) p e

stamped_after : IsOnePayload → (s t : State) (bytes : List ℕ) (found : Option Stamped) → stamped_of bytes ≡ found → after_stamped s found ≡ Some t → IsAfter s bytes t
stamped_after law s t bytes None is e = absurd (cc)
stamped_after law s t bytes (Some stamped) is e = in_time_after s t bytes stamped (nat_lt stamped.at s.clock || not (is_free s.history stamped.by stamped.key)) (law bytes stamped is).0 e

payload_after : IsOnePayload → (s t : State) (bytes : List ℕ) → after_payload s bytes ≡ Some t → IsAfter s bytes t
unfolding after_payload
payload_after law s t bytes e = stamped_after law s t bytes (stamped_of bytes) refl e

pub record IsJudged (s : State) (records : Records) (t : State) : Type 0 where
  pub history : payloads_of t.history ≡ payloads_of s.history ++ texts records
  pub more : List Stamped
  pub grown : t.history ≡ s.history ++ more
  pub count : length more ≡ length records
  pub clock : t.clock ≡ last_from 0 t.history

judged_first : IsOnePayload → (s t : State) (r : ℕ × List ℕ) (rs : Records) (o : Option State) → after_payload s r.1 ≡ o
    → ((a : State) → judged a rs ≡ Ok t → a.clock ≡ last_from 0 a.history → IsJudged a rs t) → and_then (or_place r.0 o) (λ a. judged a rs) ≡ Ok t → IsJudged s (r ∷ rs) t
judged_first law s t r rs None is more e = absurd (cc)
judged_first law s t r rs (Some a) is more e =
    let one = payload_after law s a r.1 is in
    let rest = more a e one.clock in
    record {
      history = rest.history ∙ (ap (λ (l : List (List ℕ)). l ++ texts rs) one.history ∙ append_assoc (payloads_of s.history) (r.1 ∷ []) (texts rs));
      more = one.one ∷ rest.more;
      grown = rest.grown ∙ (ap (λ (l : List Stamped). l ++ rest.more) one.grown ∙ append_assoc s.history (one.one ∷ []) rest.more);
      count = ap suc rest.count;
      clock = rest.clock;
    }

pub is_judged : IsOnePayload → (s t : State) (records : Records) → judged s records ≡ Ok t → s.clock ≡ last_from 0 s.history → IsJudged s records t
is_judged law s t [] e at =
    let is : s ≡ t = cc in
    subst (λ (x : State). IsJudged s [] x) is (record { history = sym (append-nil (payloads_of s.history)); more = []; grown = sym (append-nil s.history); count = refl; clock = at })
is_judged law s t (r ∷ rs) e at = judged_first law s t r rs (after_payload s r.1) refl (λ a. is_judged law a t rs) e

record IsSplit (records : Records) (ps : List (List ℕ)) (p : List ℕ) : Type 0 where
  pub front : Records
  pub last : ℕ × List ℕ
  pub joined : records ≡ front ++ last ∷ []
  pub before : texts front ≡ ps
  pub end : last.1 ≡ p

split_last : (records : Records) (ps : List (List ℕ)) (p : List ℕ) → texts records ≡ ps ++ p ∷ [] → IsSplit records ps p
split_last [] [] p e = absurd (cc)
split_last [] (q ∷ ps) p e = absurd (cc)
split_last (r ∷ []) [] p e = record { front = []; last = r; joined = refl; before = refl; end = cc }
split_last (r ∷ q ∷ rs) [] p e = absurd (cc)
split_last (r ∷ rs) (q ∷ ps) p e =
    let rest : texts rs ≡ ps ++ p ∷ [] = cc in
    let first : r.1 ≡ q = cc in
    let s = split_last rs ps p rest in
    record { front = r ∷ s.front; last = s.last; joined = ap (λ (l : Records). r ∷ l) s.joined; before = with_first first s.before; end = s.end }
  where
    with_first : {xs : List (List ℕ)} → r.1 ≡ q → xs ≡ ps → r.1 ∷ xs ≡ q ∷ ps
    with_first a b = cc

-- what opens again by each front opens again as a whole
pub whole_reopens : (h : List Stamped) → FrontsReopen h → Reopens h
whole_reopens h fronts = subst Reopens (take_all (length h) h (omega arith)) (fronts (length h) (omega arith))

or_last : (n k : ℕ) → n ≤ k + 1 → (n ≤ k) ⊎ (n ≡ k + 1)
or_last zero k le = inl (omega arith)
or_last (suc n) zero le = inr (omega arith)
or_last (suc n) (suc k) le = further (or_last n k (omega arith))
  where
    further : (n ≤ k) ⊎ (n ≡ k + 1) → (suc n ≤ suc k) ⊎ (suc n ≡ suc k + 1)
    further (inl h) = inl (omega arith)
    further (inr h) = inr (omega arith)

pub fronts_more : (h : List Stamped) (s : Stamped) → FrontsReopen h → Reopens (h ++ s ∷ []) → FrontsReopen (h ++ s ∷ [])
fronts_more h s fronts whole n le = cases (or_last n (length h) (omega (arith, length-append h (s ∷ []))))
  where
    cases : (n ≤ length h) ⊎ (n ≡ length h + 1) → Reopens (take n (h ++ s ∷ []))
    cases (inl short) = subst Reopens (sym (take-append-le n h (s ∷ []) short)) (fronts n short)
    cases (inr all) = subst Reopens (sym (take_all n (h ++ s ∷ []) (omega (arith, length-append h (s ∷ []), all)))) whole

after_written : (history : List Stamped) (stamped : Stamped) → stamped_of (payload stamped) ≡ Some stamped → last_from 0 history ≤ stamped.at → is_free history stamped.by stamped.key ≡ true → refusal history stamped.at stamped.by stamped.command ≡ None
    → after_payload (at_last history) (payload stamped) ≡ Some (at_last (history ++ stamped ∷ []))
unfolding after_payload
after_written history stamped back later free sure =
    let in_time : nat_lt stamped.at (last_from 0 history) ≡ false = grind (arith, nat_tests) in
    let clock : stamped.at ≡ last_from 0 (history ++ stamped ∷ []) = sym (last_more 0 history stamped) in
    rw (back, in_time, free, sure) (ap (λ (n : ℕ). Some (record { history = history ++ stamped ∷ []; clock = n })) clock)

pub opens_more : (history : List Stamped) (stamped : Stamped) → stamped_of (payload stamped) ≡ Some stamped → last_from 0 history ≤ stamped.at → is_free history stamped.by stamped.key ≡ true → refusal history stamped.at stamped.by stamped.command ≡ None
    → ((records : Records) → texts records ≡ payloads_of history → judged start records ≡ Ok (at_last history))
    → (records : Records) → texts records ≡ payloads_of (history ++ stamped ∷ []) → judged start records ≡ Ok (at_last (history ++ stamped ∷ []))
opens_more history stamped back later free sure opens records is =
    let s = split_last records (payloads_of history) (payload stamped) (is ∙ payloads_more history stamped) in
    let one : after_payload (at_last history) s.last.1 ≡ Some (at_last (history ++ stamped ∷ [])) = rw s.end (after_written history stamped back later free sure) in
    rw (s.joined, judged_append start s.front (s.last ∷ []), opens s.front s.before, one) refl

-- an accepted command that is kept is served
pub served_more : (s : State) (stamped : Stamped) (told told2 : Option (List (List ℕ))) (failed failed2 : Bool) → IsServed s told failed → stamped.at ≡ s.clock
    → is_free s.history stamped.by stamped.key ≡ true → refusal s.history s.clock stamped.by stamped.command ≡ None → stamped_of (payload stamped) ≡ Some stamped → told2 ≡ option_map (λ ps. ps ++ payload stamped ∷ []) told → failed2 ≡ false
    → IsServed (appended s stamped.by stamped.key stamped.command) told2 failed2
served_more s stamped told told2 failed failed2 served at free sure back kept going =
    let same : appended s stamped.by stamped.key stamped.command ≡ record { history = s.history ++ stamped ∷ []; clock = s.clock } = rw (← at) refl in
    rw same (record {
      payloads = with_one told served.payloads kept;
      going = going;
      opens = fronts_more s.history stamped served.opens (opens_more s.history stamped back (omega (arith, served.last)) free (subst (λ (n : ℕ). refusal s.history n stamped.by stamped.command ≡ None) (sym at) sure) (whole_reopens s.history served.opens));
      last = omega (arith, last_more 0 s.history stamped);
    })
  where
    with_one : (told : Option (List (List ℕ))) → IfSome told (λ ps. ps ≡ payloads_of s.history) → told2 ≡ option_map (λ ps. ps ++ payload stamped ∷ []) told
        → IfSome told2 (λ ps. ps ≡ payloads_of (s.history ++ stamped ∷ []))
    with_one None h e = rw e tt
    with_one (Some ps) h e = rw e (ap (λ (l : List (List ℕ)). l ++ payload stamped ∷ []) h ∙ sym (payloads_more s.history stamped))

texts_front : (xs ys : Records) → texts (xs ++ ys) ≡ texts xs ++ texts ys
texts_front [] ys = refl
texts_front (x ∷ xs) ys = ap (λ (l : List (List ℕ)). x.1 ∷ l) (texts_front xs ys)

-- records with a history's payloads
some_records : List Stamped → Records
some_records [] = []
some_records (s ∷ ss) = (0, payload s) ∷ some_records ss

their_texts : (ss : List Stamped) → texts (some_records ss) ≡ payloads_of ss
unfolding some_records
their_texts [] = refl
their_texts (s ∷ ss) = ap (λ (l : List (List ℕ)). payload s ∷ l) (their_texts ss)

cut_payloads : (n : ℕ) (ss : List Stamped) → payloads_of (take n ss) ++ payloads_of (drop n ss) ≡ payloads_of ss
cut_payloads n ss = sym (map-append payload (take n ss) (drop n ss)) ∙ ap payloads_of (take-append-drop n ss)

as_many : (records : Records) (ss : List Stamped) → texts records ≡ payloads_of ss → length records ≡ length ss
as_many [] [] e = refl
as_many [] (s ∷ ss) e = absurd (cc)
as_many (r ∷ rs) [] e = absurd (cc)
as_many (r ∷ rs) (s ∷ ss) e = let rest : texts rs ≡ payloads_of ss = cc in ap suc (as_many rs ss rest)

front_opens : IsOnePayload → (h : List Stamped) (n : ℕ) (xs ys : Records) (o : Result State ℕ) → judged start xs ≡ o → length xs ≡ n → and_then o (λ t. judged t ys) ≡ Ok (at_last h) → o ≡ Ok (at_last (take n h))
front_opens law h n xs ys (Err place) is many e = absurd (cc)
front_opens law h n xs ys (Ok a) is many e =
    let one = is_judged law start a xs is refl in
    let two = is_judged law a (at_last h) ys e one.clock in
    let count : length a.history ≡ n = ap (λ (l : List Stamped). length l) one.grown ∙ (one.count ∙ many) in
    let same : a.history ≡ take n h = sym (ap (λ (l : List Stamped). take n l) two.grown ∙ take_at a.history two.more n count) in
    let last : a ≡ at_last a.history = ap (λ (k : ℕ). record { history = a.history; clock = k }) one.clock in
    ap (λ (x : State). Ok x) (last ∙ ap at_last same)

-- each front of a history that opens again opens again
front_reopens : IsOnePayload → (h : List Stamped) (n : ℕ) → n ≤ length h → Reopens h → Reopens (take n h)
front_reopens law h n le opens records is =
    let ys : Records = some_records (drop n h) in
    let all : texts (records ++ ys) ≡ payloads_of h = texts_front records ys ∙ (cc_two (texts records) (texts ys) is (their_texts (drop n h)) ∙ cut_payloads n h) in
    front_opens law h n records ys (judged start records) refl (as_many records (take n h) is ∙ length-take-le n h le) (sym (judged_append start records ys) ∙ opens (records ++ ys) all)
  where
    cc_two : (a b : List (List ℕ)) {c d : List (List ℕ)} → a ≡ c → b ≡ d → a ++ b ≡ c ++ d
    cc_two a b e f = rw (e, f) refl

-- what records open to can be served
pub opened_served : IsOnePayload → (s : State) (records : Records) (told : Option (List (List ℕ))) (failed : Bool) → judged start records ≡ Ok s
    → IfSome told (λ ps. ps ≡ texts records) → failed ≡ false → IsServed s told failed
opened_served law s records told failed e same going =
    let all = is_judged law start s records e refl in
    let last : s ≡ at_last s.history = ap (λ (n : ℕ). record { history = s.history; clock = n }) all.clock in
    record {
      payloads = with_payloads told same all.history;
      going = going;
      opens = λ n le. front_reopens law s.history n le (λ others is. judged_same start (at_last s.history) records others (is ∙ all.history) (e ∙ ap (λ (x : State). Ok x) last));
      last = omega (arith, all.clock);
    }
  where
    with_payloads : (told : Option (List (List ℕ))) → IfSome told (λ ps. ps ≡ texts records) → payloads_of s.history ≡ texts records → IfSome told (λ ps. ps ≡ payloads_of s.history)
    with_payloads None h all = tt
    with_payloads (Some ps) h all = h ∙ sym all
