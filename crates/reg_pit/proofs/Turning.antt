-- The intervals of one key, as it is switched on or off at a moment.
use Rattle.std.proofs.Common.{◌≡◌, ◌<◌, ◌≤◌, ◌==◌, ◌&&◌, ◌||◌, ℕ, suc, List, [], ◌∷◌, Bool, true, false, map, cond, Option, Some, None, nat_lt, nat_le, if◌then◌else◌, arith, refl, ap, ◌∙◌, inl, inr}
use Rattle.std.proofs.lemmas.Bool.{cases_Bool, eqb-true, eq-eqb, ne_eqb}
use Rattle.std.proofs.lemmas.Bool.Decides.{nat_tests}
use Rattle.std.proofs.lemmas.Grind.{common_steps}
use Rattle.std.proofs.lemmas.Cmp.{nat_cmp_total, tied_itself}
use Rattle.std.specs.Map.{lookup, remove_entry}
use Rattle.std.specs.BTreeMap.{is_at, insert_entry}
use Rattle.std.specs.Ordering.{nat_cmp}
use Rattle.std.specs.declared.cmp.Ordering.TheVariants.{Less, Equal, Greater}
use Rattle.reg_pit.specs.Spans.{covers, NoLater}
use Rattle.reg_pit.specs.Runs.{never, span_of, RunsFrom, EndedBy}
use Rattle.reg_pit.proofs.Orders.{less, equal, greater, answer}

-- the start of the interval with an end
abbrev pub start_at : ℕ → List (ℕ × ℕ) → Option ℕ
start_at e runs = lookup (is_at (nat_cmp e)) runs

-- one more interval, and one less
abbrev pub with_run : List (ℕ × ℕ) → ℕ → ℕ → List (ℕ × ℕ)
with_run runs e s = insert_entry nat_cmp runs e s

abbrev pub without_run : ℕ → List (ℕ × ℕ) → List (ℕ × ℕ)
without_run e runs = remove_entry (is_at (nat_cmp e)) runs

-- from a moment on the key is on or off, and before it nothing has changed
pub record Turned (n at : ℕ) (on : Bool) (old new : List (ℕ × ℕ)) : Type 0 where
  pub runs : RunsFrom n new
  pub last : NoLater at (map span_of new)
  pub covers : (t : ℕ) → covers (map span_of new) t ≡ (if nat_le at t then on else covers (map span_of old) t)

pub at_end : (e f : ℕ) → is_at (nat_cmp e) f ≡ (f == e)
at_end e f = grind (arith, nat_tests, common_steps)

pub after : (e f : ℕ) → f < e → nat_cmp e f ≡ Greater
after e f h = grind (arith, nat_tests, common_steps)

before : (e f : ℕ) → e < f → nat_cmp e f ≡ Less
before e f h = grind (arith, nat_tests, common_steps)

apart : (e f : ℕ) → f < e → is_at (nat_cmp e) f ≡ false
apart e f h = at_end e f ∙ ne_eqb f e (λ k. absurd (omega (arith, k, h)))

pub here : (e : ℕ) → is_at (nat_cmp e) e ≡ true
here e = at_end e e ∙ eq-eqb e e refl

-- the last interval stands alone where it has no end, or ends at the moment
none_after : (at e : ℕ) (runs : List (ℕ × ℕ)) → at ≤ e → RunsFrom (suc e) runs → NoLater at (map span_of runs) → runs ≡ []
none_after at e [] w r h = refl
none_after at e ((f, s) ∷ runs) w r h = elim (cases_Bool (f == never)) [
  | inl t ↦ let k = (rw t at h).0 in let l = r.0 in absurd (omega (arith, k, l))
  | inr t ↦ let k = (rw t at h).0 in let l = r.0 in absurd (omega (arith, k, l))
]

-- an earlier interval changes nothing
covers_more : (at t e s : ℕ) (on : Bool) (o m : Bool) → s < e → e < at → m ≡ (if nat_le at t then on else o) → ((nat_le s t && nat_lt t e) || m) ≡ (if nat_le at t then on else ((nat_le s t && nat_lt t e) || o))
covers_more at t e s on o m a b h = elim (cases_Bool (nat_le at t)) [
  | inl y ↦ rw y (let k : m ≡ on = rw y at h in let l : (nat_le s t && nat_lt t e) ≡ false = grind (arith, nat_tests, common_steps) in rw l k)
  | inr y ↦ rw y (let k : m ≡ o = rw y at h in rw k refl)
]

turned_more : (n at : ℕ) (on : Bool) (e s : ℕ) (old new : List (ℕ × ℕ)) → n ≤ s → s < e → e < at → at < never → Turned (suc e) at on old new → Turned n at on ((e, s) ∷ old) ((e, s) ∷ new)
turned_more n at on e s old new a b c d h =
    let f : (e == never) ≡ false = ne_eqb e never (λ j. absurd (omega (arith, j, c, d))) in
    record {
      runs = (a, b, omega arith, h.runs);
      last = rw f (omega arith, omega arith, h.last);
      covers = λ t. rw f (covers_more at t e s on (covers (map span_of old) t) (covers (map span_of new) t) b c (h.covers t));
    }

-- the same, by what is known of the interval
on_from : (n at : ℕ) (on : Bool) (e s : ℕ) (old new : List (ℕ × ℕ)) → RunsFrom n ((e, s) ∷ old) → e < at → at < never → Turned (suc e) at on old new → Turned n at on ((e, s) ∷ old) ((e, s) ∷ new)
on_from n at on e s old new r k b h = turned_more n at on e s old new r.0 r.1 k b h

not_none : (test : Bool) (x : ℕ) (o : Option ℕ) → test ≡ true → cond test (Some x) o ≡ None → ⊥
not_none test x o t h = let k : Some x ≡ None = rw t at h in cc

nothing : (s : ℕ) → start_at never [] ≡ Some s → ⊥
nothing s h = cc

the_one : (test : Bool) (x y : ℕ) (o : Option ℕ) → test ≡ true → cond test (Some x) o ≡ Some y → x ≡ y
the_one test x y o t h = let k : Some x ≡ Some y = rw t at h in cc

-- what begins and ends of an interval that has an end
by_then : (at e s : ℕ) (runs : List (ℕ × ℕ)) → (e == never) ≡ false → NoLater at (map span_of ((e, s) ∷ runs)) → (s ≤ at) × (e ≤ at) × NoLater at (map span_of runs)
by_then at e s runs y h = rw y at h

-- an interval ends before the moment, or at it, or has no end
data Ends (at e : ℕ) : Type 0 where
  earlier : e < at → Ends at e
  now : e ≡ at → Ends at e
  open_ : e ≡ never → Ends at e

which : (at e s : ℕ) (runs : List (ℕ × ℕ)) → NoLater at (map span_of ((e, s) ∷ runs)) → Ends at e
which at e s runs h = elim (cases_Bool (e == never)) [
  | inl y ↦ open_ (eqb-true e never y)
  | inr y ↦ let l = by_then at e s runs y h in elim (cases_Bool (e == at)) [
    | inl z ↦ now (eqb-true e at z)
    | inr z ↦ earlier (grind (arith, nat_tests, z, l.1))
  ]
]

no_later_rest : (at e s : ℕ) (runs : List (ℕ × ℕ)) → NoLater at (map span_of ((e, s) ∷ runs)) → NoLater at (map span_of runs)
no_later_rest at e s runs h = elim (cases_Bool (e == never)) [
  | inl y ↦ (rw y at h).1
  | inr y ↦ (rw y at h).2
]

-- ---- switched on

-- one begins at the moment
pub begins : (n at : ℕ) (runs : List (ℕ × ℕ)) → n ≤ at → at < never → RunsFrom n runs → NoLater at (map span_of runs) → start_at never runs ≡ None → start_at at runs ≡ None → Turned n at true runs (with_run runs never at)
begins n at [] a b r h u v = record { runs = (a, b, omega arith, tt); last = (omega arith, tt); covers = λ t. grind (arith, nat_tests, common_steps) }
begins n at ((e, s) ∷ runs) a b r h u v = elim (which at e s runs h) [
  | open_ y ↦ absurd (not_none (is_at (nat_cmp never) e) s (start_at never runs) (rw y (here never)) u)
  | now z ↦ absurd (not_none (is_at (nat_cmp at) e) s (start_at at runs) (rw z (here at)) v)
  | earlier k ↦
      let m : e < never = omega arith in
      rw (after never e m) (on_from n at true e s runs (with_run runs never at) r k b
      (begins (suc e) at runs (omega arith) b r.3 (no_later_rest at e s runs h) (rw (apart never e m) at u) (rw (apart at e k) at v)))
]

-- one that ended at the moment goes on
pub goes_on : (n at s : ℕ) (runs : List (ℕ × ℕ)) → at < never → RunsFrom n runs → NoLater at (map span_of runs) → start_at never runs ≡ None → start_at at runs ≡ Some s → Turned n at true runs (without_run at (with_run runs never s))
goes_on n at s [] b r h u v = cc
goes_on n at s ((e, x) ∷ runs) b r h u v = elim (which at e x runs h) [
  | open_ y ↦ absurd (not_none (is_at (nat_cmp never) e) x (start_at never runs) (rw y (here never)) u)
  | now z ↦
      let q : x ≡ s = the_one (is_at (nat_cmp at) e) x s (start_at at runs) (rw z (here at)) v in
      let last : runs ≡ [] = none_after at e runs (omega arith) r.3 (no_later_rest at e x runs h) in
      rw (z, after never at b, here at, q, last) (ending z q)
  | earlier k ↦
      let m : e < never = omega arith in
      rw (after never e m, apart at e k) (on_from n at true e x runs (without_run at (with_run runs never s)) r k b
      (goes_on (suc e) at s runs b r.3 (no_later_rest at e x runs h) (rw (apart never e m) at u) (rw (apart at e k) at v)))
]
  where
    ending : e ≡ at → x ≡ s → Turned n at true ((at, s) ∷ []) ((never, s) ∷ [])
    ending z q =
        let f : (at == never) ≡ false = ne_eqb at never (λ j. absurd (omega (arith, j, b))) in
        record { runs = (omega (arith, r.0), omega (arith, r.1), omega arith, tt); last = (omega (arith, r.1), tt); covers = λ t. rw f (grind (arith, nat_tests, common_steps, r.1, z, q)) }

-- one that has no end stays
pub stays_on : (n at s : ℕ) (runs : List (ℕ × ℕ)) → at < never → RunsFrom n runs → NoLater at (map span_of runs) → start_at never runs ≡ Some s → Turned n at true runs runs
stays_on n at s [] b r h u = cc
stays_on n at s ((e, x) ∷ runs) b r h u = elim (which at e x runs h) [
  | open_ y ↦ let last : runs ≡ [] = none_after at e runs (omega arith) r.3 (no_later_rest at e x runs h) in rw (y, last) (on y last)
  | now z ↦
      let last : runs ≡ [] = none_after at e runs (omega arith) r.3 (no_later_rest at e x runs h) in
      absurd (lost last z)
  | earlier k ↦ on_from n at true e x runs runs r k b (stays_on (suc e) at s runs b r.3 (no_later_rest at e x runs h) (rw (apart never e (omega arith)) at u))
]
  where
    on : e ≡ never → runs ≡ [] → Turned n at true ((never, x) ∷ []) ((never, x) ∷ [])
    on y last =
        let k : x ≤ at = (rw (y, last) at h).0 in
        record { runs = (r.0, omega (arith, r.1, y), omega arith, tt); last = (k, tt); covers = λ t. grind (arith, nat_tests, common_steps, k) }

    lost : runs ≡ [] → e ≡ at → ⊥
    lost last z = nothing s (rw (z, apart never at b, last) at u)

-- ---- switched off

-- nothing goes on
pub stays_off : (n at : ℕ) (runs : List (ℕ × ℕ)) → at < never → RunsFrom n runs → NoLater at (map span_of runs) → start_at never runs ≡ None → Turned n at false runs runs
stays_off n at [] b r h u = record { runs = tt; last = tt; covers = λ t. grind (arith, nat_tests, common_steps) }
stays_off n at ((e, x) ∷ runs) b r h u = elim (which at e x runs h) [
  | open_ y ↦ absurd (not_none (is_at (nat_cmp never) e) x (start_at never runs) (rw y (here never)) u)
  | now z ↦ let last : runs ≡ [] = none_after at e runs (omega arith) r.3 (no_later_rest at e x runs h) in rw (z, last) (off z)
  | earlier k ↦ on_from n at false e x runs runs r k b (stays_off (suc e) at runs b r.3 (no_later_rest at e x runs h) (rw (apart never e (omega arith)) at u))
]
  where
    off : e ≡ at → Turned n at false ((at, x) ∷ []) ((at, x) ∷ [])
    off z =
        let f : (at == never) ≡ false = ne_eqb at never (λ j. absurd (omega (arith, j, b))) in
        record { runs = (r.0, omega (arith, r.1), omega arith, tt); last = rw f (omega (arith, r.1), omega arith, tt); covers = λ t. rw f (grind (arith, nat_tests, common_steps, r.1)) }

-- one that began at the moment goes
pub vanishes : (n at : ℕ) (runs : List (ℕ × ℕ)) → at < never → RunsFrom n runs → NoLater at (map span_of runs) → start_at never runs ≡ Some at → Turned n at false runs (without_run never runs)
vanishes n at [] b r h u = cc
vanishes n at ((e, x) ∷ runs) b r h u = elim (which at e x runs h) [
  | open_ y ↦
      let last : runs ≡ [] = none_after at e runs (omega arith) r.3 (no_later_rest at e x runs h) in
      let q : x ≡ at = the_one (is_at (nat_cmp never) e) x at (start_at never runs) (rw y (here never)) u in
      rw (y, last, q) (gone q)
  | now z ↦
      let last : runs ≡ [] = none_after at e runs (omega arith) r.3 (no_later_rest at e x runs h) in
      absurd (lost last z)
  | earlier k ↦
      let m : e < never = omega arith in
      rw (apart never e m) (on_from n at false e x runs (without_run never runs) r k b (vanishes (suc e) at runs b r.3 (no_later_rest at e x runs h) (rw (apart never e m) at u)))
]
  where
    gone : x ≡ at → Turned n at false ((never, at) ∷ []) []
    gone q = record { runs = tt; last = tt; covers = λ t. grind (arith, nat_tests, common_steps) }

    lost : runs ≡ [] → e ≡ at → ⊥
    lost last z = nothing at (rw (z, apart never at b, last) at u)

-- one that began earlier ends at the moment
pub ends : (n at s : ℕ) (runs : List (ℕ × ℕ)) → s < at → at < never → RunsFrom n runs → NoLater at (map span_of runs) → start_at never runs ≡ Some s → Turned n at false runs (without_run never (with_run runs at s))
ends n at s [] w b r h u = cc
ends n at s ((e, x) ∷ runs) w b r h u = elim (which at e x runs h) [
  | open_ y ↦
      let last : runs ≡ [] = none_after at e runs (omega arith) r.3 (no_later_rest at e x runs h) in
      let q : x ≡ s = the_one (is_at (nat_cmp never) e) x s (start_at never runs) (rw y (here never)) u in
      rw (y, before at never b, apart never at b, last, q) (ended q)
  | now z ↦
      let last : runs ≡ [] = none_after at e runs (omega arith) r.3 (no_later_rest at e x runs h) in
      absurd (lost last z)
  | earlier k ↦
      let m : e < never = omega arith in
      rw (after at e k, apart never e m) (on_from n at false e x runs (without_run never (with_run runs at s)) r k b (ends (suc e) at s runs w b r.3 (no_later_rest at e x runs h) (rw (apart never e m) at u)))
]
  where
    ended : x ≡ s → Turned n at false ((never, s) ∷ []) ((at, s) ∷ [])
    ended q =
        let f : (at == never) ≡ false = ne_eqb at never (λ j. absurd (omega (arith, j, b))) in
        record { runs = (omega (arith, r.0), w, omega arith, tt); last = rw f (omega arith, omega arith, tt); covers = λ t. rw f (grind (arith, nat_tests, common_steps)) }

    lost : runs ≡ [] → e ≡ at → ⊥
    lost last z = nothing s (rw (z, apart never at b, last) at u)

-- one that goes on began no later than the moment
pub open_start : (s n at : ℕ) (runs : List (ℕ × ℕ)) → NoLater at (map span_of runs) → start_at never runs ≡ Some s → s ≤ at
open_start s n at [] h u = cc
open_start s n at ((e, x) ∷ runs) h u = elim (cases_Bool (e == never)) [
  | inl y ↦ let q : x ≡ s = the_one (is_at (nat_cmp never) e) x s (start_at never runs) (at_end never e ∙ y) u in let k = (rw y at h).0 in omega (arith, q, k)
  | inr y ↦ let q : is_at (nat_cmp never) e ≡ false = at_end never e ∙ y in open_start s n at runs (no_later_rest at e x runs h) (rw q at u)
]

-- ---- one put in the place of another

-- of two that are put in with one end, the later one stays
pub overwritten : (e a s : ℕ) (runs : List (ℕ × ℕ)) → with_run (with_run runs e a) e s ≡ with_run runs e s
overwritten e a s [] = rw (tied_itself nat_cmp_total e) refl
overwritten e a s ((f, x) ∷ runs) = elim (answer (nat_cmp e f)) [
  | less b ↦ rw (b, tied_itself nat_cmp_total e) refl
  | equal b ↦ rw (b, b) refl
  | greater b ↦ rw (b, b) (ap (λ rest. (f, x) ∷ rest) (overwritten e a s runs))
]

-- one that has no end, put in with the start that it has
pub put_back : (n s : ℕ) (runs : List (ℕ × ℕ)) → RunsFrom n runs → start_at never runs ≡ Some s → with_run runs never s ≡ runs
put_back n s [] r u = cc
put_back n s ((e, x) ∷ runs) r u = elim (cases_Bool (e == never)) [
  | inl y ↦
      let q : x ≡ s = the_one (is_at (nat_cmp never) e) x s (start_at never runs) (at_end never e ∙ y) u in
      let tie : nat_cmp never e ≡ Equal = grind (arith, nat_tests, common_steps, y) in
      rw (tie, q) refl
  | inr z ↦
      let m : e < never = grind (arith, nat_tests, z, r.2) in
      rw (after never e m) (ap (λ rest. (e, x) ∷ rest) (put_back (suc e) s runs r.3 (rw (apart never e m) at u)))
]

other_end : (at : ℕ) → at < never → is_at (nat_cmp at) never ≡ false
other_end at b = at_end at never ∙ ne_eqb never at (λ k. absurd (omega (arith, k, b)))

-- what ends at a moment is the same with one more that has no end
pub start_with : (at s : ℕ) (runs : List (ℕ × ℕ)) → at < never → start_at at (with_run runs never s) ≡ start_at at runs
start_with at s [] b = rw (other_end at b) refl
start_with at s ((e, x) ∷ runs) b = elim (answer (nat_cmp never e)) [
  | less a ↦ rw (a, other_end at b) refl
  | equal a ↦
      let same : e ≡ never = grind (arith, nat_tests, common_steps, a) in
      let far : is_at (nat_cmp at) e ≡ false = rw same (other_end at b) in
      rw (a, far) refl
  | greater a ↦ rw a (ap (λ rest. cond (is_at (nat_cmp at) e) (Some x) rest) (start_with at s runs b))
]

-- ---- no end later than a moment

pub no_later_ended : (at : ℕ) (spans : List (ℕ × Option ℕ)) → NoLater at spans → EndedBy at spans
no_later_ended at [] h = tt
no_later_ended at ((s, None) ∷ spans) h = no_later_ended at spans h.1
no_later_ended at ((s, Some e) ∷ spans) h = (h.1, no_later_ended at spans h.2)

-- so nothing ends at a later one
pub nothing_ends : (at latest : ℕ) (runs : List (ℕ × ℕ)) → latest < at → at < never → EndedBy latest (map span_of runs) → start_at at runs ≡ None
nothing_ends at latest [] w b h = refl
nothing_ends at latest ((e, s) ∷ runs) w b h = elim (cases_Bool (e == never)) [
  | inl y ↦
      let far : is_at (nat_cmp at) e ≡ false = at_end at e ∙ ne_eqb e at (λ k. absurd (omega (arith, k, b, eqb-true e never y))) in
      rw far (nothing_ends at latest runs w b (rw y at h))
  | inr z ↦
      let both = rw z at h in
      let far : is_at (nat_cmp at) e ≡ false = at_end at e ∙ ne_eqb e at (λ k. absurd (omega (arith, k, w, both.0))) in
      rw far (nothing_ends at latest runs w b both.1)
]

-- the same of one more that has no end, and of one less
pub ended_with : (latest s : ℕ) (runs : List (ℕ × ℕ)) → EndedBy latest (map span_of runs) → EndedBy latest (map span_of (with_run runs never s))
ended_with latest s [] h = tt
ended_with latest s ((e, x) ∷ runs) h = elim (answer (nat_cmp never e)) [
  | less a ↦ rw a h
  | equal a ↦ rw a (elim (cases_Bool (e == never)) [ inl y ↦ rw y (rw y at h) | inr z ↦ rw z (rw z at h) ])
  | greater a ↦ rw a (elim (cases_Bool (e == never)) [
    | inl y ↦ rw y (ended_with latest s runs (rw y at h))
    | inr z ↦ let both = rw z at h in rw z (both.0, ended_with latest s runs both.1)
  ])
]

pub ended_without : (latest e : ℕ) (runs : List (ℕ × ℕ)) → EndedBy latest (map span_of runs) → EndedBy latest (map span_of (without_run e runs))
ended_without latest e [] h = tt
ended_without latest e ((f, x) ∷ runs) h = elim (cases_Bool (f == never)) [
  | inl y ↦
      let rest : EndedBy latest (map span_of runs) = rw y at h in
      elim (cases_Bool (is_at (nat_cmp e) f)) [ inl t ↦ rw t rest | inr k ↦ rw (k, y) (ended_without latest e runs rest) ]
  | inr z ↦
      let both = rw z at h in
      elim (cases_Bool (is_at (nat_cmp e) f)) [ inl t ↦ rw t both.1 | inr k ↦ rw (k, z) (both.0, ended_without latest e runs both.1) ]
]
