-- What is noted of a pair, and that this is all.
use Rattle.std.proofs.Common.{◌≡◌, ◌+◌, ◌≤◌, ◌<◌, ◌==◌, ◌&&◌, ◌||◌, ◌⊎◌, ℕ, zero, suc, List, [], ◌∷◌, ◌++◌, Bool, true, false, Option, Result, Some, None, Ok, Err, OnOk, length, get_or, take, nat_lt, if◌then◌else◌, arith, refl, sym, ◌∙◌, ap, subst, inl, inr, append-nil}
use Rattle.std.proofs.lemmas.Bool.{cases_Bool, eq-eqb, eqb-true, le-ltb, lt-ltb, or_left, or_right}
use Rattle.std.specs.List.{list_any}
use Rattle.reg_prov.specs.declared.boundary.Boundary.{Boundary}
use Rattle.reg_prov.specs.declared.turn.Turn.{Turn}
use Rattle.reg_prov.specs.Notes.{AreNoted, is_numbered, reaches, reached}
use Rattle.reg_prov.specs.Spans.{limits, limits_of, wished}
use Rattle.reg_prov.specs.Steps.{Chained, IsAfter, change_at, change_in, first_from}
use Rattle.reg_prov.specs.Turns.{change, turn_at}
use Rattle.reg_prov.proofs.Finding.{first_is}
use Rattle.reg_prov.proofs.Limits.{any_append, same_wish}

or_none : (b : Bool) → (b || false) ≡ b
or_none true = refl
or_none false = refl

or_regroup : (a b c : Bool) → ((a || b) || c) ≡ (a || (b || c))
or_regroup true b c = refl
or_regroup false b c = refl

if_none : (t : Bool) (o : Option Bool) → o ≡ None → (if t then o else None) ≡ None
if_none true o h = h
if_none false o h = refl

itself : (n : ℕ) → (n == n) ≡ true
itself n = eq-eqb n n refl

-- ---- one moment

module _ (w : ℕ → Bool) (bs : List Boundary) (g s moment : ℕ) (n0 : ℕ) (m0 : Option ℕ) (chained : Chained n0 m0 bs) (b : Boundary) (found : Some b ≡ first_from moment bs) (test : ℕ → Bool) (old : List Turn) (noted : AreNoted w bs g s test old) where
  changes : change_at w bs b.number ≡ change_in w b
  changes = (first_is w moment n0 m0 bs b chained (sym found)).1

  reaches_is : (n : ℕ) → reaches bs n moment ≡ (b.number == n)
  reaches_is n = ap (is_numbered n) (sym found)

  pub turn_noted : (on : Bool) (new : List Turn) → Some on ≡ change_in w b → ((n x y : ℕ) → turn_at new n x y ≡ (if (b.number == n) && ((g == x) && (s == y)) then Some on else turn_at old n x y)) → AreNoted w bs g s (λ n. test n || reaches bs n moment) new
  turn_noted on new c set n = set n g s ∙ (rw (reaches_is n, itself g, itself s) (by_number (cases_Bool (b.number == n))))
    where
      by_number : ((b.number == n) ≡ true) ⊎ ((b.number == n) ≡ false) → (if (b.number == n) && true then Some on else turn_at old n g s) ≡ (if test n || (b.number == n) then change_at w bs n else None)
      by_number (inl y) =
          let here : change_at w bs n ≡ Some on = ap (change_at w bs) (sym (eqb-true b.number n y)) ∙ (changes ∙ sym c) in
          rw (or_right (test n) (b.number == n) y, y) (sym here)
      by_number (inr f) = rw (f, or_none (test n)) (noted n)

  pub stay_noted : None ≡ change_in w b → AreNoted w bs g s (λ n. test n || reaches bs n moment) old
  stay_noted c n = noted n ∙ rw (reaches_is n) (by_number (cases_Bool (b.number == n)))
    where
      by_number : ((b.number == n) ≡ true) ⊎ ((b.number == n) ≡ false) → (if test n then change_at w bs n else None) ≡ (if test n || (b.number == n) then change_at w bs n else None)
      by_number (inl y) =
          let here : change_at w bs n ≡ None = ap (change_at w bs) (sym (eqb-true b.number n y)) ∙ (changes ∙ sym c) in
          if_none (test n) (change_at w bs n) here ∙ sym (if_none (test n || (b.number == n)) (change_at w bs n) here)
      by_number (inr f) = rw (f, or_none (test n)) refl

pub turn_noted_on : {A E : Type 0} (r : Result A E) (w : ℕ → Bool) (bs : List Boundary) (g s moment n0 : ℕ) (m0 : Option ℕ) (b : Boundary) (on : Bool) (old new : List Turn) → Chained n0 m0 bs → Some b ≡ first_from moment bs → Some on ≡ change_in w b
    → OnOk r ((n x y : ℕ) → turn_at new n x y ≡ (if (b.number == n) && ((g == x) && (s == y)) then Some on else turn_at old n x y))
    → OnOk r ((test : ℕ → Bool) → AreNoted w bs g s test old → AreNoted w bs g s (λ n. test n || reaches bs n moment) new)
turn_noted_on (Ok v) w bs g s moment n0 m0 b on old new ch found c set = λ test noted. turn_noted w bs g s moment n0 m0 ch b found test old noted on new c set
turn_noted_on (Err e) w bs g s moment n0 m0 b on old new ch found c set = set

-- ---- one interval, and several

limits_some : (span : ℕ × Option ℕ) (end : ℕ) → span.1 ≡ Some end → limits span ≡ span.0 ∷ end ∷ []
limits_some (s, o) end e = rw e refl

noted_as : (w : ℕ → Bool) (bs : List Boundary) (g s : ℕ) (one other : ℕ → Bool) (turns : List Turn) → ((n : ℕ) → one n ≡ other n) → AreNoted w bs g s one turns → AreNoted w bs g s other turns
noted_as w bs g s one other turns same h n = h n ∙ ap (λ (t : Bool). if t then change_at w bs n else None) (same n)

pub span_noted : (w : ℕ → Bool) (bs : List Boundary) (g s : ℕ) (span : ℕ × Option ℕ) (end : ℕ) (test : ℕ → Bool) (turns : List Turn) → span.1 ≡ Some end
    → AreNoted w bs g s (λ n. (test n || reaches bs n span.0) || reaches bs n end) turns → AreNoted w bs g s (λ n. test n || reached bs n (limits span)) turns
span_noted w bs g s span end test turns e h = noted_as w bs g s _ _ turns
    (λ n. or_regroup (test n) (reaches bs n span.0) (reaches bs n end)
    ∙ rw (limits_some span end e, or_none (reaches bs n end)) refl) h

pub span_noted_on : {A E : Type 0} (r : Result A E) (w : ℕ → Bool) (bs : List Boundary) (g s : ℕ) (span : ℕ × Option ℕ) (end : ℕ) (old one new : List Turn) → span.1 ≡ Some end
    → ((test : ℕ → Bool) → AreNoted w bs g s test old → AreNoted w bs g s (λ n. test n || reaches bs n span.0) one)
    → OnOk r ((test : ℕ → Bool) → AreNoted w bs g s test one → AreNoted w bs g s (λ n. test n || reaches bs n end) new)
    → OnOk r ((test : ℕ → Bool) → AreNoted w bs g s test old → AreNoted w bs g s (λ n. test n || reached bs n (limits span)) new)
span_noted_on (Ok v) w bs g s span end old one new e first more = λ test noted. span_noted w bs g s span end test new e (more (λ n. test n || reaches bs n span.0) (first test noted))
span_noted_on (Err x) w bs g s span end old one new e first more = more

limits_push : (spans : List (ℕ × Option ℕ)) (span : ℕ × Option ℕ) (r : ℕ → Bool) → list_any r (limits_of (spans ++ span ∷ [])) ≡ (list_any r (limits_of spans) || list_any r (limits span))
limits_push [] span r = ap (list_any r) (append-nil (limits span))
limits_push (x ∷ spans) span r =
    any_append r (limits x) (limits_of (spans ++ span ∷ []))
    ∙ (ap (λ (b : Bool). list_any r (limits x) || b) (limits_push spans span r)
    ∙ (sym (or_regroup (list_any r (limits x)) (list_any r (limits_of spans)) (list_any r (limits span)))
    ∙ ap (λ (b : Bool). b || list_any r (limits span)) (sym (any_append r (limits x) (limits_of spans)))))

pub none_noted : (w : ℕ → Bool) (bs : List Boundary) (g s : ℕ) (test : ℕ → Bool) (turns : List Turn) → AreNoted w bs g s test turns → AreNoted w bs g s (λ n. test n || false) turns
none_noted w bs g s test turns h = noted_as w bs g s _ _ turns (λ n. sym (or_none (test n))) h

take_next : {X : Type 0} (xs : List X) (i : ℕ) (x : X) → i < length xs → x ≡ get_or xs i x → take (i + 1) xs ≡ take i xs ++ x ∷ []
take_next [] i x w e = absurd (omega arith)
take_next (y ∷ xs) zero x w e = let first : x ≡ y = e in rw first refl
take_next (y ∷ xs) (suc i) x w e = let up : suc i + 1 ≡ suc (i + 1) = omega arith in rw up (ap (λ l. y ∷ l) (take_next xs i x (omega arith) e))

pub spans_noted : (w : ℕ → Bool) (bs : List Boundary) (g s : ℕ) (spans : List (ℕ × Option ℕ)) (i : ℕ) (span : ℕ × Option ℕ) (test : ℕ → Bool) (turns : List Turn) → i < length spans → span ≡ get_or spans i span
    → AreNoted w bs g s (λ n. (test n || reached bs n (limits_of (take i spans))) || reached bs n (limits span)) turns → AreNoted w bs g s (λ n. test n || reached bs n (limits_of (take (i + 1) spans))) turns
spans_noted w bs g s spans i span test turns v e h = noted_as w bs g s _ _ turns
    (λ n. or_regroup (test n) (reached bs n (limits_of (take i spans))) (reached bs n (limits span))
    ∙ ap (λ (b : Bool). test n || b) (sym (limits_push (take i spans) span (reaches bs n)) ∙ ap (λ (l : List (ℕ × Option ℕ)). reached bs n (limits_of l)) (sym (take_next spans i span v e)))) h

-- ---- a pair: there is no other turn

abbrev pub LaterThan : Option ℕ → ℕ → Type 0
LaterThan None e = Unit {0}
LaterThan (Some p) e = p < e

later_from : (m : Option ℕ) (x e : ℕ) → IsAfter m x → x < e → LaterThan m e
later_from None x e a w = tt
later_from (Some p) x e a w = let low : p < x = a in omega (arith, low, w)

-- a boundary at which a wish changes: it is reached from each moment behind the boundary before it
pub record Turning (w : ℕ → Bool) (bs : List Boundary) (m : Option ℕ) (n : ℕ) (on : Bool) : Type 0 where
  pub here : Boundary
  pub turns : change_in w here ≡ Some on
  pub found : (e : ℕ) → LaterThan here.before e → e ≤ here.at → reaches bs n e ≡ true
  pub behind : (e : ℕ) → LaterThan here.before e → LaterThan m e
  pub rises : IsAfter here.before here.at

turning : (w : ℕ → Bool) (k : ℕ) (m : Option ℕ) (bs : List Boundary) (n : ℕ) (on : Bool) → Chained k m bs → change_at w bs n ≡ Some on → Turning w bs m n on
turning w k m [] n on ch h = absurd (cc)
turning w k m (b ∷ bs) n on ch h = elim (cases_Bool (b.number == n)) [
  | inl y ↦ record {
    here = b;
    turns = rw y at h;
    found = λ e low high. let f : nat_lt b.at e ≡ false = le-ltb b.at e high in rw f y;
    behind = λ e low. subst (λ (o : Option ℕ). LaterThan o e) ch.1 low;
    rises = subst (λ (o : Option ℕ). IsAfter o b.at) (sym ch.1) ch.2;
  }
  | inr f ↦
      let rest = turning w b.number (Some b.at) bs n on ch.3 (rw f at h) in
      record {
        here = rest.here;
        turns = rest.turns;
        found = λ e low high.
            let past : b.at < e = rest.behind e low in
            let skip : nat_lt b.at e ≡ true = lt-ltb b.at e past in
            rw skip (rest.found e low high);
        behind = λ e low. later_from m b.at e ch.2 (rest.behind e low);
        rises = rest.rises;
      }
]

no_change : (a b : Bool) (on : Bool) → a ≡ b → change a b ≡ Some on → ⊥
no_change false false on e h = cc
no_change false true on e h = cc
no_change true false on e h = cc
no_change true true on e h = cc

abbrev pub tests : List Boundary → List (ℕ × Option ℕ) → List (ℕ × Option ℕ) → ℕ → Bool
tests bs grants members n = ((false || reaches bs n 0) || reached bs n (limits_of grants)) || reached bs n (limits_of members)

at_limit : (grants members : List (ℕ × Option ℕ)) (bs : List Boundary) (n : ℕ) (on : Bool) (b : Boundary) (o : Option ℕ) → b.before ≡ o → change_in (wished grants members) b ≡ Some on → ((e : ℕ) → LaterThan o e → e ≤ b.at → reaches bs n e ≡ true) → IsAfter o b.at → tests bs grants members n ≡ true
at_limit grants members bs n on b None e h found rises =
    or_left ((false || reaches bs n 0) || reached bs n (limits_of grants)) (reached bs n (limits_of members))
    (or_left (reaches bs n 0) (reached bs n (limits_of grants)) (found 0 tt (omega arith)))
at_limit grants members bs n on b (Some p) e h found rises = elim (same_wish (reaches bs n) p b.at rises found grants members) [
  | inl same ↦ absurd (no_change (wished grants members p) (wished grants members b.at) on same (rw e at h))
  | inr limit ↦ elim limit [
    | inl y ↦
        or_left ((false || reaches bs n 0) || reached bs n (limits_of grants)) (reached bs n (limits_of members))
        (or_right (reaches bs n 0) (reached bs n (limits_of grants)) y)
    | inr y ↦ or_right ((false || reaches bs n 0) || reached bs n (limits_of grants)) (reached bs n (limits_of members)) y
  ]
]

all_found : (grants members : List (ℕ × Option ℕ)) (bs : List Boundary) (k : ℕ) (m : Option ℕ) → Chained k m bs → (n : ℕ) (on : Bool) → change_at (wished grants members) bs n ≡ Some on → tests bs grants members n ≡ true
all_found grants members bs k m ch n on h =
    let t = turning (wished grants members) k m bs n on ch h in
    at_limit grants members bs n on t.here t.here.before refl t.turns t.found t.rises

pub pair_noted : (grants members : List (ℕ × Option ℕ)) (bs : List Boundary) (g s k : ℕ) (m : Option ℕ) (turns : List Turn) → Chained k m bs → AreNoted (wished grants members) bs g s (tests bs grants members) turns → (n : ℕ) → turn_at turns n g s ≡ change_at (wished grants members) bs n
pair_noted grants members bs g s k m turns ch h n = h n ∙ by_test (change_at (wished grants members) bs n) refl
  where
    by_test : (o : Option Bool) → change_at (wished grants members) bs n ≡ o → (if tests bs grants members n then change_at (wished grants members) bs n else None) ≡ change_at (wished grants members) bs n
    by_test (Some on) e = rw (all_found grants members bs k m ch n on e) refl
    by_test None e = if_none (tests bs grants members n) (change_at (wished grants members) bs n) e ∙ sym e

pub pair_noted_on : {A E : Type 0} (r : Result A E) (grants members : List (ℕ × Option ℕ)) (bs : List Boundary) (g s k : ℕ) (m : Option ℕ) (at : ℕ) (old one two new : List Turn) → Chained k m bs → at ≡ 0 → ((n : ℕ) → turn_at old n g s ≡ None)
    → ((test : ℕ → Bool) → AreNoted (wished grants members) bs g s test old → AreNoted (wished grants members) bs g s (λ n. test n || reaches bs n at) one)
    → ((test : ℕ → Bool) → AreNoted (wished grants members) bs g s test one → AreNoted (wished grants members) bs g s (λ n. test n || reached bs n (limits_of grants)) two)
    → OnOk r ((test : ℕ → Bool) → AreNoted (wished grants members) bs g s test two → AreNoted (wished grants members) bs g s (λ n. test n || reached bs n (limits_of members)) new)
    → OnOk r ((n : ℕ) → turn_at new n g s ≡ change_at (wished grants members) bs n)
pair_noted_on (Ok v) grants members bs g s k m at old one two new ch zero_is none first next more =
    let begun = first (λ n. false) none in
    let from_zero = subst (λ (t : ℕ). AreNoted (wished grants members) bs g s (λ n. false || reaches bs n t) one) zero_is begun in
    pair_noted grants members bs g s k m new ch
    (more (λ n. (false || reaches bs n 0) || reached bs n (limits_of grants)) (next (λ n. false || reaches bs n 0) from_zero))
pair_noted_on (Err e) grants members bs g s k m at old one two new ch zero_is none first next more = more
