-- At each moment up to the clock the memberships are those after the last step up to it.
use Rattle.std.proofs.Common.{◌≡◌, ◌≤◌, ◌<◌, ℕ, List, [], ◌∷◌, ◌++◌, Bool, true, false, Option, None, Some, nat_le, if◌then◌else◌, arith, refl, sym, ◌∙◌, ap, inl, inr}
use Rattle.std.proofs.lemmas.Bool.{cases_Bool, le-leb}
use Rattle.std.proofs.lemmas.Bool.Decides.{nat_tests}
use Rattle.std.proofs.lemmas.List.{append-nil}
use Rattle.std.proofs.lemmas.List.Elements.{filter-append}
use Rattle.std.specs.List.{AllByRecursion}
use Rattle.reg_base.specs.declared.entity.Entity.{Entity}
use Rattle.reg_terms.specs.declared.command.Stamped.{Stamped}
use Rattle.reg_terms.specs.declared.command.Command.{Command}
use Rattle.reg_facts.specs.Lists as the_facts
use Rattle.reg_facts.specs.Lists.{Lists}
use Rattle.reg_facts.proofs.Places.{all_push, cases_option}
use Rattle.reg_effect.specs.declared.live.Live.{Live}
use Rattle.reg_effect.specs.Member.{member}
use Rattle.std.specs.Option.{option_or}
use Rattle.reg_audit.specs.Steps.{Step, last_by, last_of, last_facts, last_moment, facts_of, facts_by, left_by, live_by}
use Rattle.reg_current.specs.Dates.{due, pass}
use Rattle.reg_machine.specs.History.{facts, facts_after, up_to}
use Rattle.reg_machine.specs.Invariant.{IsBy, IsFrom}
use Rattle.reg_current.specs.Live.{live}
use Rattle.reg_machine.specs.Past.{IsStepBy, AreLived, command_step, date_step, steps, was_member}
use Rattle.reg_current.proofs.Due.{due_none, due_none_from, due_some}
use Rattle.reg_machine.proofs.Moments.{facts_push, next_comes, none_comes}
use Rattle.reg_current.proofs.Passing.{live_stays}
use Rattle.reg_machine.proofs.StepByStep.{no_steps, steps_next, steps_none, steps_push}

-- ---- the last step up to a moment

chosen : {A : Type 0} (b : Bool) (x : A) (other rest : Option A) → option_or (if b then Some x else other) rest ≡ (if b then Some x else option_or other rest)
chosen true x other rest = refl
chosen false x other rest = refl

-- one step more
last_push : (t : ℕ) (ss : List Step) (x : Step) → last_by t (ss ++ x ∷ []) ≡ (if nat_le x.at t then Some x else last_by t ss)
last_push t [] x = refl
last_push t (s ∷ ss) x = rw (last_push t ss x) (chosen (nat_le x.at t) x (last_by t ss) (if nat_le s.at t then Some s else None))

live_push : (t : ℕ) (ss : List Step) (x : Step) → live_by t (ss ++ x ∷ []) ≡ (if nat_le x.at t then x.live_after else live_by t ss)
live_push t ss x = ap left_by (last_push t ss x) ∙ elim (cases_Bool (nat_le x.at t)) [
  | inl y ↦ rw y refl
  | inr n ↦ rw n refl
]

facts_more : (t : ℕ) (ss : List Step) (x : Step) → facts_by t (ss ++ x ∷ []) ≡ (if nat_le x.at t then x.after else facts_by t ss)
facts_more t ss x = ap facts_of (last_push t ss x) ∙ elim (cases_Bool (nat_le x.at t)) [
  | inl y ↦ rw y refl
  | inr n ↦ rw n refl
]

-- from the last step on it stays
last_late : (t u : ℕ) (ss : List Step) → t ≤ u → AllByRecursion (IsStepBy t) ss → last_by u ss ≡ last_by t ss
last_late t u [] w h = refl
last_late t u (s ∷ ss) w h =
    let first = h.0 in
    rw (le-leb s.at t first, le-leb s.at u (omega (arith, first, w)), last_late t u ss w h.1) refl

live_late : (t u : ℕ) (ss : List Step) → t ≤ u → AllByRecursion (IsStepBy t) ss → live_by u ss ≡ live_by t ss
live_late t u ss w h = ap left_by (last_late t u ss w h)

-- and it is the last of all
pub last_is : (t : ℕ) (ss : List Step) → AllByRecursion (IsStepBy t) ss → last_by t ss ≡ last_of ss
last_is t [] h = refl
last_is t (s ∷ ss) h = let first = h.0 in rw (le-leb s.at t first, last_is t ss h.1) refl

-- it is one of them
pub last_moment_by : (t : ℕ) (ss : List Step) → AllByRecursion (IsStepBy t) ss → last_moment ss ≤ t
last_moment_by t [] h = omega arith
last_moment_by t (s ∷ ss) h = elim (cases_option (last_of ss)) [
  | inl none ↦ let first = h.0 in rw none first
  | inr one ↦ let rest = last_moment_by t ss h.1 in rw one.1 (rw one.1 at rest)
]

later_steps : (t u : ℕ) (ss : List Step) → t ≤ u → AllByRecursion (IsStepBy t) ss → AllByRecursion (IsStepBy u) ss
later_steps t u [] w h = tt
later_steps t u (s ∷ ss) w h = let first = h.0 in (omega (arith, first, w), later_steps t u ss w h.1)

-- ---- the facts earlier

-- a command changes no earlier facts
pub facts_earlier : (history : List Stamped) (at t : ℕ) (by : Entity) (key : Option (List ℕ)) (command : Command) → t < at → facts (history ++ (record { at = at; by = by; key = key; command = command }) ∷ []) t ≡ facts history t
unfolding facts
facts_earlier history at t by key command w =
    let none : nat_le at t ≡ false = grind (arith, nat_tests) in
    let same : up_to t (history ++ (record { at = at; by = by; key = key; command = command }) ∷ []) ≡ up_to t history = filter-append (λ (s : Stamped). nat_le s.at t) history ((record { at = at; by = by; key = key; command = command }) ∷ []) ∙ rw none (append-nil (up_to t history)) in
    ap (λ ss. facts_after 0 ss t the_facts.start) same

none_up_to : (c t : ℕ) (history : List Stamped) → AllByRecursion (IsFrom c) history → t < c → up_to t history ≡ []
none_up_to c t [] h w = refl
none_up_to c t (s ∷ ss) h w =
    let first = h.0 in
    let none : nat_le s.at t ≡ false = grind (arith, nat_tests, first, w) in
    rw none (none_up_to c t ss h.1 w)

-- what stood before a moment no command changes from that moment on
pub facts_before : (before after : List Stamped) (c t : ℕ) → AllByRecursion (IsFrom c) after → t < c → facts (before ++ after) t ≡ facts before t
unfolding facts
facts_before before after c t h w = ap (λ ss. facts_after 0 ss t the_facts.start) (filter-append (λ (s : Stamped). nat_le s.at t) before after ∙ (ap (λ ss. up_to t before ++ ss) (none_up_to c t after h w) ∙ append-nil (up_to t before)))

-- between two dates nothing changes
pub still : (history : List Stamped) (t v : ℕ) → AllByRecursion (IsBy t) history → t ≤ v → due t v (facts history t) ≡ None → live v (facts history v) ≡ live t (facts history t)
still history t v by later none = ap (λ (f : Lists). live v f) (none_comes t v history by later none) ∙ live_stays t v (facts history t) later none

pub none_within : (a b c : ℕ) (f : Lists) → due a b f ≡ None → c ≤ b → due a c f ≡ None
none_within a b c f none w = due_none_from a c f (λ x p q. due_none a b f none x p (omega (arith, q, w)))

pub none_before : (a d c : ℕ) (f : Lists) → due a d f ≡ Some d → c < d → due a c f ≡ None
none_before a d c f first w = let h = due_some a d d f first in due_none_from a c f (λ x p q. h.none_before x p (omega (arith, q, w)))

-- ---- a clock up to which no date comes

-- by the steps up to the clock, also later as long as no date comes
lived_on : (history : List Stamped) (t v g s : ℕ) → AllByRecursion (IsBy t) history → AreLived history t → t ≤ v → due t v (facts history t) ≡ None → member (live_by v (steps history t)) g s ≡ was_member history v g s
lived_on history t v g s by h later none =
    ap (λ (L : Live). member L g s) (live_late t v (steps history t) later h.by)
    ∙ (h.lived t g s (omega arith) ∙ ap (λ (L : Live). member L g s) (sym (still history t v by later none)))

-- and so are the facts
left_on : (history : List Stamped) (t v : ℕ) → AllByRecursion (IsBy t) history → AreLived history t → t ≤ v → due t v (facts history t) ≡ None → facts_by v (steps history t) ≡ facts history v
left_on history t v by h later none = ap facts_of (last_late t v (steps history t) later h.by) ∙ (h.left t (omega arith) ∙ sym (none_comes t v history by later none))

-- the facts after the last step are those at the clock
pub last_left : (history : List Stamped) (clock : ℕ) → AreLived history clock → last_facts (steps history clock) ≡ facts history clock
last_left history clock h = ap facts_of (sym (last_is clock (steps history clock) h.by)) ∙ h.left clock (omega arith)

pub lived_later : (history : List Stamped) (t u : ℕ) → AllByRecursion (IsBy t) history → AreLived history t → t ≤ u → due t u (facts history t) ≡ None → AreLived history u
lived_later history t u by h w none =
    let same = steps_none t u history by w none in
    record {
      by = rw same (later_steps t u (steps history t) w h.by);
      lived = λ v g s x. rw same (elim (cases_Bool (nat_le v t)) [
        | inl y ↦ h.lived v g s (grind (arith, nat_tests, y))
        | inr n ↦ lived_on history t v g s by h (grind (arith, nat_tests, n)) (none_within t u v (facts history t) none x)
      ]);
      left = λ v x. rw same (elim (cases_Bool (nat_le v t)) [
        | inl y ↦ h.left v (grind (arith, nat_tests, y))
        | inr n ↦ left_on history t v by h (grind (arith, nat_tests, n)) (none_within t u v (facts history t) none x)
      ]);
    }

-- ---- the next date

pub lived_next : (history : List Stamped) (t d : ℕ) → AllByRecursion (IsBy t) history → AreLived history t → due t d (facts history t) ≡ Some d → AreLived history d
lived_next history t d by h first =
    let more = steps_next t d d history by first in
    let later = (due_some t d d (facts history t) first).later in
    let step = date_step t d (facts history t) in
    record {
      by = rw more (all_push (IsStepBy d) (steps history t) step (later_steps t d (steps history t) (omega (arith, later)) h.by) (omega arith));
      lived = λ v g s x. rw (more, live_push v (steps history t) step) (elim (cases_Bool (nat_le d v)) [
        | inl y ↦
            let same : v ≡ d = grind (arith, nat_tests, y, x) in
            rw (y, same) (ap (λ (f : Lists). member (live d f) g s) (sym (next_comes t d d history by first)))
        | inr n ↦
            let less : v < d = grind (arith, nat_tests, n) in
            rw n (elim (cases_Bool (nat_le v t)) [
              | inl y ↦ h.lived v g s (grind (arith, nat_tests, y))
              | inr m ↦ lived_on history t v g s by h (grind (arith, nat_tests, m)) (none_before t d v (facts history t) first less)
            ])
      ]);
      left = λ v x. rw (more, facts_more v (steps history t) step) (elim (cases_Bool (nat_le d v)) [
        | inl y ↦
            let same : v ≡ d = grind (arith, nat_tests, y, x) in
            rw (y, same) (sym (next_comes t d d history by first))
        | inr n ↦
            let less : v < d = grind (arith, nat_tests, n) in
            rw n (elim (cases_Bool (nat_le v t)) [
              | inl y ↦ h.left v (grind (arith, nat_tests, y))
              | inr m ↦ left_on history t v by h (grind (arith, nat_tests, m)) (none_before t d v (facts history t) first less)
            ])
      ]);
    }

-- ---- a command more

pub lived_push : (history : List Stamped) (at : ℕ) (by : Entity) (key : Option (List ℕ)) (command : Command) → AllByRecursion (IsBy at) history → AreLived history at → AreLived (history ++ (record { at = at; by = by; key = key; command = command }) ∷ []) at
lived_push history at by key command are h =
    let more = steps_push at by key command history are in
    let step = command_step at by command (facts history at) in
    record {
      by = rw more (all_push (IsStepBy at) (steps history at) step h.by (omega arith));
      lived = λ v g s x. rw (more, live_push v (steps history at) step) (elim (cases_Bool (nat_le at v)) [
        | inl y ↦
            let same : v ≡ at = grind (arith, nat_tests, y, x) in
            rw (y, same) (ap (λ (f : Lists). member (live at f) g s) (sym (facts_push at by key command history are)))
        | inr n ↦
            let less : v < at = grind (arith, nat_tests, n) in
            rw n (h.lived v g s (omega (arith, less)) ∙ ap (λ (f : Lists). member (live v f) g s) (sym (facts_earlier history at v by key command less)))
      ]);
      left = λ v x. rw (more, facts_more v (steps history at) step) (elim (cases_Bool (nat_le at v)) [
        | inl y ↦
            let same : v ≡ at = grind (arith, nat_tests, y, x) in
            rw (y, same) (sym (facts_push at by key command history are))
        | inr n ↦
            let less : v < at = grind (arith, nat_tests, n) in
            rw n (h.left v (omega (arith, less)) ∙ sym (facts_earlier history at v by key command less))
      ]);
    }

-- ---- nothing yet

pub lived_start : AreLived [] 0
unfolding facts pass
lived_start = record {
  by = rw no_steps tt;
  lived = λ t g s w. rw no_steps refl;
  left = λ t w. rw no_steps refl;
}
