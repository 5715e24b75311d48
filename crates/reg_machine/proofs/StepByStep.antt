-- The steps of a history as the clock comes to the next date, as it comes later, and after one command more.
use Rattle.std.proofs.Common.{◌≡◌, ◌≤◌, ◌*◌, ℕ, zero, suc, List, Option, [], ◌∷◌, ◌++◌, length, map, Some, None, arith, refl, sym, ◌∙◌, ap, inl, inr}
use Rattle.std.proofs.lemmas.List.{append_assoc, append-nil}
use Rattle.std.specs.List.{AllByRecursion}
use Rattle.reg_base.specs.declared.entity.Entity.{Entity}
use Rattle.reg_terms.specs.declared.command.Stamped.{Stamped}
use Rattle.reg_terms.specs.declared.command.Command.{Command}
use Rattle.reg_facts.specs.Lists as the_facts
use Rattle.reg_facts.specs.Lists.{Lists}
use Rattle.reg_facts.proofs.Places.{cases_option}
use Rattle.reg_effect.specs.declared.live.Live.{Live}
use Rattle.reg_effect.specs.Deltas.{ended}
use Rattle.reg_rules.specs.Settling.{settle, settling}
use Rattle.reg_audit.specs.Steps.{Step}
use Rattle.reg_current.specs.Dates.{at_date, date_events, date_passed, due, most_dates, pass}
use Rattle.reg_machine.specs.History.{acted, facts, facts_after}
use Rattle.reg_machine.specs.Invariant.{IsBy}
use Rattle.reg_current.specs.Live.{live}
use Rattle.reg_machine.specs.Past.{date_step, command_step, dates_passed_in, dates_passed, steps_after, steps}
use Rattle.reg_current.proofs.Due.{due_some, due_up_to, due_from, due_nowhere}
use Rattle.reg_machine.proofs.Moments.{all_up_to, by_later, by_more, facts_of}
use Rattle.reg_current.proofs.Passing.{by_dates, date_passed_falls, date_passed_from, dates_in, dates_most, live_stays, pass_none, pass_some}

-- ---- as many dates as are due, and from there on no more

pub passed_in_none : (n a b : ℕ) (f : Lists) → due a b f ≡ None → dates_passed_in n a b f ≡ []
passed_in_none zero a b f e = refl
passed_in_none (suc n) a b f e = rw (e, dates_passed_in)

pub passed_in_some : (n a b d : ℕ) (f : Lists) → due a b f ≡ Some d → dates_passed_in (suc n) a b f ≡ date_step a d f ∷ dates_passed_in n d b (date_passed a d f)
passed_in_some n a b d f e = rw (e, dates_passed_in)

enough_dates : (n m a b : ℕ) (f : Lists) → dates_in a b f ≤ n → dates_in a b f ≤ m → dates_passed_in n a b f ≡ dates_passed_in m a b f
enough_dates zero m a b f p q = elim (cases_option (due a b f)) [
  | inl none ↦ sym (passed_in_none m a b f none)
  | inr one ↦ absurd (omega (arith, date_passed_falls a b one.0 f one.1))
]
enough_dates (suc n) zero a b f p q = elim (cases_option (due a b f)) [
  | inl none ↦ passed_in_none (suc n) a b f none
  | inr one ↦ absurd (omega (arith, date_passed_falls a b one.0 f one.1))
]
enough_dates (suc n) (suc m) a b f p q = elim (cases_option (due a b f)) [
  | inl none ↦ passed_in_none (suc n) a b f none ∙ sym (passed_in_none (suc m) a b f none)
  | inr one ↦
      let d = one.0 in
      let less = date_passed_falls a b d f one.1 in
      passed_in_some n a b d f one.1 ∙ (ap (λ rest. date_step a d f ∷ rest) (enough_dates n m d b (date_passed a d f) (omega arith) (omega arith)) ∙ sym (passed_in_some m a b d f one.1))
]

passed_none : (a b : ℕ) (f : Lists) → due a b f ≡ None → dates_passed a b f ≡ []
unfolding dates_passed
passed_none a b f e = passed_in_none (most_dates f) a b f e

passed_some : (a b d : ℕ) (f : Lists) → due a b f ≡ Some d → dates_passed a b f ≡ date_step a d f ∷ dates_passed d b (date_passed a d f)
unfolding dates_passed
passed_some a b d f e =
    let n = most_dates f in
    let most = dates_most a b f in
    let less = date_passed_falls a b d f e in
    let m = most_dates (date_passed a d f) in
    let more = dates_most d b (date_passed a d f) in
    enough_dates n (suc n) a b f (omega arith) (omega arith) ∙ (passed_in_some n a b d f e ∙ ap (λ rest. date_step a d f ∷ rest) (enough_dates n m d b (date_passed a d f) (omega arith) more))

-- ---- from one moment to another, and on

-- the step that a date is, by the live data before it
abbrev step_from : Live → ℕ → Lists → Step
step_from L d f = record {
  at = d;
  before = f;
  events = date_events d f;
  actions = settling (ended L (live d (at_date d f))) d (at_date d f);
  after = settle (ended L (live d (at_date d f))) d (at_date d f);
  live = L;
  live_after = live d (settle (ended L (live d (at_date d f))) d (at_date d f));
}

-- a date is the same step from a moment up to which none is due
same_step : (a b d : ℕ) (f : Lists) → a ≤ b → due a b f ≡ None → date_step b d f ≡ date_step a d f
same_step a b d f w none =
    ap (λ (L : Live). step_from L d f) (live_stays a b f w none)

passed_from : (a b c : ℕ) (f : Lists) → a ≤ b → due a b f ≡ None → dates_passed b c f ≡ dates_passed a c f
passed_from a b c f w none = elim (cases_option (due a c f)) [
  | inl all ↦ passed_none b c f (due_from a b c f none w ∙ all) ∙ sym (passed_none a c f all)
  | inr one ↦
      let d = one.0 in
      passed_some b c d f (due_from a b c f none w ∙ one.1)
      ∙ (ap (λ step. step ∷ dates_passed d c (date_passed b d f)) (same_step a b d f w none)
      ∙ (ap (λ (g : Lists). date_step a d f ∷ dates_passed d c g) (date_passed_from a b d f w none)
      ∙ sym (passed_some a c d f one.1)))
]

passed_then : (a b c : ℕ) (f : Lists) → a ≤ b → b ≤ c → dates_passed a c f ≡ dates_passed a b f ++ dates_passed b c (pass a b f)
passed_then a b c f p q = by_dates b (λ x g. x ≤ b → dates_passed x c g ≡ dates_passed x b g ++ dates_passed b c (pass x b g)) rest first a f p
  where
    rest : (x : ℕ) (g : Lists) → due x b g ≡ None → x ≤ b → dates_passed x c g ≡ dates_passed x b g ++ dates_passed b c (pass x b g)
    rest x g none w = sym (passed_from x b c g w none) ∙ (ap (dates_passed b c) (sym (pass_none x b g none)) ∙ ap (λ front. front ++ dates_passed b c (pass x b g)) (sym (passed_none x b g none)))

    first : (x d : ℕ) (g : Lists) → due x b g ≡ Some d → (d ≤ b → dates_passed d c (date_passed x d g) ≡ dates_passed d b (date_passed x d g) ++ dates_passed b c (pass d b (date_passed x d g))) → x ≤ b → dates_passed x c g ≡ dates_passed x b g ++ dates_passed b c (pass x b g)
    first x d g e onward w =
        let v = (due_some x b d g e).within in
        passed_some x c d g (due_up_to x b c d g e (omega arith))
        ∙ (ap (λ more. date_step x d g ∷ more) (onward v)
        ∙ (ap (λ front. front ++ dates_passed b c (pass d b (date_passed x d g))) (sym (passed_some x b d g e))
        ∙ ap (λ (h : Lists). dates_passed x b g ++ dates_passed b c h) (sym (pass_some x b d g e))))

-- ---- the steps of a history

pub steps_of : (t : ℕ) (history : List Stamped) → AllByRecursion (IsBy t) history → steps history t ≡ steps_after 0 history t the_facts.start
unfolding steps
steps_of t history h = ap (λ ss. steps_after 0 ss t the_facts.start) (all_up_to t history h)

after_later : (a t u : ℕ) (ss : List Stamped) (f : Lists) → a ≤ t → t ≤ u → AllByRecursion (IsBy t) ss → steps_after a ss u f ≡ steps_after a ss t f ++ dates_passed t u (facts_after a ss t f)
after_later a t u [] f p q h = passed_then a t u f p q
after_later a t u (s ∷ ss) f p q h =
    let front = dates_passed a s.at f in
    let mid = command_step s.at s.by s.command (pass a s.at f) in
    let next = acted s.at s.by s.command (pass a s.at f) in
    ap (λ rest. front ++ (mid ∷ rest)) (after_later s.at t u ss next h.0 q h.1)
    ∙ sym (append_assoc front (mid ∷ steps_after s.at ss t next) (dates_passed t u (facts_after s.at ss t next)))

-- the dates that come later stand behind
pub steps_later : (t u : ℕ) (history : List Stamped) → AllByRecursion (IsBy t) history → t ≤ u → steps history u ≡ steps history t ++ dates_passed t u (facts history t)
steps_later t u history h w =
    steps_of u history (by_later t u history w h) ∙ (after_later 0 t u history the_facts.start (omega arith) w h
    ∙ (ap (λ front. front ++ dates_passed t u (facts_after 0 history t the_facts.start)) (sym (steps_of t history h)) ∙ ap (λ (f : Lists). steps history t ++ dates_passed t u f) (sym (facts_of t history h))))

-- up to a moment up to which none is due there are no more
pub steps_none : (t u : ℕ) (history : List Stamped) → AllByRecursion (IsBy t) history → t ≤ u → due t u (facts history t) ≡ None → steps history u ≡ steps history t
steps_none t u history h w e = steps_later t u history h w ∙ (ap (λ more. steps history t ++ more) (passed_none t u (facts history t) e) ∙ append-nil (steps history t))

-- the next date is one more
pub steps_next : (t u d : ℕ) (history : List Stamped) → AllByRecursion (IsBy t) history → due t u (facts history t) ≡ Some d → steps history d ≡ steps history t ++ date_step t d (facts history t) ∷ []
steps_next t u d history h e =
    let l = (due_some t u d (facts history t) e).later in
    let here = passed_some t d d (facts history t) (due_up_to t u d d (facts history t) e (omega arith)) in
    let none = passed_none d d (date_passed t d (facts history t)) (due_nowhere d (date_passed t d (facts history t))) in
    steps_later t d history h (omega arith) ∙ ap (λ more. steps history t ++ more) (here ∙ ap (λ rest. date_step t d (facts history t) ∷ rest) none)

after_push : (a at : ℕ) (by : Entity) (key : Option (List ℕ)) (command : Command) (ss : List Stamped) (f : Lists) → steps_after a (ss ++ (record { at = at; by = by; key = key; command = command }) ∷ []) at f ≡ steps_after a ss at f ++ command_step at by command (facts_after a ss at f) ∷ []
after_push a at by key command [] f =
    let next = acted at by command (pass a at f) in
    ap (λ rest. dates_passed a at f ++ (command_step at by command (pass a at f) ∷ rest)) (passed_none at at next (due_nowhere at next))
after_push a at by key command (s ∷ ss) f =
    let front = dates_passed a s.at f in
    let mid = command_step s.at s.by s.command (pass a s.at f) in
    let next = acted s.at s.by s.command (pass a s.at f) in
    ap (λ rest. front ++ (mid ∷ rest)) (after_push s.at at by key command ss next)
    ∙ sym (append_assoc front (mid ∷ steps_after s.at ss at next) (command_step at by command (facts_after s.at ss at next) ∷ []))

-- and so is a command
pub steps_push : (at : ℕ) (by : Entity) (key : Option (List ℕ)) (command : Command) (history : List Stamped) → AllByRecursion (IsBy at) history → steps (history ++ (record { at = at; by = by; key = key; command = command }) ∷ []) at ≡ steps history at ++ command_step at by command (facts history at) ∷ []
steps_push at by key command history h =
    steps_of at (history ++ (record { at = at; by = by; key = key; command = command }) ∷ []) (by_more at by key command history h)
    ∙ (after_push 0 at by key command history the_facts.start
    ∙ (ap (λ front. front ++ command_step at by command (facts_after 0 history at the_facts.start) ∷ []) (sym (steps_of at history h)) ∙ ap (λ (f : Lists). steps history at ++ command_step at by command f ∷ []) (sym (facts_of at history h))))

-- nothing has happened yet
pub no_steps : steps [] 0 ≡ []
unfolding steps dates_passed
no_steps = refl
