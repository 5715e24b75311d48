-- The records up to a moment give the history up to it.
use Rattle.std.proofs.Common.{◌≡◌, ◌≤◌, ◌<◌, ◌++◌, ◌∷◌, [], List, ℕ, Bool, Option, Some, None, Result, Ok, Err, true, false, refl, ap, sym, ◌∙◌, arith, subst, append_assoc, append-nil, cond}
use Rattle.std.specs.Prelude.{nat_le, nat_lt, not, ◌||◌, if◌then◌else◌}
use Rattle.std.specs.List.{take_while}
use Rattle.std.proofs.lemmas.Bool.Decides.{nat_tests}
use Rattle.std.proofs.lemmas.List.Elements.{filter-append}
use Rattle.std.proofs.lemmas.List.Sums.{take_while-cons}
use Rattle.reg_terms.specs.declared.command.Stamped.{Stamped}
use Rattle.reg_terms.specs.declared.refusal.Refusal.{Refusal}
use Rattle.reg_machine.specs.History.{State, appended, start, up_to}
use Rattle.reg_machine.specs.Keys.{is_free}
use Rattle.reg_machine.specs.Refusals.{refusal}
use Rattle.reg_wire.specs.Payload.{stamped_of}
use Rattle.reg_service.specs.Opening.{accepted, after_stamped, after_payload, or_place, and_then, judged}
use Rattle.reg_service.proofs.Opens.{Records}
use Rattle.reg_asof.specs.Then.{acts_by, is_by, state_at}

-- a payload was taken: its command is at the end of the history, at the clock, which didn't fall
record IsTaken (s : State) (bytes : List ℕ) (t : State) : Type 0 where
  pub one : Stamped
  pub read : stamped_of bytes ≡ Some one
  pub later : s.clock ≤ one.at
  pub grown : t.history ≡ s.history ++ one ∷ []
  pub clock : t.clock ≡ one.at

accepted_taken : (s t : State) (bytes : List ℕ) (one : Stamped) (r : Option Refusal) → stamped_of bytes ≡ Some one → s.clock ≤ one.at → accepted s one r ≡ Some t → IsTaken s bytes t
accepted_taken s t bytes one (Some r) read later e = absurd (cc)
accepted_taken s t bytes one None read later e =
    let is : appended (record { history = s.history; clock = one.at }) one.by one.key one.command ≡ t = cc in
    subst (λ (x : State). IsTaken s bytes x) is (record { one = one; read = read; later = later; grown = refl; clock = refl })

in_time_taken : (s t : State) (bytes : List ℕ) (one : Stamped) (early had : Bool) → nat_lt one.at s.clock ≡ early → stamped_of bytes ≡ Some one
    → (if early || had then None else accepted s one (refusal s.history one.at one.by one.command)) ≡ Some t → IsTaken s bytes t
in_time_taken s t bytes one true had is read e = absurd (cc)
in_time_taken s t bytes one false true is read e = absurd (cc)
in_time_taken s t bytes one false false is read e =
    let later : s.clock ≤ one.at = grind (arith, nat_tests) in
    accepted_taken s t bytes one (refusal s.history one.at one.by one.command) read later e

stamped_taken : (s t : State) (bytes : List ℕ) (found : Option Stamped) → stamped_of bytes ≡ found → after_stamped s found ≡ Some t → IsTaken s bytes t
stamped_taken s t bytes None is e = absurd (cc)
stamped_taken s t bytes (Some one) is e = in_time_taken s t bytes one (nat_lt one.at s.clock) (not (is_free s.history one.by one.key)) refl is e

payload_taken : (s t : State) (bytes : List ℕ) → after_payload s bytes ≡ Some t → IsTaken s bytes t
unfolding after_payload
payload_taken s t bytes e = stamped_taken s t bytes (stamped_of bytes) refl e

-- records that are judged have a first that was taken
record IsFirst (s : State) (r : ℕ × List ℕ) (rs : Records) (t : State) : Type 0 where
  pub after : State
  pub made : after_payload s r.1 ≡ Some after
  pub taken : IsTaken s r.1 after
  pub rest : judged after rs ≡ Ok t

first_of : (s t : State) (r : ℕ × List ℕ) (rs : Records) (o : Option State) → after_payload s r.1 ≡ o → and_then (or_place r.0 o) (λ a. judged a rs) ≡ Ok t → IsFirst s r rs t
first_of s t r rs None is e = absurd (cc)
first_of s t r rs (Some a) is e = record { after = a; made = is; taken = payload_taken s a r.1 is; rest = e }

first_judged : (s t : State) (r : ℕ × List ℕ) (rs : Records) → judged s (r ∷ rs) ≡ Ok t → IsFirst s r rs t
first_judged s t r rs e = first_of s t r rs (after_payload s r.1) refl e

-- a command up to the moment, and one past it
up_to_more : (t : ℕ) (history : List Stamped) (one : Stamped) → nat_le one.at t ≡ true → up_to t history ≡ history → up_to t (history ++ one ∷ []) ≡ history ++ one ∷ []
up_to_more t history one by all = filter-append (λ (s : Stamped). nat_le s.at t) history (one ∷ []) ∙ (rw (all, by) refl)

up_to_past : (t : ℕ) (history : List Stamped) (one : Stamped) → nat_le one.at t ≡ false → up_to t (history ++ one ∷ []) ≡ up_to t history
up_to_past t history one past = filter-append (λ (s : Stamped). nat_le s.at t) history (one ∷ []) ∙ (rw past (append-nil (up_to t history)))

-- whether a record is by the moment says it of its command
acts_is : (t : ℕ) (bytes : List ℕ) (one : Stamped) (b : Bool) → stamped_of bytes ≡ Some one → acts_by t (stamped_of bytes) ≡ b → nat_le one.at t ≡ b
acts_is t bytes one b read is = rw read at is

by_is : (m t : ℕ) → nat_le m t ≡ true → m ≤ t
by_is m t e = grind (arith, nat_tests)

past_is : (m t : ℕ) → nat_le m t ≡ false → t < m
past_is m t e = grind (arith, nat_tests)

past_not : (m t : ℕ) → t < m → nat_le m t ≡ false
past_not m t e = grind (arith, nat_tests)

-- once the clock is past the moment, nothing more comes up to it
pub none_more : (t : ℕ) (s z : State) (records : Records) → t < s.clock → judged s records ≡ Ok z → up_to t z.history ≡ up_to t s.history
none_more t s z [] past e = let is : s ≡ z = cc in rw is refl
none_more t s z (r ∷ rs) past e =
    let first = first_judged s z r rs e in
    let one = first.taken in
    let rest = none_more t first.after z rs (omega (arith, past, one.later, one.clock)) first.rest in
    rest ∙ (rw one.grown (up_to_past t s.history one.one (past_not one.one.at t (omega (arith, past, one.later)))))

abbrev pub front : ℕ → Records → Records
front t records = take_while (is_by t) records

front_is : (t : ℕ) (r : ℕ × List ℕ) (rs : Records) (b : Bool) → is_by t r ≡ b → front t (r ∷ rs) ≡ cond b (r ∷ front t rs) []
front_is t r rs b e = take_while-cons (is_by t) r rs ∙ ap (λ (x : Bool). cond x (r ∷ front t rs) []) e

-- one record more of those up to the moment
pub front_more : (t : ℕ) (all so_far records rest more : Records) (r : ℕ × List ℕ) → front t all ≡ so_far ++ front t records → records ≡ r ∷ rest → is_by t r ≡ true → more ≡ so_far ++ r ∷ [] → front t all ≡ more ++ front t rest
front_more t all so_far records rest more r is cut by grown =
    let next : front t records ≡ r ∷ front t rest = ap (front t) cut ∙ front_is t r rest true by in
    is ∙ (ap (λ (l : Records). so_far ++ l) next ∙ (sym (append_assoc so_far (r ∷ []) (front t rest)) ∙ ap (λ (l : Records). l ++ front t rest) (sym grown)))

-- the clock after the records up to a moment isn't past it
pub clock_by : (t : ℕ) (s m : State) (records : Records) → s.clock ≤ t → judged s (front t records) ≡ Ok m → m.clock ≤ t
clock_by t s m [] by e = let is : s ≡ m = cc in rw is at by
clock_by t s m (r ∷ rs) by e =
    elim (is_by t r) as (λ b. is_by t r ≡ b → m.clock ≤ t) [
      | true ↦ λ is.
          let first = first_judged s m r (front t rs) (rw (front_is t r rs true is) at e) in
          let one = first.taken in
          clock_by t first.after m rs (omega (arith, one.clock, by_is one.one.at t (acts_is t r.1 one.one true one.read is))) first.rest
      | false ↦ λ is.
          let at_once : judged s [] ≡ Ok m = rw (front_is t r rs false is) at e in
          let same : s ≡ m = cc in
          rw same at by
    ] refl

same_after : (s a b : State) (bytes : List ℕ) → after_payload s bytes ≡ Some a → after_payload s bytes ≡ Some b → b ≡ a
same_after s a b bytes e f = cc

-- and the history is what the whole history has up to the moment
front_up_to : (t : ℕ) (s m z : State) (records : Records) → s.clock ≤ t → up_to t s.history ≡ s.history → judged s (front t records) ≡ Ok m → judged s records ≡ Ok z → m.history ≡ up_to t z.history
front_up_to t s m z [] by all e f = let one : s ≡ m = cc in let two : s ≡ z = cc in rw (← one, ← two) (sym all)
front_up_to t s m z (r ∷ rs) by all e f =
    elim (is_by t r) as (λ b. is_by t r ≡ b → m.history ≡ up_to t z.history) [
      | true ↦ λ is.
          let first = first_judged s m r (front t rs) (rw (front_is t r rs true is) at e) in
          let one = first.taken in
          let other = first_judged s z r rs f in
          let early = acts_is t r.1 one.one true one.read is in
          let same : other.after ≡ first.after = same_after s first.after other.after r.1 first.made other.made in
          let rest : judged first.after rs ≡ Ok z = subst (λ (x : State). judged x rs ≡ Ok z) same other.rest in
          let kept : up_to t first.after.history ≡ first.after.history = ap (up_to t) one.grown ∙ (up_to_more t s.history one.one early all ∙ sym one.grown) in
          front_up_to t first.after m z rs (omega (arith, one.clock, by_is one.one.at t early)) kept first.rest rest
      | false ↦ λ is.
          let at_once : judged s [] ≡ Ok m = rw (front_is t r rs false is) at e in
          let same : s ≡ m = cc in
          let first = first_judged s z r rs f in
          let one = first.taken in
          let late = acts_is t r.1 one.one false one.read is in
          let rest = none_more t first.after z rs (omega (arith, past_is one.one.at t late, one.clock)) first.rest in
          sym (rest ∙ (ap (up_to t) one.grown ∙ (up_to_past t s.history one.one late ∙ (all ∙ ap (λ (x : State). x.history) same))))
    ] refl

damaged_after : (r : ℕ × List ℕ) (place : ℕ) (o : Option State) (f g : State → Result State ℕ) → ((a : State) → f a ≡ Err place → g a ≡ Err place) → and_then (or_place r.0 o) f ≡ Err place → and_then (or_place r.0 o) g ≡ Err place
damaged_after r place None f g h e = e
damaged_after r place (Some a) f g h e = h a e

-- damage up to the moment is damage of the whole
pub front_damaged : (t : ℕ) (s : State) (place : ℕ) (records : Records) → judged s (front t records) ≡ Err place → judged s records ≡ Err place
front_damaged t s place [] e = e
front_damaged t s place (r ∷ rs) e =
    elim (is_by t r) as (λ b. is_by t r ≡ b → judged s (r ∷ rs) ≡ Err place) [
      | true ↦ λ is.
          let first : judged s (r ∷ front t rs) ≡ Err place = rw (front_is t r rs true is) at e in
          damaged_after r place (after_payload s r.1) (λ a. judged a (front t rs)) (λ a. judged a rs) (λ a. front_damaged t a place rs) first
      | false ↦ λ is.
          let at_once : judged s [] ≡ Err place = rw (front_is t r rs false is) at e in
          absurd (cc)
    ] refl

-- the registry after the records up to a moment, moved there, is the whole one's as it was then
pub replayed : (t : ℕ) (m s : State) (records : Records) → judged start (front t records) ≡ Ok m → judged start records ≡ Ok s → record { history = m.history; clock = t } ≡ state_at s.history t
replayed t m s records e f = ap (λ (h : List Stamped). record { history = h; clock = t }) (front_up_to t start m s records (omega arith) refl e f)
