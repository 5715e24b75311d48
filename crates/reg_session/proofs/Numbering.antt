-- The new numbers that replies tell are the places of the commands that were accepted.
use Rattle.std.proofs.Common.{◌≡◌, ◌≤◌, ◌<◌, ◌+◌, ◌++◌, ◌∷◌, List, ℕ, suc, Bool, true, false, Option, Some, None, Result, Ok, Err, [], refl, ap, sym, ◌∙◌, subst, arith, inl, inr, length, length-append, drop, append-nil, append_assoc}
use Rattle.std.specs.Prelude.{IfSome, All, ◌≢◌, nat_lt, if◌then◌else◌}
use Rattle.std.proofs.lemmas.Bool.Decides.{nat_tests}
use Rattle.std.proofs.Math.Seq.{drop-append_seam}
use Rattle.reg_base.specs.declared.entity.Entity.{Entity}
use Rattle.reg_terms.specs.declared.command.Command.{Command}
use Rattle.reg_terms.specs.declared.command.Stamped.{Stamped}
use Rattle.reg_terms.specs.declared.refusal.Refusal.{Refusal}
use Rattle.reg_machine.specs.History.{State, facts}
use Rattle.reg_machine.specs.Ids.{made_id}
use Rattle.reg_machine.specs.Keys.{KeptCommand, is_keyed, kept_after, keyed, keyed_from, same_command}
use Rattle.reg_machine.specs.Loads.{load_outcome}
use Rattle.reg_machine.specs.Refusals.{refusal}
use Rattle.reg_view.specs.AtClock.{told}
use Rattle.reg_terms.specs.declared.query.Answer as terms
use Rattle.reg_terms.specs.declared.request.Request.{Request}
use Rattle.reg_terms.specs.declared.request.Op.{Op}
use Rattle.reg_terms.specs.declared.request.Op.TheVariants as op
use Rattle.reg_terms.specs.declared.refusal.Refusal.TheVariants.{NoCaller, OtherCommand}
use Rattle.reg_terms.specs.declared.reply.LoadCounts.{LoadCounts}
use Rattle.reg_terms.specs.declared.reply.Reply.{Reply}
use Rattle.reg_terms.specs.declared.reply.Reply.TheVariants as reply
use Rattle.reg_base.specs.Entities.{entity_of}
use Rattle.reg_service.specs.Turn.{turn, requested, decided, answered, answered_again, at_moment, load_ordered, loaded, Turns, ordered, ordered_again, ordered_by}
use Rattle.reg_session.specs.Lines.{readings}
use Rattle.reg_session.specs.Replies.{new_numbers, places}
use Rattle.reg_session.specs.Answered.{Answer, Point, MayAnswer, AreNext, Answered, Accepted, moments_of, replies_of, answers, last_state}
use Rattle.reg_session.proofs.Answering.{answers_exact}

-- ---- what is kept under a key

kept_within : (before ss : List Stamped) (by : Entity) (key : List ℕ) (kept : KeptCommand) → keyed_from before ss by key ≡ Some kept → kept.number ≤ length before + length ss
kept_within before [] by key kept e = absurd (cc)
kept_within before (s ∷ ss) by key kept e =
    elim (is_keyed by key s) as (λ (b : Bool). (if b then Some (kept_after before s) else keyed_from (before ++ s ∷ []) ss by key) ≡ Some kept → kept.number ≤ length before + length (s ∷ ss)) [
      | true ↦ λ is.
          let first : kept_after before s ≡ kept = cc in
          let number : suc (length before) ≡ kept.number = ap (λ (k : KeptCommand). k.number) first in
          omega (arith, number)
      | false ↦ λ is. omega (arith, kept_within (before ++ s ∷ []) ss by key kept is, length-append before (s ∷ []))
    ] e

-- it has a number of the history
pub keyed_within : (history : List Stamped) (by : Entity) (key : List ℕ) (kept : KeptCommand) → keyed history by key ≡ Some kept → kept.number ≤ length history
unfolding keyed
keyed_within history by key kept e = omega (arith, kept_within [] history by key kept e)

-- ---- what one reply tells

-- its number is new where it is greater than all there were
told_new : (n m : ℕ) (id : Option ℕ) (replies : List Reply) → n < m → new_numbers n (reply.Number m id ∷ replies) ≡ m ∷ new_numbers m replies
told_new n m id replies more = let is : nat_lt n m ≡ true = grind (arith, nat_tests) in rw is refl

told_again : (n m : ℕ) (id : Option ℕ) (replies : List Reply) → m ≤ n → new_numbers n (reply.Number m id ∷ replies) ≡ new_numbers n replies
told_again n m id replies few = let is : nat_lt n m ≡ false = grind (arith, nat_tests) in rw is refl

-- the new numbers of a reply are the places of what was appended
record NumbersAdded (s : State) (told : Reply) (after : State) : Type 0 where
  more : List Stamped
  grown : after.history ≡ s.history ++ more
  tells : (replies : List Reply) → new_numbers (length s.history) (told ∷ replies) ≡ places (length s.history) more ++ new_numbers (length after.history) replies

nothing : (s : State) (told : Reply) (after : State) → after.history ≡ s.history → ((replies : List Reply) → new_numbers (length s.history) (told ∷ replies) ≡ new_numbers (length s.history) replies) → NumbersAdded s told after
nothing s told after same none = record {
  more = [];
  grown = same ∙ sym (append-nil s.history);
  tells = λ replies. none replies ∙ ap (λ (h : List Stamped). new_numbers (length h) replies) (sym same);
}

one_more : (s : State) (one : Stamped) (told : Reply) (after : State) → after.history ≡ s.history ++ one ∷ []
    → ((replies : List Reply) → length s.history < length after.history → new_numbers (length s.history) (told ∷ replies) ≡ length after.history ∷ new_numbers (length after.history) replies) → NumbersAdded s told after
one_more s one told after grown tells =
    let count : length after.history ≡ length s.history + 1 = ap (λ (l : List Stamped). length l) grown ∙ length-append s.history (one ∷ []) in
    record {
      more = one ∷ [];
      grown = grown;
      tells = λ replies. tells replies (omega (arith, count)) ∙ ap (λ (n : ℕ). n ∷ new_numbers (length after.history) replies) count;
    }

decided_numbers : (s : State) (by : Entity) (key : Option (List ℕ)) (command : Command) (r : Option Refusal) → NumbersAdded s (decided s by key command r).0 (decided s by key command r).1
decided_numbers s by key command None =
    let done = decided s by key command None in
    one_more s (record { at = s.clock; by = by; key = key; command = command }) done.0 done.1 refl (λ replies more. told_new (length s.history) (length done.1.history) (made_id command (facts s.history s.clock)) replies more)
decided_numbers s by key command (Some r) = nothing s (reply.Refused r) s refl (λ replies. refl)

-- a command that was kept before tells no new number
again_numbers : (s : State) (kept : KeptCommand) (command : Command) → kept.number ≤ length s.history → NumbersAdded s (answered_again kept command) s
again_numbers s kept command within =
    elim (same_command kept.command command) as (λ (b : Bool). NumbersAdded s (if b then reply.Number kept.number kept.id else reply.Refused (OtherCommand kept.number)) s) [
      | true ↦ nothing s (reply.Number kept.number kept.id) s refl (λ replies. told_again (length s.history) kept.number kept.id replies within)
      | false ↦ nothing s (reply.Refused (OtherCommand kept.number)) s refl (λ replies. refl)
    ]

keyed_numbers : (s : State) (by : Entity) (key : List ℕ) (command : Command) (kept : Option KeptCommand) → keyed s.history by key ≡ kept → NumbersAdded s (ordered_again s by key command kept).0 (ordered_again s by key command kept).1
keyed_numbers s by key command None is = decided_numbers s by (Some key) command (refusal s.history s.clock by command)
keyed_numbers s by key command (Some kept) is = again_numbers s kept command (keyed_within s.history by key kept is)

known_numbers : (s : State) (by : Entity) (key : Option (List ℕ)) (command : Command) → NumbersAdded s (ordered_by s by key command).0 (ordered_by s by key command).1
known_numbers s by None command = decided_numbers s by None command (refusal s.history s.clock by command)
known_numbers s by (Some key) command = keyed_numbers s by key command (keyed s.history by key) refl

answered_numbers : (s : State) (r : Result terms.Answer Refusal) → NumbersAdded s (answered r) s
answered_numbers s (Ok a) = nothing s (reply.Answer a) s refl (λ replies. refl)
answered_numbers s (Err r) = nothing s (reply.Refused r) s refl (λ replies. refl)

ordered_numbers : (s : State) (by : Option Entity) (key : Option (List ℕ)) (command : Command) → NumbersAdded s (ordered s by key command).0 (ordered s by key command).1
ordered_numbers s None key command = nothing s (reply.Refused NoCaller) s refl (λ replies. refl)
ordered_numbers s (Some by) key command = known_numbers s by key command

loaded_numbers : (s : State) (by : Entity) (plan : Result (Command × LoadCounts) Refusal) → NumbersAdded s (loaded s by plan).0 (loaded s by plan).1
loaded_numbers s by (Ok plan) = let done = loaded s by (Ok plan) in one_more s (record { at = s.clock; by = by; key = None; command = plan.0 }) done.0 done.1 refl (λ replies more. refl)
loaded_numbers s by (Err r) = nothing s (reply.Refused r) s refl (λ replies. refl)

load_numbers : (s : State) (by : Option Entity) (job table : List ℕ) → NumbersAdded s (load_ordered s by job table).0 (load_ordered s by job table).1
load_numbers s None job table = nothing s (reply.Refused NoCaller) s refl (λ replies. refl)
load_numbers s (Some by) job table = loaded_numbers s by (load_outcome s.history s.clock by job table)

requested_numbers : (s : State) (by : List ℕ) (key : Option (List ℕ)) (asked : Op) → NumbersAdded s (requested s by key asked).0 (requested s by key asked).1
requested_numbers s by key (op.Command command) = ordered_numbers s (entity_of by) key command
requested_numbers s by key (op.Query query) = answered_numbers s (told s.history s.clock by query)
requested_numbers s by key (op.Load job table) = load_numbers s (entity_of by) job table

moved : (s : State) (m : ℕ) (told : Reply) (after : State) → NumbersAdded (at_moment s m) told after → NumbersAdded s told after
moved s m told after t = record { more = t.more; grown = t.grown; tells = t.tells }

turn_numbers : (s : State) (m : ℕ) (reading : Result Request Refusal) → NumbersAdded s (turn s m reading).0 (turn s m reading).1
turn_numbers s m (Ok request) = moved s m (turn s m (Ok request)).0 (turn s m (Ok request)).1 (requested_numbers (at_moment s m) request.by request.key request.op)
turn_numbers s m (Err r) = nothing s (reply.Refused r) (at_moment s m) refl (λ replies. refl)

turns_numbers : (s : State) (m : ℕ) (reading : Result Request Refusal) (told : Reply) (after : State) → Turns s m reading told after → NumbersAdded s told after
turns_numbers s m reading told after (inl e) = subst (λ (p : Reply × State). NumbersAdded s p.0 p.1) (sym e) (turn_numbers s m reading)
turns_numbers s m reading told after (inr w) = rw w.fault (nothing s reply.NoMemory after w.history (λ replies. refl))

-- ---- what all tell

places_append : (n : ℕ) (xs ys : List Stamped) → places n (xs ++ ys) ≡ places n xs ++ places (n + length xs) ys
places_append n [] ys = ap (λ (k : ℕ). places k ys) (omega arith)
places_append n (x ∷ xs) ys =
    ap (λ (l : List ℕ). (n + 1) ∷ l) (places_append (n + 1) xs ys ∙ ap (λ (k : ℕ). places (n + 1) xs ++ places k ys) (omega arith))

pub record Numbered (s : State) (replies : List Reply) (last : State) : Type 0 where
  pub more : List Stamped
  pub grown : last.history ≡ s.history ++ more
  pub tells : new_numbers (length s.history) replies ≡ places (length s.history) more

after_one : (s after last : State) (told : Reply) (replies : List Reply) → NumbersAdded s told after → Numbered after replies last → Numbered s (told ∷ replies) last
after_one s after last told replies t n =
    let count : length after.history ≡ length s.history + length t.more = ap (λ (l : List Stamped). length l) t.grown ∙ length-append s.history t.more in
    record {
      more = t.more ++ n.more;
      grown = n.grown ∙ (ap (λ (l : List Stamped). l ++ n.more) t.grown ∙ append_assoc s.history t.more n.more);
      tells = t.tells replies ∙ (ap (λ (l : List ℕ). places (length s.history) t.more ++ l) (n.tells ∙ ap (λ (k : ℕ). places k n.more) count) ∙ sym (places_append (length s.history) t.more n.more));
    }

pub numbered : (s : State) (given : List Answer) (last : State) → MayAnswer s given last → Numbered s (replies_of given) last
numbered s [] last is = record { more = []; grown = ap (λ (t : State). t.history) is ∙ sym (append-nil s.history); tells = refl }
numbered s (a ∷ given) last is = after_one s is.0 last a.told (replies_of given) (turns_numbers s a.at a.reading a.told is.0 is.1) (numbered is.0 given last is.2)

-- so they are of what was accepted
number_places : (s : State) (given : List Answer) (last : State) (more : List Stamped) → MayAnswer s given last
    → last.history ≡ s.history ++ more → new_numbers (length s.history) (replies_of given) ≡ places (length s.history) more
number_places s given last more is grown =
    let n = numbered s given last is in
    let same : n.more ≡ more = sym (drop-append_seam s.history n.more) ∙ (ap (λ (l : List Stamped). drop (length s.history) l) (sym n.grown ∙ grown) ∙ drop-append_seam s.history more) in
    n.tells ∙ ap (λ (l : List Stamped). places (length s.history) l) same

-- what lines that were answered accepted
pub accepted_of : (p q : Point) (ls : List (List ℕ)) (more : List Stamped) → Answered p ls q → q.state.history ≡ p.state.history ++ more → Accepted p ls q more
accepted_of p q ls more all grown = record {
  all = all;
  grown = grown;
  numbered = number_places p.state all.answers q.state more all.given grown;
  exact = exact p.moments all.times.0;
}
  where
    exact : (o : Option (List ℕ)) → IfSome o (AreNext (moments_of all.answers)) → IfSome o (λ coming. All (λ (told : Reply). told ≢ reply.NoMemory) (replies_of all.answers)
        → (replies_of all.answers ≡ answers p.state coming (readings ls)) × (q.state ≡ last_state p.state coming (readings ls)))
    exact None times = tt
    exact (Some coming) times = λ sure. rw all.asked at (answers_exact p.state coming all.answers q.state all.given times sure)

-- the commands that lines accepted
abbrev pub accepted_in : (p q : Point) (ls : List (List ℕ)) → Answered p ls q → List Stamped
accepted_in p q ls all = (numbered p.state all.answers q.state all.given).more

pub accepted_all : (p q : Point) (ls : List (List ℕ)) (all : Answered p ls q) → Accepted p ls q (accepted_in p q ls all)
accepted_all p q ls all = accepted_of p q ls (accepted_in p q ls all) all (numbered p.state all.answers q.state all.given).grown
