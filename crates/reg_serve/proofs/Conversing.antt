-- The turns of a connection, from the first on.
use Rattle.std.proofs.Common.{◌≡◌, ◌==◌, ◌++◌, ◌∷◌, [], List, ℕ, Option, Some, None, Bool, true, false, cond, refl, ap, ◌∙◌, append_assoc, append-nil, inl, inr, ◌⊎◌, rules}
use Rattle.std.specs.Prelude.{IfSome}
use Rattle.std.proofs.lemmas.List.{map-append}
use Rattle.reg_outside.specs.Connections.{Connections, next_turn}
use Rattle.reg_machine.specs.History.{State}
use Rattle.reg_serve.specs.Answered.{Answer, Outcome, calls_of, goes, responses_of, stops}
use Rattle.reg_session.specs.Answered.{Point}
use Rattle.reg_serve.specs.Joined.{Adds, Continues, IsUnused, Joined, answers_to, came_of, came_with, join_known}
use Rattle.reg_serve.specs.Sessions.{EndsAtMessage, EndsBetween, IsQuiet}
use Rattle.reg_serve.specs.Visits.{HadTurn, IsVisit, Sessions, Visit, Visited}
use Rattle.reg_serve.specs.declared.ended.Ended.{Ended}
use Rattle.reg_serve.specs.declared.ended.Ended.TheVariants as ended
use Rattle.reg_serve.proofs.Answering.{responses_more}
use Rattle.reg_serve.proofs.Joining.{MoreLaw, continues, joined_after, joined_other}

-- where no more bytes came, nothing is written behind the responses
quiet_written : (p : Point) (rest taken : List ℕ) (now w ms : Option (List ℕ)) (to : Outcome) → EndsAtMessage p rest w ms ended.Silent to ⊎ (IsQuiet p w ms to × EndsBetween taken now rest ended.Silent) → w ≡ p.written
quiet_written p rest taken now w ms (goes s) (inl (inl m)) = absurd m.3
quiet_written p rest taken now w ms (goes s) (inl (inr f)) = absurd f.2
quiet_written p rest taken now w ms (goes s) (inr q) = q.0.0
quiet_written p rest taken now w ms (stops why after) (inl (inl m)) = absurd m.3
quiet_written p rest taken now w ms (stops why after) (inl (inr f)) = absurd f.2
quiet_written p rest taken now w ms (stops why after) (inr q) = absurd q.0

-- what a turn adds
adds : (s : State) (ms : Option (List ℕ)) (v : Visit) (e : Ended) (to : Outcome) (later : Option (List ℕ)) (is : IsVisit s ms v e to later) → Adds v (calls_of is.session.all.answers) (responses_of is.session.all.answers)
adds s ms v e to later is = go v.unfinished is.open_still
  where
    answers : List Answer
    answers = is.session.all.answers

    go : (left : Option (List ℕ)) → IfSome left (λ bytes. (e ≡ ended.Silent) × (is.session.reading.rest ≡ bytes)) → Adds (record v { unfinished = left }) (calls_of answers) (responses_of answers)
    go None open_still = record { messages = tt; written = tt }
    go (Some bytes) open_still = record {
      messages = (is.session.taken, is.session.input, rw (← open_still.1, is.session.all.asked_by) is.session.given.messages);
      written = quiet_written is.session.last is.session.reading.rest is.session.taken v.back.left v.back.written later to (rw open_still.0 at is.session.ends) ∙ is.session.all.text;
    }

-- ---- known bytes, one behind the other

none_more : (a : Option (List ℕ)) → join_known a (Some []) ≡ a
none_more None = refl
none_more (Some bytes) = ap Some (append-nil bytes)

none_before : (a : Option (List ℕ)) → join_known (Some []) a ≡ a
none_before None = refl
none_before (Some bytes) = refl

join_join : (a b c : Option (List ℕ)) → join_known (join_known a b) c ≡ join_known a (join_known b c)
join_join None b c = refl
join_join (Some x) None c = refl
join_join (Some x) (Some y) None = refl
join_join (Some x) (Some y) (Some z) = ap Some (append_assoc x y z)

-- ---- from turn to turn

abbrev IsJoined : Connections → ℕ → Option (List ℕ) → List Answer → Type 0
IsJoined told number came answers = Joined told number came (calls_of answers) (responses_of answers)

more_answers : (told : Connections) (number : ℕ) (came : Option (List ℕ)) (xs ys : List Answer) → Joined told number came (calls_of xs ++ calls_of ys) (responses_of xs ++ responses_of ys) → IsJoined told number came (xs ++ ys)
more_answers told number came xs ys j = rw (map-append (λ (a : Answer). a.call) xs ys, responses_more xs ys) j

equal_numbers : (m n : ℕ) → (m == n) ≡ true → m ≡ n
equal_numbers m n is = search rules

one_turn : (law : MoreLaw) (number : ℕ) (old new : Connections) (v : Visit) (s : State) (ms : Option (List ℕ)) (e : Ended) (to : Outcome) (later : Option (List ℕ)) (came : Option (List ℕ)) (answers : List Answer) → IsJoined old number came answers → HadTurn v old new
    → (is : IsVisit s ms v e to later) → (b : Bool) → (v.number == number) ≡ b
    → IsJoined new number (join_known came (cond b (came_with (next_turn old.given_back old.coming)) (Some []))) (answers ++ cond b is.session.all.answers [])
one_turn law number old new v s ms e to later came answers j had is true same =
    more_answers new number (join_known came (came_with (next_turn old.given_back old.coming))) answers is.session.all.answers
    (rw (← equal_numbers v.number number same) (joined_after law v old new came (calls_of answers) (calls_of is.session.all.answers) (responses_of answers) (responses_of is.session.all.answers) (rw (← equal_numbers v.number number same) at j) had (adds s ms v e to later is)))
one_turn law number old new v s ms e to later came answers j had is false other = rw (none_more came, append-nil answers) (joined_other v old new number came (calls_of answers) (responses_of answers) other j had)

walk : (law : MoreLaw) (number : ℕ) (old new : Connections) (visits : List Visit) (s last : State) (ms later : Option (List ℕ)) (came : Option (List ℕ)) (answers : List Answer) → IsJoined old number came answers → (had : Visited old new visits)
    → (all : Sessions s ms visits last later) → IsJoined new number (join_known came (came_of number old new visits had)) (answers ++ answers_to number s ms visits last later all)
walk law number old new [] s last ms later came answers j had all = rw (had, none_more came, append-nil answers) j
walk law number old new (v ∷ visits) s last ms later came answers j had all =
    let one = one_turn law number old had.0 v s ms all.0 (goes all.1) all.2 came answers j had.1 all.3 (v.number == number) refl in
    rw (
      ← join_join came (cond (v.number == number) (came_with (next_turn old.given_back old.coming)) (Some [])) (came_of number had.0 new visits had.2),
      ← append_assoc answers (cond (v.number == number) all.3.session.all.answers []) (answers_to number all.1 all.2 visits last later all.4),
    )
    (walk law number had.0 new visits all.1 last all.2 later (join_known came (cond (v.number == number) (came_with (next_turn old.given_back old.coming)) (Some []))) (answers ++ cond (v.number == number) all.3.session.all.answers []) one had.2 all.4)

-- before the first
unused : (told : Connections) (number : ℕ) → IsUnused told → IsJoined told number (Some []) []
unused told number u = record {
  blank = u.blank;
  fresh = λ few. (refl, refl, refl, rw u.none refl);
  open_still = rw u.none tt;
}

pub joined_turns : (law : MoreLaw) (number : ℕ) (old new : Connections) (visits : List Visit) (s last : State) (ms later : Option (List ℕ)) → IsUnused old → (had : Visited old new visits) → (all : Sessions s ms visits last later)
    → Joined new number (came_of number old new visits had) (calls_of (answers_to number s ms visits last later all)) (responses_of (answers_to number s ms visits last later all))
joined_turns law number old new visits s last ms later u had all =
    rw (← none_before (came_of number old new visits had)) (walk law number old new visits s last ms later (Some []) [] (unused old number u) had all)

pub turn_continues : (law : MoreLaw) (old mid new : Connections) (earlier : List Visit) (v : Visit) (s last : State) (ms later : Option (List ℕ)) → IsUnused old → (had : Visited old mid earlier) → (all : Sessions s ms earlier last later) → HadTurn v mid new
    → Continues v (join_known (came_of v.number old mid earlier had) (came_with (next_turn mid.given_back mid.coming))) (calls_of (answers_to v.number s ms earlier last later all)) (responses_of (answers_to v.number s ms earlier last later all))
turn_continues law old mid new earlier v s last ms later u had all turn =
    continues law v mid new (came_of v.number old mid earlier had) (calls_of (answers_to v.number s ms earlier last later all)) (responses_of (answers_to v.number s ms earlier last later all))
    (joined_turns law v.number old mid earlier s last ms later u had all) turn
