-- From message to message of a connection.
use Rattle.std.proofs.Common.{◌≡◌, ◌++◌, ◌∷◌, [], List, ℕ, Bool, Option, Some, None, true, false, refl, ap, sym, append_assoc, append-nil, option_map, Result, Ok, Err, ◌∙◌, inl, inr, ◌⊎◌, arith}
use Rattle.std.specs.Prelude.{IfSome, IfOk, IfErr}
use Rattle.std.specs.Io.KnownBytes.{append_known}
use Rattle.std.proofs.lemmas.List.{map-append}
use Rattle.reg_outside.specs.Streams.{first_moment, later_moments, WritesFront}
use Rattle.reg_terms.specs.declared.refusal.Refusal.{Refusal}
use Rattle.reg_terms.specs.declared.command.Stamped.{Stamped}
use Rattle.reg_machine.specs.History.{State}
use Rattle.reg_terms.specs.declared.request.Request.{Request}
use Rattle.reg_terms.specs.declared.reply.Reply.{Reply}
use Rattle.reg_terms.specs.declared.reply.Reply.TheVariants as reply
use Rattle.reg_keep.specs.declared.keeper.Keeper.{Ghosts}
use Rattle.reg_service.specs.Kept.{Halted, IsOneMore, KeptOn, KeepsNext}
use Rattle.reg_service.specs.Turn.{turn, Follows, last_reply}
use Rattle.reg_service.specs.Opening.{Served}
use Rattle.reg_service.specs.declared.service.Cause.{Cause}
use Rattle.reg_service.specs.declared.service.Next.{Next}
use Rattle.reg_service.specs.declared.service.Next.TheVariants as next
use Rattle.reg_session.specs.Replies.{IsShown}
use Rattle.reg_session.proofs.Answering.{turns_told}
use Rattle.reg_session.proofs.Halting.{one_more, turn_one}
use Rattle.reg_session.specs.Answered.{Point, AreNext, coming_after, Gives}
use Rattle.reg_http.specs.declared.call.Call.{Call}
use Rattle.reg_http.specs.declared.call.Turn.TheVariants as taken
use Rattle.reg_calls.specs.Asked.{asked_of, closes, closes_by}
use Rattle.reg_serve.specs.Answered.{Question, refuses, reads, question_of, MayReply, Answer, MayAnswer, calls_of, times_of, responses_of, Answered, Answers, Breaks, LeadsTo, StopsAt, goes, last_response, stops}
use Rattle.reg_serve.specs.Keeping.{TurnLeaves}
use Rattle.reg_calls.specs.Responses.{response_to}
use Rattle.reg_serve.specs.Sent.{SendsReply, SentFront, Finishes}
use Rattle.reg_calls.specs.declared.asked.Asked.{Asked}
use Rattle.reg_serve.specs.declared.ended.Ended.{Ended}
use Rattle.reg_serve.specs.declared.ended.Ended.TheVariants as ended

-- ---- what is shown of a reply may be given

shown_twice : (due told shown : Reply) → IsShown due told → IsShown told shown → IsShown due shown
shown_twice due told shown one (inl e) = rw e one
shown_twice due told shown (inl e) (inr f) = inr (f.0, rw e at f.1)
shown_twice due told shown (inr e) (inr f) = inr (f.0, e.1)

pub may_shown : (s after : State) (q : Question) (at : List ℕ) (due shown : Reply) → MayReply s q at due after → IsShown due shown → MayReply s q at shown after
may_shown s after (refuses r) at due shown m t = (m.0, m.1, shown_twice (reply.Refused r) due shown m.2 t)
may_shown s after (reads reading) at due shown m t = (m.0, m.1, turns_told s after m.0 reading due shown m.2 t)

-- ---- moments and bytes

next_more : (xs ys coming : List ℕ) → AreNext xs coming → AreNext ys (coming_after xs coming) → AreNext (xs ++ ys) coming
next_more [] ys coming one two = two
next_more (x ∷ xs) ys coming one two = (one.0, next_more xs ys (later_moments coming) one.1 two)

after_more : (xs ys coming : List ℕ) → coming_after (xs ++ ys) coming ≡ coming_after ys (coming_after xs coming)
after_more [] ys coming = refl
after_more (x ∷ xs) ys coming = after_more xs ys (later_moments coming)

pub gives_more : (o p q : Option (List ℕ)) (xs ys : List ℕ) → Gives o xs p → Gives p ys q → Gives o (xs ++ ys) q
gives_more None p q xs ys one two = (tt, rw one.1 at two.1)
gives_more (Some coming) p q xs ys one two = joined p one.1 two
  where
    joined : (p : Option (List ℕ)) → p ≡ Some (coming_after xs coming) → Gives p ys q → Gives (Some coming) (xs ++ ys) q
    joined None e t = absurd (cc)
    joined (Some c) e t =
        let same : c ≡ coming_after xs coming = cc in
        let next : AreNext ys (coming_after xs coming) = rw same at t.0 in
        let last : coming_after ys c ≡ coming_after (xs ++ ys) coming = ap (coming_after ys) same ∙ sym (after_more xs ys coming) in
        (next_more xs ys coming one.0 next, t.1 ∙ ap (λ (l : List ℕ). Some l) last)

pub gives_none : (o : Option (List ℕ)) → Gives o [] o
gives_none None = (tt, refl)
gives_none (Some coming) = (tt, refl)

pub gives_one : (o p : Option (List ℕ)) (m : ℕ) → IfSome o (λ coming. m ≡ first_moment coming) → p ≡ option_map later_moments o → Gives o (m ∷ []) p
gives_one None p m first later = (tt, later)
gives_one (Some coming) p m first later = ((first, tt), later)

pub append_none : (w : Option (List ℕ)) → w ≡ append_known w []
append_none None = refl
append_none (Some bytes) = ap Some (sym (append-nil bytes))

pub append_more : (w : Option (List ℕ)) (xs ys : List ℕ) → append_known (append_known w xs) ys ≡ append_known w (xs ++ ys)
append_more None xs ys = refl
append_more (Some bytes) xs ys = ap Some (append_assoc bytes xs ys)

-- a front of no bytes, and of all
pub front_none : (old new : Option (List ℕ)) (text : List ℕ) → new ≡ old → WritesFront old new text
front_none old new text e = (0, omega arith, e ∙ append_none old)

-- ---- messages

pub answered_none : (p : Point) → Answered p [] p
answered_none p = record { answers = []; asked_by = refl; given = refl; times = gives_none p.moments; text = append_none p.written }

pub may_more : (s mid last : State) (xs ys : List Answer) → MayAnswer s xs mid → MayAnswer mid ys last → MayAnswer s (xs ++ ys) last
may_more s mid last [] ys one two = rw (← one) two
may_more s mid last (x ∷ xs) ys one two = (one.0, one.1, may_more one.0 mid last xs ys one.2 two)

pub times_more : (xs ys : List Answer) → times_of (xs ++ ys) ≡ times_of xs ++ times_of ys
times_more [] ys = refl
times_more (x ∷ xs) ys = ap (λ (l : List ℕ). x.at ++ l) (times_more xs ys) ∙ sym (append_assoc x.at (times_of xs) (times_of ys))

pub responses_more : (xs ys : List Answer) → responses_of (xs ++ ys) ≡ responses_of xs ++ responses_of ys
responses_more [] ys = refl
responses_more (x ∷ xs) ys =
    ap (λ (l : List ℕ). response_to (asked_of x.call) (closes x.call) x.told ++ l) (responses_more xs ys) ∙ sym (append_assoc (response_to (asked_of x.call) (closes x.call) x.told) (responses_of xs) (responses_of ys))

abbrev pub answered_more : (p q r : Point) (xs ys : List Call) → Answered p xs q → Answered q ys r → Answered p (xs ++ ys) r
answered_more p q r xs ys a b = record {
  answers = a.answers ++ b.answers;
  asked_by = map-append (λ (x : Answer). x.call) a.answers b.answers ∙ both a.asked_by b.asked_by;
  given = may_more p.state q.state r.state a.answers b.answers a.given b.given;
  times = rw (times_more a.answers b.answers) (gives_more p.moments q.moments r.moments (times_of a.answers) (times_of b.answers) a.times b.times);
  text = b.text ∙ (ap (λ (w : Option (List ℕ)). append_known w (responses_of b.answers)) a.text ∙ (append_more p.written (responses_of a.answers) (responses_of b.answers) ∙ ap (append_known p.written) (sym (responses_more a.answers b.answers))));
}
  where
    both : {us vs : List Call} → calls_of a.answers ≡ us → calls_of b.answers ≡ vs → calls_of a.answers ++ calls_of b.answers ≡ us ++ vs
    both e f = rw (e, f) refl

pub answered_one : (w ms w2 ms2 : Option (List ℕ)) (s after : State) (call : Call) (at : List ℕ) (due shown : Reply) → Gives ms at ms2
    → MayReply s (question_of call) at due after → IsShown due shown → w2 ≡ append_known w (response_to (asked_of call) (closes call) shown)
    → Answered (record { written = w; moments = ms; state = s }) (call ∷ []) (record { written = w2; moments = ms2; state = after })
answered_one w ms w2 ms2 s after call at due shown gives may shows wrote = record {
  answers = (record { call = call; at = at; told = shown }) ∷ [];
  asked_by = refl;
  given = (after, may_shown s after (question_of call) at due shown may shows, refl);
  times = rw (append-nil at) gives;
  text = wrote ∙ ap (append_known w) (sym (append-nil (response_to (asked_of call) (closes call) shown)));
}

-- ---- what follows a message

pub answers_follows : {K : Type 0} (g : Ghosts K) (keeper : K) (old new : Option (List ℕ)) (s : State) (m : ℕ) (reading : Result Request Refusal) (r : Reply × Next K) → IfSome old (λ coming. m ≡ first_moment coming)
    → new ≡ option_map later_moments old → Follows s m reading r → KeepsNext g s.history (turn s m reading).1.history keeper r.1 → Answers g keeper old new s (reads reading) r
answers_follows g keeper old new s m reading (told, next.Go after) first later f kept = (m ∷ [], gives_one old new m first later, (m, refl, f), kept)
answers_follows g keeper old new s m reading (told, next.Stop why k) first later f kept = (f, (m ∷ [], gives_one old new m first later, ((turn s m reading).1.history, (m, refl, refl), kept)))

-- a message that is refused at once
pub answers_at_once : {K : Type 0} (g : Ghosts K) (o : Option (List ℕ)) (s : Served K) (r : Refusal) → KeptOn g s.state.history s.keeper s.state.history s.keeper → Answers g s.keeper o o s.state (refuses r) (reply.Refused r, next.Go s)
answers_at_once g o s r kept = ([], gives_none o, (refl, refl, inl refl), kept)

pub answers_go : {K : Type 0} (g : Ghosts K) (keeper : K) (old new : Option (List ℕ)) (s : State) (q : Question) (r : Reply × Next K) (after : Served K) → Answers g keeper old new s q r → r.1 ≡ next.Go after
    → (at : List ℕ) × Gives old at new × MayReply s q at r.0 after.state × KeptOn g s.history keeper after.state.history after.keeper
answers_go g keeper old new s q (told, following) after f e = rw e at f

pub answers_stop : {K : Type 0} (g : Ghosts K) (keeper : K) (old new : Option (List ℕ)) (s : State) (q : Question) (r : Reply × Next K) (why : Cause) (k : K) → Answers g keeper old new s q r → r.1 ≡ next.Stop why k
    → (r.0 ≡ last_reply why) × ((at : List ℕ) × Gives old at new × ((expected : List Stamped) × LeadsTo s q at expected × KeepsNext g s.history expected keeper (next.Stop why k)))
answers_stop g keeper old new s q (told, following) why k f e = rw e at f

-- a message leads to the history, or to one command more
pub leads_one : (s : State) (q : Question) (at : List ℕ) (expected : List Stamped) → LeadsTo s q at expected → IsOneMore s.history expected
leads_one s (refuses r) at expected t = inl t.1
leads_one s (reads reading) at expected t = rw t.2 (turn_one s t.0 reading)

closes_is : (call : Call) → closes_by (asked_of call) call ≡ closes call
unfolding closes
closes_is call = refl

-- bytes that are a response were sent, or a front of them
pub sends_bytes : {T : Type 0} (a : Asked) (close : Bool) (due shown : Reply) (old new : Option (List ℕ)) (r : Result T Ended) → IsShown due shown → IfOk r (λ done. new ≡ append_known old (response_to a close shown))
    → WritesFront old new (response_to a close shown) → IfErr r (λ e. e ≡ ended.Failed) → SendsReply a close due old new r
sends_bytes a close due shown old new (Ok done) t whole front failed = (shown, t, whole)
sends_bytes a close due shown old new (Err e) t whole front failed = rw failed (shown, t, front)

-- after a response the service goes on, or the connection closes, or the response wasn't sent whole
pub finish_open : {K T : Type 0} (a : Asked) (call : Call) (due : Reply) (old new : Option (List ℕ)) (s : Served K) (close : Bool) (done : T) → close ≡ closes_by a call → close ≡ false
    → SendsReply a close due old new (Ok done) → Finishes a call due old new s (Ok s)
finish_open a call due old new s close done is shut sent = (refl, sym is ∙ shut, rw shut at sent)

pub finish_closed : {K T : Type 0} (a : Asked) (call : Call) (due : Reply) (old new : Option (List ℕ)) (s : Served K) (close : Bool) (done : T) → close ≡ closes_by a call → close ≡ true
    → SendsReply a close due old new (Ok done) → Finishes a call due old new s (Err (ended.Closed, next.Go s))
finish_closed a call due old new s close done is shut sent = (refl, sym is ∙ shut, rw shut at sent)

pub finish_cut : {K : Type 0} (T : Type 0) (a : Asked) (call : Call) (due : Reply) (old new : Option (List ℕ)) (s : Served K) (close : Bool) (e : Ended) → close ≡ closes_by a call
    → SendsReply {T = T} a close due old new (Err e) → Finishes a call due old new s (Err (e, next.Go s))
finish_cut T a call due old new s close ended.Silent is sent = absurd sent
finish_cut T a call due old new s close ended.Closed is sent = absurd sent
finish_cut T a call due old new s close ended.Bad is sent = absurd sent
finish_cut T a call due old new s close ended.Failed is sent = (refl, rw is at sent)
finish_cut T a call due old new s close ended.TooMuch is sent = absurd sent
finish_cut T a call due old new s close ended.NoMemory is sent = (refl, sent.0, sent.1)
finish_cut T a call due old new s close ended.Stopped is sent = absurd sent

-- how a message ends that was answered
pub finishes_open : {K : Type 0} (w w2 : Option (List ℕ)) (s : Served K) (call : Call) (due : Reply) (r : Result (Served K) (Ended × Next K)) → Finishes (asked_of call) call due w w2 s r → IfOk r (λ after. closes call ≡ false)
unfolding closes
finishes_open w w2 s call due (Ok after) f = f.1
finishes_open w w2 s call due (Err e) f = tt

pub finishes_served : {K : Type 0} (w ms w2 ms2 : Option (List ℕ)) (p : State) (s : Served K) (call : Call) (at : List ℕ) (due : Reply) (r : Result (Served K) (Ended × Next K)) → Gives ms at ms2
    → MayReply p (question_of call) at due s.state → Finishes (asked_of call) call due w w2 s r
    → IfOk r (λ after. Answered (record { written = w; moments = ms; state = p }) (call ∷ []) (record { written = w2; moments = ms2; state = after.state }))
finishes_served w ms w2 ms2 p s call at due (Ok after) gives may f =
    let shut : closes call ≡ false = sym (closes_is call) ∙ f.1 in
    rw f.0 (answered_one w ms w2 ms2 p s.state call at due f.2.0 gives may f.2.1 (rw shut f.2.2))
finishes_served w ms w2 ms2 p s call at due (Err e) gives may f = tt

breaks : (w ms w2 ms2 : Option (List ℕ)) (p after : State) (call : Call) (at : List ℕ) (due : Reply) → Gives ms at ms2 → MayReply p (question_of call) at due after
    → SentFront (asked_of call) (closes_by (asked_of call) call) due w w2 → Breaks (record { written = w; moments = ms; state = p }) call w2 ms2 after
breaks w ms w2 ms2 p after call at due gives may f = record {
  at = at;
  told = f.0;
  times = gives;
  given = may_shown p after (question_of call) at due f.0 may f.1;
  front = rw (← closes_is call) f.2;
}

-- what is kept, where the service goes on
pub finishes_kept : {K : Type 0} (g : Ghosts K) (h : List Stamped) (k : K) (w w2 : Option (List ℕ)) (s : Served K) (a : Asked) (call : Call) (due : Reply) (r : Result (Served K) (Ended × Next K)) → KeptOn g h k s.state.history s.keeper
    → Finishes a call due w w2 s r → IfOk r (λ after. KeptOn g h k after.state.history after.keeper)
finishes_kept g h k w w2 s a call due (Ok after) kept f = rw f.0 kept
finishes_kept g h k w w2 s a call due (Err e) kept f = tt

-- and where the connection ends
pub finishes_ended : {K : Type 0} (g : Ghosts K) (k : K) (w ms w2 ms2 : Option (List ℕ)) (p : State) (s : Served K) (call : Call) (at : List ℕ) (due : Reply) (r : Result (Served K) (Ended × Next K)) → Gives ms at ms2
    → MayReply p (question_of call) at due s.state → KeptOn g p.history k s.state.history s.keeper → Finishes (asked_of call) call due w w2 s r
    → IfErr r (TurnLeaves g (record { written = w; moments = ms; state = p }) k (taken.Call call) w2 ms2)
unfolding breaks
finishes_ended g k w ms w2 ms2 p s call at due (Ok after) gives may kept f = tt
finishes_ended g k w ms w2 ms2 p s call at due (Err (ended.Closed, n)) gives may kept f =
    let shut : closes call ≡ true = sym (closes_is call) ∙ f.1 in
    rw f.0 (record { to = goes s.state; ends = (shut, answered_one w ms w2 ms2 p s.state call at due f.2.0 gives may f.2.1 (rw shut f.2.2)); leaves = (refl, kept) })
finishes_ended g k w ms w2 ms2 p s call at due (Err (ended.Failed, n)) gives may kept f = rw f.0 (record { to = goes s.state; ends = breaks w ms w2 ms2 p s.state call at due gives may f.1; leaves = (refl, kept) })
finishes_ended g k w ms w2 ms2 p s call at due (Err (ended.NoMemory, n)) gives may kept f =
    let none : SentFront (asked_of call) (closes_by (asked_of call) call) due w w2 = (due, inl refl, front_none w w2 (response_to (asked_of call) (closes_by (asked_of call) call) due) f.2) in
    rw f.0 (record { to = goes s.state; ends = (breaks w ms w2 ms2 p s.state call at due gives may none, f.1, f.2); leaves = (refl, kept) })
finishes_ended g k w ms w2 ms2 p s call at due (Err (ended.Silent, n)) gives may kept f = absurd f
finishes_ended g k w ms w2 ms2 p s call at due (Err (ended.Bad, n)) gives may kept f = absurd f
finishes_ended g k w ms w2 ms2 p s call at due (Err (ended.TooMuch, n)) gives may kept f = absurd f
finishes_ended g k w ms w2 ms2 p s call at due (Err (ended.Stopped, n)) gives may kept f = absurd f

-- how it ends where the service stopped
pub stop_leaves : {K : Type 0} (g : Ghosts K) (old k : K) (w ms w2 ms2 : Option (List ℕ)) (p : State) (call : Call) (at : List ℕ) (why : Cause) (expected : List Stamped) (e : Ended) → Gives ms at ms2
    → (e ≡ ended.Stopped → w2 ≡ append_known w (last_response (asked_of call) why)) → WritesFront w w2 (last_response (asked_of call) why) → (e ≡ ended.Stopped) ⊎ (e ≡ ended.Failed)
    → LeadsTo p (question_of call) at expected → (kept : KeepsNext g p.history expected old (next.Stop why k)) → (l : TurnLeaves g (record { written = w; moments = ms; state = p }) old (taken.Call call) w2 ms2 (e, next.Stop why k)) × (l.to ≡ stops why kept.0)
stop_leaves g old k w ms w2 ms2 p call at why expected e gives said front how leads kept = left how
  where
    one : IsOneMore p.history expected
    one = leads_one p (question_of call) at expected leads

    halted : Halted g p.history old k
    halted = record { answered = p.history; after = kept.0; first = omega arith; last = one_more why p.history expected kept.0 one kept.1; kept = kept.2; stopped = kept.3 }

    stopped : StopsAt (record { written = w; moments = ms; state = p }) call w2 ms2 why kept.0
    stopped = record { at = at; times = gives; front = front; expected = expected; leads = leads; began = kept.1 }

    left : (e ≡ ended.Stopped) ⊎ (e ≡ ended.Failed) → (l : TurnLeaves g (record { written = w; moments = ms; state = p }) old (taken.Call call) w2 ms2 (e, next.Stop why k)) × (l.to ≡ stops why kept.0)
    left (inl is) = rw is (record { to = stops why kept.0; ends = (stopped, said is); leaves = (refl, (halted, refl, refl), kept.4) }, refl)
    left (inr is) = rw is (record { to = stops why kept.0; ends = stopped; leaves = (refl, (halted, refl, refl), kept.4) }, refl)
