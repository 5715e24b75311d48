-- The same bytes, however they were cut, have the same responses.
use Rattle.std.proofs.Common.{◌≡◌, ◌≢◌, ◌++◌, ◌∷◌, [], List, ℕ, Option, Some, None, true, false, refl, ap, sym, subst, ◌∙◌, inl, inr, ◌⊎◌}
use Rattle.std.specs.Prelude.{IfSome, All}
use Rattle.std.specs.Io.KnownBytes.{append_known}
use Rattle.std.proofs.lemmas.List.{map-append}
use Rattle.std.proofs.lemmas.List.Elements.{All-head, All-tail, All-append}
use Rattle.httparse.specs.Grammar.{EndsInTarget}
use Rattle.reg_http.specs.Messages.{window, IsMessage, HasFault, IsUnfinished}
use Rattle.reg_http.specs.Runs.{AreMessages}
use Rattle.reg_http.specs.declared.call.Call.{Call}
use Rattle.reg_http.specs.declared.call.HeadFault.{HeadFault}
use Rattle.reg_terms.specs.declared.reply.Reply.{Reply}
use Rattle.reg_terms.specs.declared.reply.Reply.TheVariants as reply
use Rattle.reg_session.specs.Answered.{Point, Gives}
use Rattle.reg_session.specs.Replies.{IsShown}
use Rattle.reg_calls.specs.Asked.{closes}
use Rattle.reg_calls.specs.Faults.{refusal_of}
use Rattle.reg_calls.specs.Responses.{fault_response}
use Rattle.reg_serve.specs.Answered.{Answer, Answered, Outcome, calls_of, goes, responses_of, stops, times_of}
use Rattle.reg_serve.specs.Exact.{replies, replies_of}
use Rattle.reg_serve.specs.Sessions.{EndsAtMessage, EndsBetween, IsQuiet}
use Rattle.reg_serve.specs.Whole.{AreSure, IsSureAtLast, Whole}
use Rattle.reg_serve.specs.declared.ended.Ended.{Ended}
use Rattle.reg_serve.specs.declared.ended.Ended.TheVariants as ended
use Rattle.reg_serve.proofs.Answering.{answered_more}
use Rattle.reg_serve.proofs.Exactly.{all_exact}

-- ---- the same replies are the same responses

responses_same : (xs ys : List Answer) → calls_of xs ≡ calls_of ys → replies_of xs ≡ replies_of ys → responses_of xs ≡ responses_of ys
responses_same [] [] calls told = refl
responses_same [] (y ∷ ys) calls told = absurd (cc)
responses_same (x ∷ xs) [] calls told = absurd (cc)
responses_same (x ∷ xs) (y ∷ ys) calls told =
    let asked : x.call ≡ y.call = cc in
    let said : x.told ≡ y.told = cc in
    let more_asked : calls_of xs ≡ calls_of ys = cc in
    let more_said : replies_of xs ≡ replies_of ys = cc in
    rw (asked, said, responses_same xs ys more_asked more_said) refl

abbrev IsSureOf : {p q : Point} {calls : List Call} → Answered p calls q → Type 0
IsSureOf a = AreSure (replies_of a.answers)

said_of : (p q : Point) (calls : List Call) (coming : List ℕ) (a : Answered p calls q) → p.moments ≡ Some coming → IsSureOf a → replies_of a.answers ≡ replies p.state coming calls
said_of p q calls coming a is sure = rw (← a.asked_by) (go p.moments is a.times)
  where
    go : (o : Option (List ℕ)) → o ≡ Some coming → Gives o (times_of a.answers) q.moments → replies_of a.answers ≡ replies p.state coming (calls_of a.answers)
    go None e t = absurd (cc)
    go (Some c) e t =
        let same : c ≡ coming = cc in
        (all_exact p.state coming a.answers q.state a.given (rw same at t.0) sure).0

same_written : (p q r : Point) (calls : List Call) (coming : List ℕ) (a : Answered p calls q) (b : Answered p calls r) → p.moments ≡ Some coming → IsSureOf a → IsSureOf b → q.written ≡ r.written
same_written p q r calls coming a b is one two =
    let said : replies_of a.answers ≡ replies_of b.answers = said_of p q calls coming a is one ∙ sym (said_of p r calls coming b is two) in
    let asked : calls_of a.answers ≡ calls_of b.answers = a.asked_by ∙ sym b.asked_by in
    a.text ∙ (ap (append_known p.written) (responses_same a.answers b.answers asked said) ∙ sym b.text)

-- ---- how a connection ends at what is left of its bytes

data EndsAt (p : Point) (rest : List ℕ) (w : Option (List ℕ)) : Type 0 where
  closes_at : (call : Call) (later : List ℕ) (after : Point) → IsMessage rest call later → closes call ≡ true → (a : Answered p (call ∷ []) after) → IsSureOf a → after.written ≡ w → EndsAt p rest w
  refuses_at : (fault : HeadFault) → HasFault rest fault → w ≡ append_known p.written (fault_response (reply.Refused (refusal_of fault))) → EndsAt p rest w
  runs_out : IsUnfinished rest → w ≡ p.written → EndsAt p rest w

shown_due : (due shown : Reply) → IsShown due shown → shown ≢ reply.NoMemory → shown ≡ due
shown_due due shown (inl e) sure = e
shown_due due shown (inr e) sure = absurd (sure e.0)

ends_at : (p : Point) (rest taken : List ℕ) (now w ms : Option (List ℕ)) (e : Ended) (to : Outcome) (ends : EndsAtMessage p rest w ms e to ⊎ (IsQuiet p w ms to × EndsBetween taken now rest e)) → (e ≡ ended.Silent) ⊎ ((e ≡ ended.Closed) ⊎ (e ≡ ended.Bad))
    → IsSureAtLast p rest taken now w ms e to ends → EndsAt p rest w
ends_at p rest taken now w ms ended.Silent (goes s) (inl (inl m)) whole sure = absurd m.3
ends_at p rest taken now w ms ended.Silent (goes s) (inl (inr f)) whole sure = absurd f.2
ends_at p rest taken now w ms ended.Silent (goes s) (inr q) whole sure = runs_out q.1.1 q.0.0
ends_at p rest taken now w ms ended.Silent (stops why after) (inl (inl m)) whole sure = absurd m.3
ends_at p rest taken now w ms ended.Silent (stops why after) (inl (inr f)) whole sure = absurd f.2
ends_at p rest taken now w ms ended.Silent (stops why after) (inr q) whole sure = absurd q.0
ends_at p rest taken now w ms ended.Closed (goes s) (inl (inl m)) whole sure = closes_at m.0 m.1 (record { written = w; moments = ms; state = s }) m.2 m.3.0 m.3.1 sure refl
ends_at p rest taken now w ms ended.Closed (goes s) (inl (inr f)) whole sure = absurd f.2
ends_at p rest taken now w ms ended.Closed (goes s) (inr q) whole sure = absurd q.1
ends_at p rest taken now w ms ended.Closed (stops why after) (inl (inl m)) whole sure = absurd m.3
ends_at p rest taken now w ms ended.Closed (stops why after) (inl (inr f)) whole sure = absurd f.2
ends_at p rest taken now w ms ended.Closed (stops why after) (inr q) whole sure = absurd q.0
ends_at p rest taken now w ms ended.Bad (goes s) (inl (inl m)) whole sure = absurd m.3
ends_at p rest taken now w ms ended.Bad (goes s) (inl (inr f)) whole sure =
    refuses_at f.0 f.1 (f.2.1.2 ∙ ap (λ (r : Reply). append_known p.written (fault_response r)) (shown_due (reply.Refused (refusal_of f.0)) f.2.1.0 f.2.1.1 sure))
ends_at p rest taken now w ms ended.Bad (goes s) (inr q) whole sure = absurd q.1
ends_at p rest taken now w ms ended.Bad (stops why after) (inl (inl m)) whole sure = absurd m.3
ends_at p rest taken now w ms ended.Bad (stops why after) (inl (inr f)) whole sure = absurd f.2.0
ends_at p rest taken now w ms ended.Bad (stops why after) (inr q) whole sure = absurd q.0
ends_at p rest taken now w ms ended.Failed to ends (inl e) sure = absurd (cc)
ends_at p rest taken now w ms ended.Failed to ends (inr (inl e)) sure = absurd (cc)
ends_at p rest taken now w ms ended.Failed to ends (inr (inr e)) sure = absurd (cc)
ends_at p rest taken now w ms ended.TooMuch to ends (inl e) sure = absurd (cc)
ends_at p rest taken now w ms ended.TooMuch to ends (inr (inl e)) sure = absurd (cc)
ends_at p rest taken now w ms ended.TooMuch to ends (inr (inr e)) sure = absurd (cc)
ends_at p rest taken now w ms ended.NoMemory to ends (inl e) sure = absurd (cc)
ends_at p rest taken now w ms ended.NoMemory to ends (inr (inl e)) sure = absurd (cc)
ends_at p rest taken now w ms ended.NoMemory to ends (inr (inr e)) sure = absurd (cc)
ends_at p rest taken now w ms ended.Stopped to ends (inl e) sure = absurd (cc)
ends_at p rest taken now w ms ended.Stopped to ends (inr (inl e)) sure = absurd (cc)
ends_at p rest taken now w ms ended.Stopped to ends (inr (inr e)) sure = absurd (cc)

-- ---- the same messages

-- what bytes begin with, of the crate that reads them
pub record ReadLaws : Type 0 where
  pub one_message : (bytes : List ℕ) (call other : Call) (later left : List ℕ) → IsMessage bytes call later → IsMessage bytes other left → (call ≡ other) × (later ≡ left)
  pub no_more : (bytes : List ℕ) (call : Call) (later : List ℕ) → IsMessage bytes call later → IsUnfinished bytes → ⊥
  pub no_fault : (bytes : List ℕ) (call : Call) (later : List ℕ) (fault : HeadFault) → IsMessage bytes call later → HasFault bytes fault → ⊥
  pub open_point : (bytes : List ℕ) (fault : HeadFault) → IsUnfinished bytes → HasFault bytes fault → EndsInTarget (window bytes)
  pub one_fault : (bytes : List ℕ) (fault other : HeadFault) → HasFault bytes fault → HasFault bytes other → (fault ≡ other) ⊎ EndsInTarget (window bytes)

-- no message that leaves the connection open stands there
abbrev NoneOpen : List ℕ → Type 0
NoneOpen rest = (call : Call) (later : List ℕ) → IsMessage rest call later → closes call ≡ false → ⊥

none_open : (laws : ReadLaws) (p : Point) (rest : List ℕ) (w : Option (List ℕ)) → EndsAt p rest w → NoneOpen rest
none_open laws p rest w (closes_at call later after m shut a sure wrote) other left n still =
    let same : call ≡ other = (laws.one_message rest call other later left m n).0 in
    let open_too : closes call ≡ false = ap closes same ∙ still in
    absurd (cc)
none_open laws p rest w (refuses_at fault f wrote) other left n still = laws.no_fault rest other left fault n f
none_open laws p rest w (runs_out u wrote) other left n still = laws.no_more rest other left n u

abbrev IsOpen : Call → Type 0
IsOpen call = closes call ≡ false

same_calls : (laws : ReadLaws) (bytes : List ℕ) (xs ys : List Call) (one two : List ℕ) → AreMessages bytes xs one → AreMessages bytes ys two → All IsOpen xs → All IsOpen ys → NoneOpen one → NoneOpen two → (xs ≡ ys) × (one ≡ two)
same_calls laws bytes [] [] one two a b xo yo ends_one ends_two = (refl, sym a ∙ b)
same_calls laws bytes [] (y ∷ ys) one two a b xo yo ends_one ends_two = absurd (ends_one y b.0 (rw a at b.1) (All-head IsOpen y ys yo))
same_calls laws bytes (x ∷ xs) [] one two a b xo yo ends_one ends_two = absurd (ends_two x a.0 (rw b at a.1) (All-head IsOpen x xs xo))
same_calls laws bytes (x ∷ xs) (y ∷ ys) one two a b xo yo ends_one ends_two =
    let both = laws.one_message bytes x y a.0 b.0 a.1 b.1 in
    let rest = same_calls laws a.0 xs ys one two a.2 (rw (← both.1) at b.2) (All-tail IsOpen x xs xo) (All-tail IsOpen y ys yo) ends_one ends_two in
    (rw (both.0, rest.0) refl, rest.1)

-- ---- the same bytes

more_sure : {p q r : Point} {xs ys : List Call} (a : Answered p xs q) (b : Answered q ys r) → IsSureOf a → IsSureOf b → IsSureOf (answered_more p q r xs ys a b)
more_sure a b one two = rw (map-append (λ (x : Answer). x.told) a.answers b.answers) (All-append (λ told. told ≢ reply.NoMemory) (replies_of a.answers) (replies_of b.answers) one two)

same_end : (laws : ReadLaws) (before p q : Point) (calls : List Call) (coming rest : List ℕ) (v w : Option (List ℕ)) (a : Answered before calls p) (b : Answered before calls q) → before.moments ≡ Some coming → IsSureOf a → IsSureOf b
    → EndsAt p rest v → EndsAt q rest w → (v ≡ w) ⊎ EndsInTarget (window rest)
same_end laws before p q calls coming rest v w a b is one two (closes_at call later after m shut c sure wrote) (closes_at other left then n closed d certain put) =
    let same : other ≡ call = (laws.one_message rest other call left later n m).0 in
    let last : (e : Answered q (call ∷ []) then) × IsSureOf e = subst (λ (x : Call). (e : Answered q (x ∷ []) then) × IsSureOf e) same (d, certain) in
    inl (sym wrote ∙ (same_written before after then (calls ++ call ∷ []) coming (answered_more before p after calls (call ∷ []) a c) (answered_more before q then calls (call ∷ []) b last.0) is (more_sure a c one sure) (more_sure b last.0 two last.1) ∙ put))
same_end laws before p q calls coming rest v w a b is one two (closes_at call later after m shut c sure wrote) (refuses_at fault f put) = absurd (laws.no_fault rest call later fault m f)
same_end laws before p q calls coming rest v w a b is one two (closes_at call later after m shut c sure wrote) (runs_out u put) = absurd (laws.no_more rest call later m u)
same_end laws before p q calls coming rest v w a b is one two (refuses_at fault f wrote) (closes_at other left then n closed d certain put) = absurd (laws.no_fault rest other left fault n f)
same_end laws before p q calls coming rest v w a b is one two (refuses_at fault f wrote) (refuses_at other h put) = faults (laws.one_fault rest fault other f h)
  where
    faults : (fault ≡ other) ⊎ EndsInTarget (window rest) → (v ≡ w) ⊎ EndsInTarget (window rest)
    faults (inl e) =
        let so_far : p.written ≡ q.written = same_written before p q calls coming a b is one two in
        inl (wrote ∙ (rw (e, so_far) refl ∙ sym put))
    faults (inr t) = inr t
same_end laws before p q calls coming rest v w a b is one two (refuses_at fault f wrote) (runs_out u put) = inr (laws.open_point rest fault u f)
same_end laws before p q calls coming rest v w a b is one two (runs_out u wrote) (closes_at other left then n closed d certain put) = absurd (laws.no_more rest other left n u)
same_end laws before p q calls coming rest v w a b is one two (runs_out u wrote) (refuses_at fault f put) = inr (laws.open_point rest fault u f)
same_end laws before p q calls coming rest v w a b is one two (runs_out u wrote) (runs_out t put) = inl (wrote ∙ (same_written before p q calls coming a b is one two ∙ sym put))

-- two sessions over the same bytes, from the same point
pub same_responses : (laws : ReadLaws) (before : Point) (taken : List ℕ) (v w : Option (List ℕ)) (one : Whole before taken v) → Whole before taken w
    → IfSome before.moments (λ (coming : List ℕ). (v ≡ w) ⊎ EndsInTarget (window one.session.reading.rest))
same_responses laws before taken v w one two = go before.moments refl
  where
    first : EndsAt one.session.last one.session.reading.rest v
    first = ends_at one.session.last one.session.reading.rest one.session.taken one.now v one.moments one.end one.to one.session.ends one.whole one.sure_last

    second : EndsAt two.session.last two.session.reading.rest w
    second = ends_at two.session.last two.session.reading.rest two.session.taken two.now w two.moments two.end two.to two.session.ends two.whole two.sure_last

    both : (one.session.calls ≡ two.session.calls) × (one.session.reading.rest ≡ two.session.reading.rest)
    both = same_calls laws taken one.session.calls two.session.calls one.session.reading.rest two.session.reading.rest (rw one.bytes at one.session.given.messages) (rw two.bytes at two.session.given.messages)
        one.session.open_still two.session.open_still (none_open laws one.session.last one.session.reading.rest v first) (none_open laws two.session.last two.session.reading.rest w second)

    go : (o : Option (List ℕ)) → before.moments ≡ o → IfSome o (λ (coming : List ℕ). (v ≡ w) ⊎ EndsInTarget (window one.session.reading.rest))
    go None e = tt
    go (Some coming) e =
        let again : (b : Answered before one.session.calls two.session.last) × IsSureOf b = subst (λ (xs : List Call). (b : Answered before xs two.session.last) × IsSureOf b) (sym both.0) (two.session.all, two.sure) in
        same_end laws before one.session.last two.session.last one.session.calls coming one.session.reading.rest v w one.session.all again.0 e one.sure again.1 first (rw both.1 second)
