-- Replies without want of memory are one function of the messages and the moments.
use Rattle.std.proofs.Common.{◌≡◌, ◌≢◌, ◌++◌, ◌∷◌, [], List, ℕ, Option, Some, None, refl, ap, ◌∙◌, inl, inr}
use Rattle.std.specs.Prelude.{IfSome, All}
use Rattle.std.proofs.lemmas.List.Elements.{All-head, All-tail}
use Rattle.reg_terms.specs.declared.reply.Reply.{Reply}
use Rattle.reg_terms.specs.declared.reply.Reply.TheVariants as reply
use Rattle.reg_machine.specs.History.{State}
use Rattle.reg_service.specs.Turn.{turn, Turns}
use Rattle.reg_session.specs.Replies.{IsShown}
use Rattle.reg_session.specs.Answered.{Point, AreNext, Gives}
use Rattle.reg_http.specs.declared.call.Call.{Call}
use Rattle.reg_serve.specs.Answered.{Answer, Answered, Question, refuses, reads, question_of, MayReply, MayAnswer, calls_of, times_of}
use Rattle.reg_serve.specs.Exact.{replies_of, replied, coming_after, replies, last_state}

-- one reply
record IsReplied (s : State) (coming : List ℕ) (q : Question) (told : Reply) (after : State) (rest : List ℕ) : Type 0 where
  pub told_is : told ≡ (replied s coming q).0
  pub after_is : after ≡ (replied s coming q).1
  pub next : AreNext rest (coming_after coming q)

one_exact : (s after : State) (q : Question) (at : List ℕ) (told : Reply) (coming rest : List ℕ) → MayReply s q at told after → told ≢ reply.NoMemory → AreNext (at ++ rest) coming → IsReplied s coming q told after rest
one_exact s after (refuses r) at told coming rest m sure next = shown m.2
  where
    shown : IsShown (reply.Refused r) told → IsReplied s coming (refuses r) told after rest
    shown (inl e) = record { told_is = e; after_is = m.1; next = rw m.0 at next }
    shown (inr e) = absurd (sure e.0)
one_exact s after (reads reading) at told coming rest m sure next =
    let times : AreNext (m.0 ∷ rest) coming = rw m.1 at next in
    turned m.2 times
  where
    turned : Turns s m.0 reading told after → AreNext (m.0 ∷ rest) coming → IsReplied s coming (reads reading) told after rest
    turned (inl e) times = record {
      told_is = ap (λ (p : Reply × State). p.0) e ∙ ap (λ (t : ℕ). (turn s t reading).0) times.0;
      after_is = ap (λ (p : Reply × State). p.1) e ∙ ap (λ (t : ℕ). (turn s t reading).1) times.0;
      next = times.1;
    }
    turned (inr w) times = absurd (sure w.fault)

abbrev IsSure : Reply → Type 0
IsSure told = told ≢ reply.NoMemory

pub all_exact : (s : State) (coming : List ℕ) (given : List Answer) (last : State) → MayAnswer s given last → AreNext (times_of given) coming → All (λ told. told ≢ reply.NoMemory) (replies_of given)
    → (replies_of given ≡ replies s coming (calls_of given)) × (last ≡ last_state s coming (calls_of given))
all_exact s coming [] last given next sure = (refl, given)
all_exact s coming (a ∷ more) last given next sure =
    let one = one_exact s given.0 (question_of a.call) a.at a.told coming (times_of more) given.1 (All-head IsSure a.told (replies_of more) sure) next in
    let rest = all_exact given.0 (coming_after coming (question_of a.call)) more last given.2 one.next (All-tail IsSure a.told (replies_of more) sure) in
    (rw (one.told_is, rest.0, one.after_is) refl, rw one.after_is at rest.1)

pub answered_exact : (before after : Point) (calls : List Call) (a : Answered before calls after)
    → IfSome before.moments (λ coming. All (λ told. told ≢ reply.NoMemory) (replies_of a.answers) → (replies_of a.answers ≡ replies before.state coming calls) × (after.state ≡ last_state before.state coming calls))
answered_exact before after calls a = go before.moments a.times
  where
    go : (o : Option (List ℕ)) → Gives o (times_of a.answers) after.moments
        → IfSome o (λ coming. All (λ told. told ≢ reply.NoMemory) (replies_of a.answers) → (replies_of a.answers ≡ replies before.state coming calls) × (after.state ≡ last_state before.state coming calls))
    go None times = tt
    go (Some coming) times = λ sure. rw (← a.asked_by) (all_exact before.state coming a.answers after.state a.given times.0 sure)
