-- From line to line of a session.
use Rattle.std.proofs.Common.{◌≡◌, ◌≢◌, ◌++◌, ◌∷◌, [], List, ℕ, Option, Some, None, true, false, refl, ap, sym, append_assoc, append-nil, option_map, Result, Ok, Err, ◌∙◌, inl, inr}
use Rattle.std.specs.Prelude.{IfSome, All}
use Rattle.std.specs.Io.KnownBytes.{append_known}
use Rattle.std.proofs.lemmas.List.{map-append}
use Rattle.std.proofs.lemmas.List.Elements.{All-head, All-tail}
use Rattle.reg_outside.specs.Streams.{first_moment, later_moments}
use Rattle.reg_terms.specs.declared.refusal.Refusal.{Refusal}
use Rattle.reg_base.specs.declared.entity.Entity.{Entity}
use Rattle.reg_terms.specs.declared.command.Command.{Command}
use Rattle.reg_machine.specs.History.{State}
use Rattle.reg_machine.specs.Keys.{KeptCommand, keyed}
use Rattle.reg_machine.specs.Loads.{load_outcome}
use Rattle.reg_machine.specs.Refusals.{refusal}
use Rattle.reg_terms.specs.declared.request.Request.{Request}
use Rattle.reg_terms.specs.declared.request.Op.{Op}
use Rattle.reg_terms.specs.declared.request.Op.TheVariants as op
use Rattle.reg_terms.specs.declared.reply.LoadCounts.{LoadCounts}
use Rattle.reg_terms.specs.declared.reply.Reply.{Reply}
use Rattle.reg_terms.specs.declared.reply.Reply.TheVariants as reply
use Rattle.reg_json.specs.Reading.{reading_of}
use Rattle.reg_base.specs.Entities.{entity_of}
use Rattle.reg_service.specs.Turn.{at_moment, decided, load_ordered, loaded, requested, turn, Turns, Follows, last_reply, ordered, ordered_again, ordered_by}
use Rattle.reg_service.specs.Opening.{Served}
use Rattle.reg_service.specs.declared.service.Cause.{Cause}
use Rattle.reg_service.specs.declared.service.Next.{Next}
use Rattle.reg_service.specs.declared.service.Next.TheVariants as next
use Rattle.reg_session.specs.Lines.{is_skipped}
use Rattle.reg_session.specs.Replies.{line_of, lines_of, gives_way, is_accepted, IsShown}
use Rattle.reg_session.specs.Answered.{Answer, Point, MayAnswer, AreNext, coming_after, Gives, Answered, moments_of, readings_of, replies_of, answers, last_state}
use Rattle.reg_session.proofs.Cutting.{readings_more}

decided_keeps : (s : State) (by : Entity) (key : Option (List ℕ)) (command : Command) (r : Option Refusal) → is_accepted (decided s by key command r).0 ≡ false → (decided s by key command r).1 ≡ s
decided_keeps s by key command None h = cc
decided_keeps s by key command (Some r) h = refl

again_keeps : (s : State) (by : Entity) (key : List ℕ) (command : Command) (kept : Option KeptCommand) → is_accepted (ordered_again s by key command kept).0 ≡ false → (ordered_again s by key command kept).1 ≡ s
again_keeps s by key command None h = decided_keeps s by (Some key) command (refusal s.history s.clock by command) h
again_keeps s by key command (Some kept) h = refl

known_keeps : (s : State) (by : Entity) (key : Option (List ℕ)) (command : Command) → is_accepted (ordered_by s by key command).0 ≡ false → (ordered_by s by key command).1 ≡ s
known_keeps s by None command h = decided_keeps s by None command (refusal s.history s.clock by command) h
known_keeps s by (Some key) command h = again_keeps s by key command (keyed s.history by key) h

ordered_keeps : (s : State) (by : Option Entity) (key : Option (List ℕ)) (command : Command) → is_accepted (ordered s by key command).0 ≡ false → (ordered s by key command).1 ≡ s
ordered_keeps s None key command h = refl
ordered_keeps s (Some by) key command h = known_keeps s by key command h

plan_keeps : (s : State) (by : Entity) (plan : Result (Command × LoadCounts) Refusal) → is_accepted (loaded s by plan).0 ≡ false → (loaded s by plan).1 ≡ s
plan_keeps s by (Ok plan) h = cc
plan_keeps s by (Err r) h = refl

load_keeps : (s : State) (by : Option Entity) (job table : List ℕ) → is_accepted (load_ordered s by job table).0 ≡ false → (load_ordered s by job table).1 ≡ s
load_keeps s None job table h = refl
load_keeps s (Some by) job table h = plan_keeps s by (load_outcome s.history s.clock by job table) h

answered_keeps : (s : State) (by : List ℕ) (key : Option (List ℕ)) (asked : Op) → is_accepted (requested s by key asked).0 ≡ false → (requested s by key asked).1 ≡ s
answered_keeps s by key (op.Command command) h = ordered_keeps s (entity_of by) key command h
answered_keeps s by key (op.Query query) h = refl
answered_keeps s by key (op.Load job table) h = load_keeps s (entity_of by) job table h

-- what isn't an accepted command moves the clock alone
turn_keeps : (s : State) (m : ℕ) (reading : Result Request Refusal) → is_accepted (turn s m reading).0 ≡ false → (turn s m reading).1 ≡ at_moment s m
turn_keeps s m (Err r) h = refl
turn_keeps s m (Ok request) h = answered_keeps (at_moment s m) request.by request.key request.op h

-- a reply that isn't an accepted command's may be that there was no memory
turns_no_memory : (s after : State) (m : ℕ) (reading : Result Request Refusal) (given : Reply) → Turns s m reading given after → is_accepted given ≡ false → Turns s m reading reply.NoMemory after
turns_no_memory s after m reading given (inl e) h =
    let told : given ≡ (turn s m reading).0 = ap (λ (p : Reply × State). p.0) e in
    let kept : after ≡ at_moment s m = ap (λ (p : Reply × State). p.1) e ∙ turn_keeps s m reading (rw (← told) h) in
    inr (record { fault = refl; history = ap (λ (t : State). t.history) kept; clock = inr (ap (λ (t : State). t.clock) kept) })
turns_no_memory s after m reading given (inr wants) h = inr (record { fault = refl; history = wants.history; clock = wants.clock })

not_accepted : (due : Reply) → gives_way due ≡ true → is_accepted due ≡ false
not_accepted (reply.Number n id) e = absurd (cc)
not_accepted (reply.Loaded n counts) e = absurd (cc)
not_accepted (reply.Answer a) e = refl
not_accepted (reply.Refused r) e = refl
not_accepted reply.NoMemory e = refl
not_accepted reply.KeepFault e = refl

pub turns_told : (s after : State) (m : ℕ) (reading : Result Request Refusal) (given told : Reply) → Turns s m reading given after → IsShown given told → Turns s m reading told after
turns_told s after m reading given told t (inl e) = rw e t
turns_told s after m reading given told t (inr e) = rw e.0 (turns_no_memory s after m reading given t (not_accepted given e.1))

-- where the service goes on, the reply is one that may be given
pub follows_go : {K : Type 0} (s : State) (after : Served K) (m : ℕ) (reading : Result Request Refusal) (r : Reply × Next K) → Follows s m reading r → r.1 ≡ next.Go after → Turns s m reading r.0 after.state
follows_go s after m reading (told, following) f e = rw e at f

-- where it stops, the reply is its cause's
pub follows_stop : {K : Type 0} (s : State) (m : ℕ) (reading : Result Request Refusal) (r : Reply × Next K) (why : Cause) (k : K) → Follows s m reading r → r.1 ≡ next.Stop why k → r.0 ≡ last_reply why
follows_stop s m reading (told, following) why k f e = rw e at f

-- answers and further answers
may_more : (s mid last : State) (xs ys : List Answer) → MayAnswer s xs mid → MayAnswer mid ys last → MayAnswer s (xs ++ ys) last
may_more s mid last [] ys one two = rw (← one) two
may_more s mid last (x ∷ xs) ys one two = (one.0, one.1, may_more one.0 mid last xs ys one.2 two)

next_more : (xs ys coming : List ℕ) → AreNext xs coming → AreNext ys (coming_after xs coming) → AreNext (xs ++ ys) coming
next_more [] ys coming one two = two
next_more (x ∷ xs) ys coming one two = (one.0, next_more xs ys (later_moments coming) one.1 two)

after_more : (xs ys coming : List ℕ) → coming_after (xs ++ ys) coming ≡ coming_after ys (coming_after xs coming)
after_more [] ys coming = refl
after_more (x ∷ xs) ys coming = after_more xs ys (later_moments coming)

gives_more : (o p q : Option (List ℕ)) (xs ys : List ℕ) → Gives o xs p → Gives p ys q → Gives o (xs ++ ys) q
gives_more None p q xs ys one two = (tt, rw one.1 at two.1)
gives_more (Some coming) p q xs ys one two = joined p one.1 two
  where
    joined : (p : Option (List ℕ)) → p ≡ Some (coming_after xs coming) → Gives p ys q → Gives (Some coming) (xs ++ ys) q
    joined None e t = absurd (cc)
    joined (Some c) e t =
        let same : c ≡ coming_after xs coming = cc in
        let next : AreNext ys (coming_after xs coming) = rw same at t.0 in
        let last : coming_after ys c ≡ coming_after (xs ++ ys) coming = ap (coming_after ys) same ∙ sym (after_more xs ys coming) in
        (next_more xs ys coming one.0 next, t.1 ∙ ap (λ (l : List ℕ). Some l) last)

gives_none : (o : Option (List ℕ)) → Gives o [] o
gives_none None = (tt, refl)
gives_none (Some coming) = (tt, refl)

pub lines_of_more : (xs ys : List Reply) → lines_of (xs ++ ys) ≡ lines_of xs ++ lines_of ys
lines_of_more [] ys = refl
lines_of_more (x ∷ xs) ys = ap (λ (l : List ℕ). line_of x ++ l) (lines_of_more xs ys) ∙ sym (append_assoc (line_of x) (lines_of xs) (lines_of ys))

pub append_none : (w : Option (List ℕ)) → w ≡ append_known w []
append_none None = refl
append_none (Some bytes) = ap Some (sym (append-nil bytes))

append_more : (w : Option (List ℕ)) (xs ys : List ℕ) → append_known (append_known w xs) ys ≡ append_known w (xs ++ ys)
append_more None xs ys = refl
append_more (Some bytes) xs ys = ap Some (append_assoc bytes xs ys)

-- no line was answered
pub answered_none : (p : Point) → Answered p [] p
answered_none p = record { answers = []; asked = refl; given = refl; times = gives_none p.moments; text = append_none p.written }

-- lines and further lines
pub answered_more : (p q r : Point) (xs ys : List (List ℕ)) → Answered p xs q → Answered q ys r → Answered p (xs ++ ys) r
answered_more p q r xs ys a b = record {
  answers = a.answers ++ b.answers;
  asked = map-append (λ (x : Answer). x.reading) a.answers b.answers ∙ (both a.asked b.asked ∙ sym (readings_more xs ys));
  given = may_more p.state q.state r.state a.answers b.answers a.given b.given;
  times = rw (map-append (λ (x : Answer). x.at) a.answers b.answers) (gives_more p.moments q.moments r.moments (moments_of a.answers) (moments_of b.answers) a.times b.times);
  text = b.text ∙ (ap (λ (w : Option (List ℕ)). append_known w (lines_of (replies_of b.answers))) a.text ∙ (append_more p.written (lines_of (replies_of a.answers)) (lines_of (replies_of b.answers)) ∙ joined));
}
  where
    both : {us vs : List (Result Request Refusal)} → readings_of a.answers ≡ us → readings_of b.answers ≡ vs → readings_of a.answers ++ readings_of b.answers ≡ us ++ vs
    both e f = rw (e, f) refl

    joined : append_known p.written (lines_of (replies_of a.answers) ++ lines_of (replies_of b.answers)) ≡ append_known p.written (lines_of (replies_of (a.answers ++ b.answers)))
    joined = ap (append_known p.written) (sym (lines_of_more (replies_of a.answers) (replies_of b.answers)) ∙ ap lines_of (sym (map-append (λ (x : Answer). x.told) a.answers b.answers)))

-- a line that is skipped
pub answered_skipped : (p : Point) (line : List ℕ) → is_skipped line ≡ true → Answered p (line ∷ []) p
answered_skipped p line h = record { answers = []; asked = rw h refl; given = refl; times = gives_none p.moments; text = append_none p.written }

-- a line that isn't
pub answered_one : (w w2 ms ms2 : Option (List ℕ)) (s after : State) (m : ℕ) (line : List ℕ) (due shown : Reply) → is_skipped line ≡ false
    → IfSome ms (λ coming. m ≡ first_moment coming) → ms2 ≡ option_map later_moments ms → Turns s m (reading_of line) due after → IsShown due shown → w2 ≡ append_known w (line_of shown)
    → Answered (record { written = w; moments = ms; state = s }) (line ∷ []) (record { written = w2; moments = ms2; state = after })
answered_one w w2 ms ms2 s after m line due shown h first later t shows wrote = record {
  answers = (record { at = m; reading = reading_of line; told = shown }) ∷ [];
  asked = rw h refl;
  given = (after, turns_told s after m (reading_of line) due shown t shows, refl);
  times = (times ms first, later);
  text = wrote ∙ ap (append_known w) (sym (append-nil (line_of shown)));
}
  where
    times : (ms : Option (List ℕ)) → IfSome ms (λ coming. m ≡ first_moment coming) → IfSome ms (AreNext (m ∷ []))
    times None f = tt
    times (Some coming) f = (f, tt)

abbrev IsSure : Reply → Type 0
IsSure told = told ≢ reply.NoMemory

abbrev IsExact : State → List ℕ → List Answer → State → Type 0
IsExact s coming given last = (replies_of given ≡ answers s coming (readings_of given)) × (last ≡ last_state s coming (readings_of given))

first_exact : (s : State) (coming : List ℕ) (a : Answer) (more : List Answer) (after last : State) → a.at ≡ first_moment coming
    → Turns s a.at a.reading a.told after → a.told ≢ reply.NoMemory → IsExact after (later_moments coming) more last → IsExact s coming (a ∷ more) last
first_exact s coming a more after last at (inl e) n rest =
    let one : a.told ≡ (turn s (first_moment coming) a.reading).0 = ap (λ (p : Reply × State). p.0) e ∙ ap (λ (m : ℕ). (turn s m a.reading).0) at in
    let two : after ≡ (turn s (first_moment coming) a.reading).1 = ap (λ (p : Reply × State). p.1) e ∙ ap (λ (m : ℕ). (turn s m a.reading).1) at in
    (rw (one, rest.0, two) refl, rw two at rest.1)
first_exact s coming a more after last at (inr w) n rest = absurd (n w.fault)

-- replies without want of memory are one function of the readings and the moments
pub answers_exact : (s : State) (coming : List ℕ) (given : List Answer) (last : State) → MayAnswer s given last → AreNext (moments_of given) coming
    → All (λ told. told ≢ reply.NoMemory) (replies_of given) → (replies_of given ≡ answers s coming (readings_of given)) × (last ≡ last_state s coming (readings_of given))
answers_exact s coming [] last given at sure = (refl, given)
answers_exact s coming (a ∷ more) last given at sure =
    first_exact s coming a more given.0 last at.0 given.1 (All-head IsSure a.told (replies_of more) sure)
    (answers_exact given.0 (later_moments coming) more last given.2 at.1 (All-tail IsSure a.told (replies_of more) sure))
