-- All replies of success to one caller's one key are equal.
use Rattle.std.proofs.Common.{◌≡◌, ◌∙◌, ◌++◌, ◌∷◌, [], List, ℕ, Bool, Option, Some, None, Result, Ok, Err, true, false, refl, ap, sym, subst, arith, append_assoc, append-nil, length, length-append, inl, inr}
use Rattle.std.specs.Prelude.{if◌then◌else◌, ◌&&◌}
use Rattle.std.proofs.lemmas.Slice.Eq.{bytes_eq-Decides}
use Rattle.reg_base.specs.Entities.{entity_of}
use Rattle.reg_base.specs.declared.entity.Entity.{Entity}
use Rattle.reg_terms.specs.declared.command.Command.{Command}
use Rattle.reg_terms.specs.declared.command.Stamped.{Stamped}
use Rattle.reg_terms.specs.declared.query.Answer.{Answer}
use Rattle.reg_terms.specs.declared.refusal.Refusal.{Refusal}
use Rattle.reg_terms.specs.declared.reply.LoadCounts.{LoadCounts}
use Rattle.reg_terms.specs.declared.reply.Reply.{Reply}
use Rattle.reg_terms.specs.declared.reply.Reply.TheVariants as reply
use Rattle.reg_terms.specs.declared.request.Op.{Op}
use Rattle.reg_terms.specs.declared.request.Op.TheVariants as op
use Rattle.reg_terms.specs.declared.request.Request.{Request}
use Rattle.reg_machine.specs.History.{State, appended, facts}
use Rattle.reg_machine.specs.Ids.{made_id}
use Rattle.reg_machine.specs.Keys.{KeptCommand, caller_text, is_keyed, kept_after, keyed, keyed_from, same_command}
use Rattle.reg_machine.specs.Loads.{load_outcome}
use Rattle.reg_machine.specs.Refusals.{refusal}
use Rattle.reg_view.specs.AtClock.{told}
use Rattle.reg_service.specs.Again.{Happening, replies, reopens, MayHappen, MayGo, IsReplyTo, IsTold, RepliesAgree}
use Rattle.reg_service.specs.Turn.{answered, answered_again, at_moment, decided, load_ordered, loaded, ordered, ordered_again, requested, KeepsHistory, Turns}
use Rattle.reg_service.proofs.Keyed.{ordered_keeps, same_number}
use Rattle.reg_service.proofs.Keeping.{answered_keeps}
use Rattle.reg_service.proofs.Loads.{load_keeps}

-- ---- what is kept under a key stays so

more_of : (here : Bool) (x o p : Option KeptCommand) (k : KeptCommand) → (o ≡ Some k → p ≡ Some k) → (if here then x else o) ≡ Some k → (if here then x else p) ≡ Some k
more_of true x o p k more e = e
more_of false x o p k more e = more e

from_more : (before ss more : List Stamped) (by : Entity) (key : List ℕ) (k : KeptCommand) → keyed_from before ss by key ≡ Some k → keyed_from before (ss ++ more) by key ≡ Some k
from_more before [] more by key k e = absurd (cc)
from_more before (s ∷ ss) more by key k e =
    more_of (is_keyed by key s) (Some (kept_after before s)) (keyed_from (before ++ s ∷ []) ss by key) (keyed_from (before ++ s ∷ []) (ss ++ more) by key) k (λ there. from_more (before ++ s ∷ []) ss more by key k there) e

keyed_more : (h more : List Stamped) (by : Entity) (key : List ℕ) (k : KeptCommand) → keyed h by key ≡ Some k → keyed (h ++ more) by key ≡ Some k
unfolding keyed
keyed_more h more by key k e = from_more [] h more by key k e

-- ---- a new command is kept under its key

if_so : (b : Bool) (x y : Option KeptCommand) → b ≡ true → (if b then x else y) ≡ x
if_so b x y e = rw e refl

both_so : (a b : Bool) → a ≡ true → b ≡ true → (a && b) ≡ true
both_so a b e f = rw (e, f) refl

its_key : (by : Entity) (key : List ℕ) (at : ℕ) (command : Command) → is_keyed by key (record { at = at; by = by; key = Some key; command = command }) ≡ true
its_key by key at command = both_so _ _ ((bytes_eq-Decides (caller_text by) (caller_text by)).1 refl) ((bytes_eq-Decides key key).1 refl)

new_of : (here : Bool) (x : KeptCommand) (o p : Option KeptCommand) (k : KeptCommand) → (o ≡ None → p ≡ Some k) → (if here then Some x else o) ≡ None → (if here then Some x else p) ≡ Some k
new_of true x o p k new e = absurd (cc)
new_of false x o p k new e = new e

from_new : (before ss : List Stamped) (one : Stamped) (by : Entity) (key : List ℕ) → is_keyed by key one ≡ true → keyed_from before ss by key ≡ None → keyed_from before (ss ++ one ∷ []) by key ≡ Some (kept_after (before ++ ss) one)
from_new before [] one by key is e = if_so (is_keyed by key one) (Some (kept_after before one)) None is ∙ ap (λ (l : List Stamped). Some (kept_after l one)) (sym (append-nil before))
from_new before (s ∷ ss) one by key is e =
    let all = append_assoc before (s ∷ []) ss in
    new_of (is_keyed by key s) (kept_after before s) (keyed_from (before ++ s ∷ []) ss by key) (keyed_from (before ++ s ∷ []) (ss ++ one ∷ []) by key) (kept_after (before ++ s ∷ ss) one)
    (λ none. from_new (before ++ s ∷ []) ss one by key is none ∙ ap (λ (l : List Stamped). Some (kept_after l one)) all) e

keyed_new : (h : List Stamped) (one : Stamped) (by : Entity) (key : List ℕ) → is_keyed by key one ≡ true → keyed h by key ≡ None → keyed (h ++ one ∷ []) by key ≡ Some (kept_after h one)
unfolding keyed
keyed_new h one by key is e = from_new [] h one by key is e

-- ---- what is answered with a number is kept under its key

-- a caller's command is kept under a key, and this is told of it
record HasReply (h : List Stamped) (by : Entity) (key : List ℕ) (n : ℕ) (id : Option ℕ) : Type 0 where
  kept : KeptCommand
  there : keyed h by key ≡ Some kept
  number : kept.number ≡ n
  made : kept.id ≡ id

decided_replied : (at : State) (by : Entity) (key : List ℕ) (command : Command) (why : Option Refusal) (n : ℕ) (id : Option ℕ) (after : State) → keyed at.history by key ≡ None
    → (reply.Number n id, after) ≡ decided at by (Some key) command why → HasReply after.history by key n id
decided_replied at by key command None n id after none e =
    let one : Stamped = record { at = at.clock; by = by; key = Some key; command = command } in
    let told_is : reply.Number n id ≡ reply.Number (length (at.history ++ one ∷ [])) (made_id command (facts at.history at.clock)) = ap (λ (p : Reply × State). p.0) e in
    let after_is : after ≡ appended at by (Some key) command = ap (λ (p : Reply × State). p.1) e in
    let number : n ≡ length (at.history ++ one ∷ []) = cc in
    let made : id ≡ made_id command (facts at.history at.clock) = cc in
    rw after_is (record {
      kept = kept_after at.history one;
      there = keyed_new at.history one by key (its_key by key at.clock command) none;
      number = omega (arith, number, length-append at.history (one ∷ []));
      made = sym made;
    })
decided_replied at by key command (Some r) n id after none e =
    let told_is : reply.Number n id ≡ reply.Refused r = ap (λ (p : Reply × State). p.0) e in
    absurd (cc)

again_replied : (at : State) (by : Entity) (key : List ℕ) (command : Command) (o : Option KeptCommand) (n : ℕ) (id : Option ℕ) (after : State) → keyed at.history by key ≡ o
    → (reply.Number n id, after) ≡ ordered_again at by key command o → HasReply after.history by key n id
again_replied at by key command None n id after found e = decided_replied at by key command (refusal at.history at.clock by command) n id after found e
again_replied at by key command (Some k) n id after found e =
    let told_is : reply.Number n id ≡ answered_again k command = ap (λ (p : Reply × State). p.0) e in
    let after_is : after ≡ at = ap (λ (p : Reply × State). p.1) e in
    let parts = same_number (same_command k.command command) k n id (sym told_is) in
    rw after_is (record { kept = k; there = found; number = parts.0; made = parts.1 })

answered_unnumbered : (r : Result Answer Refusal) (n : ℕ) (id : Option ℕ) → reply.Number n id ≡ answered r → ⊥
answered_unnumbered (Ok a) n id e = absurd (cc)
answered_unnumbered (Err r) n id e = absurd (cc)

loaded_unnumbered : (at : State) (by : Entity) (r : Result (Command × LoadCounts) Refusal) (n : ℕ) (id : Option ℕ) → reply.Number n id ≡ (loaded at by r).0 → ⊥
loaded_unnumbered at by (Ok plan) n id e = absurd (cc)
loaded_unnumbered at by (Err r) n id e = absurd (cc)

asked_replied : (at : State) (by : Entity) (text key : List ℕ) (o : Op) (n : ℕ) (id : Option ℕ) (after : State) → entity_of text ≡ Some by
    → (reply.Number n id, after) ≡ requested at text (Some key) o → HasReply after.history by key n id
asked_replied at by text key (op.Command command) n id after who e =
    again_replied at by key command (keyed at.history by key) n id after refl (e ∙ ap (λ (x : Option Entity). ordered at x (Some key) command) who)
asked_replied at by text key (op.Query query) n id after who e =
    absurd (answered_unnumbered (told at.history at.clock text query) n id (ap (λ (p : Reply × State). p.0) e))
asked_replied at by text key (op.Load job table) n id after who e =
    let by_him = e ∙ ap (λ (x : Option Entity). load_ordered at x job table) who in
    absurd (loaded_unnumbered at by (load_outcome at.history at.clock by job table) n id (ap (λ (p : Reply × State). p.0) by_him))

turn_replied : (s : State) (m : ℕ) (request : Request) (by : Entity) (key : List ℕ) (n : ℕ) (id : Option ℕ) (after : State) → entity_of request.by ≡ Some by → request.key ≡ Some key
    → Turns s m (Ok request) (reply.Number n id) after → HasReply after.history by key n id
turn_replied s m request by key n id after who is (inl e) =
    asked_replied (at_moment s m) by request.by key request.op n id after who (e ∙ ap (λ (k : Option (List ℕ)). requested (at_moment s m) request.by k request.op) is)
turn_replied s m request by key n id after who is (inr w) =
    let clash : reply.Number n id ≡ reply.NoMemory = w.fault in
    absurd (cc)

-- ---- the history goes on

history_grows : (s : State) (r : Reply) (after : State) → KeepsHistory s r after → (more : List Stamped) × (after.history ≡ s.history ++ more)
history_grows s (reply.Number n id) after (inl h) = (h.0 ∷ [], h.1)
history_grows s (reply.Number n id) after (inr h) = ([], h.0 ∙ sym (append-nil s.history))
history_grows s (reply.Loaded n counts) after h = (h.0 ∷ [], h.1)
history_grows s (reply.Answer a) after h = ([], h ∙ sym (append-nil s.history))
history_grows s (reply.Refused r) after h = ([], h ∙ sym (append-nil s.history))
history_grows s reply.NoMemory after h = ([], h ∙ sym (append-nil s.history))
history_grows s reply.KeepFault after h = absurd h

asked_keeps : (s at : State) (text : List ℕ) (key : Option (List ℕ)) (o : Op) (r : Reply) (after : State) → at.history ≡ s.history → (r, after) ≡ requested at text key o → KeepsHistory s r after
asked_keeps s at text key (op.Command command) r after same e = (ordered_keeps s at (entity_of text) key command r after same e).0
asked_keeps s at text key (op.Query query) r after same e =
    answered_keeps s (told at.history at.clock text query) r after (ap (λ (p : Reply × State). p.0) e) (ap (λ (p : Reply × State). p.1.history) e ∙ same)
asked_keeps s at text key (op.Load job table) r after same e = (load_keeps s at (entity_of text) job table r after same e).0

turn_keeps : (s : State) (m : ℕ) (reading : Result Request Refusal) (r : Reply) (after : State) → Turns s m reading r after → KeepsHistory s r after
turn_keeps s m (Ok request) r after (inl e) = asked_keeps s (at_moment s m) request.by request.key request.op r after refl e
turn_keeps s m (Err why) r after (inl e) =
    let told_is = ap (λ (p : Reply × State). p.0) e in
    let after_is = ap (λ (p : Reply × State). p.1) e in
    rw (told_is, after_is) refl
turn_keeps s m reading r after (inr w) = rw w.fault w.history

grows : (s : State) (h : Happening) (after : State) → MayHappen s h after → (more : List Stamped) × (after.history ≡ s.history ++ more)
grows s (replies m reading r) after is = history_grows s r after (turn_keeps s m reading r after is)
grows s reopens after is = is

-- ---- and so each reply

reply_stays : (s : State) (h : Happening) (after : State) (by : Entity) (key : List ℕ) (n : ℕ) (id : Option ℕ) → MayHappen s h after → HasReply s.history by key n id → HasReply after.history by key n id
reply_stays s h after by key n id is r =
    let more = grows s h after is in
    record {
      kept = r.kept;
      there = subst (λ (l : List Stamped). keyed l by key ≡ Some r.kept) (sym more.1) (keyed_more s.history more.0 by key r.kept r.there);
      number = r.number;
      made = r.made;
    }

reply_goes : (s : State) (hs : List Happening) (last : State) (by : Entity) (key : List ℕ) (n : ℕ) (id : Option ℕ) → MayGo s hs last → HasReply s.history by key n id → HasReply last.history by key n id
reply_goes s [] last by key n id go r = subst (λ (x : State). HasReply x.history by key n id) (sym go) r
reply_goes s (h ∷ hs) last by key n id go r = reply_goes go.0 hs last by key n id go.2 (reply_stays s h go.0 by key n id go.1 r)

one_replied : (s : State) (h : Happening) (after : State) (by : Entity) (key : List ℕ) (n : ℕ) (id : Option ℕ) → MayHappen s h after → IsReplyTo by key (reply.Number n id) h → HasReply after.history by key n id
one_replied s (replies m (Ok request) r) after by key n id is to =
    turn_replied s m request by key n id after to.0 to.1 (subst (λ (x : Reply). Turns s m (Ok request) x after) to.2 is)
one_replied s (replies m (Err why) r) after by key n id is to = absurd to
one_replied s reopens after by key n id is to = absurd to

told_last : (s : State) (hs : List Happening) (last : State) (by : Entity) (key : List ℕ) (n : ℕ) (id : Option ℕ) → MayGo s hs last → IsTold by key (reply.Number n id) hs → HasReply last.history by key n id
told_last s [] last by key n id go to = absurd to
told_last s (h ∷ hs) last by key n id go (inl to) = reply_goes go.0 hs last by key n id go.2 (one_replied s h go.0 by key n id go.1 to)
told_last s (h ∷ hs) last by key n id go (inr to) = told_last go.0 hs last by key n id go.2 to

pub agree : (s : State) (hs : List Happening) (last : State) → MayGo s hs last → RepliesAgree hs
agree s hs last go by key n m a b one other =
    let p = told_last s hs last by key n a go one in
    let q = told_last s hs last by key m b go other in
    let both : Some p.kept ≡ Some q.kept = sym p.there ∙ q.there in
    let same : p.kept ≡ q.kept = cc in
    let number : n ≡ m = sym p.number ∙ (ap (λ (k : KeptCommand). k.number) same ∙ q.number) in
    let made : a ≡ b = sym p.made ∙ (ap (λ (k : KeptCommand). k.id) same ∙ q.made) in
    rw (number, made) refl
