-- How an output keeps up from line to line.
use Rattle.std.proofs.Common.{◌≡◌, List, ℕ, Option, Result, Ok, refl, sym, ◌∙◌, subst, inl, inr, option_map}
use Rattle.std.specs.Prelude.{IfErr}
use Rattle.reg_outside.specs.Faults.{Rose}
use Rattle.reg_outside.specs.Marks.{Mark, marked}
use Rattle.reg_outside.specs.Streams.{WritesFront}
use Rattle.reg_terms.specs.declared.command.Stamped.{Stamped}
use Rattle.reg_terms.specs.declared.reply.Reply.{Reply}
use Rattle.reg_keep.specs.declared.keeper.Keeper.{Ghosts}
use Rattle.reg_service.specs.Kept.{keeper_of}
use Rattle.reg_service.specs.Marked.{keeps_up_go, keeps_up_stop}
use Rattle.reg_service.specs.Marks.{Output, WritesAll, KeepsUp, KeepsUpInPart, LeavesSince, IsNumbered}
use Rattle.reg_service.specs.Opening.{Served}
use Rattle.reg_service.specs.declared.service.Cause.{Cause}
use Rattle.reg_service.specs.declared.service.Next.{Next}
use Rattle.reg_service.specs.declared.service.Next.TheVariants as next
use Rattle.reg_session.specs.Replies.{IsLine, IsShown, WritesReply, line_of}
use Rattle.reg_session.specs.declared.stop.Stop.{Stop}
use Rattle.reg_session.specs.declared.stop.Stop.TheVariants as stop
use Rattle.reg_session.proofs.Stopping.{shows_front, wrote_ok}

-- a mark writes nothing
pub wrote_from : {T : Type 0} (due : Reply) (w0 w1 new : Option (List ℕ)) (r : Result T Stop) → w1 ≡ w0 → WritesReply due w1 new r → WritesReply due w0 new r
wrote_from due w0 w1 new r same wrote = subst (λ (o : Option (List ℕ)). WritesReply due o new r) same wrote

-- and is no fault
pub rose_from : {T : Type 0} (f0 f1 f2 : ℕ) (r : Result T Stop) → f1 ≡ f0 → IfErr r (λ e. e ≡ stop.Output → Rose f1 f2) → IfErr r (λ e. e ≡ stop.Output → Rose f0 f2)
rose_from f0 f1 f2 r same rose = subst (λ (f : ℕ). IfErr r (λ e. e ≡ stop.Output → Rose f f2)) same rose

-- what is shown of a reply tells its number, or none
shown_numbered : {K : Type 0} (due shown : Reply) (n : Next K) → IsShown due shown → IsNumbered due n → IsNumbered shown n
shown_numbered due shown n (inl e) is = subst (λ (r : Reply). IsNumbered r n) (sym e) is
shown_numbered due shown (next.Go s) (inr e) is = subst (λ (r : Reply). IsNumbered r (next.Go s)) (sym e.0) tt
shown_numbered due shown (next.Stop why k) (inr e) is = subst (λ (r : Reply). IsNumbered r (next.Stop why k)) (sym e.0) refl

-- a reply was written behind its mark
pub line_keeps_up : {K T : Type 0} (g : Ghosts K) (first : K) (before after : Output) (m : Option (List Mark)) (due : Reply) (moment : ℕ) (n : Next K) (s : Served K) (r : Result T Stop) (x : T) → moment ≡ g.keep_moment (keeper_of n)
    → LeavesSince g moment n → IsNumbered due n → n ≡ next.Go s → m ≡ option_map (marked moment before.written) before.marks → after.marks ≡ m → WritesReply due before.written after.written r → r ≡ Ok x
    → KeepsUp g IsLine first before after s.state.history s.keeper
line_keeps_up g first before after m due moment n s r x now leaves numbered is set same wrote ok =
    let all = wrote_ok due before.written after.written r x wrote ok in
    keeps_up_go WritesAll g IsLine first before after all.0 (line_of all.0) moment n s (all.0, refl, refl) all.2 (same ∙ set) now leaves (shown_numbered due all.0 n all.1 numbered) is

-- a front of it was
pub front_keeps_up : {K T : Type 0} (g : Ghosts K) (first k : K) (before after : Output) (m : Option (List Mark)) (due : Reply) (moment : ℕ) (n : Next K) (s : Served K) (r : Result T Stop) → moment ≡ g.keep_moment (keeper_of n)
    → LeavesSince g moment n → IsNumbered due n → n ≡ next.Go s → k ≡ s.keeper → m ≡ option_map (marked moment before.written) before.marks → after.marks ≡ m → WritesReply due before.written after.written r
    → KeepsUpInPart g IsLine first before after s.state.history k
front_keeps_up {K = K} g first k before after m due moment n s r now leaves numbered is same_keeper set same wrote =
    let front = shows_front due before.written after.written r wrote in
    subst (λ (x : K). KeepsUpInPart g IsLine first before after s.state.history x) (sym same_keeper)
    (keeps_up_go WritesFront g IsLine first before after front.shown (line_of front.shown) moment n s (front.shown, refl, refl) front.front (same ∙ set) now leaves (shown_numbered due front.shown n front.shows numbered) is)

-- the reply of a service that stopped, whole or not
pub last_keeps_up : {K T : Type 0} (g : Ghosts K) (first k keeper : K) (before after : Output) (m : Option (List Mark)) (due : Reply) (moment : ℕ) (n : Next K) (why : Cause) (h : List Stamped) (r : Result T Stop) → IsNumbered due n
    → n ≡ next.Stop why k → m ≡ option_map (marked moment before.written) before.marks → after.marks ≡ m → WritesReply due before.written after.written r → KeepsUpInPart g IsLine first before after h keeper
last_keeps_up g first k keeper before after m due moment n why h r numbered is set same wrote =
    let front = shows_front due before.written after.written r wrote in
    keeps_up_stop WritesFront g IsLine first before after front.shown (line_of front.shown) moment n why k keeper h (front.shown, refl, refl) front.front (same ∙ set) (shown_numbered due front.shown n front.shows numbered) is
