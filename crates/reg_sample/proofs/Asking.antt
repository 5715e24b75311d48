-- One line more of a sample.
use Rattle.std.proofs.Common.{◌≡◌, ◌≢◌, ◌∙◌, ◌+◌, ℕ, Option, Some, Result, suc, refl, ap, sym, subst, inl, inr, arith}
use Rattle.std.specs.Prelude.{IfSome}
use Rattle.reg_terms.specs.declared.refusal.Refusal.{Refusal}
use Rattle.reg_terms.specs.declared.reply.Reply.{Reply}
use Rattle.reg_terms.specs.declared.reply.Reply.TheVariants as reply
use Rattle.reg_terms.specs.declared.request.Request.{Request}
use Rattle.reg_json.specs.Reading.{reading_of}
use Rattle.reg_machine.specs.History.{State, start}
use Rattle.reg_service.specs.Opening.{Served}
use Rattle.reg_service.specs.Turn.{Follows, Turns, turn}
use Rattle.reg_service.specs.declared.service.Next.{Next}
use Rattle.reg_service.specs.declared.service.Next.TheVariants as next
use Rattle.reg_session.proofs.Answering.{follows_go}
use Rattle.reg_sample.specs.Lines.{line}
use Rattle.reg_sample.specs.Played.{IsAt, Point, asked, counted, nothing, played}
use Rattle.reg_sample.specs.declared.tally.Tally.{Tally}

turned : (s after : State) (m : ℕ) (reading : Result Request Refusal) (told : Reply) → Turns s m reading told after → told ≢ reply.NoMemory → (told, after) ≡ turn s m reading
turned s after m reading told (inl e) sure = e
turned s after m reading told (inr wants) sure = absurd (sure wants.fault)

-- a line was asked, and there was memory to
pub asked_one : {K : Type 0} (seed size k : ℕ) (s : State) (t more : Tally) (m : ℕ) (r : Reply × Next K) (after : Served K) → m ≡ k + 1 → Follows s m (reading_of (line seed size k)) r → r.1 ≡ next.Go after → r.0 ≢ reply.NoMemory
    → more ≡ counted t r.0 → IsAt (asked seed size k (record { state = s; tally = t })) after.state more
asked_one seed size k s t more m r after at follows is sure counts =
    let same : (r.0, after.state) ≡ turn s m (reading_of (line seed size k)) = turned s after.state m (reading_of (line seed size k)) r.0 (follows_go s after m (reading_of (line seed size k)) r follows is) sure in
    let now : (r.0, after.state) ≡ turn s (k + 1) (reading_of (line seed size k)) = same ∙ ap (λ (n : ℕ). turn s n (reading_of (line seed size k))) at in
    (ap (λ (p : Reply × State). p.1) now, counts ∙ ap (λ (p : Reply × State). counted t p.0) now)

-- so the point is that of one line more
pub played_more : (seed size k : ℕ) (s after : State) (t more : Tally) → IsAt (played seed size k) s t → IsAt (asked seed size k (record { state = s; tally = t })) after more → IsAt (played seed size (k + 1)) after more
unfolding played
played_more seed size k s after t more here one =
    let next : k + 1 ≡ suc k = omega arith in
    let point : (record { state = s; tally = t }) ≡ played seed size k = points (played seed size k) s t here in
    let now : IsAt (asked seed size k (played seed size k)) after more = subst (λ (p : Point). IsAt (asked seed size k p) after more) point one in
    subst (λ (n : ℕ). IsAt (played seed size n) after more) (sym next) now
  where
    points : (p : Point) (s : State) (t : Tally) → IsAt p s t → (record { state = s; tally = t }) ≡ p
    points p s t h = rw (h.0, h.1) refl

-- what holds of a value that is there
pub some_at : {A : Type 0} (P : A → Type 0) (o : Option A) (x : A) → o ≡ Some x → IfSome o P → P x
some_at {A = A} P o x is h = subst (λ (o : Option A). IfSome o P) is h

-- at first there is nothing
pub played_none : (seed size : ℕ) (s : State) → s ≡ start → IsAt (played seed size 0) s nothing
unfolding played
played_none seed size s is = (is, refl)
