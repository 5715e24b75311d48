-- How a session over an input ends.
use Rattle.std.proofs.Common.{◌≡◌, ◌++◌, ◌∷◌, ◌≤◌, ◌^◌, ◌+◌, [], List, ℕ, Option, ap, sym, subst, ◌∙◌, arith, length, length-append, take, inl, inr, ◌⊎◌}
use Rattle.reg_outside.specs.Faults.{Rose}
use Rattle.std.specs.Io.KnownBytes.{prepend_known, IsAtEnd}
use Rattle.reg_terms.specs.declared.command.Stamped.{Stamped}
use Rattle.reg_keep.specs.declared.keeper.Keeper.{Ghosts}
use Rattle.reg_service.specs.Kept.{KeptOn, Halted}
use Rattle.reg_service.specs.Marked.{part_keeps_up_then, part_of_whole}
use Rattle.reg_service.specs.Marks.{Output, KeepsUp}
use Rattle.reg_session.specs.Answered.{Point, Answered}
use Rattle.reg_session.specs.Lines.{lines, ended_lines, lines_from, pending_from}
use Rattle.reg_session.specs.Pending.{Holds}
use Rattle.reg_session.specs.Replies.{IsLine}
use Rattle.reg_session.specs.Stops.{StopsIn, HaltsKeepingUp, IsAtLine}
use Rattle.reg_session.specs.Input.{HasTaken, EndsInput, FlushesFor, StopsInputKeepingUp, StopsBehind, StopsLastKeepingUp}
use Rattle.reg_session.specs.declared.pending.PendingLine.{PendingLine}
use Rattle.reg_session.specs.declared.stop.Stop.{Stop}
use Rattle.reg_session.specs.declared.stop.Stop.TheVariants as stop
use Rattle.reg_session.proofs.Answering.{answered_more}
use Rattle.reg_session.proofs.Feeding.{took_none, takes_more, stops_from}
use Rattle.reg_session.proofs.Cutting.{lines_are_cut}
use Rattle.reg_session.proofs.Numbering.{accepted_in, accepted_all}
use Rattle.reg_session.proofs.Halting.{halted_then}
use Rattle.reg_session.proofs.Stopping.{stops_then, stops_wider}

ends_in : (p : Point) (taken : List ℕ) (left w : Option (List ℕ)) (f : Option ℕ) (failed : Type 0) (answered after : List Stamped) (why : Stop) → IsAtLine why → StopsIn p (lines taken) w failed answered after why
    → EndsInput p taken left w f failed answered after why
ends_in p taken left w f failed answered after stop.Memory at s = s
ends_in p taken left w f failed answered after stop.Disk at s = s
ends_in p taken left w f failed answered after stop.Input (inl e) s = absurd (cc)
ends_in p taken left w f failed answered after stop.Input (inr (inl e)) s = absurd (cc)
ends_in p taken left w f failed answered after stop.Input (inr (inr e)) s = absurd (cc)
ends_in p taken left w f failed answered after stop.Output at s = inl s
ends_in p taken left w f failed answered after stop.TooMuch (inl e) s = absurd (cc)
ends_in p taken left w f failed answered after stop.TooMuch (inr (inl e)) s = absurd (cc)
ends_in p taken left w f failed answered after stop.TooMuch (inr (inr e)) s = absurd (cc)

-- lines were answered, and nothing more was begun
pub stops_behind : (p q : Point) (ls : List (List ℕ)) (w : Option (List ℕ)) (answered after : List Stamped) → Answered p ls q → w ≡ q.written → answered ≡ q.state.history → after ≡ q.state.history → StopsBehind p ls w answered after
stops_behind p q ls w answered after all wrote done kept = record { last = q; accepted = accepted_in p q ls all; all = accepted_all p q ls all; same = wrote; done = done; kept = kept }

-- a line of a piece stopped the session
pub stops_piece : {K : Type 0} (g : Ghosts K) (p q : Point) (k0 k1 k2 : K) (left mid now : Option (List ℕ)) (o0 o1 o2 : Output) (f : Option ℕ) (failed wider : Type 0) (a b : PendingLine) (count : ℕ) (piece : List ℕ) (why : Stop)
    → HasTaken left mid p q a b count → Holds a [] → count + length piece ≤ 2 ^ 32 → mid ≡ prepend_known piece now → KeptOn g p.state.history k0 q.state.history k1 → KeepsUp g IsLine k0 o0 o1 q.state.history k1 → IsAtLine why → (failed → wider)
    → ((before : List ℕ) → Holds b before → HaltsKeepingUp g q k1 (lines_from before piece) o1 o2 failed why k2) → StopsInputKeepingUp g p k0 left now o0 o2 f wider why k2
stops_piece g p q k0 k1 k2 left mid now o0 o1 o2 f failed wider a b count piece why done held few read kept keeps_up at more halts =
    let fed = done.fed [] held in
    let halted = halts (pending_from [] done.taken) fed.0 in
    let h = halted.0 in (
      record {
        taken = done.taken ++ piece;
        input = takes_more left mid now done.taken piece done.input read;
        cut = lines_are_cut (done.taken ++ piece);
        few = omega (arith, length-append done.taken piece, done.counted);
        halted = halted_then g p.state.history q.state.history k0 k1 k2 kept h.0;
        ends = ends_in p (done.taken ++ piece) now o2.written f wider h.0.answered h.0.after why at
            (stops_from p q [] done.taken piece o2.written wider h.0.answered h.0.after why fed.1 (stops_wider q (lines_from (pending_from [] done.taken) piece) o2.written failed wider h.0.answered h.0.after why more h.1));
      },
      part_keeps_up_then g IsLine p.state.history q.state.history h.0.after k0 k1 k2 o0 o1 o2 kept h.0.kept keeps_up halted.1,
    )

-- the last line did, or the flush behind it
pub stops_last : {K : Type 0} (g : Ghosts K) (p q : Point) (k0 k1 k2 : K) (left mid now : Option (List ℕ)) (o0 o1 o2 : Output) (f : Option ℕ) (failed wider : Type 0) (a b : PendingLine) (count k : ℕ) (bs : List ℕ) (why : Stop)
    → HasTaken left mid p q a b count → Holds a [] → count ≤ 2 ^ 32 → mid ≡ prepend_known (take k bs) now → k ≡ 0 → IsAtEnd now → KeptOn g p.state.history k0 q.state.history k1 → KeepsUp g IsLine k0 o0 o1 q.state.history k1 → IsAtLine why
    → (failed → wider) → ((line : List ℕ) → Holds b line → StopsLastKeepingUp g q k1 line o1 o2 failed why k2) → StopsInputKeepingUp g p k0 left now o0 o2 f wider why k2
stops_last g p q k0 k1 k2 left mid now o0 o1 o2 f failed wider a b count k bs why done held few read none ended kept keeps_up at more halts =
    let fed = done.fed [] held in
    let halted = halts (pending_from [] done.taken) fed.0 in
    let h = halted.0 in (
      record {
        taken = done.taken;
        input = took_none left mid now done.taken bs k done.input read none;
        few = omega (arith, done.counted);
        cut = lines_are_cut done.taken;
        halted = halted_then g p.state.history q.state.history k0 k1 k2 kept h.0;
        ends = last h.0.answered h.0.after fed.1 h.1;
      },
      part_keeps_up_then g IsLine p.state.history q.state.history h.0.after k0 k1 k2 o0 o1 o2 kept h.0.kept keeps_up halted.1,
    )
  where
    behind : (answered after : List Stamped) → Answered p (ended_lines done.taken) q → StopsBehind q (pending_from [] done.taken ∷ []) o2.written answered after → StopsBehind p (lines done.taken) o2.written answered after
    behind answered after all s = stops_behind p s.last (lines done.taken) o2.written answered after (answered_more p q s.last (ended_lines done.taken) (pending_from [] done.taken ∷ []) all s.all.all) s.same s.done s.kept

    last : (answered after : List Stamped) → Answered p (ended_lines done.taken) q
        → StopsIn q (pending_from [] done.taken ∷ []) o2.written failed answered after why ⊎ ((why ≡ stop.Output) × StopsBehind q (pending_from [] done.taken ∷ []) o2.written answered after) → EndsInput p done.taken now o2.written f wider answered after why
    last answered after all (inl s) =
        ends_in p done.taken now o2.written f wider answered after why at
        (stops_then p q (ended_lines done.taken) (pending_from [] done.taken ∷ []) o2.written wider answered after why all (stops_wider q (pending_from [] done.taken ∷ []) o2.written failed wider answered after why more s))
    last answered after all (inr s) = rw s.0 (inr (inl (behind answered after all s.1, ended)))

-- all lines that came whole were answered, and then flushed or not
early_ends : (p : Point) (taken : List ℕ) (left w : Option (List ℕ)) (f : Option ℕ) (failed : Type 0) (answered after : List Stamped) (count : ℕ) (why stopped : Stop) (f0 f1 : ℕ) → length taken ≡ count → count ≤ 2 ^ 32
    → StopsBehind p (ended_lines taken) w answered after → (why ≡ stop.Input) ⊎ ((why ≡ stop.TooMuch) × (2 ^ 32 ≤ count)) → FlushesFor why stopped w f f0 f1 → EndsInput p taken left w f failed answered after stopped
early_ends p taken left w f failed answered after count why stopped f0 f1 counted few behind (inl is) (inl all) = subst (λ (s : Stop). EndsInput p taken left w f failed answered after s) (sym (all.0 ∙ is)) (behind, all.1)
early_ends p taken left w f failed answered after count why stopped f0 f1 counted few behind (inl is) (inr cut) = subst (λ (s : Stop). EndsInput p taken left w f failed answered after s) (sym cut.0) (inr (inr behind))
early_ends p taken left w f failed answered after count why stopped f0 f1 counted few behind (inr is) (inl all) =
    subst (λ (s : Stop). EndsInput p taken left w f failed answered after s) (sym (all.0 ∙ is.0)) (behind, all.1, omega (arith, counted, few, is.1))
early_ends p taken left w f failed answered after count why stopped f0 f1 counted few behind (inr is) (inr cut) = subst (λ (s : Stop). EndsInput p taken left w f failed answered after s) (sym cut.0) (inr (inr behind))

-- the input failed, or there was too much of it
pub stops_early : {K : Type 0} (g : Ghosts K) (p q : Point) (k0 k : K) (left mid now : Option (List ℕ)) (o0 o2 : Output) (f : Option ℕ) (failed : Type 0) (a b : PendingLine) (count : ℕ) (why stopped : Stop) (f0 f1 : ℕ)
    → HasTaken left mid p q a b count → Holds a [] → count ≤ 2 ^ 32 → now ≡ mid → o2.written ≡ q.written → (h : Halted g p.state.history k0 k) → h.answered ≡ q.state.history → h.after ≡ q.state.history
    → KeepsUp g IsLine k0 o0 o2 h.after k → (why ≡ stop.Input) ⊎ ((why ≡ stop.TooMuch) × (2 ^ 32 ≤ count)) → FlushesFor why stopped o2.written f f0 f1 → StopsInputKeepingUp g p k0 left now o0 o2 f failed stopped k
stops_early g p q k0 k left mid now o0 o2 f failed a b count why stopped f0 f1 done held few same wrote h answered after keeps_up reason flushes =
    let fed = done.fed [] held in (
      record {
        taken = done.taken;
        input = done.input ∙ ap (prepend_known done.taken) (sym same);
        few = omega (arith, done.counted);
        cut = lines_are_cut done.taken;
        halted = h;
        ends = early_ends p done.taken now o2.written f failed h.answered h.after count why stopped f0 f1 done.counted few
            (stops_behind p q (ended_lines done.taken) o2.written h.answered h.after fed.1 wrote answered after) reason flushes;
      },
      part_of_whole g IsLine k0 k h.after o0 o2 keeps_up,
    )

-- why a session stopped, where the flush told it
pub early_input : (why stopped : Stop) (w : Option (List ℕ)) (f : Option ℕ) (f0 f1 r0 r1 : ℕ) → FlushesFor why stopped w f f0 f1 → (why ≡ stop.Input → Rose r0 r1) → stopped ≡ stop.Input → Rose r0 r1
early_input why stopped w f f0 f1 r0 r1 (inl all) rose is = rose (sym all.0 ∙ is)
early_input why stopped w f f0 f1 r0 r1 (inr failed) rose is = let other = failed.0 in absurd (cc)

pub early_output : (why stopped : Stop) (w : Option (List ℕ)) (f : Option ℕ) (f0 f1 k : ℕ) → FlushesFor why stopped w f f0 f1 → (why ≡ stop.Output → ⊥) → k ≤ f0 → stopped ≡ stop.Output → Rose k f1
early_output why stopped w f f0 f1 k (inl all) never le is = absurd (never (sym all.0 ∙ is))
early_output why stopped w f f0 f1 k (inr failed) never le is = omega (arith, failed.1)

pub early_disk : (why stopped : Stop) (w : Option (List ℕ)) (f : Option ℕ) (f0 f1 : ℕ) → FlushesFor why stopped w f f0 f1 → (why ≡ stop.Disk → ⊥) → stopped ≡ stop.Disk → ⊥
early_disk why stopped w f f0 f1 (inl all) never is = never (sym all.0 ∙ is)
early_disk why stopped w f f0 f1 (inr failed) never is = let other = failed.0 in absurd (cc)

pub early_never_much : (why stopped : Stop) (w : Option (List ℕ)) (f : Option ℕ) (f0 f1 : ℕ) → FlushesFor why stopped w f f0 f1 → (why ≡ stop.TooMuch → ⊥) → stopped ≡ stop.TooMuch → ⊥
early_never_much why stopped w f f0 f1 (inl all) never is = never (sym all.0 ∙ is)
early_never_much why stopped w f f0 f1 (inr failed) never is = let other = failed.0 in absurd (cc)

-- where a session stops for too much input, the flush went well
pub early_much : (why stopped : Stop) (w : Option (List ℕ)) (f : Option ℕ) (f0 f1 : ℕ) → FlushesFor why stopped w f f0 f1 → stopped ≡ stop.TooMuch → f1 ≡ f0
early_much why stopped w f f0 f1 (inl all) is = all.2
early_much why stopped w f f0 f1 (inr failed) is = let other = failed.0 in absurd (cc)

-- no line stops a session for that
pub line_not_much : (why : Stop) → IsAtLine why → why ≡ stop.TooMuch → ⊥
line_not_much why (inl e) is = absurd (cc)
line_not_much why (inr (inl e)) is = absurd (cc)
line_not_much why (inr (inr e)) is = absurd (cc)
