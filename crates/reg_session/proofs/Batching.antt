-- A batch of lines: how many they are, and its replies on another output.
use Rattle.std.proofs.Common.{◌≡◌, ◌≤◌, ◌<◌, ◌+◌, ◌-◌, ◌++◌, ◌∷◌, ◌==◌, [], List, ℕ, Option, Some, None, Result, Bool, true, false, refl, ap, sym, ◌∙◌, arith, inl, inr, length, length-append, take, drop, take-append-drop, append_assoc, subst, get_or, cond}
use Rattle.std.specs.Prelude.{All, count_by, slice_index, if◌then◌else◌}
use Rattle.std.specs.Io.KnownBytes.{append_known}
use Rattle.std.proofs.lemmas.List.{length-map}
use Rattle.std.proofs.lemmas.List.Sums.{sum_by-cons, count_by_more_no, count_by_more_yes}
use Rattle.reg_terms.specs.declared.command.Stamped.{Stamped}
use Rattle.reg_terms.specs.declared.refusal.Refusal.{Refusal}
use Rattle.reg_terms.specs.declared.request.Request.{Request}
use Rattle.reg_terms.specs.declared.reply.Reply.{Reply}
use Rattle.reg_machine.specs.History.{State}
use Rattle.reg_json.specs.Reading.{reading_of}
use Rattle.reg_service.specs.Kept.{IsOneMore}
use Rattle.reg_service.specs.Turn.{turn, Turns}
use Rattle.reg_session.specs.Lines.{ended_from, is_skipped, readings}
use Rattle.reg_session.specs.Pending.{Holds}
use Rattle.reg_session.specs.Replies.{lines_of}
use Rattle.reg_session.specs.Answered.{Answer, Answered, Accepted, Feeds, MayAnswer, Point, readings_of, replies_of}
use Rattle.reg_session.specs.Together.{line_feeds}
use Rattle.reg_session.specs.declared.pending.PendingLine.{PendingLine}
use Rattle.reg_session.proofs.Halting.{turn_one}

-- ---- where a batch ends

-- as many lines end as there are LFs
pub ended_count : (before bytes : List ℕ) → length (ended_from before bytes) ≡ line_feeds bytes
ended_count before [] = refl
ended_count before (b ∷ bs) =
    elim (b == 10) as (λ (t : Bool). b == 10 ≡ t → length (if t then before ∷ ended_from [] bs else ended_from (before ++ b ∷ []) bs) ≡ line_feeds (b ∷ bs)) [
      | true ↦ λ e. omega (arith, ended_count [] bs, counts e)
      | false ↦ λ e. omega (arith, ended_count (before ++ b ∷ []) bs, counts e)
    ] refl
  where
    counts : {t : Bool} → b == 10 ≡ t → line_feeds (b ∷ bs) ≡ (cond t 1 0) + line_feeds bs
    counts {t = t} e = sum_by-cons (λ (x : ℕ). cond (x == 10) 1 0) b bs ∙ ap (λ (u : Bool). cond u 1 0 + line_feeds bs) e

-- one byte more
pub feeds_no : (bytes : List ℕ) (at : ℕ) → at < length bytes → slice_index bytes at == 10 ≡ false → line_feeds (take (at + 1) bytes) ≡ line_feeds (take at bytes)
feeds_no bytes at inside other = count_by_more_no (λ (b : ℕ). b == 10) bytes at 0 inside other

pub feeds_yes : (bytes : List ℕ) (at : ℕ) → at < length bytes → slice_index bytes at == 10 ≡ true → line_feeds (take (at + 1) bytes) ≡ line_feeds (take at bytes) + 1
feeds_yes bytes at inside is = count_by_more_yes (λ (b : ℕ). b == 10) bytes at 0 inside is

-- ---- how many commands lines accept

few_readings : (ls : List (List ℕ)) → length (readings ls) ≤ length ls
few_readings [] = omega arith
few_readings (line ∷ ls) =
    elim (is_skipped line) as (λ (t : Bool). length (if t then readings ls else reading_of line ∷ readings ls) ≤ length (line ∷ ls)) [
      | true ↦ omega (arith, few_readings ls)
      | false ↦ omega (arith, few_readings ls)
    ]

one_long : (before after : List Stamped) → IsOneMore before after → length after ≤ length before + 1
one_long before after (inl e) = omega (arith, ap (λ (l : List Stamped). length l) e)
one_long before after (inr e) = omega (arith, ap (λ (l : List Stamped). length l) e.1, length-append before (e.0 ∷ []))

turns_long : (s after : State) (m : ℕ) (reading : Result Request Refusal) (told : Reply) → Turns s m reading told after → length after.history ≤ length s.history + 1
turns_long s after m reading told (inl e) =
    let kept : after ≡ (turn s m reading).1 = ap (λ (p : Reply × State). p.1) e in
    omega (arith, one_long s.history (turn s m reading).1.history (turn_one s m reading), ap (λ (t : State). length t.history) kept)
turns_long s after m reading told (inr w) = omega (arith, ap (λ (l : List Stamped). length l) w.history)

may_long : (s last : State) (given : List Answer) → MayAnswer s given last → length last.history ≤ length s.history + length given
may_long s last [] is = omega (arith, ap (λ (t : State). length t.history) is)
may_long s last (a ∷ given) is = omega (arith, turns_long s is.0 a.at a.reading a.told is.1, may_long is.0 last given is.2)

-- each line accepts one at most
pub few_accepted : (p q : Point) (ls : List (List ℕ)) (more : List Stamped) → Answered p ls q → q.state.history ≡ p.state.history ++ more → length more ≤ length ls
few_accepted p q ls more a grown =
    let asked : length (readings_of a.answers) ≡ length (readings ls) = ap (λ (l : List (Result Request Refusal)). length l) a.asked in
    omega (
      arith,
      may_long p.state q.state a.answers a.given,
      asked,
      length-map a.answers (λ (x : Answer). x.reading),
      few_readings ls,
      ap (λ (l : List Stamped). length l) grown,
      length-append p.state.history more,
    )

-- ---- the same replies on another output

own_text : (text written : List ℕ) → Some text ≡ append_known (Some []) written → text ≡ written
own_text text written e = cc

-- lines that were answered into an empty buffer, and what it has then written to an output
pub answered_moved : (w c0 c1 : Option (List ℕ)) (s0 s1 : State) (text : List ℕ) (ls : List (List ℕ))
    → Answered (record { written = Some []; moments = c0; state = s0 }) ls (record { written = Some text; moments = c1; state = s1 })
    → Answered (record { written = w; moments = c0; state = s0 }) ls (record { written = append_known w text; moments = c1; state = s1 })
answered_moved w c0 c1 s0 s1 text ls a = record {
  answers = a.answers;
  asked = a.asked;
  given = a.given;
  times = a.times;
  text = ap (append_known w) (own_text text (lines_of (replies_of a.answers)) a.text);
}

pub feeds_moved : (w w2 c0 c1 : Option (List ℕ)) (s0 s1 s2 : State) (text : List ℕ) (pending kept : PendingLine) (taken : List ℕ) → w2 ≡ append_known w text → s2 ≡ s1
    → Feeds (record { written = Some []; moments = c0; state = s0 }) pending taken (record { written = Some text; moments = c1; state = s1 }) kept
    → Feeds (record { written = w; moments = c0; state = s0 }) pending taken (record { written = w2; moments = c1; state = s2 }) kept
feeds_moved w w2 c0 c1 s0 s1 s2 text pending kept taken wrote same fed line held =
    let f = fed line held in
    rw (wrote, same) (f.0, answered_moved w c0 c1 s0 s1 text (ended_from line taken) f.1)
