-- The entries that a consumer is told over the facts are those that the view shows.
use Rattle.std.proofs.Common.{◌≡◌, ◌+◌, ◌∷◌, ℕ, suc, zero, List, [], Bool, true, false, None, Result, Ok, inl, inr, refl, sym, ap, ◌∙◌, map, bytes_eq, arith}
use Rattle.std.specs.Prelude.{drop, length, take, if◌then◌else◌}
use Rattle.std.proofs.lemmas.Bool.{cases_Bool}
use Rattle.reg_terms.specs.declared.refusal.Refusal.{Refusal}
use Rattle.reg_terms.specs.declared.refusal.Refusal.TheVariants.{NotFound}
use Rattle.reg_terms.specs.declared.rows.ConsumerRow.{ConsumerRow}
use Rattle.reg_terms.specs.declared.changes_shown.EntryShown.{EntryShown}
use Rattle.reg_terms.specs.declared.admin_shown.ConsumerShown.{ConsumerShown}
use Rattle.reg_terms.specs.declared.query.Answer.{Answer}
use Rattle.reg_terms.specs.declared.query.Answer.TheVariants as answer
use Rattle.reg_log.specs.declared.entries.Line.{Line}
use Rattle.reg_log.specs.Numbering.{entries_after, entry_of, numbered}
use Rattle.reg_facts.specs.Consumers.{consumer_place}
use Rattle.reg_facts.specs.Lists.{Lists}
use Rattle.reg_effect.specs.declared.live.Live.{Live}
use Rattle.reg_priv.specs.declared.who.Who.{Who}
use Rattle.reg_priv.specs.May.{is_root}
use Rattle.reg_view.specs.Answers.{entries_told, log_of}
use Rattle.reg_view.specs.Past.{Past, entry_shown, log_shown}
use Rattle.reg_view.specs.Show.{◌>>=◌, found_or, named, shown_log}
use Rattle.reg_view.specs.Texts.{consumer_shown}
use Rattle.reg_view.specs.View.{for_root, seen_by}

-- ---- a part of the log

take_map : {A B : Type 0} (show : A → B) (n : ℕ) (xs : List A) → take n (map show xs) ≡ map show (take n xs)
take_map show zero xs = refl
take_map show (suc n) [] = refl
take_map show (suc n) (x ∷ xs) = ap (λ more. show x ∷ more) (take_map show n xs)

drop_map : {A B : Type 0} (show : A → B) (n : ℕ) (xs : List A) → drop n (map show xs) ≡ map show (drop n xs)
drop_map show zero xs = refl
drop_map show (suc n) [] = refl
drop_map show (suc n) (x ∷ xs) = drop_map show n xs

length_map : {A B : Type 0} (show : A → B) (xs : List A) → length (map show xs) ≡ length xs
length_map show [] = refl
length_map show (x ∷ xs) = ap (λ n. suc n) (length_map show xs)

take_numbered : (n place : ℕ) (lines : List Line) → take n (numbered place lines) ≡ numbered place (take n lines)
take_numbered zero place lines = refl
take_numbered (suc n) place [] = refl
take_numbered (suc n) place (line ∷ lines) = ap (λ more. entry_of (suc place) line ∷ more) (take_numbered n (suc place) lines)

drop_numbered : (n place : ℕ) (lines : List Line) → drop n (numbered place lines) ≡ numbered (n + place) (drop n lines)
drop_numbered zero place lines = let same : place ≡ 0 + place = omega arith in ap (λ k. numbered k lines) same
drop_numbered (suc n) place [] = refl
drop_numbered (suc n) place (line ∷ lines) =
    let more : n + suc place ≡ suc n + place = omega arith in
    drop_numbered n (suc place) lines ∙ ap (λ k. numbered k (drop n lines)) more

length_numbered : (place : ℕ) (lines : List Line) → length (numbered place lines) ≡ length lines
length_numbered place [] = refl
length_numbered place (line ∷ lines) = ap (λ n. suc n) (length_numbered (suc place) lines)

part_is : (past : Past) (place max : ℕ) → map (entry_shown past) (entries_after place max past.lines) ≡ take max (drop place (log_shown past))
part_is past place max =
    let all : place + 0 ≡ place = omega arith in
    ap (map (entry_shown past))
    (sym (take_numbered max place (drop place past.lines))
    ∙ ap (take max) (ap (λ k. numbered k (drop place past.lines)) (sym all) ∙ sym (drop_numbered place 0 past.lines)))
    ∙ sym (take_map (entry_shown past) max (drop place (numbered 0 past.lines)))
    ∙ ap (take max) (sym (drop_map (entry_shown past) place (numbered 0 past.lines)))

last_is : (past : Past) → length past.lines ≡ length (log_shown past)
last_is past = sym (length_map (entry_shown past) (numbered 0 past.lines) ∙ length_numbered 0 past.lines)

told_is : (past : Past) (place max : ℕ) → entries_told past place max ≡ answer.Log (take max (drop place (log_shown past))) (length (log_shown past)) place
told_is past place max =
    ap (λ entries. answer.Log entries (length past.lines) place) (part_is past place max)
    ∙ ap (λ last. answer.Log (take max (drop place (log_shown past))) last place) (last_is past)

-- ---- the consumer

module _ (past : Past) (consumer : List ℕ) (max : ℕ) where
  abbrev shows : List EntryShown → ConsumerShown → Result Answer Refusal
  shows log c = Ok (answer.Log (take max (drop c.place log)) (length log) c.place)

  place_told : (rows : List ConsumerRow) → (found_or (consumer_place consumer rows) (NotFound consumer) >>= (λ place. Ok (entries_told past place max)))
      ≡ (found_or (named (λ (c : ConsumerShown). c.consumer) (map consumer_shown rows) consumer) (NotFound consumer) >>= shows (log_shown past))
  place_told [] = refl
  place_told (row ∷ rows) = elim (cases_Bool (bytes_eq row.name consumer)) [
    | inl t ↦ rw t (ap (λ a. Ok a) (told_is past row.place max))
    | inr t ↦ rw t (place_told rows)
  ]

  root_told : (root : Bool) (rows : List ConsumerRow) → (found_or (if root then consumer_place consumer rows else None) (NotFound consumer) >>= (λ place. Ok (entries_told past place max)))
      ≡ (found_or (named (λ (c : ConsumerShown). c.consumer) (for_root root (map consumer_shown rows)) consumer) (NotFound consumer) >>= shows (for_root root (log_shown past)))
  root_told true rows = place_told rows
  root_told false rows = refl

pub log_agrees : (past : Past) (L : Live) (f : Lists) (c : Who) (now moment : ℕ) (by consumer : List ℕ) (max : ℕ) → log_of past L f c consumer max ≡ shown_log (seen_by past L f now moment by c) consumer max
log_agrees past L f c now moment by consumer max = root_told past consumer max (is_root L f c) f.consumers
