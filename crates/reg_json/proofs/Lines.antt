-- What a line is as data.
use Rattle.std.proofs.Common.{◌≡◌, ◌≤◌, ◌<◌, ℕ, List, [], Some, None, true, false, Result, Ok, Err, length, is_some, refl, cond}
use Rattle.std.specs.Str.{IsUtf8, is_utf8}
use Rattle.std.proofs.lemmas.Str.{IsUtf8-from_is_utf8, is_utf8-from_IsUtf8}
use Rattle.std.proofs.lemmas.Bool.{le-leb, lt-leb}
use Rattle.serde_json.specs.Data.{Data}
use Rattle.serde_json.specs.Read.{read}
use Rattle.serde_json.specs.Find.{as_object}
use Rattle.reg_terms.specs.declared.refusal.Refusal.{Refusal}
use Rattle.reg_terms.specs.declared.refusal.Refusal.TheVariants.{BadRequest, TooLong}
use Rattle.reg_terms.specs.Limits.{max_line}
use Rattle.reg_json.specs.Reading.{data_of, object_of, reading_of}

object_ok : (d : Data) → is_some (as_object d) ≡ true → object_of (Some d) ≡ Ok d
object_ok d = elim (as_object d) as (λ o. is_some o ≡ true → (elim o as (λ _. Result Data Refusal) [ None ↦ Err (BadRequest []) | Some ms ↦ Ok d ]) ≡ Ok d) [ None ↦ λ e. cc | Some ms ↦ λ e. refl ]

pub data_of_object : (line : List ℕ) (d : Data) → length line ≤ max_line → IsUtf8 line → read line ≡ Some d → is_some (as_object d) ≡ true → data_of line ≡ Ok d
unfolding data_of
data_of_object line d h u r o = rw (le-leb _ _ h, is_utf8-from_IsUtf8 line u, r) (object_ok d o)

pub data_of_none : (line : List ℕ) → length line ≤ max_line → (IsUtf8 line → read line ≡ None) → data_of line ≡ Err (BadRequest [])
unfolding data_of
data_of_none line h n = rw (le-leb _ _ h) (
    elim (is_utf8 line) as (λ b. is_utf8 line ≡ b → cond b (object_of (read line)) (Err (BadRequest [])) ≡ Err (BadRequest [])) [
      | true ↦ λ e. rw (n (IsUtf8-from_is_utf8 line e)) refl
      | false ↦ λ e. refl
    ] refl)

-- a line that is too long
pub data_of_long : (line : List ℕ) → max_line < length line → data_of line ≡ Err (TooLong max_line)
unfolding data_of
data_of_long line h = rw (lt-leb _ _ h) refl

pub ruleset line_lemmas = (data_of_object, data_of_none, data_of_long)

pub reading_long : (line : List ℕ) → max_line < length line → reading_of line ≡ Err (TooLong max_line)
unfolding reading_of
reading_long line h = rw (data_of_long line h) refl
