-- Each record of a table counts once.
use Rattle.std.proofs.Common.{◌≡◌, ◌≤◌, ◌+◌, ℕ, Bool, true, false, cond, not, ◌&&◌, List, [], ◌∷◌, length, length-append, fold, filter, Option, Some, None, refl, arith, inl, inr}
use Rattle.std.specs.Prelude.{is_none}
use Rattle.std.specs.List.{cons_option, filter_map, list_any}
use Rattle.std.proofs.lemmas.Bool.{cases_Bool}
use Rattle.std.proofs.lemmas.List.{length-map}
use Rattle.indexmap.specs.IndexSet.{insert_key}
use Rattle.reg_terms.specs.declared.rows.JobRow.{JobRow}
use Rattle.reg_facts.specs.Lists.{Lists}
use Rattle.reg_effect.specs.declared.live.Live.{Live}
use Rattle.reg_loader.specs.declared.mentions.Mention.{Mention}
use Rattle.reg_loader.specs.declared.mentions.Mention.TheVariants.{Bad, Standing, New}
use Rattle.reg_loader.specs.declared.tables.TableRow.{TableRow}
use Rattle.reg_loader.specs.Mentions.{group_text, mention, person_in}
use Rattle.reg_loader.specs.Laws.{counted}
use Rattle.reg_loader.specs.Plan.{Key, added, created, is_added, is_among, is_bad, is_forbidden, is_unknown, is_vetoed, key_of, keyed, named, number, plan_of, same_key, shown, standing, unchanged, vetoed, wanted}

count_first : {A : Type 0} (test : A → Bool) (x : A) (xs : List A) → length (filter test (x ∷ xs)) ≡ cond (test x) 1 0 + length (filter test xs)
count_first test x xs = elim (cases_Bool (test x)) [
  | inl here ↦ rw here (omega arith)
  | inr other ↦ rw other (omega arith)
]

listed_first : {K : Type 0} (key : Option K) (keys : List K) → length (cons_option key keys) ≡ length (cons_option key []) + length keys
listed_first None keys = omega arith
listed_first (Some key) keys = omega arith

one_record : (names : List (List ℕ)) (m : Mention) (text : List ℕ) (f : Lists) (person : Option ℕ) → cond (is_bad m) 1 0 + cond (not (is_bad m) && is_none person) 1 0 + length (cons_option (keyed (number names m text f) person) []) ≡ 1
one_record names Bad text f None = refl
one_record names Bad text f (Some s) = refl
one_record names (Standing g) text f None = refl
one_record names (Standing g) text f (Some s) = refl
one_record names New text f None = refl
one_record names New text f (Some s) = refl

records_counted : (names : List (List ℕ)) (job : JobRow) (f : Lists) (rows : List TableRow)
    → length (filter (λ (row : TableRow). is_bad (mention job.target (group_text row) f)) rows) + length (filter (is_unknown job f) rows) + length (filter_map (key_of names job f) rows) ≡ length rows
records_counted names job f [] = refl
records_counted names job f (row ∷ rows) =
    omega (
      arith,
      count_first (λ (r : TableRow). is_bad (mention job.target (group_text r) f)) row rows,
      count_first (is_unknown job f) row rows,
      listed_first (key_of names job f row) (filter_map (key_of names job f) rows),
      one_record names (mention job.target (group_text row) f) (group_text row) f (person_in job row f),
      records_counted names job f rows,
    )

once_within : (keys xs : List Key) → length (fold (insert_key same_key) keys xs) ≤ length keys + length xs
once_within keys [] = omega arith
once_within keys (x ∷ xs) =
    let put : length (insert_key same_key keys x) ≤ length keys + 1 = elim (cases_Bool (list_any (same_key x) keys)) [
      | inl there ↦ rw there (omega arith)
      | inr missing ↦ rw missing (omega (arith, length-append keys (x ∷ [])))
    ] in
    omega (arith, put, once_within (insert_key same_key keys x) xs)

one_key : (there forbidden : Bool) → cond there 1 0 + cond (not there && forbidden) 1 0 + cond (not there && not forbidden) 1 0 ≡ 1
one_key true forbidden = refl
one_key false true = refl
one_key false false = refl

keys_counted : (L : Live) (there : List Key) (f : Lists) (keys : List Key) → length (unchanged there keys) + length (vetoed L there f keys) + length (added L there f keys) ≡ length keys
keys_counted L there f [] = refl
keys_counted L there f (key ∷ keys) =
    omega (
      arith,
      count_first (λ (k : Key). is_among k there) key keys,
      count_first (is_vetoed L there f) key keys,
      count_first (is_added L there f) key keys,
      one_key (is_among key there) (is_forbidden L f key),
      keys_counted L there f keys,
    )

pub all_counted : (L : Live) (job : JobRow) (rows : List TableRow) (f : Lists) → counted (plan_of L job rows f) ≡ length rows
all_counted L job rows f =
    let names = created job.target rows f in
    omega (
      arith,
      records_counted names job f rows,
      once_within [] (named job rows f),
      keys_counted L (standing job.target f) f (wanted job rows f),
      length-map (added L (standing job.target f) f (wanted job rows f)) (shown names f),
    )
