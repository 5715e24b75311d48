-- The events of a date: rows and grants go, and grants begin. What holds of each such event holds of all of them.
use Rattle.std.proofs.Common.{◌≡◌, ℕ, List, [], ◌∷◌, ◌++◌, Option, None, map, filter_map, refl}
use Rattle.std.specs.List.{AllByRecursion}
use Rattle.reg_terms.specs.declared.event.Event.{Event}
use Rattle.reg_terms.specs.declared.event.Event.TheVariants.{RowRemoved, GrantBegan, GrantRemoved}
use Rattle.reg_terms.specs.declared.kinds.Member.{Member}
use Rattle.reg_terms.specs.declared.rows.GrantRow.{GrantRow}
use Rattle.reg_facts.specs.Lists.{Lists}
use Rattle.reg_current.specs.Dates.{GrantKey, date_events, ending, grant_begins_at, grant_ends_at, grant_gone, grant_on, grants_where, pair_gone}

-- what holds of a row that goes, of a grant that goes and of one that begins
pub record OfDates (P : Event → Type 0) : Type 0 where
  pub row : (g : ℕ) (m : Member) → P (RowRemoved g m)
  pub gone : (grant : GrantRow) → P (GrantRemoved grant)
  pub began : (grant : GrantRow) → P (GrantBegan grant)

both : (P : Event → Type 0) (xs ys : List Event) → AllByRecursion P xs → AllByRecursion P ys → AllByRecursion P (xs ++ ys)
both P [] ys a b = b
both P (x ∷ xs) ys a b = (a.0, both P xs ys a.1 b)

rows_all : (P : Event → Type 0) (rows : List (ℕ × Member)) → OfDates P → AllByRecursion P (map pair_gone rows)
rows_all P [] h = tt
rows_all P (row ∷ rows) h = (h.row row.0 row.1, rows_all P rows h)

gone_all : (P : Event → Type 0) (keys : List GrantKey) → OfDates P → AllByRecursion P (map grant_gone keys)
gone_all P [] h = tt
gone_all P (key ∷ keys) h = (h.gone _, gone_all P keys h)

began_all : (P : Event → Type 0) (rows : List GrantRow) (keys : List GrantKey) → OfDates P → AllByRecursion P (map (grant_on rows) keys)
began_all P rows [] h = tt
began_all P rows (key ∷ keys) h = (h.began _, began_all P rows keys h)

pub each_date : (P : Event → Type 0) (d : ℕ) (f : Lists) → OfDates P → AllByRecursion P (date_events d f)
each_date P d f h =
    let gone = grants_where (grant_ends_at d) f.grants [] in
    let begun = grants_where (grant_begins_at d) f.grants [] in
    both P (map pair_gone (ending d f.rows)) (map grant_gone gone ++ map (grant_on f.grants) begun) (rows_all P (ending d f.rows) h)
    (both P (map grant_gone gone) (map (grant_on f.grants) begun) (gone_all P gone h) (began_all P f.grants begun h))

-- where each event gives nothing, all of them give nothing
pub none_of : {A : Type 0} (of : Event → Option A) (es : List Event) → AllByRecursion (λ e. of e ≡ None) es → filter_map of es ≡ []
none_of of [] h = refl
none_of of (e ∷ es) h = rw h.0 (none_of of es h.1)
