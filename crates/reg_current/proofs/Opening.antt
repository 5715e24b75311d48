-- Rows and grants that stand end later, and after they begin, also after an event and after a date.
use Rattle.std.proofs.Common.{◌≡◌, ◌<◌, ◌==◌, ℕ, suc, List, [], ◌∷◌, false, not, filter, Option, Some, None, map, arith, inl, inr, eq-eqb}
use Rattle.std.specs.Prelude.{IfSome}
use Rattle.std.specs.List.{AllByRecursion}
use Rattle.std.proofs.lemmas.Bool.{cases_Bool, cases_lt, both_ways}
use Rattle.reg_terms.specs.declared.kinds.Member.{Member}
use Rattle.reg_terms.specs.declared.rows.MemberRow.{MemberRow}
use Rattle.reg_facts.specs.Lists.{Lists}
use Rattle.reg_facts.specs.Edits.{windowed}
use Rattle.reg_terms.specs.Rows.{is_row}
use Rattle.reg_facts.specs.Events.{happened}
use Rattle.reg_terms.specs.declared.event.Event.{Event}
use Rattle.reg_terms.specs.declared.event.Event.TheVariants.{RowAdded, RowRemoved, RowRedated}
use Rattle.reg_terms.specs.declared.event.Event.TheVariants.{GrantAdded, GrantBegan, GrantRemoved, FolderGone, GroupGone, DefinitionGone}
use Rattle.reg_terms.specs.declared.kinds.Object.{Object}
use Rattle.reg_terms.specs.declared.kinds.Object.TheVariants as object
use Rattle.reg_terms.specs.declared.rows.GrantRow.{GrantRow}
use Rattle.reg_terms.specs.Kinds.{same_object}
use Rattle.reg_facts.specs.Grants.{same_grant, replaced}
use Rattle.reg_facts.proofs.Places.{all_push, all_filter}
use Rattle.reg_current.specs.Dates.{ends_at, due, without_ended, grant_begins_at, grant_ends_at, begun_at}
use Rattle.reg_current.specs.Holding.{EndsLater}
use Rattle.reg_current.specs.Invariant.{IsOpen, IsGrantOpen}
use Rattle.reg_current.proofs.Due.{IsApart, IsStill, IsGrantStill, some_still}

windowed_open : (at from : ℕ) (until : Option ℕ) (g : ℕ) (m : Member) (rows : List MemberRow) → IfSome until (λ u. (at < u) × (from < u)) → AllByRecursion (IsOpen at) rows → AllByRecursion (IsOpen at) (map (windowed from until g m) rows)
windowed_open at from until g m [] window open_rows = tt
windowed_open at from until g m (row ∷ rows) window open_rows = (
  elim (cases_Bool (is_row g m row)) [
    | inl t ↦ rw t window
    | inr t ↦ rw t open_rows.0
  ],
  windowed_open at from until g m rows window open_rows.1,
)

pub still_open : (at : ℕ) (e : Event) (f : Lists) → AllByRecursion (IsOpen at) f.rows → EndsLater at e → AllByRecursion (IsOpen at) (happened e f).rows
still_open at (RowAdded row) f rows later = all_push (IsOpen at) f.rows row rows later
still_open at (RowRemoved g m) f rows later = all_filter (IsOpen at) (λ (row : MemberRow). not (is_row g m row)) f.rows rows
still_open at (RowRedated g m from until) f rows later = windowed_open at from until g m f.rows later rows
still_open at _ f rows later = rows

-- a grant in the place of the one that is the same
replaced_open : (at : ℕ) (row : GrantRow) (rows : List GrantRow) → IsGrantOpen at row → AllByRecursion (IsGrantOpen at) rows → AllByRecursion (IsGrantOpen at) (map (replaced row) rows)
replaced_open at row [] o h = tt
replaced_open at row (r ∷ rows) o h = elim (cases_Bool (same_grant row r)) [
  | inl t ↦ rw t (o, replaced_open at row rows o h.1)
  | inr t ↦ rw t (h.0, replaced_open at row rows o h.1)
]

-- the grants on an object that goes, go
left_open : (at : ℕ) (o : Object) (rows : List GrantRow) → AllByRecursion (IsGrantOpen at) rows → AllByRecursion (IsGrantOpen at) (filter (λ (row : GrantRow). not (same_object row.object o)) rows)
left_open at o rows h = all_filter (IsGrantOpen at) (λ (row : GrantRow). not (same_object row.object o)) rows h

pub still_grants_open : (at : ℕ) (e : Event) (f : Lists) → AllByRecursion (IsGrantOpen at) f.grants → EndsLater at e → AllByRecursion (IsGrantOpen at) (happened e f).grants
still_grants_open at (GrantAdded row) f rows later = all_push (IsGrantOpen at) f.grants row rows later
still_grants_open at (GrantBegan row) f rows later = replaced_open at row f.grants later rows
still_grants_open at (GrantRemoved row) f rows later = all_filter (IsGrantOpen at) (λ (other : GrantRow). not (same_grant row other)) f.grants rows
still_grants_open at (FolderGone id) f rows later = left_open at (object.Folder id) f.grants rows
still_grants_open at (GroupGone id) f rows later = left_open at (object.Group id) f.grants rows
still_grants_open at (DefinitionGone id) f rows later = left_open at (object.Def id) f.grants rows
still_grants_open at _ f rows later = rows

-- ---- after a date, and up to where none is due

open_row : (a d : ℕ) (row : MemberRow) → IsOpen a row → IsStill a d row → ends_at d row ≡ false → IsOpen d row
open_row a d row h s n = go row.until h s.ends n
  where
    go : (until : Option ℕ) → IfSome until (λ u. (a < u) × (row.from < u)) → IfSome until (IsApart a d) → elim until [ None ↦ false | Some u ↦ u == d ] ≡ false → IfSome until (λ u. (d < u) × (row.from < u))
    go None h s n = tt
    go (Some u) h (inl s) n = absurd (let l = h.0 in omega arith)
    go (Some u) h (inr s) n = elim (cases_lt d u) [
      | inl l ↦ (l, h.1)
      | inr l ↦ let e : u ≡ d = omega arith in absurd (both_ways (u == d) n (eq-eqb u d e))
    ]

pub open_left : (a d : ℕ) (rows : List MemberRow) → AllByRecursion (IsOpen a) rows → AllByRecursion (IsStill a d) rows → AllByRecursion (IsOpen d) (filter (λ (row : MemberRow). not (ends_at d row)) rows)
open_left a d [] h s = tt
open_left a d (row ∷ rows) h s = elim (cases_Bool (ends_at d row)) [
  | inl y ↦ rw y (open_left a d rows h.1 s.1)
  | inr n ↦ rw n (open_row a d row h.0 s.0 n, open_left a d rows h.1 s.1)
]

-- the rows that a date leaves
pub open_after : (a b d : ℕ) (f : Lists) → AllByRecursion (IsOpen a) f.rows → due a b f ≡ Some d → AllByRecursion (IsOpen d) (without_ended d f).rows
open_after a b d f h e = open_left a d f.rows h (some_still a b d f e)

-- and all rows up to where none begins or ends
open_row_still : (a b : ℕ) (row : MemberRow) → IsOpen a row → IsStill a (suc b) row → IsOpen b row
open_row_still a b row h s = go row.until h s.ends
  where
    go : (until : Option ℕ) → IfSome until (λ u. (a < u) × (row.from < u)) → IfSome until (IsApart a (suc b)) → IfSome until (λ u. (b < u) × (row.from < u))
    go None h s = tt
    go (Some u) h (inl s) = absurd (let l = h.0 in omega arith)
    go (Some u) h (inr s) = (s, h.1)

pub open_still : (a b : ℕ) (rows : List MemberRow) → AllByRecursion (IsOpen a) rows → AllByRecursion (IsStill a (suc b)) rows → AllByRecursion (IsOpen b) rows
open_still a b [] h s = tt
open_still a b (row ∷ rows) h s = (open_row_still a b row h.0 s.0, open_still a b rows h.1 s.1)

-- ---- grants

-- a date that lay after one moment, and not up to another, lies after that
on_after : (a b : ℕ) (o : Option ℕ) → IfSome o (λ u. a < u) → IfSome o (IsApart a (suc b)) → IfSome o (λ u. b < u)
on_after a b None h s = tt
on_after a b (Some u) h (inl s) = absurd (omega arith)
on_after a b (Some u) h (inr s) = s

pub open_grants_still : (a b : ℕ) (rows : List GrantRow) → AllByRecursion (IsGrantOpen a) rows → AllByRecursion (IsGrantStill a (suc b)) rows → AllByRecursion (IsGrantOpen b) rows
open_grants_still a b [] h s = tt
open_grants_still a b (row ∷ rows) h s = (
  record {
    begins = on_after a b row.from h.0.begins s.0.begins;
    ends = on_after a b row.until h.0.ends s.0.ends;
    after = h.0.after;
  },
  open_grants_still a b rows h.1 s.1,
)

-- the grants that a date leaves: those that begin there are on
past : (a d : ℕ) (o : Option ℕ) → IfSome o (λ u. a < u) → IfSome o (IsApart a d) → elim o [ None ↦ false | Some u ↦ u == d ] ≡ false → IfSome o (λ u. d < u)
past a d None h s n = tt
past a d (Some u) h (inl s) n = absurd (omega arith)
past a d (Some u) h (inr s) n = elim (cases_lt d u) [
  | inl l ↦ l
  | inr l ↦ let e : u ≡ d = omega arith in absurd (both_ways (u == d) n (eq-eqb u d e))
]

grant_past : (a d : ℕ) (row : GrantRow) → IsGrantOpen a row → IsGrantStill a d row → grant_ends_at d row ≡ false → IsGrantOpen d (begun_at d row)
grant_past a d row h s n = elim (cases_Bool (grant_begins_at d row)) [
  | inl y ↦ rw y (record { begins = tt; ends = past a d row.until h.ends s.ends n; after = tt })
  | inr m ↦ rw m (record { begins = past a d row.from h.begins s.begins m; ends = past a d row.until h.ends s.ends n; after = h.after })
]

pub open_grants_left : (a d : ℕ) (rows : List GrantRow) → AllByRecursion (IsGrantOpen a) rows → AllByRecursion (IsGrantStill a d) rows → AllByRecursion (IsGrantOpen d) (map (begun_at d) (filter (λ (row : GrantRow). not (grant_ends_at d row)) rows))
open_grants_left a d [] h s = tt
open_grants_left a d (row ∷ rows) h s = elim (cases_Bool (grant_ends_at d row)) [
  | inl y ↦ rw y (open_grants_left a d rows h.1 s.1)
  | inr n ↦ rw n (grant_past a d row h.0 s.0 n, open_grants_left a d rows h.1 s.1)
]
