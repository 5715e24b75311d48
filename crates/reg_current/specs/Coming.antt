-- The dates to come: what is kept beside the rows and the grants of those that begin or end later
-- than the clock.
use Rattle.std.specs.Prelude.{◌≡◌, ◌≤◌, ℕ, ◌==◌, ◌&&◌, List, Bool, true, false, not, Option}
use Rattle.std.specs.Prelude.{Some, None, MatchOption, nat_lt, nat_le, if◌then◌else◌}
use Rattle.std.specs.List.{list_any}
use Rattle.std.specs.List.Sorted.{IsStrictlySortedBy}
use Rattle.std.specs.BTreeMap.{is_at}
use Rattle.std.specs.BTreeSet.{contains}
use Rattle.std.specs.Ordering.{nat_cmp, ordering_then}
use Rattle.std.specs.declared.cmp.Ordering.{Ordering}
use Rattle.reg_base.specs.declared.privilege.Privilege.{Privilege}
use Rattle.reg_base.specs.contracts.privilege.PrivilegeOrd.TheImpl as privilege_ord
use Rattle.reg_terms.specs.contracts.kinds.HolderOrd.TheImpl as holder_ord
use Rattle.reg_terms.specs.contracts.kinds.ObjectOrd.TheImpl as object_ord
use Rattle.reg_terms.specs.declared.kinds.Holder.{Holder}
use Rattle.reg_terms.specs.declared.kinds.Member.{Member}
use Rattle.reg_terms.specs.declared.kinds.Object.{Object}
use Rattle.reg_terms.specs.declared.rows.GrantRow.{GrantRow}
use Rattle.reg_terms.specs.declared.rows.MemberRow.{MemberRow}
use Rattle.reg_terms.specs.Rows.{is_row}
use Rattle.reg_terms.specs.Kinds.{same_member, same_object, same_holder}
use Rattle.reg_terms.specs.Privileges.{same_privilege}
use Rattle.reg_terms.specs.Rows.{member_cmp}
use Rattle.reg_facts.specs.Grants.{same_grant}
use Rattle.reg_facts.specs.Lists.{Lists}
use Rattle.reg_effect.specs.Order.{row_cmp, has_live_row}
use Rattle.reg_current.specs.declared.dates.Dates.{Dates}
use Rattle.reg_current.specs.declared.dated_grants.DatedGrants.{DatedGrants}
use Rattle.reg_current.specs.declared.dated_rows.DatedRows.{DatedRows}
use Rattle.reg_current.specs.Dates.{begins_at, ends_at, grant_begins_at, grant_ends_at}
use Rattle.reg_current.specs.Dates.{GrantKey, grant_cmp, grant_until, earliest}

-- by the date, then by group, persons before groups, and the member's id
abbrev pub dated_cmp : ℕ × ℕ × Member → ℕ × ℕ × Member → Ordering
dated_cmp a b =
    ordering_then (ordering_then (nat_cmp a.0 b.0) (nat_cmp a.1 b.1)) (member_cmp a.2 b.2)

-- whether a set has the row of a member at a date
abbrev pub has_dated : DatedRows → ℕ → ℕ → Member → Bool
has_dated set d g m = contains dated_cmp set.rows (d, g, m)

-- whether two rows, each at a date, are one at one date
abbrev pub same_dated : ℕ → ℕ → Member → ℕ → ℕ → Member → Bool
same_dated date group member d g m = (date == d) && ((group == g) && same_member member m)

-- a set has a row at a date
abbrev pub HasDate : DatedRows → ℕ → Type 0
HasDate set date = (g : ℕ) × (m : Member) × (has_dated set date g m ≡ true)

-- the least date of a set, if it has any
abbrev pub IsFirst : DatedRows → Option ℕ → Type 0
IsFirst set first =
    MatchOption first ((d g : ℕ) (m : Member)
    → has_dated set d g m ≡ false) (λ a. HasDate set a
    × ((d g : ℕ) (m : Member) → has_dated set d g m ≡ true → a ≤ d))

-- a date if it is there and comes up to a moment
abbrev pub up_to : ℕ → Option ℕ → Option ℕ
up_to to None = None
up_to to (Some date) = if nat_le date to then Some date else None

-- the rows of a set at a date, in order
pub record AreDated (set : DatedRows) (date : ℕ) (rows : List (ℕ × Member)) : Type 0 where
  pub ordered : IsStrictlySortedBy row_cmp rows
  pub same : (g : ℕ) (m : Member) → has_live_row g m rows ≡ has_dated set date g m

-- a set has the rows whose date, by a test, lies after a moment
abbrev pub FindsAfter : DatedRows → (ℕ → MemberRow → Bool) → ℕ → List MemberRow → Type 0
FindsAfter set test clock rows =
    (d g : ℕ) (m : Member) → has_dated set d g m
    ≡ (nat_lt clock d && list_any (λ (row : MemberRow). test d row && is_row g m row) rows)

-- ---- grants

-- by the date, and then as grants stand in order
abbrev pub dated_grant_cmp : ℕ × Object × Privilege × Holder → ℕ × Object × Privilege × Holder
    → Ordering
dated_grant_cmp a b =
    ordering_then
    (ordering_then (ordering_then (nat_cmp a.0 b.0) ((object_ord.ghosts).cmp a.1 b.1))
    ((privilege_ord.ghosts).cmp a.2 b.2)) ((holder_ord.ghosts).cmp a.3 b.3)

-- the two tell one grant
abbrev pub same_key : GrantKey → GrantKey → Bool
same_key k l =
    same_object k.0 l.0 && (same_privilege k.1 l.1 && same_holder k.2 l.2)

-- what tells a grant apart
abbrev pub key_of : GrantRow → GrantKey
key_of row = (row.object, row.privilege, row.holder)

-- whether a grant is the one that is told
abbrev pub is_grant : GrantKey → GrantRow → Bool
is_grant k row = same_grant (grant_until None k) row

-- whether a set has a grant at a date
abbrev pub has_dated_grant : DatedGrants → ℕ → GrantKey → Bool
has_dated_grant set d k = contains dated_grant_cmp set.grants (d, k.0, k.1, k.2)

-- whether there is a date, and it is this one
abbrev pub is_date : ℕ → Option ℕ → Bool
is_date d date = elim date [ None ↦ false | Some u ↦ u == d ]

-- whether two grants, each at a date, are one at one date
abbrev pub same_dated_grant : ℕ → GrantKey → ℕ → GrantKey → Bool
same_dated_grant date key d k = (date == d) && same_key key k

-- a set has a grant at a date
abbrev pub HasGrantDate : DatedGrants → ℕ → Type 0
HasGrantDate set date = (k : GrantKey) × (has_dated_grant set date k ≡ true)

-- the least date of a set of grants, if it has any
abbrev pub IsFirstGrant : DatedGrants → Option ℕ → Type 0
IsFirstGrant set first =
    MatchOption first ((d : ℕ) (k : GrantKey)
    → has_dated_grant set d k ≡ false) (λ a. HasGrantDate set a
    × ((d : ℕ) (k : GrantKey) → has_dated_grant set d k ≡ true → a ≤ d))

-- the grants of a set at a date, in order
pub record AreDatedGrants (set : DatedGrants) (date : ℕ) (keys : List GrantKey) : Type 0 where
  pub ordered : IsStrictlySortedBy grant_cmp keys
  pub same : (k : GrantKey) → list_any (is_at (grant_cmp k)) keys ≡ has_dated_grant set date k

-- a set has the grants whose date, by a test, lies after a moment
abbrev pub FindsGrants : DatedGrants → (ℕ → GrantRow → Bool) → ℕ → List GrantRow → Type 0
FindsGrants set test clock grants =
    (d : ℕ) (k : GrantKey) → has_dated_grant set d k
    ≡ (nat_lt clock d && list_any (λ (row : GrantRow). test d row && is_grant k row) grants)

-- a set has some grants less, each at its date by a test
abbrev pub LosesGrants : DatedGrants → DatedGrants → (ℕ → GrantRow → Bool) → List GrantRow → Type 0
LosesGrants old new test grants =
    (d : ℕ) (k : GrantKey) → has_dated_grant new d k
    ≡ (not (list_any (λ (row : GrantRow). test d row && is_grant k row) grants)
    && has_dated_grant old d k)

-- ---- all

-- the earlier of what is first by one test and what is first by another
pub record IsFirstOf (P : Option ℕ → Type 0) (Q : Option ℕ → Type 0)
    (first : Option ℕ) : Type 0 where
  pub left : Option ℕ
  pub right : Option ℕ
  pub by_one : P left
  pub by_other : Q right
  pub is : first ≡ earliest left right

-- the rows that begin later than the clock, and those that end later; and so the grants
pub record AreFound (dates : Dates) (clock : ℕ) (rows : List MemberRow) (grants : List
    GrantRow) : Type 0 where
  pub begins : FindsAfter dates.begins begins_at clock rows
  pub ends : FindsAfter dates.ends ends_at clock rows
  pub grant_begins : FindsGrants dates.grant_begins grant_begins_at clock grants
  pub grant_ends : FindsGrants dates.grant_ends grant_ends_at clock grants

-- and so those of the facts
abbrev pub FindsDates : Dates → ℕ → Lists → Type 0
FindsDates dates clock f = AreFound dates clock f.rows f.grants

-- a set has some rows less, each at its date by a test
abbrev pub LosesRows : DatedRows → DatedRows → (ℕ → MemberRow → Bool) → List MemberRow → Type 0
LosesRows old new test rows =
    (d g : ℕ) (m : Member) → has_dated new d g m
    ≡ (not (list_any (λ (row : MemberRow). test d row && is_row g m row) rows)
    && has_dated old d g m)

-- the dates of some rows are to come no longer; those of grants stay
pub record LosesDates (old : Dates) (new : Dates) (rows : List MemberRow) : Type 0 where
  pub begins : LosesRows old.begins new.begins begins_at rows
  pub ends : LosesRows old.ends new.ends ends_at rows
  pub grant_begins : new.grant_begins ≡ old.grant_begins
  pub grant_ends : new.grant_ends ≡ old.grant_ends

-- the dates of some grants are to come no longer; those of rows stay
pub record LosesGrantDates (old : Dates) (new : Dates) (grants : List GrantRow) : Type 0 where
  pub begins : new.begins ≡ old.begins
  pub ends : new.ends ≡ old.ends
  pub grant_begins : LosesGrants old.grant_begins new.grant_begins grant_begins_at grants
  pub grant_ends : LosesGrants old.grant_ends new.grant_ends grant_ends_at grants
