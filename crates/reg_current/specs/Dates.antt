-- Dates of memberships and grants: the moments at which they begin and end, as they come one after
-- another.
use Rattle.std.specs.BTreeSet.{insert_key}
use Rattle.std.specs.List.{list_any, find}
use Rattle.std.specs.Ordering.{ordering_then}
use Rattle.std.specs.declared.cmp.Ordering.{Ordering}
use Rattle.std.specs.Prelude.{◌≡◌, ◌<◌, ◌≤◌, ℕ, zero, suc, ◌+◌, ◌*◌, ◌==◌, ◌&&◌, ◌||◌, List, []}
use Rattle.std.specs.Prelude.{◌∷◌, ◌++◌, Bool, true, false, not, Option, Some, None, min, filter}
use Rattle.std.specs.Prelude.{map}
use Rattle.std.specs.Prelude.{length, nat_lt, nat_le, if◌then◌else◌}
use Rattle.reg_base.specs.declared.privilege.Privilege.{Privilege}
use Rattle.reg_base.specs.contracts.privilege.PrivilegeOrd.TheImpl as privilege_ord
use Rattle.reg_terms.specs.declared.event.Event.{Event}
use Rattle.reg_terms.specs.declared.event.Event.TheVariants.{RowRemoved, GrantBegan, GrantRemoved}
use Rattle.reg_terms.specs.declared.kinds.Member.{Member}
use Rattle.reg_terms.specs.declared.kinds.Holder.{Holder}
use Rattle.reg_terms.specs.declared.kinds.Object.{Object}
use Rattle.reg_terms.specs.declared.rows.GrantRow.{GrantRow}
use Rattle.reg_terms.specs.declared.rows.MemberRow.{MemberRow}
use Rattle.reg_terms.specs.contracts.kinds.HolderOrd.TheImpl as holder_ord
use Rattle.reg_terms.specs.contracts.kinds.ObjectOrd.TheImpl as object_ord
use Rattle.reg_facts.specs.Grants.{same_grant}
use Rattle.reg_facts.specs.Lists.{Lists}
use Rattle.reg_effect.specs.declared.live.Change.{Change}
use Rattle.reg_effect.specs.Bound.{most_steps_of}
use Rattle.reg_effect.specs.Changes.{rows_where, all_off, all_on}
use Rattle.reg_effect.specs.Deltas.{ended}
use Rattle.reg_current.specs.Live.{live}
use Rattle.reg_rules.specs.declared.actions.Action.{Action}
use Rattle.reg_rules.specs.Actions.{changes_by}
use Rattle.reg_rules.specs.Settling.{settle, settling}

-- whether a row begins at a date
abbrev pub begins_at : ℕ → MemberRow → Bool
begins_at d row = row.from == d

-- whether a row ends at a date
abbrev pub ends_at : ℕ → MemberRow → Bool
ends_at d row = elim row.until [ None ↦ false | Some u ↦ u == d ]

-- whether a row is on at a moment: it has begun, and not ended
abbrev pub is_on : ℕ → MemberRow → Bool
is_on t row = nat_le row.from t && elim row.until [ None ↦ true | Some u ↦ nat_lt t u ]

-- the earlier of a date and the one found so far
abbrev pub earlier : ℕ → Option ℕ → Option ℕ
earlier d None = Some d
earlier d (Some e) = Some (min d e)

-- a date counts where it lies after one moment and up to another
abbrev pub with_date : ℕ → ℕ → ℕ → Option ℕ → Option ℕ
with_date a b d found = if nat_lt a d && nat_le d b then earlier d found else found

-- and so does an end, if there is one
abbrev pub with_end : ℕ → ℕ → Option ℕ → Option ℕ → Option ℕ
with_end a b None found = found
with_end a b (Some d) found = with_date a b d found

-- the least date of rows after one moment and up to another
abbrev pub due_row : ℕ → ℕ → List MemberRow → Option ℕ
due_row a b [] = None
due_row a b (row ∷ rows) = with_date a b row.from (with_end a b row.until (due_row a b rows))

-- and the least of grants, of which one that has begun has its end alone
abbrev pub due_grant : ℕ → ℕ → List GrantRow → Option ℕ
due_grant a b [] = None
due_grant a b (row ∷ rows) =
    with_end a b row.from (with_end a b row.until (due_grant a b rows))

-- the earlier of two dates, as far as they are there
abbrev pub earliest : Option ℕ → Option ℕ → Option ℕ
earliest None other = other
earliest (Some date) other = earlier date other

-- the least date of the facts after one moment and up to another
abbrev pub due : ℕ → ℕ → Lists → Option ℕ
due a b f = earliest (due_row a b f.rows) (due_grant a b f.grants)

-- whether a date is one of a row's
abbrev pub is_dated : ℕ → MemberRow → Bool
is_dated d row = begins_at d row || ends_at d row

-- whether it is the one at which a grant begins, or ends
abbrev pub grant_begins_at : ℕ → GrantRow → Bool
grant_begins_at d row = elim row.from [ None ↦ false | Some u ↦ u == d ]

abbrev pub grant_ends_at : ℕ → GrantRow → Bool
grant_ends_at d row = elim row.until [ None ↦ false | Some u ↦ u == d ]

abbrev pub is_grant_dated : ℕ → GrantRow → Bool
is_grant_dated d row = grant_begins_at d row || grant_ends_at d row

-- whether one of the rows or of the grants has a date
abbrev pub has_date : Lists → ℕ → Bool
has_date f d = list_any (is_dated d) f.rows || list_any (is_grant_dated d) f.grants

-- no date after one moment and up to another
abbrev pub IsFree : ℕ → ℕ → (ℕ → Bool) → Type 0
IsFree a b has = (d : ℕ) → a < d → d ≤ b → has d ≡ false

-- the least date after one moment and up to another
pub record IsLeast (a b : ℕ) (has : ℕ → Bool) (d : ℕ) : Type 0 where
  pub later : a < d
  pub within : d ≤ b
  pub dated : has d ≡ true
  pub none_before : (e : ℕ) → a < e → e < d → has e ≡ false

-- a later date, before which no date comes, at which no row ends, and which no grant has
pub record IsNext (a d : ℕ) (f : Lists) : Type 0 where
  pub later : a < d
  pub none_begins : (x : ℕ) → a < x → x < d → list_any (begins_at x) f.rows ≡ false
  pub none_ends : (x : ℕ) → a < x → x ≤ d → list_any (ends_at x) f.rows ≡ false
  pub no_grant : (x : ℕ) → a < x → x ≤ d → list_any (is_grant_dated x) f.grants ≡ false

-- the facts without the rows and the grants that end at a date
abbrev pub without_ended : ℕ → Lists → Lists
without_ended d f = record f {
  rows = filter (λ (row : MemberRow). not (ends_at d row)) f.rows;
  grants = filter (λ (row : GrantRow). not (grant_ends_at d row)) f.grants;
}

-- a grant after a date: if it begins there it is on
abbrev pub begun_at : ℕ → GrantRow → GrantRow
begun_at d row = if grant_begins_at d row then record row { from = None } else row

-- the facts at a date, before rules act: what ends there has gone, and grants that begin there are
-- on
abbrev pub at_date : ℕ → Lists → Lists
at_date d f = record (without_ended d f) { grants = map (begun_at d) (without_ended d f).grants }

-- what rules do at a date, the first one after a moment
abbrev pub date_actions : ℕ → ℕ → Lists → List Action
date_actions a d f = settling (ended (live a f) (live d (at_date d f))) d (at_date d f)

-- the facts after a date has come, the first one after a moment: what ends there goes, grants that
-- begin there are on, and what follows is settled
abbrev pub date_passed : ℕ → ℕ → Lists → Lists
date_passed a d f = settle (ended (live a f) (live d (at_date d f))) d (at_date d f)

-- at most n dates come, each the least after the one before
abbrev pub pass_in : ℕ → ℕ → ℕ → Lists → Lists
pass_in zero a b f = f
pass_in (suc n) a b f =
    elim (due a b f) [ None ↦ f | Some d ↦ pass_in n d b (date_passed a d f) ]

-- the most dates that can come: a row has two at most, also where a rule gives it its end, and so
-- has a grant
abbrev pub most_dates : Lists → ℕ
most_dates f = 2 * (length f.rows + length f.grants)

-- the facts after all dates that come after one moment and up to another
unfoldable pub pass : ℕ → ℕ → Lists → Lists
pass a b f = pass_in (most_dates f) a b f

-- the rows that end at a date, in order
abbrev pub ending : ℕ → List MemberRow → List (ℕ × Member)
ending d rows = rows_where (ends_at d) rows []

-- a row of a group and a member goes
abbrev pub pair_gone : ℕ × Member → Event
pair_gone row = RowRemoved row.0 row.1

-- what tells a grant apart
abbrev pub GrantKey : Type 0
GrantKey = Object × Privilege × Holder

-- by the object (folders, groups, definitions, each by id), the privilege's code, and the holder
-- (everyone, persons, groups)
abbrev pub grant_cmp : GrantKey → GrantKey → Ordering
grant_cmp a b =
    ordering_then
    (ordering_then ((object_ord.ghosts).cmp a.0 b.0) ((privilege_ord.ghosts).cmp a.1 b.1))
    ((holder_ord.ghosts).cmp a.2 b.2)

-- the grants that pass a test, in order, beside others
abbrev pub grants_where : (GrantRow → Bool) → List GrantRow → List GrantKey → List GrantKey
grants_where test [] keys = keys
grants_where test (row ∷ rest) keys =
    grants_where test rest
    (if test row then insert_key grant_cmp keys (row.object, row.privilege, row.holder) else keys)

-- a grant that is on and stands until a date, if there is one
abbrev pub grant_until : Option ℕ → GrantKey → GrantRow
grant_until until k = record {
  object = k.0;
  privilege = k.1;
  holder = k.2;
  from = None;
  until = until;
}

-- when a grant ends, if it does
abbrev pub end_of : GrantKey → List GrantRow → Option ℕ
end_of k rows = elim (find (same_grant (grant_until None k)) rows) [
  | None ↦ None
  | Some row ↦ row.until
]

-- a grant ends
abbrev pub grant_gone : GrantKey → Event
grant_gone k = GrantRemoved (grant_until None k)

-- a grant begins
abbrev pub grant_on : List GrantRow → GrantKey → Event
grant_on rows k = GrantBegan (grant_until (end_of k rows) k)

-- the events of a date: the rows that end there go, and so do the grants; then grants begin
abbrev pub date_events : ℕ → Lists → List Event
date_events d f =
    map pair_gone (ending d f.rows)
    ++ (map grant_gone (grants_where (grant_ends_at d) f.grants [])
    ++ map (grant_on f.grants) (grants_where (grant_begins_at d) f.grants []))

-- the rows that begin at a date, in order
abbrev pub beginning : ℕ → List MemberRow → List (ℕ × Member)
beginning d rows = rows_where (begins_at d) rows []

-- the changes of live data that a date makes: the rows that end, and then the rows that begin
abbrev pub date_changes : ℕ → Lists → List Change
date_changes d f = all_off (ending d f.rows) ++ all_on (beginning d f.rows)

-- the most steps that a date takes, the first one after a moment, with what rules do there
abbrev pub date_steps : ℕ → ℕ → Lists → ℕ
date_steps a d f =
    most_steps_of (date_changes d f) (live a f)
    + most_steps_of (changes_by (date_actions a d f)) (live d (at_date d f))

-- the most steps that at most n dates take
abbrev pub pass_steps_in : ℕ → ℕ → ℕ → Lists → ℕ
pass_steps_in zero a b f = 0
pass_steps_in (suc n) a b f =
    elim (due a b f) [
      | None ↦ 0
      | Some d ↦ date_steps a d f
          + pass_steps_in n d b (date_passed a d f)
    ]

-- the most steps that the dates take which come after one moment and up to another
unfoldable pub pass_steps : ℕ → ℕ → Lists → ℕ
pass_steps a b f = pass_steps_in (most_dates f) a b f
