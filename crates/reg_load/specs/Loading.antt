-- Which loads may be taken into the facts, and what they leave of them.
use Rattle.std.specs.Prelude.{◌≡◌, ℕ, ◌++◌, ◌&&◌, ◌||◌, not, List, Bool, true, false, None, Some}
use Rattle.std.specs.Prelude.{filter, map}
use Rattle.std.specs.List.{AllByRecursion, list_any}
use Rattle.reg_base.specs.Names.{is_name}
use Rattle.reg_base.specs.declared.entity.Entity.{Entity}
use Rattle.reg_terms.specs.declared.kinds.Member.{Member}
use Rattle.reg_terms.specs.declared.kinds.Member.TheVariants.{Person, Group}
use Rattle.reg_terms.specs.declared.kinds.Object.{Object}
use Rattle.reg_terms.specs.declared.kinds.Object.TheVariants as object
use Rattle.reg_terms.specs.declared.rows.JobRow.{JobRow}
use Rattle.reg_terms.specs.declared.rows.MemberRow.{MemberRow}
use Rattle.reg_terms.specs.declared.lists.LoadRow.{LoadRow}
use Rattle.reg_terms.specs.declared.rows.PersonRow.{PersonRow}
use Rattle.reg_terms.specs.Rows.{is_row}
use Rattle.reg_facts.specs.Events.{all_happened, load_events, new_row, with_groups}
use Rattle.reg_facts.specs.Lists.{Lists}
use Rattle.reg_facts.specs.Naming.{resolve}
use Rattle.reg_facts.specs.Suiting.{AllSuit}
use Rattle.reg_load.specs.LoadChecks.{added_rows, created_number, first_fault, load_checks}
use Rattle.reg_load.specs.LoadChecks.{removed_rows, room_checks}
use Rattle.reg_load.specs.PersonRows.{is_one_of, stands}

-- no test of a load finds a fault
pub record CanLoad (by : Entity) (job : JobRow) (created : List (List ℕ))
    (removed added : List LoadRow) (f : Lists) : Type 0 where
  pub checks : first_fault (load_checks job created removed added f) ≡ None
  pub room : first_fault (room_checks by created removed added f) ≡ None

-- each text is a name
abbrev pub AreNames : List (List ℕ) → Type 0
AreNames names = AllByRecursion (λ (name : List ℕ). is_name name ≡ true) names

-- facts with groups more: what was named is named, and each group has its name and number; who is a
-- member where is as it was
pub record AreMade (created : List (List ℕ)) (f g : Lists) : Type 0 where
  pub kept : (text : List ℕ) (o : Object) → resolve text f ≡ Some o → resolve text g ≡ Some o
  pub made : (text : List ℕ) (n : ℕ) → created_number created f text ≡ Some n
      → resolve text g ≡ Some (object.Group n)
  pub rows : g.rows ≡ f.rows
  pub subjects : g.subjects ≡ f.subjects
  pub composites : g.composites ≡ f.composites

-- whether a membership is one of some rows
abbrev pub is_of_rows : List PersonRow → MemberRow → Bool
is_of_rows rows row = list_any (λ (r : PersonRow). is_row r.group (Person r.person) row) rows

-- memberships without the removed rows, and behind them the added, from a moment on
abbrev pub loaded_rows : ℕ → List PersonRow → List PersonRow → List MemberRow → List MemberRow
loaded_rows at removed added rows =
    filter (λ (row : MemberRow). not (is_of_rows removed row)) rows ++ map (new_row at) added

-- whether the member of a row is a group
abbrev pub is_groups : Member → Bool
is_groups (Person s) = false
is_groups (Group g) = true

-- memberships before a load and after it: a person is a member where it was and wasn't removed, or
-- where it was added; those of groups are as they were
pub record AreLoaded (removed added : List PersonRow) (before after : List MemberRow) : Type 0 where
  pub persons : (row : PersonRow)
      → stands after row ≡ ((stands before row && not (is_one_of removed row))
      || is_one_of added row)
  pub groups : filter (λ (row : MemberRow). is_groups row.member) after
      ≡ filter (λ (row : MemberRow). is_groups row.member) before

-- a load can happen, event after event; the facts after it are those with its groups, and of the
-- memberships what it leaves
pub record IsLoaded (at : ℕ) (by : Entity) (job : JobRow) (created : List (List ℕ))
    (removed added : List LoadRow) (f : Lists) : Type 0 where
  pub suits : AllSuit (load_events at by created removed added f) f
  pub names : AreMade created f (with_groups by created f)
  pub facts : all_happened (load_events at by created removed added f) f
      ≡ record (with_groups by created f)
      { rows = loaded_rows at (removed_rows job f removed) (added_rows job created f added) f.rows }
  pub rows : AreLoaded (removed_rows job f removed) (added_rows job created f added) f.rows
      (all_happened (load_events at by created removed added f) f).rows
