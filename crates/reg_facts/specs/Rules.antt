-- Rules: which are looked up by what, which say the same, what they name, and the grants that they
-- make when a group is made.
use Rattle.std.specs.Prelude.{ℕ, ◌+◌, ◌==◌, ◌||◌, List, [], ◌∷◌, ◌++◌, Bool, Option, Some, None}
use Rattle.std.specs.Prelude.{filter, filter_map, if◌then◌else◌}
use Rattle.std.specs.List.{find, list_any}
use Rattle.reg_base.specs.declared.privilege.Privilege.{Privilege}
use Rattle.reg_terms.specs.Kinds.{same_holder}
use Rattle.reg_terms.specs.Rules.{key_of, other_of, same_form, same_key}
use Rattle.reg_terms.specs.declared.command.Command.{Command}
use Rattle.reg_terms.specs.declared.command.Command.TheVariants.{RuleRemoveLost, RuleEndLost}
use Rattle.reg_terms.specs.declared.command.Command.TheVariants.{RuleVeto, RuleOnCreate}
use Rattle.reg_terms.specs.declared.kinds.Holder.{Holder}
use Rattle.reg_terms.specs.declared.kinds.Holder.TheVariants as holder
use Rattle.reg_terms.specs.declared.kinds.Object.TheVariants as object
use Rattle.reg_terms.specs.declared.kinds.RuleForm.{RuleForm}
use Rattle.reg_terms.specs.declared.kinds.RuleForm.TheVariants.{RemoveLost, EndLost, Veto, OnCreate}
use Rattle.reg_terms.specs.declared.kinds.Scope.{Scope}
use Rattle.reg_terms.specs.declared.kinds.Scope.TheVariants.{One, Sub}
use Rattle.reg_terms.specs.declared.rows.FolderRow.{FolderRow}
use Rattle.reg_terms.specs.declared.rows.GrantRow.{GrantRow}
use Rattle.reg_terms.specs.declared.rows.RuleRow.{RuleRow}
use Rattle.reg_terms.specs.declared.rules.RuleKey.{RuleKey}
use Rattle.reg_terms.specs.declared.rules.RuleKey.TheVariants.{Check, Owner, Folder}
use Rattle.reg_facts.specs.Edits.{the_id}
use Rattle.reg_facts.specs.Grants.{has_grant, holder_of}
use Rattle.reg_facts.specs.Lists.{Lists}
use Rattle.reg_facts.specs.Naming.{folder_id, group_id, lies_in, most_levels}

-- ---- looked up

-- the rule of an id
abbrev pub rule_by : ℕ → List RuleRow → Option RuleRow
rule_by id rows = find (λ (row : RuleRow). row.id == id) rows

-- the rules that watch one thing, by id
abbrev pub rules_at : RuleKey → List RuleRow → List RuleRow
rules_at key rows = filter (λ (row : RuleRow). same_key (key_of row.form) key) rows

-- whether a rule that says the same stands
abbrev pub has_rule : RuleForm → List RuleRow → Bool
has_rule form rows = list_any (λ (row : RuleRow). same_form row.form form) rows

-- whether a rule names a group
abbrev pub names_group : ℕ → RuleForm → Bool
names_group g form =
    same_key (key_of form) (Check g)
    || (same_key (key_of form) (Owner g) || same_holder (other_of form) (holder.Group g))

abbrev pub is_ruled : ℕ → List RuleRow → Bool
is_ruled g rows = list_any (λ (row : RuleRow). names_group g row.form) rows

-- whether a rule names a folder
abbrev pub is_ruled_folder : ℕ → List RuleRow → Bool
is_ruled_folder d rows = list_any (λ (row : RuleRow). same_key (key_of row.form) (Folder d)) rows

-- ---- the rule that a command speaks of

abbrev pub on_create_for : ℕ → Scope → Privilege → Option Holder → Option RuleForm
on_create_for d scope p None = None
on_create_for d scope p (Some h) = Some (OnCreate d scope p h)

-- what a command makes a rule of, if it is such a command and the holder stands
abbrev pub form_of : Command → Lists → Option RuleForm
form_of (RuleRemoveLost check owner) f =
    Some (RemoveLost (the_id (group_id check f)) (the_id (group_id owner f)))
form_of (RuleEndLost check owner days) f =
    Some (EndLost (the_id (group_id check f)) (the_id (group_id owner f)) days)
form_of (RuleVeto owner condition) f =
    Some (Veto (the_id (group_id owner f)) (the_id (group_id condition f)))
form_of (RuleOnCreate folder scope privilege holder) f =
    on_create_for (the_id (folder_id folder f)) scope privilege (holder_of holder f)
form_of _ f = None

-- ---- grants of a new group

-- whether what stands directly in a folder is in the scope of a rule on another
abbrev pub in_scope : ℕ → ℕ → Scope → List FolderRow → Bool
in_scope home d One fs = home == d
in_scope home d Sub fs = lies_in most_levels home d fs

-- the grant that a rule makes on a new group in a folder, if it does
abbrev pub creation_grant : ℕ → ℕ → List FolderRow → RuleForm → Option GrantRow
creation_grant g home fs (OnCreate d scope p h) =
    if in_scope home d scope fs
    then Some (record {
      object = object.Group g;
      privilege = p;
      holder = h;
      from = None;
      until = None;
    }) else None
creation_grant g home fs (RemoveLost check owner) = None
creation_grant g home fs (EndLost check owner days) = None
creation_grant g home fs (Veto owner condition) = None

-- the grants that rules make on it, by id
abbrev pub creation_grants : ℕ → ℕ → List FolderRow → List RuleRow → List GrantRow
creation_grants g home fs rules =
    filter_map (λ (row : RuleRow). creation_grant g home fs row.form) rules

-- of some grants those that don't stand yet, each once
abbrev pub not_yet : List GrantRow → List GrantRow → List GrantRow
not_yet stand [] = []
not_yet stand (row ∷ rows) =
    if has_grant row stand then not_yet stand rows else row ∷ not_yet (stand ++ row ∷ []) rows
