-- The rules of a new group's folders, and the grants that they make on it.
use Rattle.std.specs.Prelude.{◌≡◌, ◌≤◌, ⊤, ℕ, ◌||◌, List, [], ◌∷◌, Bool, Option, Some, None}
use Rattle.std.specs.Prelude.{map, option_map, if◌then◌else◌}
use Rattle.std.specs.BTreeMap.{insert_entry}
use Rattle.std.specs.Ordering.{nat_cmp}
use Rattle.reg_terms.specs.Kinds.{same_scope}
use Rattle.reg_terms.specs.Privileges.{code}
use Rattle.reg_terms.specs.Rules.{key_of, other_of}
use Rattle.reg_terms.specs.declared.command.Command.{Command}
use Rattle.reg_terms.specs.declared.command.Command.TheVariants.{RuleEndLost}
use Rattle.reg_terms.specs.declared.kinds.Holder.{Holder}
use Rattle.reg_terms.specs.declared.kinds.Object.TheVariants as object
use Rattle.reg_terms.specs.declared.kinds.RuleForm.{RuleForm}
use Rattle.reg_terms.specs.declared.kinds.RuleForm.TheVariants.{RemoveLost, EndLost, Veto, OnCreate}
use Rattle.reg_terms.specs.declared.kinds.Scope.TheVariants.{Sub}
use Rattle.reg_terms.specs.declared.rows.GrantRow.{GrantRow}
use Rattle.reg_terms.specs.declared.rows.RuleRow.{RuleRow}
use Rattle.reg_terms.specs.declared.rules.RuleKey.{RuleKey}
use Rattle.reg_facts.specs.Ascending.{RulesAscend}
use Rattle.reg_facts.specs.declared.rule_forms.ByForm.{ByForm}
use Rattle.reg_facts.specs.declared.rule_forms.Manner.{Manner}
use Rattle.reg_facts.specs.declared.rule_forms.Manner.TheVariants as manner

-- what a rule does, beside what it is looked up by and of whom it speaks
abbrev pub manner_of : RuleForm → Manner
manner_of (RemoveLost check owner) = manner.RemoveLost
manner_of (EndLost check owner days) = manner.EndLost days
manner_of (Veto owner condition) = manner.Veto
manner_of (OnCreate d scope p h) = manner.OnCreate scope (code p)

-- all that a rule says
abbrev pub says_of : RuleForm → Manner × RuleKey × Holder
says_of form = (manner_of form, key_of form, other_of form)

-- the same rule, found by all that it says
abbrev pub by_form : RuleRow → ByForm
by_form row = record { says = says_of row.form; id = row.id }

-- the index has the rules, the forms have them by all that they say, and their ids ascend
pub record AreIndexed (index : List RuleRow) (forms : List ByForm) (rows : List RuleRow) : Type 0
  where
    pub same : index ≡ rows
    pub said : forms ≡ map by_form rows
    pub ascend : RulesAscend rows

-- the grant that a rule makes on a group that is made in its folder, or below it, if it does
abbrev pub grant_made : ℕ → Bool → RuleForm → Option GrantRow
grant_made g home (OnCreate d scope p h) =
    if home || same_scope scope Sub
    then Some (record {
      object = object.Group g;
      privilege = p;
      holder = h;
      from = None;
      until = None;
    }) else None
grant_made g home (RemoveLost check owner) = None
grant_made g home (EndLost check owner days) = None
grant_made g home (Veto owner condition) = None

-- the same beside the rule's id
abbrev pub entry_made : ℕ → Bool → RuleRow → Option (ℕ × GrantRow)
entry_made g home row = option_map (λ grant. (row.id, grant)) (grant_made g home row.form)

-- grants put one after another at the ids of their rules
abbrev pub put_all : List (ℕ × GrantRow) → List (ℕ × GrantRow) → List (ℕ × GrantRow)
put_all found [] = found
put_all found (e ∷ es) = put_all (insert_entry nat_cmp found e.0 e.1) es

-- a command's days, if it speaks of days, are few
abbrev pub HasDays : Command → Type 0
HasDays (RuleEndLost check owner days) = days ≤ 3650
HasDays _ = ⊤
