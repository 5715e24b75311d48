-- A scene for the rounds of rules: Ann is a member of `keys`, and a rule takes out of it whoever
-- stops being a member of `staff`.
use Rattle.std.specs.Prelude.{ℕ, List, [], None, codes}
use Rattle.reg_terms.specs.declared.event.Event.TheVariants.{SubjectMade, GroupMade, RowAdded}
use Rattle.reg_terms.specs.declared.event.Event.TheVariants.{RuleMade}
use Rattle.reg_terms.specs.declared.kinds.Member.TheVariants.{Person}
use Rattle.reg_terms.specs.declared.kinds.RuleForm.TheVariants.{RemoveLost}
use Rattle.reg_terms.specs.declared.rows.GroupRow.{GroupRow}
use Rattle.reg_terms.specs.declared.rows.MemberRow.{MemberRow}
use Rattle.reg_terms.specs.declared.rows.RuleRow.{RuleRow}
use Rattle.reg_terms.specs.declared.rows.SubjectRow.{SubjectRow}
use Rattle.reg_effect.specs.Changes.{changed, nothing}
use Rattle.reg_effect.specs.declared.live.Live.{Live}
use Rattle.reg_effect.specs.declared.live.Change.TheVariants.{RowOn}
use Rattle.reg_facts.specs.Events.{happened}
use Rattle.reg_facts.specs.Lists.{Lists, root, start}

-- Ann
abbrev pub ann : SubjectRow
ann = record { id = 1; text = codes "uni/ann"; display = [] }

-- a group in the root folder
abbrev pub group_in_root : ℕ → List ℕ → GroupRow
group_in_root id extension = record {
  id = id;
  folder = root;
  extension = extension;
  display = [];
}

abbrev pub staff : GroupRow
staff = group_in_root 1 (codes "staff")

abbrev pub keys : GroupRow
keys = group_in_root 2 (codes "keys")

-- Ann is a member of `keys` from the first moment on
abbrev pub membership : MemberRow
membership = record { group = 2; member = Person 1; from = 0; until = None }

-- who stops being a member of `staff` is taken out of `keys`
abbrev pub rule : RuleRow
rule = record { id = 1; form = RemoveLost 1 2 }

-- Ann alone, then each group beside her
abbrev pub with_ann : Lists
with_ann = happened (SubjectMade ann) start

abbrev pub with_staff : Lists
with_staff = happened (GroupMade staff) with_ann

abbrev pub with_keys : Lists
with_keys = happened (GroupMade keys) with_staff

-- then the membership, and then the rule
abbrev pub with_membership : Lists
with_membership = happened (RowAdded membership) with_keys

abbrev pub with_rule : Lists
with_rule = happened (RuleMade rule) with_membership

-- what is live then
abbrev pub live_membership : Live
live_membership = changed (RowOn 2 (Person 1)) nothing
