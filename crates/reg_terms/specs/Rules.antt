-- What rules are looked up by, and when two of them say the same.
use Rattle.std.specs.Prelude.{◌==◌, ◌&&◌, Bool, false}
use Rattle.reg_terms.specs.Kinds.{same_holder, same_scope}
use Rattle.reg_terms.specs.Privileges.{same_privilege}
use Rattle.reg_terms.specs.declared.kinds.Holder.{Holder}
use Rattle.reg_terms.specs.declared.kinds.Holder.TheVariants as holder
use Rattle.reg_terms.specs.declared.kinds.RuleForm.{RuleForm}
use Rattle.reg_terms.specs.declared.kinds.RuleForm.TheVariants.{RemoveLost, EndLost, Veto, OnCreate}
use Rattle.reg_terms.specs.declared.rules.RuleKey.{RuleKey}
use Rattle.reg_terms.specs.declared.rules.RuleKey.TheVariants.{Check, Owner, Folder}

-- what a rule is looked up by
abbrev pub key_of : RuleForm → RuleKey
key_of (RemoveLost check owner) = Check check
key_of (EndLost check owner days) = Check check
key_of (Veto owner condition) = Owner owner
key_of (OnCreate folder scope privilege h) = Folder folder

-- of whom it speaks beside that
abbrev pub other_of : RuleForm → Holder
other_of (RemoveLost check owner) = holder.Group owner
other_of (EndLost check owner days) = holder.Group owner
other_of (Veto owner condition) = holder.Group condition
other_of (OnCreate folder scope privilege h) = h

-- the two keys are one
abbrev pub same_key : RuleKey → RuleKey → Bool
same_key (Check a) (Check b) = a == b
same_key (Owner a) (Owner b) = a == b
same_key (Folder a) (Folder b) = a == b
same_key _ _ = false

-- the two rules say the same
abbrev pub same_form : RuleForm → RuleForm → Bool
same_form (RemoveLost a b) (RemoveLost c d) = (a == c) && (b == d)
same_form (EndLost a b m) (EndLost c d n) = (a == c) && ((b == d) && (m == n))
same_form (Veto a b) (Veto c d) = (a == c) && (b == d)
same_form (OnCreate a s p h) (OnCreate b t q k) =
    (a == b) && (same_scope s t && (same_privilege p q && same_holder h k))
same_form _ _ = false
