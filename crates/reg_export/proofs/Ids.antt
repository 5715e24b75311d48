-- The id of what a listed command made stands under a key that no field of its op has.
use Rattle.std.proofs.Common.{◌≡◌, ◌⊎◌, inl, inr, refl, true, false, None}
use Rattle.reg_terms.specs.declared.command.Command.{Command}
use Rattle.reg_terms.specs.declared.command.Command.TheVariants.{AssignAdd, AssignRemove, AttrAdd, AttrDelete, AttrdefAdd, AttrdefDelete, CompositeClear, CompositeSet, ConsumerAck, ConsumerAdd, FolderAdd, FolderDelete, FolderMove, FolderRename, GrantAdd, GrantRemove, GroupAdd, GroupDelete, GroupMove, GroupRename, InheritAdd, InheritRemove, JobDelete, JobList, JobSimple, Load, MemberAdd, MemberRemove, MemberWindow, RuleDelete, RuleEndLost, RuleOnCreate, RuleRemoveLost, RuleVeto, SubjectAdd, ValueAdd, ValueRemove}
use Rattle.reg_terms.specs.declared.command.Stamped.{Stamped}
use Rattle.reg_ops.specs.Forms.{has_form, is_entity, is_moment, key_fits, takes_key}
use Rattle.reg_export.specs.Lines.{has_id}
use Rattle.reg_export.specs.Listing.{made_by}
use Rattle.reg_export.specs.Telling.{IsTold}
use Rattle.reg_export.specs.declared.counts.Counts.{Counts}

one_id : (n : Counts) (c : Command) → (made_by n c ≡ None) ⊎ (has_id c ≡ false)
unfolding made_by has_id
one_id n (FolderAdd folder display) = inl refl
one_id n (FolderRename folder extension) = inl refl
one_id n (FolderMove folder to) = inl refl
one_id n (FolderDelete folder) = inl refl
one_id n (SubjectAdd subject display) = inl refl
one_id n (GroupAdd group display) = inl refl
one_id n (GroupRename group extension) = inl refl
one_id n (GroupMove group to) = inl refl
one_id n (GroupDelete group) = inl refl
one_id n (MemberAdd group member from until) = inl refl
one_id n (MemberRemove group member) = inl refl
one_id n (MemberWindow group member from until) = inl refl
one_id n (CompositeSet group kind left right) = inl refl
one_id n (CompositeClear group) = inl refl
one_id n (GrantAdd object privilege holder from until) = inl refl
one_id n (GrantRemove object privilege holder) = inl refl
one_id n (InheritAdd folder kind scope privilege holder) = inl refl
one_id n (InheritRemove folder kind scope privilege holder) = inl refl
one_id n (AttrdefAdd definition owners several kind many) = inl refl
one_id n (AttrdefDelete definition) = inl refl
one_id n (AttrAdd attribute definition) = inl refl
one_id n (AttrDelete attribute) = inl refl
one_id n (AssignAdd attribute object) = inr refl
one_id n (AssignRemove attribute object id) = inl refl
one_id n (ValueAdd attribute object id value) = inl refl
one_id n (ValueRemove attribute object id value) = inl refl
one_id n (RuleRemoveLost check owner) = inr refl
one_id n (RuleEndLost check owner days) = inr refl
one_id n (RuleVeto owner condition) = inr refl
one_id n (RuleOnCreate folder scope privilege holder) = inr refl
one_id n (RuleDelete id) = inl refl
one_id n (JobSimple job group source min_size max_percent) = inl refl
one_id n (JobList job folder source min_size max_percent) = inl refl
one_id n (JobDelete job) = inl refl
one_id n (Load job created removed added) = inl refl
one_id n (ConsumerAdd consumer) = inl refl
one_id n (ConsumerAck consumer seq) = inl refl

pub listed_told : (n : Counts) (s : Stamped) → is_moment s.at ≡ true → is_entity s.by ≡ true → key_fits (takes_key s.command) s.key ≡ true → has_form s.command ≡ true → IsTold (made_by n s.command) s
listed_told n s moment caller fits form = record { moment = moment; caller = caller; key = fits; form = form; one_id = one_id n s.command }
