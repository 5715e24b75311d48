-- What fields make, by their kinds; and op by op in one line each, that a command or query of them has them again.
use Rattle.std.proofs.Common.{◌≡◌, ℕ, Bool, List, [], ◌∷◌, map, Option, refl, ap, subst, ◌∙◌, lit≤}
use Rattle.reg_base.specs.declared.entity.Entity.{Entity}
use Rattle.reg_base.specs.declared.privilege.Privilege.{Privilege}
use Rattle.reg_terms.specs.declared.kinds.InheritKind.{InheritKind}
use Rattle.reg_terms.specs.declared.kinds.Owners.{Owners}
use Rattle.reg_terms.specs.declared.kinds.DefKind.{DefKind}
use Rattle.reg_terms.specs.declared.kinds.Value.{Value as GivenValue}
use Rattle.reg_terms.specs.declared.kinds.Scope.{Scope}
use Rattle.reg_terms.specs.declared.kinds.SetOp.{SetOp}
use Rattle.reg_terms.specs.declared.command.Command.{Command}
use Rattle.reg_terms.specs.declared.command.Command.TheVariants.{FolderAdd, FolderRename, FolderMove, FolderDelete, SubjectAdd, GroupAdd, GroupRename, GroupMove, GroupDelete, MemberAdd, MemberRemove, MemberWindow, CompositeSet, CompositeClear, GrantAdd, GrantRemove, InheritAdd, InheritRemove, AttrdefAdd, AttrdefDelete, AttrAdd, AttrDelete, AssignAdd, AssignRemove, ValueAdd, ValueRemove, RuleRemoveLost, RuleEndLost, RuleVeto, RuleOnCreate, RuleDelete, JobSimple, JobList, JobDelete, Load, ConsumerAdd, ConsumerAck}
use Rattle.reg_terms.specs.declared.query.Query.TheVariants.{GroupGet, FolderList, Members, Rows, Groups, Grants, May, Attributes, History, Log, Admin}
use Rattle.reg_terms.specs.declared.request.Op.TheVariants as asked
use Rattle.reg_ops.specs.declared.table.CommandKind.{CommandKind}
use Rattle.reg_ops.specs.declared.table.CommandKind.TheVariants as command
use Rattle.reg_ops.specs.declared.table.QueryKind.{QueryKind}
use Rattle.reg_ops.specs.declared.table.QueryKind.TheVariants as query
use Rattle.reg_ops.specs.declared.table.OpKind.{OpKind}
use Rattle.reg_ops.specs.declared.table.OpKind.TheVariants as op
use Rattle.reg_terms.specs.declared.lists.LoadRow.{LoadRow}
use Rattle.reg_ops.specs.declared.field.FieldKind.{FieldKind}
use Rattle.reg_ops.specs.declared.field.FieldKind.TheVariants as kind
use Rattle.reg_ops.specs.declared.field.Field.{Field}
use Rattle.reg_ops.specs.declared.field.Field.TheVariants as field
use Rattle.reg_ops.specs.Parts.{field_kind, next_as}
use Rattle.reg_ops.specs.Table.{command_row, query_row, load_row, row_of, field_kinds, IsMadeCommand, IsMade, IsApart}

-- ---- by the kinds of fields

-- what stands in a field of a kind
abbrev Value : FieldKind → Type 0
Value kind.Name = List ℕ
Value kind.Folder = List ℕ
Value kind.Extension = List ℕ
Value kind.Source = List ℕ
Value kind.Display = List ℕ
Value kind.Entity = Entity
Value kind.Object = List ℕ
Value kind.OptionalMoment = Option ℕ
Value kind.SetOp = SetOp
Value kind.InheritKind = InheritKind
Value kind.Scope = Scope
Value kind.Privilege = Privilege
Value kind.Owners = Owners
Value kind.Flag = Bool
Value kind.DefKind = DefKind
Value kind.Value = GivenValue
Value (kind.Number least most) = ℕ
Value kind.Names = List (List ℕ)
Value kind.LoadRows = List LoadRow
Value kind.Table = List ℕ

-- a value as a field
abbrev as_field : (k : FieldKind) → Value k → Field
as_field kind.Name v = field.Name v
as_field kind.Folder v = field.Folder v
as_field kind.Extension v = field.Extension v
as_field kind.Source v = field.Source v
as_field kind.Display v = field.Display v
as_field kind.Entity v = field.Entity v
as_field kind.Object v = field.Object v
as_field kind.OptionalMoment v = field.OptionalMoment v
as_field kind.SetOp v = field.SetOp v
as_field kind.InheritKind v = field.InheritKind v
as_field kind.Scope v = field.Scope v
as_field kind.Privilege v = field.Privilege v
as_field kind.Owners v = field.Owners v
as_field kind.Flag v = field.Flag v
as_field kind.DefKind v = field.DefKind v
as_field kind.Value v = field.Value v
as_field (kind.Number least most) v = field.Number v least most
as_field kind.Names v = field.Names v
as_field kind.LoadRows v = field.LoadRows v
as_field kind.Table v = field.Table v

-- values of so many kinds
abbrev Values : List FieldKind → Type 0
Values [] = Unit {0}
Values (k ∷ ks) = Value k × Values ks

-- as a list of fields
abbrev as_fields : (ks : List FieldKind) → Values ks → List Field
as_fields [] v = []
as_fields (k ∷ ks) v = as_field k v.0 ∷ as_fields ks v.1

-- a field is a value of its kind
field_value : (f : Field) → (v : Value (field_kind f)) × (as_field (field_kind f) v ≡ f)
field_value (field.Name v) = (v, refl)
field_value (field.Folder v) = (v, refl)
field_value (field.Extension v) = (v, refl)
field_value (field.Source v) = (v, refl)
field_value (field.Display v) = (v, refl)
field_value (field.Entity v) = (v, refl)
field_value (field.Object v) = (v, refl)
field_value (field.OptionalMoment v) = (v, refl)
field_value (field.SetOp v) = (v, refl)
field_value (field.InheritKind v) = (v, refl)
field_value (field.Scope v) = (v, refl)
field_value (field.Privilege v) = (v, refl)
field_value (field.Owners v) = (v, refl)
field_value (field.Flag v) = (v, refl)
field_value (field.DefKind v) = (v, refl)
field_value (field.Value v) = (v, refl)
field_value (field.Number v least most) = (v, refl)
field_value (field.Names v) = (v, refl)
field_value (field.LoadRows v) = (v, refl)
field_value (field.Table v) = (v, refl)

-- fields are values of these kinds
record AreValues (ks : List FieldKind) (fields : List Field) : Type 0 where
  pub values : Values ks
  pub are : as_fields ks values ≡ fields

values_of : (fields : List Field) → AreValues (map field_kind fields) fields
values_of [] = record { values = tt; are = refl }
values_of (f ∷ fs) =
    let first = field_value f in
    let rest = values_of fs in
    record {
      values = (first.0, rest.values);
      are = ap (λ (g : Field). g ∷ as_fields (map field_kind fs) rest.values) first.1 ∙ ap (λ (gs : List Field). f ∷ gs) rest.are;
    }

of_kinds : (ks : List FieldKind) (fields : List Field) → map field_kind fields ≡ ks → AreValues ks fields
of_kinds ks fields e = subst (λ (l : List FieldKind). AreValues l fields) e (values_of fields)

-- ---- by the ops: one line each

makes : (k : CommandKind) (v : Values (field_kinds (command_row k).op)) → IsMadeCommand k (as_fields (field_kinds (command_row k).op) v)
unfolding next_as
makes command.FolderAdd v = record { command = FolderAdd _ _; made_so = refl; is_kind = refl; has_these = refl }
makes command.FolderRename v = record { command = FolderRename _ _; made_so = refl; is_kind = refl; has_these = refl }
makes command.FolderMove v = record { command = FolderMove _ _; made_so = refl; is_kind = refl; has_these = refl }
makes command.FolderDelete v = record { command = FolderDelete _; made_so = refl; is_kind = refl; has_these = refl }
makes command.SubjectAdd v = record { command = SubjectAdd _ _; made_so = refl; is_kind = refl; has_these = refl }
makes command.GroupAdd v = record { command = GroupAdd _ _; made_so = refl; is_kind = refl; has_these = refl }
makes command.GroupRename v = record { command = GroupRename _ _; made_so = refl; is_kind = refl; has_these = refl }
makes command.GroupMove v = record { command = GroupMove _ _; made_so = refl; is_kind = refl; has_these = refl }
makes command.GroupDelete v = record { command = GroupDelete _; made_so = refl; is_kind = refl; has_these = refl }
makes command.MemberAdd v = record { command = MemberAdd _ _ _ _; made_so = refl; is_kind = refl; has_these = refl }
makes command.MemberRemove v = record { command = MemberRemove _ _; made_so = refl; is_kind = refl; has_these = refl }
makes command.MemberWindow v = record { command = MemberWindow _ _ _ _; made_so = refl; is_kind = refl; has_these = refl }
makes command.CompositeSet v = record { command = CompositeSet _ _ _ _; made_so = refl; is_kind = refl; has_these = refl }
makes command.CompositeClear v = record { command = CompositeClear _; made_so = refl; is_kind = refl; has_these = refl }
makes command.GrantAdd v = record { command = GrantAdd _ _ _ _ _; made_so = refl; is_kind = refl; has_these = refl }
makes command.GrantRemove v = record { command = GrantRemove _ _ _; made_so = refl; is_kind = refl; has_these = refl }
makes command.InheritAdd v = record { command = InheritAdd _ _ _ _ _; made_so = refl; is_kind = refl; has_these = refl }
makes command.InheritRemove v = record { command = InheritRemove _ _ _ _ _; made_so = refl; is_kind = refl; has_these = refl }
makes command.AttrdefAdd v = record { command = AttrdefAdd _ _ _ _ _; made_so = refl; is_kind = refl; has_these = refl }
makes command.AttrdefDelete v = record { command = AttrdefDelete _; made_so = refl; is_kind = refl; has_these = refl }
makes command.AttrAdd v = record { command = AttrAdd _ _; made_so = refl; is_kind = refl; has_these = refl }
makes command.AttrDelete v = record { command = AttrDelete _; made_so = refl; is_kind = refl; has_these = refl }
makes command.AssignAdd v = record { command = AssignAdd _ _; made_so = refl; is_kind = refl; has_these = refl }
makes command.AssignRemove v = record { command = AssignRemove _ _ _; made_so = refl; is_kind = refl; has_these = refl }
makes command.ValueAdd v = record { command = ValueAdd _ _ _ _; made_so = refl; is_kind = refl; has_these = refl }
makes command.ValueRemove v = record { command = ValueRemove _ _ _ _; made_so = refl; is_kind = refl; has_these = refl }
makes command.RuleRemoveLost v = record { command = RuleRemoveLost _ _; made_so = refl; is_kind = refl; has_these = refl }
makes command.RuleEndLost v = record { command = RuleEndLost _ _ _; made_so = refl; is_kind = refl; has_these = refl }
makes command.RuleVeto v = record { command = RuleVeto _ _; made_so = refl; is_kind = refl; has_these = refl }
makes command.RuleOnCreate v = record { command = RuleOnCreate _ _ _ _; made_so = refl; is_kind = refl; has_these = refl }
makes command.RuleDelete v = record { command = RuleDelete _; made_so = refl; is_kind = refl; has_these = refl }
makes command.JobSimple v = record { command = JobSimple _ _ _ _ _; made_so = refl; is_kind = refl; has_these = refl }
makes command.JobList v = record { command = JobList _ _ _ _ _; made_so = refl; is_kind = refl; has_these = refl }
makes command.JobDelete v = record { command = JobDelete _; made_so = refl; is_kind = refl; has_these = refl }
makes command.Load v = record { command = Load _ _ _ _; made_so = refl; is_kind = refl; has_these = refl }
makes command.ConsumerAdd v = record { command = ConsumerAdd _; made_so = refl; is_kind = refl; has_these = refl }
makes command.ConsumerAck v = record { command = ConsumerAck _ _; made_so = refl; is_kind = refl; has_these = refl }

query_makes : (k : QueryKind) (v : Values (field_kinds (query_row k))) → IsMade (op.Query k) (as_fields (field_kinds (query_row k)) v)
unfolding next_as
query_makes query.GroupGet v = record { op = asked.Query (GroupGet _); made_so = refl; is_kind = refl; has_these = refl }
query_makes query.FolderList v = record { op = asked.Query (FolderList _); made_so = refl; is_kind = refl; has_these = refl }
query_makes query.Members v = record { op = asked.Query (Members _ _); made_so = refl; is_kind = refl; has_these = refl }
query_makes query.Rows v = record { op = asked.Query (Rows _); made_so = refl; is_kind = refl; has_these = refl }
query_makes query.Groups v = record { op = asked.Query (Groups _ _); made_so = refl; is_kind = refl; has_these = refl }
query_makes query.Grants v = record { op = asked.Query (Grants _ _); made_so = refl; is_kind = refl; has_these = refl }
query_makes query.May v = record { op = asked.Query (May _ _ _); made_so = refl; is_kind = refl; has_these = refl }
query_makes query.Attributes v = record { op = asked.Query (Attributes _ _); made_so = refl; is_kind = refl; has_these = refl }
query_makes query.History v = record { op = asked.Query (History _); made_so = refl; is_kind = refl; has_these = refl }
query_makes query.Log v = record { op = asked.Query (Log _ _); made_so = refl; is_kind = refl; has_these = refl }
query_makes query.Admin v = record { op = asked.Query Admin; made_so = refl; is_kind = refl; has_these = refl }

load_makes : (v : Values (field_kinds load_row)) → IsMade op.Load (as_fields (field_kinds load_row) v)
unfolding next_as
load_makes v = record { op = asked.Load _ _; made_so = refl; is_kind = refl; has_these = refl }

pub command_apart : (c : Command) → IsApart c
unfolding next_as
command_apart (FolderAdd a b) = record { few = lit≤ tt; kinds = refl; again = refl; coded_so = refl }
command_apart (FolderRename a b) = record { few = lit≤ tt; kinds = refl; again = refl; coded_so = refl }
command_apart (FolderMove a b) = record { few = lit≤ tt; kinds = refl; again = refl; coded_so = refl }
command_apart (FolderDelete a) = record { few = lit≤ tt; kinds = refl; again = refl; coded_so = refl }
command_apart (SubjectAdd a b) = record { few = lit≤ tt; kinds = refl; again = refl; coded_so = refl }
command_apart (GroupAdd a b) = record { few = lit≤ tt; kinds = refl; again = refl; coded_so = refl }
command_apart (GroupRename a b) = record { few = lit≤ tt; kinds = refl; again = refl; coded_so = refl }
command_apart (GroupMove a b) = record { few = lit≤ tt; kinds = refl; again = refl; coded_so = refl }
command_apart (GroupDelete a) = record { few = lit≤ tt; kinds = refl; again = refl; coded_so = refl }
command_apart (MemberAdd a b c d) = record { few = lit≤ tt; kinds = refl; again = refl; coded_so = refl }
command_apart (MemberRemove a b) = record { few = lit≤ tt; kinds = refl; again = refl; coded_so = refl }
command_apart (MemberWindow a b c d) = record { few = lit≤ tt; kinds = refl; again = refl; coded_so = refl }
command_apart (CompositeSet a b c d) = record { few = lit≤ tt; kinds = refl; again = refl; coded_so = refl }
command_apart (CompositeClear a) = record { few = lit≤ tt; kinds = refl; again = refl; coded_so = refl }
command_apart (GrantAdd a b c d e) = record { few = lit≤ tt; kinds = refl; again = refl; coded_so = refl }
command_apart (GrantRemove a b c) = record { few = lit≤ tt; kinds = refl; again = refl; coded_so = refl }
command_apart (InheritAdd a b c d e) = record { few = lit≤ tt; kinds = refl; again = refl; coded_so = refl }
command_apart (InheritRemove a b c d e) = record { few = lit≤ tt; kinds = refl; again = refl; coded_so = refl }
command_apart (AttrdefAdd a b c d e) = record { few = lit≤ tt; kinds = refl; again = refl; coded_so = refl }
command_apart (AttrdefDelete a) = record { few = lit≤ tt; kinds = refl; again = refl; coded_so = refl }
command_apart (AttrAdd a b) = record { few = lit≤ tt; kinds = refl; again = refl; coded_so = refl }
command_apart (AttrDelete a) = record { few = lit≤ tt; kinds = refl; again = refl; coded_so = refl }
command_apart (AssignAdd a b) = record { few = lit≤ tt; kinds = refl; again = refl; coded_so = refl }
command_apart (AssignRemove a b c) = record { few = lit≤ tt; kinds = refl; again = refl; coded_so = refl }
command_apart (ValueAdd a b c d) = record { few = lit≤ tt; kinds = refl; again = refl; coded_so = refl }
command_apart (ValueRemove a b c d) = record { few = lit≤ tt; kinds = refl; again = refl; coded_so = refl }
command_apart (RuleRemoveLost a b) = record { few = lit≤ tt; kinds = refl; again = refl; coded_so = refl }
command_apart (RuleEndLost a b c) = record { few = lit≤ tt; kinds = refl; again = refl; coded_so = refl }
command_apart (RuleVeto a b) = record { few = lit≤ tt; kinds = refl; again = refl; coded_so = refl }
command_apart (RuleOnCreate a b c d) = record { few = lit≤ tt; kinds = refl; again = refl; coded_so = refl }
command_apart (RuleDelete a) = record { few = lit≤ tt; kinds = refl; again = refl; coded_so = refl }
command_apart (JobSimple a b c d e) = record { few = lit≤ tt; kinds = refl; again = refl; coded_so = refl }
command_apart (JobList a b c d e) = record { few = lit≤ tt; kinds = refl; again = refl; coded_so = refl }
command_apart (JobDelete a) = record { few = lit≤ tt; kinds = refl; again = refl; coded_so = refl }
command_apart (Load a b c d) = record { few = lit≤ tt; kinds = refl; again = refl; coded_so = refl }
command_apart (ConsumerAdd a) = record { few = lit≤ tt; kinds = refl; again = refl; coded_so = refl }
command_apart (ConsumerAck a b) = record { few = lit≤ tt; kinds = refl; again = refl; coded_so = refl }

-- ---- all ops

pub command_made : (k : CommandKind) (fields : List Field) → map field_kind fields ≡ field_kinds (command_row k).op → IsMadeCommand k fields
command_made k fields e =
    let v = of_kinds (field_kinds (command_row k).op) fields e in
    subst (IsMadeCommand k) v.are (makes k v.values)

pub op_made : (k : OpKind) (fields : List Field) → map field_kind fields ≡ field_kinds (row_of k) → IsMade k fields
op_made (op.Command k) fields e =
    let m = command_made k fields e in
    record {
      op = asked.Command m.command;
      made_so = rw m.made_so refl;
      is_kind = ap (λ (j : CommandKind). op.Command j) m.is_kind;
      has_these = m.has_these;
    }
op_made (op.Query k) fields e =
    let v = of_kinds (field_kinds (query_row k)) fields e in
    subst (IsMade (op.Query k)) v.are (query_makes k v.values)
op_made op.Load fields e =
    let v = of_kinds (field_kinds load_row) fields e in
    subst (IsMade op.Load) v.are (load_makes v.values)
