-- The table of ops: each with its word, its code and its fields, and an op taken apart and made of
-- them.
use Rattle.std.specs.Prelude.{◌≡◌, ◌≤◌, ℕ, List, [], ◌∷◌, ◌==◌, if◌then◌else◌, Option, Some, None}
use Rattle.std.specs.Prelude.{option_map, codes, map, length}
use Rattle.std.specs.Str.{bytes_eq}
use Rattle.reg_terms.specs.declared.command.Command.{Command}
use Rattle.reg_terms.specs.declared.command.Command.TheVariants.{FolderAdd, FolderRename}
use Rattle.reg_terms.specs.declared.command.Command.TheVariants.{FolderMove, FolderDelete}
use Rattle.reg_terms.specs.declared.command.Command.TheVariants.{SubjectAdd, GroupAdd, GroupRename}
use Rattle.reg_terms.specs.declared.command.Command.TheVariants.{GroupMove, GroupDelete, MemberAdd}
use Rattle.reg_terms.specs.declared.command.Command.TheVariants.{MemberRemove, MemberWindow}
use Rattle.reg_terms.specs.declared.command.Command.TheVariants.{CompositeSet, CompositeClear}
use Rattle.reg_terms.specs.declared.command.Command.TheVariants.{GrantAdd, GrantRemove, InheritAdd}
use Rattle.reg_terms.specs.declared.command.Command.TheVariants.{InheritRemove, AttrdefAdd}
use Rattle.reg_terms.specs.declared.command.Command.TheVariants.{AttrdefDelete, AttrAdd, AttrDelete}
use Rattle.reg_terms.specs.declared.command.Command.TheVariants.{AssignAdd, AssignRemove, ValueAdd}
use Rattle.reg_terms.specs.declared.command.Command.TheVariants.{ValueRemove, RuleRemoveLost}
use Rattle.reg_terms.specs.declared.command.Command.TheVariants.{RuleEndLost, RuleVeto}
use Rattle.reg_terms.specs.declared.command.Command.TheVariants.{RuleOnCreate, RuleDelete}
use Rattle.reg_terms.specs.declared.command.Command.TheVariants.{JobSimple, JobList, JobDelete}
use Rattle.reg_terms.specs.declared.command.Command.TheVariants.{Load, ConsumerAdd, ConsumerAck}
use Rattle.reg_terms.specs.declared.query.Query.{Query}
use Rattle.reg_terms.specs.declared.query.Query.TheVariants.{GroupGet, FolderList, Members, Rows}
use Rattle.reg_terms.specs.declared.query.Query.TheVariants.{Groups, Grants, May, Attributes}
use Rattle.reg_terms.specs.declared.query.Query.TheVariants.{History, Log, Admin}
use Rattle.reg_terms.specs.declared.request.Op.{Op}
use Rattle.reg_terms.specs.declared.request.Op.TheVariants as asked
use Rattle.reg_ops.specs.declared.table.CommandKind.{CommandKind}
use Rattle.reg_ops.specs.declared.table.CommandKind.TheVariants as command
use Rattle.reg_ops.specs.declared.table.QueryKind.{QueryKind}
use Rattle.reg_ops.specs.declared.table.QueryKind.TheVariants as query
use Rattle.reg_ops.specs.declared.table.OpKind.{OpKind}
use Rattle.reg_ops.specs.declared.table.OpKind.TheVariants as op
use Rattle.reg_ops.specs.declared.field.FieldKind.{FieldKind}
use Rattle.reg_ops.specs.declared.field.FieldKind.TheVariants as kind
use Rattle.reg_ops.specs.declared.field.Field.{Field}
use Rattle.reg_ops.specs.declared.field.Field.TheVariants as field
use Rattle.reg_ops.specs.Parts.{◌>>=◌, field_kind, name_in, folder_in, extension_in, source_in}
use Rattle.reg_ops.specs.Parts.{display_in, entity_in, object_in, moment_in, set_op_in}
use Rattle.reg_ops.specs.Parts.{inherit_kind_in, scope_in, privilege_in, owners_in, flag_in}
use Rattle.reg_ops.specs.Parts.{def_kind_in, value_in, number_in, names_in, load_rows_in}
use Rattle.reg_ops.specs.Parts.{table_in, whole}

-- ---- the table

-- an op's word, and its fields in order, each with its key
pub record Row : Type 0 where
  pub word : List ℕ
  pub fields : List (List ℕ × FieldKind)

-- a command's code, and its row
pub record CommandRow : Type 0 where
  pub code : ℕ
  pub op : Row

-- a command's row by its code, its word and its fields
abbrev pub coded_row : ℕ → List ℕ → List (List ℕ × FieldKind) → CommandRow
coded_row code word fields = record { code = code; op = record { word = word; fields = fields } }

-- the row of a command
abbrev pub command_row : CommandKind → CommandRow
command_row command.FolderAdd =
    coded_row 1 (codes "folder.add") ((codes "folder", kind.Name)
    ∷ (codes "display", kind.Display) ∷ [])
command_row command.FolderRename =
    coded_row 2 (codes "folder.rename") ((codes "folder", kind.Folder)
    ∷ (codes "extension", kind.Extension) ∷ [])
command_row command.FolderMove =
    coded_row 3 (codes "folder.move") ((codes "folder", kind.Folder) ∷ (codes "to", kind.Folder)
    ∷ [])
command_row command.FolderDelete =
    coded_row 4 (codes "folder.delete") ((codes "folder", kind.Folder) ∷ [])
command_row command.SubjectAdd =
    coded_row 5 (codes "subject.add") ((codes "subject", kind.Entity)
    ∷ (codes "display", kind.Display)
    ∷ [])
command_row command.GroupAdd =
    coded_row 6 (codes "group.add") ((codes "group", kind.Name) ∷ (codes "display", kind.Display)
    ∷ [])
command_row command.GroupRename =
    coded_row 7 (codes "group.rename") ((codes "group", kind.Name)
    ∷ (codes "extension", kind.Extension)
    ∷ [])
command_row command.GroupMove =
    coded_row 8 (codes "group.move") ((codes "group", kind.Name) ∷ (codes "to", kind.Folder) ∷ [])
command_row command.GroupDelete =
    coded_row 9 (codes "group.delete") ((codes "group", kind.Name) ∷ [])
command_row command.MemberAdd =
    coded_row 10 (codes "member.add") ((codes "group", kind.Name) ∷ (codes "member", kind.Entity)
    ∷ (codes "from", kind.OptionalMoment) ∷ (codes "until", kind.OptionalMoment) ∷ [])
command_row command.MemberRemove =
    coded_row 11 (codes "member.remove") ((codes "group", kind.Name)
    ∷ (codes "member", kind.Entity) ∷ [])
command_row command.MemberWindow =
    coded_row 12 (codes "member.window") ((codes "group", kind.Name) ∷ (codes "member", kind.Entity)
    ∷ (codes "from", kind.OptionalMoment) ∷ (codes "until", kind.OptionalMoment) ∷ [])
command_row command.CompositeSet =
    coded_row 13 (codes "composite.set") ((codes "group", kind.Name) ∷ (codes "kind", kind.SetOp)
    ∷ (codes "left", kind.Name) ∷ (codes "right", kind.Name) ∷ [])
command_row command.CompositeClear =
    coded_row 14 (codes "composite.clear") ((codes "group", kind.Name) ∷ [])
command_row command.GrantAdd =
    coded_row 15 (codes "grant.add") ((codes "object", kind.Object)
    ∷ (codes "privilege", kind.Privilege)
    ∷ (codes "holder", kind.Entity)
    ∷ (codes "from", kind.OptionalMoment) ∷ (codes "until", kind.OptionalMoment) ∷ [])
command_row command.GrantRemove =
    coded_row 16 (codes "grant.remove") ((codes "object", kind.Object)
    ∷ (codes "privilege", kind.Privilege) ∷ (codes "holder", kind.Entity) ∷ [])
command_row command.InheritAdd =
    coded_row 17 (codes "inherit.add") ((codes "folder", kind.Folder)
    ∷ (codes "kind", kind.InheritKind)
    ∷ (codes "scope", kind.Scope) ∷ (codes "privilege", kind.Privilege)
    ∷ (codes "holder", kind.Entity) ∷ [])
command_row command.InheritRemove =
    coded_row 18 (codes "inherit.remove") ((codes "folder", kind.Folder)
    ∷ (codes "kind", kind.InheritKind) ∷ (codes "scope", kind.Scope)
    ∷ (codes "privilege", kind.Privilege) ∷ (codes "holder", kind.Entity) ∷ [])
command_row command.AttrdefAdd =
    coded_row 19 (codes "attrdef.add") ((codes "definition", kind.Name)
    ∷ (codes "owners", kind.Owners)
    ∷ (codes "several", kind.Flag) ∷ (codes "kind", kind.DefKind) ∷ (codes "many", kind.Flag)
    ∷ [])
command_row command.AttrdefDelete =
    coded_row 20 (codes "attrdef.delete") ((codes "definition", kind.Name) ∷ [])
command_row command.AttrAdd =
    coded_row 21 (codes "attr.add") ((codes "attribute", kind.Name)
    ∷ (codes "definition", kind.Name)
    ∷ [])
command_row command.AttrDelete =
    coded_row 22 (codes "attr.delete") ((codes "attribute", kind.Name) ∷ [])
command_row command.AssignAdd =
    coded_row 23 (codes "assign.add") ((codes "attribute", kind.Name)
    ∷ (codes "object", kind.Object)
    ∷ [])
command_row command.AssignRemove =
    coded_row 24 (codes "assign.remove") ((codes "attribute", kind.Name)
    ∷ (codes "object", kind.Object)
    ∷ (codes "id", kind.Number 0 18446744073709551615) ∷ [])
command_row command.ValueAdd =
    coded_row 25 (codes "value.add") ((codes "attribute", kind.Name) ∷ (codes "object", kind.Object)
    ∷ (codes "id", kind.Number 0 18446744073709551615) ∷ (codes "value", kind.Value) ∷ [])
command_row command.ValueRemove =
    coded_row 26 (codes "value.remove") ((codes "attribute", kind.Name)
    ∷ (codes "object", kind.Object)
    ∷ (codes "id", kind.Number 0 18446744073709551615) ∷ (codes "value", kind.Value) ∷ [])
command_row command.RuleRemoveLost =
    coded_row 27 (codes "rule.remove_lost") ((codes "check", kind.Name)
    ∷ (codes "owner", kind.Name) ∷ [])
command_row command.RuleEndLost =
    coded_row 28 (codes "rule.end_lost") ((codes "check", kind.Name) ∷ (codes "owner", kind.Name)
    ∷ (codes "days", kind.Number 1 3650) ∷ [])
command_row command.RuleVeto =
    coded_row 29 (codes "rule.veto") ((codes "owner", kind.Name) ∷ (codes "condition", kind.Name)
    ∷ [])
command_row command.RuleOnCreate =
    coded_row 30 (codes "rule.on_create") ((codes "folder", kind.Folder)
    ∷ (codes "scope", kind.Scope)
    ∷ (codes "privilege", kind.Privilege) ∷ (codes "holder", kind.Entity) ∷ [])
command_row command.RuleDelete =
    coded_row 31 (codes "rule.delete") ((codes "id", kind.Number 0 18446744073709551615) ∷ [])
command_row command.JobSimple =
    coded_row 32 (codes "job.simple") ((codes "job", kind.Extension) ∷ (codes "group", kind.Name)
    ∷ (codes "source", kind.Source) ∷ (codes "min_size", kind.Number 0 4294967295)
    ∷ (codes "max_percent", kind.Number 0 100) ∷ [])
command_row command.JobList =
    coded_row 33 (codes "job.list") ((codes "job", kind.Extension) ∷ (codes "folder", kind.Folder)
    ∷ (codes "source", kind.Source) ∷ (codes "min_size", kind.Number 0 4294967295)
    ∷ (codes "max_percent", kind.Number 0 100) ∷ [])
command_row command.JobDelete =
    coded_row 34 (codes "job.delete") ((codes "job", kind.Extension) ∷ [])
command_row command.Load =
    coded_row 35 (codes "load") ((codes "job", kind.Extension) ∷ (codes "created", kind.Names)
    ∷ (codes "removed", kind.LoadRows) ∷ (codes "added", kind.LoadRows) ∷ [])
command_row command.ConsumerAdd =
    coded_row 36 (codes "consumer.add") ((codes "consumer", kind.Extension) ∷ [])
command_row command.ConsumerAck =
    coded_row 37 (codes "consumer.ack") ((codes "consumer", kind.Extension)
    ∷ (codes "seq", kind.Number 0 18446744073709551615) ∷ [])

-- the row of a query
abbrev pub query_row : QueryKind → Row
query_row query.GroupGet = record {
  word = codes "group.get";
  fields = (codes "group", kind.Name) ∷ [];
}
query_row query.FolderList = record {
  word = codes "folder.list";
  fields = (codes "folder", kind.Folder) ∷ [];
}
query_row query.Members = record {
  word = codes "members";
  fields = (codes "group", kind.Name) ∷ (codes "at", kind.OptionalMoment) ∷ [];
}
query_row query.Rows = record { word = codes "rows"; fields = (codes "group", kind.Name) ∷ [] }
query_row query.Groups = record {
  word = codes "groups";
  fields = (codes "subject", kind.Entity) ∷ (codes "at", kind.OptionalMoment) ∷ [];
}
query_row query.Grants = record {
  word = codes "grants";
  fields = (codes "object", kind.Object) ∷ (codes "at", kind.OptionalMoment) ∷ [];
}
query_row query.May = record {
  word = codes "may";
  fields = (codes "object", kind.Object) ∷ (codes "entity", kind.Entity)
      ∷ (codes "at", kind.OptionalMoment) ∷ [];
}
query_row query.Attributes = record {
  word = codes "attributes";
  fields = (codes "object", kind.Object) ∷ (codes "at", kind.OptionalMoment) ∷ [];
}
query_row query.History = record {
  word = codes "history";
  fields = (codes "group", kind.Name) ∷ [];
}
query_row query.Log = record {
  word = codes "log";
  fields = (codes "consumer", kind.Extension) ∷ (codes "max", kind.Number 1 1000) ∷ [];
}
query_row query.Admin = record { word = codes "admin"; fields = [] }

-- the row of a load as a request brings it
abbrev pub load_row : Row
load_row = record {
  word = codes "load";
  fields = (codes "job", kind.Extension) ∷ (codes "table", kind.Table) ∷ [];
}

-- the row of an op
abbrev pub row_of : OpKind → Row
row_of (op.Command k) = (command_row k).op
row_of (op.Query k) = query_row k
row_of op.Load = load_row

-- every command
abbrev pub commands : List CommandKind
commands =
    command.FolderAdd ∷ command.FolderRename ∷ command.FolderMove ∷ command.FolderDelete
    ∷ command.SubjectAdd ∷ command.GroupAdd ∷ command.GroupRename ∷ command.GroupMove
    ∷ command.GroupDelete ∷ command.MemberAdd ∷ command.MemberRemove ∷ command.MemberWindow
    ∷ command.CompositeSet ∷ command.CompositeClear ∷ command.GrantAdd ∷ command.GrantRemove
    ∷ command.InheritAdd ∷ command.InheritRemove ∷ command.AttrdefAdd ∷ command.AttrdefDelete
    ∷ command.AttrAdd ∷ command.AttrDelete ∷ command.AssignAdd ∷ command.AssignRemove
    ∷ command.ValueAdd ∷ command.ValueRemove ∷ command.RuleRemoveLost ∷ command.RuleEndLost
    ∷ command.RuleVeto ∷ command.RuleOnCreate ∷ command.RuleDelete ∷ command.JobSimple
    ∷ command.JobList ∷ command.JobDelete ∷ command.Load ∷ command.ConsumerAdd ∷ command.ConsumerAck
    ∷ []

-- every query
abbrev pub queries : List QueryKind
queries =
    query.GroupGet ∷ query.FolderList ∷ query.Members ∷ query.Rows ∷ query.Groups ∷ query.Grants
    ∷ query.May ∷ query.Attributes ∷ query.History ∷ query.Log ∷ query.Admin ∷ []

-- the kinds of a row's fields
abbrev pub field_kinds : Row → List FieldKind
field_kinds row = map (λ (f : List ℕ × FieldKind). f.1) row.fields

-- the first of these commands with a code
abbrev pub coded : List CommandKind → ℕ → Option CommandKind
coded [] code = None
coded (k ∷ ks) code = if code == (command_row k).code then Some k else coded ks code

-- the first of these commands that a word names
abbrev pub command_named : List CommandKind → List ℕ → Option CommandKind
command_named [] word = None
command_named (k ∷ ks) word =
    if bytes_eq (command_row k).op.word word then Some k else command_named ks word

-- the first of these queries that a word names
abbrev pub query_named : List QueryKind → List ℕ → Option QueryKind
query_named [] word = None
query_named (k ∷ ks) word = if bytes_eq (query_row k).word word then Some k else query_named ks word

-- the command that a word names, else the query
abbrev pub command_or_query : Option CommandKind → Option QueryKind → Option OpKind
command_or_query (Some k) query = Some (op.Command k)
command_or_query None query = option_map (λ k. op.Query k) query

-- the op that a word names: a load brings a table, and no request a command of loads
unfoldable pub kind_named : List ℕ → Option OpKind
kind_named word =
    if bytes_eq load_row.word word then Some op.Load
    else command_or_query (command_named commands word) (query_named queries word)

-- ---- taken apart

-- a command: which one, and its fields in order
abbrev pub apart : Command → CommandKind × List Field
apart (FolderAdd folder display) =
    (command.FolderAdd, field.Name folder ∷ field.Display display ∷ [])
apart (FolderRename folder extension) =
    (command.FolderRename, field.Folder folder ∷ field.Extension extension ∷ [])
apart (FolderMove folder to) = (command.FolderMove, field.Folder folder ∷ field.Folder to ∷ [])
apart (FolderDelete folder) = (command.FolderDelete, field.Folder folder ∷ [])
apart (SubjectAdd subject display) =
    (command.SubjectAdd, field.Entity subject ∷ field.Display display ∷ [])
apart (GroupAdd group display) = (command.GroupAdd, field.Name group ∷ field.Display display ∷ [])
apart (GroupRename group extension) =
    (command.GroupRename, field.Name group ∷ field.Extension extension ∷ [])
apart (GroupMove group to) = (command.GroupMove, field.Name group ∷ field.Folder to ∷ [])
apart (GroupDelete group) = (command.GroupDelete, field.Name group ∷ [])
apart (MemberAdd group member from until) = (
  command.MemberAdd,
  field.Name group ∷ field.Entity member ∷ field.OptionalMoment from
      ∷ field.OptionalMoment until ∷ [],
)
apart (MemberRemove group member) =
    (command.MemberRemove, field.Name group ∷ field.Entity member ∷ [])
apart (MemberWindow group member from until) = (
  command.MemberWindow,
  field.Name group ∷ field.Entity member ∷ field.OptionalMoment from
      ∷ field.OptionalMoment until ∷ [],
)
apart (CompositeSet group kind left right) = (
  command.CompositeSet,
  field.Name group ∷ field.SetOp kind ∷ field.Name left ∷ field.Name right
      ∷ [],
)
apart (CompositeClear group) = (command.CompositeClear, field.Name group ∷ [])
apart (GrantAdd object privilege holder from until) = (
  command.GrantAdd,
  field.Object object ∷ field.Privilege privilege ∷ field.Entity holder
      ∷ field.OptionalMoment from ∷ field.OptionalMoment until ∷ [],
)
apart (GrantRemove object privilege holder) = (
  command.GrantRemove,
  field.Object object ∷ field.Privilege privilege ∷ field.Entity holder
      ∷ [],
)
apart (InheritAdd folder kind scope privilege holder) = (
  command.InheritAdd,
  field.Folder folder ∷ field.InheritKind kind ∷ field.Scope scope
      ∷ field.Privilege privilege ∷ field.Entity holder ∷ [],
)
apart (InheritRemove folder kind scope privilege holder) = (
  command.InheritRemove,
  field.Folder folder ∷ field.InheritKind kind ∷ field.Scope scope
      ∷ field.Privilege privilege ∷ field.Entity holder ∷ [],
)
apart (AttrdefAdd definition owners several kind many) = (
  command.AttrdefAdd,
  field.Name definition ∷ field.Owners owners ∷ field.Flag several
      ∷ field.DefKind kind ∷ field.Flag many ∷ [],
)
apart (AttrdefDelete definition) = (command.AttrdefDelete, field.Name definition ∷ [])
apart (AttrAdd attribute definition) =
    (command.AttrAdd, field.Name attribute ∷ field.Name definition ∷ [])
apart (AttrDelete attribute) = (command.AttrDelete, field.Name attribute ∷ [])
apart (AssignAdd attribute object) =
    (command.AssignAdd, field.Name attribute ∷ field.Object object ∷ [])
apart (AssignRemove attribute object id) = (
  command.AssignRemove,
  field.Name attribute ∷ field.Object object
      ∷ field.Number id 0 18446744073709551615 ∷ [],
)
apart (ValueAdd attribute object id value) = (
  command.ValueAdd,
  field.Name attribute ∷ field.Object object
      ∷ field.Number id 0 18446744073709551615 ∷ field.Value value ∷ [],
)
apart (ValueRemove attribute object id value) = (
  command.ValueRemove,
  field.Name attribute ∷ field.Object object
      ∷ field.Number id 0 18446744073709551615 ∷ field.Value value ∷ [],
)
apart (RuleRemoveLost check owner) =
    (command.RuleRemoveLost, field.Name check ∷ field.Name owner ∷ [])
apart (RuleEndLost check owner days) =
    (command.RuleEndLost, field.Name check ∷ field.Name owner ∷ field.Number days 1 3650 ∷ [])
apart (RuleVeto owner condition) = (command.RuleVeto, field.Name owner ∷ field.Name condition ∷ [])
apart (RuleOnCreate folder scope privilege holder) = (
  command.RuleOnCreate,
  field.Folder folder ∷ field.Scope scope ∷ field.Privilege privilege
      ∷ field.Entity holder ∷ [],
)
apart (RuleDelete id) = (command.RuleDelete, field.Number id 0 18446744073709551615 ∷ [])
apart (JobSimple job group source min_size max_percent) = (
  command.JobSimple,
  field.Extension job ∷ field.Name group ∷ field.Source source
      ∷ field.Number min_size 0 4294967295 ∷ field.Number max_percent 0 100 ∷ [],
)
apart (JobList job folder source min_size max_percent) = (
  command.JobList,
  field.Extension job ∷ field.Folder folder ∷ field.Source source
      ∷ field.Number min_size 0 4294967295 ∷ field.Number max_percent 0 100 ∷ [],
)
apart (JobDelete job) = (command.JobDelete, field.Extension job ∷ [])
apart (Load job created removed added) = (
  command.Load,
  field.Extension job ∷ field.Names created ∷ field.LoadRows removed
      ∷ field.LoadRows added ∷ [],
)
apart (ConsumerAdd consumer) = (command.ConsumerAdd, field.Extension consumer ∷ [])
apart (ConsumerAck consumer seq) =
    (command.ConsumerAck, field.Extension consumer ∷ field.Number seq 0 18446744073709551615 ∷ [])

-- a query: which one, and its fields in order
abbrev pub query_apart : Query → QueryKind × List Field
query_apart (GroupGet group) = (query.GroupGet, field.Name group ∷ [])
query_apart (FolderList folder) = (query.FolderList, field.Folder folder ∷ [])
query_apart (Members group at) = (query.Members, field.Name group ∷ field.OptionalMoment at ∷ [])
query_apart (Rows group) = (query.Rows, field.Name group ∷ [])
query_apart (Groups subject at) =
    (query.Groups, field.Entity subject ∷ field.OptionalMoment at ∷ [])
query_apart (Grants object at) = (query.Grants, field.Object object ∷ field.OptionalMoment at ∷ [])
query_apart (May object entity at) =
    (query.May, field.Object object ∷ field.Entity entity ∷ field.OptionalMoment at ∷ [])
query_apart (Attributes object at) =
    (query.Attributes, field.Object object ∷ field.OptionalMoment at ∷ [])
query_apart (History group) = (query.History, field.Name group ∷ [])
query_apart (Log consumer max) =
    (query.Log, field.Extension consumer ∷ field.Number max 1 1000 ∷ [])
query_apart Admin = (query.Admin, [])

-- which command it is
abbrev pub kind_of : Command → CommandKind
kind_of c = (apart c).0

-- a command's fields, in order
abbrev pub fields_of : Command → List Field
fields_of c = (apart c).1

-- the code of a command
abbrev pub code_of : Command → ℕ
code_of c = (command_row (kind_of c)).code

-- which op it is
abbrev pub op_kind : Op → OpKind
op_kind (asked.Command c) = op.Command (apart c).0
op_kind (asked.Query q) = op.Query (query_apart q).0
op_kind (asked.Load job table) = op.Load

-- its fields, in order
abbrev pub op_fields : Op → List Field
op_fields (asked.Command c) = (apart c).1
op_fields (asked.Query q) = (query_apart q).1
op_fields (asked.Load job table) = field.Extension job ∷ field.Table table ∷ []

-- ---- and made of fields

-- the command that fields make
abbrev pub made_command : CommandKind → List Field → Option Command
made_command command.FolderAdd fields = do
  folder ← name_in fields
  display ← display_in folder.1
  whole (FolderAdd folder.0 display.0) display.1
made_command command.FolderRename fields = do
  folder ← folder_in fields
  extension ← extension_in folder.1
  whole (FolderRename folder.0 extension.0) extension.1
made_command command.FolderMove fields = do
  folder ← folder_in fields
  to ← folder_in folder.1
  whole (FolderMove folder.0 to.0) to.1
made_command command.FolderDelete fields = do
  folder ← folder_in fields
  whole (FolderDelete folder.0) folder.1
made_command command.SubjectAdd fields = do
  subject ← entity_in fields
  display ← display_in subject.1
  whole (SubjectAdd subject.0 display.0) display.1
made_command command.GroupAdd fields = do
  group ← name_in fields
  display ← display_in group.1
  whole (GroupAdd group.0 display.0) display.1
made_command command.GroupRename fields = do
  group ← name_in fields
  extension ← extension_in group.1
  whole (GroupRename group.0 extension.0) extension.1
made_command command.GroupMove fields = do
  group ← name_in fields
  to ← folder_in group.1
  whole (GroupMove group.0 to.0) to.1
made_command command.GroupDelete fields = do
  group ← name_in fields
  whole (GroupDelete group.0) group.1
made_command command.MemberAdd fields = do
  group ← name_in fields
  member ← entity_in group.1
  from ← moment_in member.1
  until ← moment_in from.1
  whole (MemberAdd group.0 member.0 from.0 until.0) until.1
made_command command.MemberRemove fields = do
  group ← name_in fields
  member ← entity_in group.1
  whole (MemberRemove group.0 member.0) member.1
made_command command.MemberWindow fields = do
  group ← name_in fields
  member ← entity_in group.1
  from ← moment_in member.1
  until ← moment_in from.1
  whole (MemberWindow group.0 member.0 from.0 until.0) until.1
made_command command.CompositeSet fields = do
  group ← name_in fields
  kind ← set_op_in group.1
  left ← name_in kind.1
  right ← name_in left.1
  whole (CompositeSet group.0 kind.0 left.0 right.0) right.1
made_command command.CompositeClear fields = do
  group ← name_in fields
  whole (CompositeClear group.0) group.1
made_command command.GrantAdd fields = do
  object ← object_in fields
  privilege ← privilege_in object.1
  holder ← entity_in privilege.1
  from ← moment_in holder.1
  until ← moment_in from.1
  whole (GrantAdd object.0 privilege.0 holder.0 from.0 until.0) until.1
made_command command.GrantRemove fields = do
  object ← object_in fields
  privilege ← privilege_in object.1
  holder ← entity_in privilege.1
  whole (GrantRemove object.0 privilege.0 holder.0) holder.1
made_command command.InheritAdd fields = do
  folder ← folder_in fields
  kind ← inherit_kind_in folder.1
  scope ← scope_in kind.1
  privilege ← privilege_in scope.1
  holder ← entity_in privilege.1
  whole (InheritAdd folder.0 kind.0 scope.0 privilege.0 holder.0) holder.1
made_command command.InheritRemove fields = do
  folder ← folder_in fields
  kind ← inherit_kind_in folder.1
  scope ← scope_in kind.1
  privilege ← privilege_in scope.1
  holder ← entity_in privilege.1
  whole (InheritRemove folder.0 kind.0 scope.0 privilege.0 holder.0) holder.1
made_command command.AttrdefAdd fields = do
  definition ← name_in fields
  owners ← owners_in definition.1
  several ← flag_in owners.1
  kind ← def_kind_in several.1
  many ← flag_in kind.1
  whole (AttrdefAdd definition.0 owners.0 several.0 kind.0 many.0) many.1
made_command command.AttrdefDelete fields = do
  definition ← name_in fields
  whole (AttrdefDelete definition.0) definition.1
made_command command.AttrAdd fields = do
  attribute ← name_in fields
  definition ← name_in attribute.1
  whole (AttrAdd attribute.0 definition.0) definition.1
made_command command.AttrDelete fields = do
  attribute ← name_in fields
  whole (AttrDelete attribute.0) attribute.1
made_command command.AssignAdd fields = do
  attribute ← name_in fields
  object ← object_in attribute.1
  whole (AssignAdd attribute.0 object.0) object.1
made_command command.AssignRemove fields = do
  attribute ← name_in fields
  object ← object_in attribute.1
  id ← number_in object.1
  whole (AssignRemove attribute.0 object.0 id.0) id.1
made_command command.ValueAdd fields = do
  attribute ← name_in fields
  object ← object_in attribute.1
  id ← number_in object.1
  value ← value_in id.1
  whole (ValueAdd attribute.0 object.0 id.0 value.0) value.1
made_command command.ValueRemove fields = do
  attribute ← name_in fields
  object ← object_in attribute.1
  id ← number_in object.1
  value ← value_in id.1
  whole (ValueRemove attribute.0 object.0 id.0 value.0) value.1
made_command command.RuleRemoveLost fields = do
  check ← name_in fields
  owner ← name_in check.1
  whole (RuleRemoveLost check.0 owner.0) owner.1
made_command command.RuleEndLost fields = do
  check ← name_in fields
  owner ← name_in check.1
  days ← number_in owner.1
  whole (RuleEndLost check.0 owner.0 days.0) days.1
made_command command.RuleVeto fields = do
  owner ← name_in fields
  condition ← name_in owner.1
  whole (RuleVeto owner.0 condition.0) condition.1
made_command command.RuleOnCreate fields = do
  folder ← folder_in fields
  scope ← scope_in folder.1
  privilege ← privilege_in scope.1
  holder ← entity_in privilege.1
  whole (RuleOnCreate folder.0 scope.0 privilege.0 holder.0) holder.1
made_command command.RuleDelete fields = do
  id ← number_in fields
  whole (RuleDelete id.0) id.1
made_command command.JobSimple fields = do
  job ← extension_in fields
  group ← name_in job.1
  source ← source_in group.1
  min_size ← number_in source.1
  max_percent ← number_in min_size.1
  whole (JobSimple job.0 group.0 source.0 min_size.0 max_percent.0) max_percent.1
made_command command.JobList fields = do
  job ← extension_in fields
  folder ← folder_in job.1
  source ← source_in folder.1
  min_size ← number_in source.1
  max_percent ← number_in min_size.1
  whole (JobList job.0 folder.0 source.0 min_size.0 max_percent.0) max_percent.1
made_command command.JobDelete fields = do
  job ← extension_in fields
  whole (JobDelete job.0) job.1
made_command command.Load fields = do
  job ← extension_in fields
  created ← names_in job.1
  removed ← load_rows_in created.1
  added ← load_rows_in removed.1
  whole (Load job.0 created.0 removed.0 added.0) added.1
made_command command.ConsumerAdd fields = do
  consumer ← extension_in fields
  whole (ConsumerAdd consumer.0) consumer.1
made_command command.ConsumerAck fields = do
  consumer ← extension_in fields
  seq ← number_in consumer.1
  whole (ConsumerAck consumer.0 seq.0) seq.1

-- the query that fields make
abbrev pub made_query : QueryKind → List Field → Option Query
made_query query.GroupGet fields = do
  group ← name_in fields
  whole (GroupGet group.0) group.1
made_query query.FolderList fields = do
  folder ← folder_in fields
  whole (FolderList folder.0) folder.1
made_query query.Members fields = do
  group ← name_in fields
  at ← moment_in group.1
  whole (Members group.0 at.0) at.1
made_query query.Rows fields = do
  group ← name_in fields
  whole (Rows group.0) group.1
made_query query.Groups fields = do
  subject ← entity_in fields
  at ← moment_in subject.1
  whole (Groups subject.0 at.0) at.1
made_query query.Grants fields = do
  object ← object_in fields
  at ← moment_in object.1
  whole (Grants object.0 at.0) at.1
made_query query.May fields = do
  object ← object_in fields
  entity ← entity_in object.1
  at ← moment_in entity.1
  whole (May object.0 entity.0 at.0) at.1
made_query query.Attributes fields = do
  object ← object_in fields
  at ← moment_in object.1
  whole (Attributes object.0 at.0) at.1
made_query query.History fields = do
  group ← name_in fields
  whole (History group.0) group.1
made_query query.Log fields = do
  consumer ← extension_in fields
  max ← number_in consumer.1
  whole (Log consumer.0 max.0) max.1
made_query query.Admin fields = whole Admin fields

-- the op that fields make
abbrev pub made : OpKind → List Field → Option Op
made (op.Command k) fields = option_map (λ c. asked.Command c) (made_command k fields)
made (op.Query k) fields = option_map (λ q. asked.Query q) (made_query k fields)
made op.Load fields = do
  job ← extension_in fields
  table ← table_in job.1
  whole (asked.Load job.0 table.0) table.1

-- ---- what holds of them

-- fields make a command, which has these fields
pub record IsMadeCommand (k : CommandKind) (fields : List Field) : Type 0 where
  pub command : Command
  pub made_so : made_command k fields ≡ Some command
  pub is_kind : kind_of command ≡ k
  pub has_these : fields_of command ≡ fields

-- fields make an op, which has these fields
pub record IsMade (k : OpKind) (fields : List Field) : Type 0 where
  pub op : Op
  pub made_so : made k fields ≡ Some op
  pub is_kind : op_kind op ≡ k
  pub has_these : op_fields op ≡ fields

-- a command's fields are of its row's kinds, at most six, and make it again, and its code leads to
-- its row
pub record IsApart (c : Command) : Type 0 where
  pub few : length (fields_of c) ≤ 6
  pub kinds : map field_kind (fields_of c) ≡ field_kinds (command_row (kind_of c)).op
  pub again : made_command (kind_of c) (fields_of c) ≡ Some c
  pub coded_so : coded commands (code_of c) ≡ Some (kind_of c)
