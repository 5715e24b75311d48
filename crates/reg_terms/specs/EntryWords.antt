-- The words that are printed for the kinds of entries, and the kind of a word.
use Rattle.std.specs.Prelude.{ℕ, List, [], ◌∷◌, codes, Option}
use Rattle.std.specs.List.{find}
use Rattle.std.specs.Str.{bytes_eq}
use Rattle.reg_terms.specs.declared.entry_kinds.EntryKind.{EntryKind}
use Rattle.reg_terms.specs.declared.entry_kinds.EntryKind.TheVariants.{FolderAdd, FolderRename}
use Rattle.reg_terms.specs.declared.entry_kinds.EntryKind.TheVariants.{FolderMove, FolderDelete}
use Rattle.reg_terms.specs.declared.entry_kinds.EntryKind.TheVariants.{SubjectAdd, GroupAdd}
use Rattle.reg_terms.specs.declared.entry_kinds.EntryKind.TheVariants.{GroupRename, GroupMove}
use Rattle.reg_terms.specs.declared.entry_kinds.EntryKind.TheVariants.{GroupDelete, RowAdd}
use Rattle.reg_terms.specs.declared.entry_kinds.EntryKind.TheVariants.{RowRemove, RowWindow}
use Rattle.reg_terms.specs.declared.entry_kinds.EntryKind.TheVariants.{CompositeSet, CompositeClear}
use Rattle.reg_terms.specs.declared.entry_kinds.EntryKind.TheVariants.{GrantAdd, GrantRemove}
use Rattle.reg_terms.specs.declared.entry_kinds.EntryKind.TheVariants.{InheritAdd, InheritRemove}
use Rattle.reg_terms.specs.declared.entry_kinds.EntryKind.TheVariants.{DefinitionAdd}
use Rattle.reg_terms.specs.declared.entry_kinds.EntryKind.TheVariants.{DefinitionDelete}
use Rattle.reg_terms.specs.declared.entry_kinds.EntryKind.TheVariants.{AttributeAdd}
use Rattle.reg_terms.specs.declared.entry_kinds.EntryKind.TheVariants.{AttributeDelete, AssignAdd}
use Rattle.reg_terms.specs.declared.entry_kinds.EntryKind.TheVariants.{AssignRemove, ValueAdd}
use Rattle.reg_terms.specs.declared.entry_kinds.EntryKind.TheVariants.{ValueRemove, RuleAdd}
use Rattle.reg_terms.specs.declared.entry_kinds.EntryKind.TheVariants.{RuleDelete, JobAdd}
use Rattle.reg_terms.specs.declared.entry_kinds.EntryKind.TheVariants.{JobDelete, MemberBegin}
use Rattle.reg_terms.specs.declared.entry_kinds.EntryKind.TheVariants.{MemberEnd}

-- what was changed, and how
abbrev pub word_of : EntryKind → List ℕ
word_of FolderAdd = codes "folder.add"
word_of FolderRename = codes "folder.rename"
word_of FolderMove = codes "folder.move"
word_of FolderDelete = codes "folder.delete"
word_of SubjectAdd = codes "subject.add"
word_of GroupAdd = codes "group.add"
word_of GroupRename = codes "group.rename"
word_of GroupMove = codes "group.move"
word_of GroupDelete = codes "group.delete"
word_of RowAdd = codes "row.add"
word_of RowRemove = codes "row.remove"
word_of RowWindow = codes "row.window"
word_of CompositeSet = codes "composite.set"
word_of CompositeClear = codes "composite.clear"
word_of GrantAdd = codes "grant.add"
word_of GrantRemove = codes "grant.remove"
word_of InheritAdd = codes "inherit.add"
word_of InheritRemove = codes "inherit.remove"
word_of DefinitionAdd = codes "definition.add"
word_of DefinitionDelete = codes "definition.delete"
word_of AttributeAdd = codes "attribute.add"
word_of AttributeDelete = codes "attribute.delete"
word_of AssignAdd = codes "assign.add"
word_of AssignRemove = codes "assign.remove"
word_of ValueAdd = codes "value.add"
word_of ValueRemove = codes "value.remove"
word_of RuleAdd = codes "rule.add"
word_of RuleDelete = codes "rule.delete"
word_of JobAdd = codes "job.add"
word_of JobDelete = codes "job.delete"
word_of MemberBegin = codes "member.begin"
word_of MemberEnd = codes "member.end"

-- every kind
abbrev pub entry_kinds : List EntryKind
entry_kinds =
    FolderAdd ∷ FolderRename ∷ FolderMove ∷ FolderDelete ∷ SubjectAdd ∷ GroupAdd ∷ GroupRename
    ∷ GroupMove ∷ GroupDelete ∷ RowAdd ∷ RowRemove ∷ RowWindow ∷ CompositeSet ∷ CompositeClear
    ∷ GrantAdd ∷ GrantRemove ∷ InheritAdd ∷ InheritRemove ∷ DefinitionAdd ∷ DefinitionDelete
    ∷ AttributeAdd ∷ AttributeDelete ∷ AssignAdd ∷ AssignRemove ∷ ValueAdd ∷ ValueRemove ∷ RuleAdd
    ∷ RuleDelete ∷ JobAdd ∷ JobDelete ∷ MemberBegin ∷ MemberEnd ∷ []

-- the kind whose word it is
unfoldable pub kind_worded : List ℕ → Option EntryKind
kind_worded word = find (λ k. bytes_eq (word_of k) word) entry_kinds
