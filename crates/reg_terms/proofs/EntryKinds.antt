-- The kind of a word has that word, and each kind is found by its own.
use Rattle.std.proofs.Common.{◌≡◌, ◌∙◌, ℕ, List, [], ◌∷◌, Some, inl, inr, refl, ap}
use Rattle.std.specs.Prelude.{IfSome}
use Rattle.std.specs.List.{find}
use Rattle.std.specs.Str.{bytes_eq}
use Rattle.std.proofs.lemmas.Bool.{cases_Bool}
use Rattle.std.proofs.lemmas.Slice.Eq.{bytes_eq-Decides}
use Rattle.reg_terms.specs.declared.entry_kinds.EntryKind.{EntryKind}
use Rattle.reg_terms.specs.declared.entry_kinds.EntryKind.TheVariants.{FolderAdd, FolderRename, FolderMove, FolderDelete, SubjectAdd, GroupAdd, GroupRename, GroupMove, GroupDelete, RowAdd, RowRemove, RowWindow, CompositeSet, CompositeClear, GrantAdd, GrantRemove, InheritAdd, InheritRemove, DefinitionAdd, DefinitionDelete, AttributeAdd, AttributeDelete, AssignAdd, AssignRemove, ValueAdd, ValueRemove, RuleAdd, RuleDelete, JobAdd, JobDelete, MemberBegin, MemberEnd}
use Rattle.reg_terms.specs.EntryWords.{word_of, entry_kinds, kind_worded}

found_has : (word : List ℕ) (ks : List EntryKind) → IfSome (find (λ k. bytes_eq (word_of k) word) ks) (λ k. word_of k ≡ word)
found_has word [] = tt
found_has word (k ∷ ks) = elim (cases_Bool (bytes_eq (word_of k) word)) [
  | inl t ↦ rw t ((bytes_eq-Decides (word_of k) word).0 t)
  | inr n ↦ rw n (found_has word ks)
]

pub worded_has : (word : List ℕ) → IfSome (kind_worded word) (λ k. word_of k ≡ word)
unfolding kind_worded
worded_has word = found_has word entry_kinds

-- each kind
own : (k : EntryKind) → kind_worded (word_of k) ≡ Some k
unfolding kind_worded
own FolderAdd = refl
own FolderRename = refl
own FolderMove = refl
own FolderDelete = refl
own SubjectAdd = refl
own GroupAdd = refl
own GroupRename = refl
own GroupMove = refl
own GroupDelete = refl
own RowAdd = refl
own RowRemove = refl
own RowWindow = refl
own CompositeSet = refl
own CompositeClear = refl
own GrantAdd = refl
own GrantRemove = refl
own InheritAdd = refl
own InheritRemove = refl
own DefinitionAdd = refl
own DefinitionDelete = refl
own AttributeAdd = refl
own AttributeDelete = refl
own AssignAdd = refl
own AssignRemove = refl
own ValueAdd = refl
own ValueRemove = refl
own RuleAdd = refl
own RuleDelete = refl
own JobAdd = refl
own JobDelete = refl
own MemberBegin = refl
own MemberEnd = refl

pub worded_own : (k : EntryKind) (word : List ℕ) → word ≡ word_of k → kind_worded word ≡ Some k
worded_own k word is = ap kind_worded is ∙ own k
