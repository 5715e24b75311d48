-- The first op that a word names is among those whose words are as long.
use Rattle.std.proofs.Common.{◌≡◌, ℕ, true, if◌then◌else◌, List, [], ◌∷◌, ◌++◌, length, map, Some, option_map, inl, inr, refl, ap, ◌∙◌}
use Rattle.std.specs.Prelude.{◌==◌}
use Rattle.std.specs.List.{filter}
use Rattle.std.specs.Str.{bytes_eq}
use Rattle.std.proofs.lemmas.Bool.{cases_Bool, eq-eqb}
use Rattle.std.proofs.lemmas.Slice.Eq.{bytes_eq-Decides}
use Rattle.reg_ops.specs.declared.table.CommandKind.{CommandKind}
use Rattle.reg_ops.specs.declared.table.QueryKind.{QueryKind}
use Rattle.reg_ops.specs.declared.table.OpKind.{OpKind}
use Rattle.reg_ops.specs.declared.table.OpKind.TheVariants as op
use Rattle.reg_ops.specs.Table.{command_row, query_row, command_named, query_named, command_or_query, commands, queries, load_row, kind_named, row_of}
use Rattle.reg_json.specs.Words.{all_ops, of_length, first_named}

-- ---- in the order of the table

query_first : (qs : List QueryKind) (word : List ℕ) → first_named (map (λ k. op.Query k) qs) word ≡ option_map (λ k. op.Query k) (query_named qs word)
query_first [] word = refl
query_first (q ∷ qs) word = elim (cases_Bool (bytes_eq (query_row q).word word)) [
  | inl t ↦ rw t refl
  | inr n ↦ rw n (query_first qs word)
]

command_first : (ks : List CommandKind) (qs : List QueryKind) (word : List ℕ) → first_named (map (λ k. op.Command k) ks ++ map (λ k. op.Query k) qs) word ≡ command_or_query (command_named ks word) (query_named qs word)
command_first [] qs word = query_first qs word
command_first (k ∷ ks) qs word = elim (cases_Bool (bytes_eq (command_row k).op.word word)) [
  | inl t ↦ rw t refl
  | inr n ↦ rw n (command_first ks qs word)
]

in_order : (ks : List CommandKind) (qs : List QueryKind) (word : List ℕ) → first_named (op.Load ∷ map (λ k. op.Command k) ks ++ map (λ k. op.Query k) qs) word ≡ if bytes_eq load_row.word word then Some op.Load else command_or_query (command_named ks word) (query_named qs word)
in_order ks qs word = elim (cases_Bool (bytes_eq load_row.word word)) [
  | inl t ↦ rw t refl
  | inr n ↦ rw n (command_first ks qs word)
]

-- ---- by the length

-- a word that names an op is as long as the op's own
as_long : (k : OpKind) (word : List ℕ) → bytes_eq (row_of k).word word ≡ true → (length (row_of k).word == length word) ≡ true
as_long k word same = eq-eqb _ _ (ap length ((bytes_eq-Decides (row_of k).word word).0 same))

among : (ks : List OpKind) (word : List ℕ) → first_named (filter (λ k. length (row_of k).word == length word) ks) word ≡ first_named ks word
among [] word = refl
among (k ∷ ks) word = elim (cases_Bool (bytes_eq (row_of k).word word)) [
  | inl t ↦ rw (as_long k word t, t) refl
  | inr n ↦ elim (cases_Bool (length (row_of k).word == length word)) [
    | inl long ↦ rw (long, n) (among ks word)
    | inr other ↦ rw (other, n) (among ks word)
  ]
]

pub found_by_length : (word : List ℕ) → first_named (of_length (length word)) word ≡ kind_named word
unfolding of_length all_ops kind_named
found_by_length word = among all_ops word ∙ in_order commands queries word
