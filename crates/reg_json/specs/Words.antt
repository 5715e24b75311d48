-- Where the op is looked for that a word names.
use Rattle.std.specs.Prelude.{ℕ, List, ◌∷◌, ◌++◌, ◌==◌, length, map, Option}
use Rattle.std.specs.List.{filter, find}
use Rattle.std.specs.Str.{bytes_eq}
use Rattle.reg_ops.specs.declared.table.OpKind.{OpKind}
use Rattle.reg_ops.specs.declared.table.OpKind.TheVariants as op
use Rattle.reg_ops.specs.Table.{commands, queries, row_of}

-- every op, in the order in which a word is looked for
unfoldable pub all_ops : List OpKind
all_ops = op.Load ∷ map (λ k. op.Command k) commands ++ map (λ k. op.Query k) queries

-- those whose words have so many bytes
unfoldable pub of_length : ℕ → List OpKind
of_length n = filter (λ k. length (row_of k).word == n) all_ops

-- the first of these that a word names
abbrev pub first_named : List OpKind → List ℕ → Option OpKind
first_named kinds word = find (λ k. bytes_eq (row_of k).word word) kinds
