-- The word of a load: it names a load with its table, and no word names the command of a load.
use Rattle.std.proofs.Common.{◌≡◌, ℕ, Bool, true, false, if◌then◌else◌, List, [], ◌∷◌, Option, Some, None, inl, inr, refl, subst, codes}
use Rattle.std.specs.Str.{bytes_eq}
use Rattle.std.proofs.lemmas.Bool.{cases_Bool}
use Rattle.reg_ops.specs.declared.table.CommandKind.{CommandKind}
use Rattle.reg_ops.specs.declared.table.CommandKind.TheVariants as command
use Rattle.reg_ops.specs.declared.table.QueryKind.{QueryKind}
use Rattle.reg_ops.specs.declared.table.OpKind.{OpKind}
use Rattle.reg_ops.specs.declared.table.OpKind.TheVariants as op
use Rattle.reg_ops.specs.Table.{command_row, commands, queries, load_row, command_named, query_named, command_or_query, kind_named}

pub load_named : kind_named (codes "load") ≡ Some op.Load
unfolding kind_named
load_named = refl

one_kind : (j k : CommandKind) → Some j ≡ Some k → j ≡ k
one_kind j k e = cc

-- the command that a word names has that word
named_has : (k : CommandKind) (word : List ℕ) (ks : List CommandKind) → command_named ks word ≡ Some k → bytes_eq (command_row k).op.word word ≡ true
named_has k word [] e = absurd (let clash : ⊥ = cc in clash)
named_has k word (j ∷ ks) e = elim (cases_Bool (bytes_eq (command_row j).op.word word)) [
  | inl t ↦ subst (λ i. bytes_eq (command_row i).op.word word ≡ true) (one_kind j k (rw t at e)) t
  | inr n ↦ named_has k word ks (rw n at e)
]

is_command : (found : Option CommandKind) (query : Option QueryKind) (k : CommandKind) → command_or_query found query ≡ Some (op.Command k) → found ≡ Some k
is_command (Some j) query k e = cc
is_command None None k e = absurd (let clash : ⊥ = cc in clash)
is_command None (Some q) k e = absurd (let clash : ⊥ = cc in clash)

true_is_false : (b : Bool) → b ≡ true → b ≡ false → ⊥
true_is_false b is isnt = cc

is_other : (is_load : Bool) (other : Option OpKind) → (if is_load then Some op.Load else other) ≡ Some (op.Command command.Load) → (is_load ≡ false) × (other ≡ Some (op.Command command.Load))
is_other true other e = absurd (let clash : ⊥ = cc in clash)
is_other false other e = (refl, e)

pub never_command : (word : List ℕ) → kind_named word ≡ Some (op.Command command.Load) → ⊥
unfolding kind_named
never_command word e =
    let other = is_other (bytes_eq load_row.word word) (command_or_query (command_named commands word) (query_named queries word)) e in
    let found = is_command (command_named commands word) (query_named queries word) command.Load other.1 in
    let has : bytes_eq load_row.word word ≡ true = named_has command.Load word commands found in
    true_is_false (bytes_eq load_row.word word) has other.0
