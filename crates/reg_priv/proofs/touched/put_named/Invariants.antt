use Rattle.std.proofs.Common.{◌≡◌, ◌⊎◌, ℕ, List, true, length, Some, bytes_eq}
use Rattle.std.specs.List.{list_any}
use Rattle.reg_terms.specs.declared.kinds.Object.{Object}
use Rattle.reg_facts.specs.Naming.{child}
use Rattle.reg_terms.specs.declared.kinds.Scope.TheVariants.{One}
use Rattle.reg_names.specs.Scopes.{in_scope}
use Rattle.reg_priv.specs.Touched.{is_listed, AddsOnly}
use Rattle.reg_priv.proofs.touched.put_named.Given as goal

-- what was listed, and each extension that is found or left, and what is in the folder alone
abbrev pub invariant-loop-extension : goal.invariant-loop-extension
invariant-loop-extension l = record {
  kept : (o : Object) → is_listed o l.fn.found.items ≡ true → is_listed o l.found.items ≡ true;
  named : (e : List ℕ) (o : Object) → list_any (λ t. bytes_eq t e) l.extensions ≡ true → child l.folder e l.facts ≡ Some o → (is_listed o l.found.items ≡ true) ⊎ (list_any (λ t. bytes_eq t e) l.pieces ≡ true);
  only : AddsOnly (λ o. in_scope l.folder One o l.facts) l.fn.found.items l.found.items;
}

abbrev pub decreases-loop-extension : goal.decreases-loop-extension
decreases-loop-extension l = length l.pieces
