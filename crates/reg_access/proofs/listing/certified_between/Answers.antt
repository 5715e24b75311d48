use Rattle.std.proofs.lemmas.List.Sorted.{IsNonDecreasingBy-from_sort}
use Rattle.reg_access.proofs.Sweeping.{all_found}
use Rattle.reg_access.proofs.listing.certified_between.Goals as goal

pub returns : goal.returns
returns c = all_found _ _ _ _ (rw c.in_ok-found.ensures at c.sort_unstable.ensures.permutation) (IsNonDecreasingBy-from_sort (λ x. x) _ c.sort_unstable.ensures.sorted)
