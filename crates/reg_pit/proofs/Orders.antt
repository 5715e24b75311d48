-- The answers of an order.
use Rattle.std.proofs.Common.{◌≡◌, true, false, refl}
use Rattle.std.specs.Ordering.{ordering_then, is_eq}
use Rattle.std.specs.declared.cmp.Ordering.{Ordering}
use Rattle.std.specs.declared.cmp.Ordering.TheVariants.{Less, Equal, Greater}

-- an answer of an order, with the equation
pub data Answer (r : Ordering) : Type 0 where
  less : r ≡ Less → Answer r
  equal : r ≡ Equal → Answer r
  greater : r ≡ Greater → Answer r

pub answer : (r : Ordering) → Answer r
answer Less = less refl
answer Equal = equal refl
answer Greater = greater refl

pub then_equal : (r s : Ordering) → is_eq (ordering_then r s) ≡ true → r ≡ Equal
then_equal Less s h = cc
then_equal Equal s h = refl
then_equal Greater s h = cc

pub then_less : (r s : Ordering) → ordering_then r s ≡ Less → is_eq r ≡ false → r ≡ Less
then_less Less s h k = refl
then_less Equal s h k = cc
then_less Greater s h k = cc

pub is_equal : (r : Ordering) → is_eq r ≡ true → r ≡ Equal
is_equal Less h = cc
is_equal Equal h = refl
is_equal Greater h = cc
