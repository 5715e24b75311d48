-- Objects: when two are one, by what is derived of them and in words.
use Rattle.std.proofs.Common.{◌≡◌, true, refl, sym, ap, ◌∙◌}
use Rattle.std.proofs.lemmas.Bool.{eqb-true}
use Rattle.std.proofs.lemmas.Cmp.{nat_cmp_total, tied_itself}
use Rattle.std.specs.Ordering.{ordering_reverse, is_eq}
use Rattle.std.specs.declared.cmp.Ordering.TheVariants.{Equal}
use Rattle.reg_terms.specs.Kinds.{same_object}
use Rattle.reg_terms.specs.declared.kinds.Object.{Object}
use Rattle.reg_terms.specs.declared.kinds.Object.TheVariants as object
use Rattle.reg_terms.specs.contracts.kinds.ObjectPartialEq.TheImpl as object_eq
use Rattle.reg_pit.specs.Grants.{object_cmp}
use Rattle.reg_pit.proofs.Turning.{at_end}

-- the order of objects tells whether two are one
pub object_tells : (a b : Object) → is_eq (object_cmp a b) ≡ same_object b a
object_tells (object.Folder a) (object.Folder b) = at_end a b
object_tells (object.Folder a) (object.Group b) = refl
object_tells (object.Folder a) (object.Def b) = refl
object_tells (object.Folder a) (object.Attr b) = refl
object_tells (object.Folder a) (object.Subject b) = refl
object_tells (object.Group a) (object.Folder b) = refl
object_tells (object.Group a) (object.Group b) = at_end a b
object_tells (object.Group a) (object.Def b) = refl
object_tells (object.Group a) (object.Attr b) = refl
object_tells (object.Group a) (object.Subject b) = refl
object_tells (object.Def a) (object.Folder b) = refl
object_tells (object.Def a) (object.Group b) = refl
object_tells (object.Def a) (object.Def b) = at_end a b
object_tells (object.Def a) (object.Attr b) = refl
object_tells (object.Def a) (object.Subject b) = refl
object_tells (object.Attr a) (object.Folder b) = refl
object_tells (object.Attr a) (object.Group b) = refl
object_tells (object.Attr a) (object.Def b) = refl
object_tells (object.Attr a) (object.Attr b) = at_end a b
object_tells (object.Attr a) (object.Subject b) = refl
object_tells (object.Subject a) (object.Folder b) = refl
object_tells (object.Subject a) (object.Group b) = refl
object_tells (object.Subject a) (object.Def b) = refl
object_tells (object.Subject a) (object.Attr b) = refl
object_tells (object.Subject a) (object.Subject b) = at_end a b

pub object_turned : (a b : Object) → object_cmp b a ≡ ordering_reverse (object_cmp a b)
object_turned (object.Folder a) (object.Folder b) = nat_cmp_total.antisymm b a
object_turned (object.Folder a) (object.Group b) = refl
object_turned (object.Folder a) (object.Def b) = refl
object_turned (object.Folder a) (object.Attr b) = refl
object_turned (object.Folder a) (object.Subject b) = refl
object_turned (object.Group a) (object.Folder b) = refl
object_turned (object.Group a) (object.Group b) = nat_cmp_total.antisymm b a
object_turned (object.Group a) (object.Def b) = refl
object_turned (object.Group a) (object.Attr b) = refl
object_turned (object.Group a) (object.Subject b) = refl
object_turned (object.Def a) (object.Folder b) = refl
object_turned (object.Def a) (object.Group b) = refl
object_turned (object.Def a) (object.Def b) = nat_cmp_total.antisymm b a
object_turned (object.Def a) (object.Attr b) = refl
object_turned (object.Def a) (object.Subject b) = refl
object_turned (object.Attr a) (object.Folder b) = refl
object_turned (object.Attr a) (object.Group b) = refl
object_turned (object.Attr a) (object.Def b) = refl
object_turned (object.Attr a) (object.Attr b) = nat_cmp_total.antisymm b a
object_turned (object.Attr a) (object.Subject b) = refl
object_turned (object.Subject a) (object.Folder b) = refl
object_turned (object.Subject a) (object.Group b) = refl
object_turned (object.Subject a) (object.Def b) = refl
object_turned (object.Subject a) (object.Attr b) = refl
object_turned (object.Subject a) (object.Subject b) = nat_cmp_total.antisymm b a

pub object_tied : (a : Object) → object_cmp a a ≡ Equal
object_tied (object.Folder a) = tied_itself nat_cmp_total a
object_tied (object.Group a) = tied_itself nat_cmp_total a
object_tied (object.Def a) = tied_itself nat_cmp_total a
object_tied (object.Attr a) = tied_itself nat_cmp_total a
object_tied (object.Subject a) = tied_itself nat_cmp_total a

pub object_itself : (a : Object) → same_object a a ≡ true
object_itself a = sym (object_tells a a) ∙ rw (object_tied a) refl

pub object_same : (a b : Object) → same_object a b ≡ true → a ≡ b
object_same (object.Folder a) (object.Folder b) h = ap (λ n. object.Folder n) (eqb-true a b h)
object_same (object.Group a) (object.Group b) h = ap (λ n. object.Group n) (eqb-true a b h)
object_same (object.Def a) (object.Def b) h = ap (λ n. object.Def n) (eqb-true a b h)
object_same (object.Attr a) (object.Attr b) h = ap (λ n. object.Attr n) (eqb-true a b h)
object_same (object.Subject a) (object.Subject b) h = ap (λ n. object.Subject n) (eqb-true a b h)
object_same _ _ h = cc

-- so does the equality that is derived
pub object_is : (a b : Object) → object_eq.ghosts.eq a b ≡ same_object a b
object_is (object.Folder a) (object.Folder b) = refl
object_is (object.Folder a) (object.Group b) = refl
object_is (object.Folder a) (object.Def b) = refl
object_is (object.Folder a) (object.Attr b) = refl
object_is (object.Folder a) (object.Subject b) = refl
object_is (object.Group a) (object.Folder b) = refl
object_is (object.Group a) (object.Group b) = refl
object_is (object.Group a) (object.Def b) = refl
object_is (object.Group a) (object.Attr b) = refl
object_is (object.Group a) (object.Subject b) = refl
object_is (object.Def a) (object.Folder b) = refl
object_is (object.Def a) (object.Group b) = refl
object_is (object.Def a) (object.Def b) = refl
object_is (object.Def a) (object.Attr b) = refl
object_is (object.Def a) (object.Subject b) = refl
object_is (object.Attr a) (object.Folder b) = refl
object_is (object.Attr a) (object.Group b) = refl
object_is (object.Attr a) (object.Def b) = refl
object_is (object.Attr a) (object.Attr b) = refl
object_is (object.Attr a) (object.Subject b) = refl
object_is (object.Subject a) (object.Folder b) = refl
object_is (object.Subject a) (object.Group b) = refl
object_is (object.Subject a) (object.Def b) = refl
object_is (object.Subject a) (object.Attr b) = refl
object_is (object.Subject a) (object.Subject b) = refl
