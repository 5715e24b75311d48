-- When two objects are one, and two texts.
use Rattle.std.proofs.Common.{◌≡◌, ℕ, List, true, refl, ap, bytes_eq}
use Rattle.std.proofs.lemmas.Bool.{eqb-true, eq-eqb}
use Rattle.std.proofs.lemmas.Slice.Eq.{bytes_eq-Decides}
use Rattle.reg_terms.specs.declared.kinds.Object.{Object}
use Rattle.reg_terms.specs.declared.kinds.Object.TheVariants.{Folder, Group, Def, Attr, Subject}
use Rattle.reg_terms.specs.Kinds.{same_object}

pub same_self : (o : Object) → same_object o o ≡ true
same_self (Folder a) = eq-eqb a a refl
same_self (Group a) = eq-eqb a a refl
same_self (Def a) = eq-eqb a a refl
same_self (Attr a) = eq-eqb a a refl
same_self (Subject a) = eq-eqb a a refl

pub same_is : (a b : Object) → same_object a b ≡ true → a ≡ b
same_is (Folder a) (Folder b) h = ap (λ n. Folder n) (eqb-true a b h)
same_is (Group a) (Group b) h = ap (λ n. Group n) (eqb-true a b h)
same_is (Def a) (Def b) h = ap (λ n. Def n) (eqb-true a b h)
same_is (Attr a) (Attr b) h = ap (λ n. Attr n) (eqb-true a b h)
same_is (Subject a) (Subject b) h = ap (λ n. Subject n) (eqb-true a b h)
same_is _ _ h = cc

pub bytes_same : (a b : List ℕ) → bytes_eq a b ≡ true → a ≡ b
bytes_same a b h = (bytes_eq-Decides a b).0 h

pub bytes_self : (a : List ℕ) → bytes_eq a a ≡ true
bytes_self a = (bytes_eq-Decides a a).1 refl
