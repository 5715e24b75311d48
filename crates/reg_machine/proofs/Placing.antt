-- What has a place has a name, and of the rest only the root has one.
use Rattle.std.proofs.Common.{◌≡◌, ◌||◌, List, [], ◌∷◌, Bool, true, false, None, Some, refl, sym, inl, inr}
use Rattle.std.proofs.lemmas.Bool.{cases_Bool}
use Rattle.std.specs.List.{list_any}
use Rattle.reg_terms.specs.Kinds.{same_object}
use Rattle.reg_terms.specs.declared.kinds.Object.{Object}
use Rattle.reg_terms.specs.declared.kinds.Object.TheVariants.{Folder}
use Rattle.reg_facts.specs.Lists.{Lists, root}
use Rattle.reg_facts.specs.Naming.{Placed, placed, place_of}
use Rattle.reg_facts.specs.Sound.{is_named}

one_placed : (o : Object) (ps : List Placed) (p : Placed) → place_of o ps ≡ Some p → list_any (λ (q : Placed). same_object q.object o) ps ≡ true
one_placed o [] p e = cc
one_placed o (q ∷ ps) p e = elim (cases_Bool (same_object q.object o)) [
  | inl y ↦ rw y refl
  | inr n ↦ rw n (one_placed o ps p (rw n at e))
]

none_placed : (o : Object) (ps : List Placed) → place_of o ps ≡ None → list_any (λ (q : Placed). same_object q.object o) ps ≡ false
none_placed o [] e = refl
none_placed o (q ∷ ps) e = elim (cases_Bool (same_object q.object o)) [
  | inl y ↦ let clash : Some q ≡ None = rw y at e in cc
  | inr n ↦ rw n (none_placed o ps (rw n at e))
]

or_true : (b : Bool) → (b || true) ≡ true
or_true true = refl
or_true false = refl

or_false : (b : Bool) → (b || false) ≡ b
or_false true = refl
or_false false = refl

pub named_some : (o : Object) (f : Lists) (p : Placed) → Some p ≡ place_of o (placed f) → true ≡ is_named o f
named_some o f p e = sym (rw (one_placed o (placed f) p (sym e)) (or_true (same_object o (Folder root))))

pub named_none : (o : Object) (f : Lists) → None ≡ place_of o (placed f) → same_object o (Folder root) ≡ is_named o f
named_none o f e = sym (rw (none_placed o (placed f) (sym e)) (or_false (same_object o (Folder root))))
