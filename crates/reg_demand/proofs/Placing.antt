-- What is placed has a name, and the name of what isn't is `:`.
use Rattle.std.proofs.Common.{◌≡◌, ◌||◌, ◌∷◌, [], List, Bool, true, false, None, Some, refl, inl, inr, codes}
use Rattle.std.specs.List.{list_any}
use Rattle.std.proofs.lemmas.Bool.{cases_Bool}
use Rattle.reg_terms.specs.Kinds.{same_object}
use Rattle.reg_terms.specs.declared.kinds.Object.{Object}
use Rattle.reg_terms.specs.declared.kinds.Object.TheVariants.{Folder}
use Rattle.reg_facts.specs.Lists.{Lists, root}
use Rattle.reg_facts.specs.Naming.{Placed, placed, place_of, extensions, name_of}
use Rattle.reg_facts.specs.Sound.{is_named}

found_stands : (o : Object) (p : Placed) (ps : List Placed) → place_of o ps ≡ Some p → list_any (λ (q : Placed). same_object q.object o) ps ≡ true
found_stands o p [] h = cc
found_stands o p (q ∷ ps) h = elim (cases_Bool (same_object q.object o)) [
  | inl t ↦ rw t refl
  | inr n ↦ rw n (found_stands o p ps (rw n at h))
]

either : (a b : Bool) → b ≡ true → (a || b) ≡ true
either true b h = refl
either false b h = h

pub named_where_placed : (o : Object) (p : Placed) (f : Lists) → place_of o (placed f) ≡ Some p → is_named o f ≡ true
named_where_placed o p f h = either (same_object o (Folder root)) (list_any (λ (q : Placed). same_object q.object o) (placed f)) (found_stands o p (placed f) h)

pub name_nowhere : (o : Object) (f : Lists) → place_of o (placed f) ≡ None → name_of o f ≡ codes ":"
unfolding name_of extensions
name_nowhere o f none = rw (none, extensions, name_of)
