-- What stands in a folder has a name, and what stands in none is named as the root is.
use Rattle.std.proofs.Common.{◌≡◌, List, [], ◌∷◌, true, Some, None, inl, inr, codes}
use Rattle.std.proofs.lemmas.Bool.{cases_Bool, or_left, or_right}
use Rattle.std.specs.List.{list_any}
use Rattle.reg_terms.specs.declared.kinds.Object.{Object}
use Rattle.reg_terms.specs.declared.kinds.Object.TheVariants.{Folder}
use Rattle.reg_terms.specs.Kinds.{same_object}
use Rattle.reg_facts.specs.Lists.{Lists, root}
use Rattle.reg_facts.specs.Naming.{Placed, extensions, name_of, place_of, placed}
use Rattle.reg_facts.specs.Sound.{is_named}

any_placed : (o : Object) (ps : List Placed) (p : Placed) → place_of o ps ≡ Some p → list_any (λ (x : Placed). same_object x.object o) ps ≡ true
any_placed o [] p found = absurd (let clash : ⊥ = cc in clash)
any_placed o (x ∷ ps) p found = elim (cases_Bool (same_object x.object o)) [
  | inl t ↦ or_left (same_object x.object o) (list_any (λ (x : Placed). same_object x.object o) ps) t
  | inr t ↦ or_right (same_object x.object o) (list_any (λ (x : Placed). same_object x.object o) ps) (any_placed o ps p (rw t at found))
]

pub placed_named : (o : Object) (p : Placed) (f : Lists) → place_of o (placed f) ≡ Some p → is_named o f ≡ true
placed_named o p f found = or_right (same_object o (Folder root)) (list_any (λ (x : Placed). same_object x.object o) (placed f)) (any_placed o (placed f) p found)

pub unplaced_name : (o : Object) (f : Lists) → place_of o (placed f) ≡ None → name_of o f ≡ codes ":"
unfolding name_of extensions
unplaced_name o f none = rw (none, extensions, name_of)
