-- What stands somewhere has a name, and the name of what stands nowhere is the colon.
use Rattle.std.proofs.Common.{◌≡◌, ◌∷◌, List, [], true, Option, Some, None, inl, inr, sym, ap, ◌∙◌, codes}
use Rattle.std.specs.Prelude.{option_map}
use Rattle.std.specs.List.{list_any}
use Rattle.std.proofs.lemmas.Bool.{cases_Bool, or_left, or_right}
use Rattle.reg_terms.specs.Kinds.{same_object}
use Rattle.reg_terms.specs.declared.kinds.Object.{Object}
use Rattle.reg_terms.specs.declared.kinds.Object.TheVariants.{Folder}
use Rattle.reg_facts.specs.Lists.{Lists, root}
use Rattle.reg_facts.specs.Naming.{Placed, extensions, name_of, placed, place_of}
use Rattle.reg_facts.specs.Sound.{is_named}

placed_any : (o : Object) (ps : List Placed) (p : Placed) → place_of o ps ≡ Some p → list_any (λ (q : Placed). same_object q.object o) ps ≡ true
placed_any o [] p h = cc
placed_any o (q ∷ ps) p h = elim (cases_Bool (same_object q.object o)) [
  | inl t ↦ or_left (same_object q.object o) _ t
  | inr t ↦ or_right (same_object q.object o) _ (placed_any o ps p (rw t at h))
]

pub named_where : {P : Type 0} (place : P → Placed) (found : Option P) (p : P) (o : Object) (f : Lists) → option_map place found ≡ place_of o (placed f) → found ≡ Some p → is_named o f ≡ true
named_where place found p o f at is =
    let stands : place_of o (placed f) ≡ Some (place p) = sym at ∙ ap (option_map place) is in
    or_right (same_object o (Folder root)) (list_any (λ (q : Placed). same_object q.object o) (placed f)) (placed_any o (placed f) (place p) stands)

-- what stands nowhere has no extension, and so the colon for a name
no_extensions : (o : Object) (f : Lists) → place_of o (placed f) ≡ None → extensions o f ≡ []
unfolding extensions
no_extensions o f h = rw (h, extensions)

no_name : (o : Object) (f : Lists) → extensions o f ≡ [] → name_of o f ≡ codes ":"
unfolding name_of
no_name o f h = rw (h, name_of)

pub colon_else : {P : Type 0} (place : P → Placed) (found : Option P) (o : Object) (f : Lists) → option_map place found ≡ place_of o (placed f) → found ≡ None → name_of o f ≡ codes ":"
colon_else place found o f at is = no_name o f (no_extensions o f (sym at ∙ ap (option_map place) is))
