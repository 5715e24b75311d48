-- A name in a folder that stands is that of a child of the folder.
use Rattle.std.proofs.Common.{◌≡◌, ◌<◌, ℕ, List, [], ◌∷◌, ◌++◌, true, false, Option, Some, None, length, refl, sym, ap, ◌∙◌, arith, codes, inl, inr}
use Rattle.std.specs.Str.{bytes_eq}
use Rattle.std.proofs.lemmas.Bool.{cases_Bool}
use Rattle.std.proofs.lemmas.List.Splits.{length-slice_split}
use Rattle.reg_base.specs.Names.{extensions_of, is_colon, is_name}
use Rattle.reg_base.specs.NameParts.{extension_of, front_of, last_of}
use Rattle.reg_terms.specs.declared.kinds.Object.{Object}
use Rattle.reg_terms.specs.declared.kinds.Object.TheVariants.{Folder, Group, Def, Attr, Subject}
use Rattle.reg_terms.specs.Kinds.{as_folder}
use Rattle.reg_facts.specs.Lists.{Lists, root}
use Rattle.reg_facts.specs.Naming.{child, home_id, resolve, step, walk}
use Rattle.reg_facts.proofs.Places.{bytes_same}
use Rattle.reg_facts.proofs.Walking.{home_walk, walk_push}

front_last : (es : List (List ℕ)) → 0 < length es → es ≡ front_of es ++ last_of es ∷ []
front_last [] h = absurd (omega arith)
front_last (e ∷ []) h = refl
front_last (e ∷ x ∷ es) h = ap (λ rest. e ∷ rest) (front_last (x ∷ es) (omega arith))

as_folder_is : (found : Option Object) (d : ℕ) → as_folder found ≡ Some d → found ≡ Some (Folder d)
as_folder_is None d h = cc h
as_folder_is (Some (Folder x)) d h = let same : x ≡ d = cc h in rw same refl
as_folder_is (Some (Group g)) d h = cc h
as_folder_is (Some (Def a)) d h = cc h
as_folder_is (Some (Attr a)) d h = cc h
as_folder_is (Some (Subject s)) d h = cc h

not_root : (text : List ℕ) → is_name text ≡ true → bytes_eq text (codes ":") ≡ false
not_root text h = elim (cases_Bool (bytes_eq text (codes ":"))) [
  | inl t ↦ let clash : false ≡ true = rw (bytes_same text (codes ":") t) at h in cc clash
  | inr t ↦ t
]

resolve_walk : (text : List ℕ) (f : Lists) → is_name text ≡ true → resolve text f ≡ walk (Some (Folder root)) (extensions_of text) f
unfolding resolve
resolve_walk text f h = rw (not_root text h) refl

pub resolve_child : (text : List ℕ) (d : ℕ) (f : Lists) → is_name text ≡ true → home_id text f ≡ Some d → resolve text f ≡ child d (extension_of text) f
unfolding extension_of
resolve_child text d f h home =
    let es = extensions_of text in
    let some : 0 < length es = omega (arith, length-slice_split is_colon text) in
    let up : walk (Some (Folder root)) (front_of es) f ≡ Some (Folder d) = as_folder_is _ d (ap as_folder (sym (home_walk text f h)) ∙ home) in
    resolve_walk text f h
    ∙ ap (λ (pieces : List (List ℕ)). walk (Some (Folder root)) pieces f) (front_last es some)
    ∙ walk_push (Some (Folder root)) (front_of es) (last_of es) f
    ∙ ap (λ (found : Option Object). step found (last_of es) f) up
