-- The name of what stands in a folder is the folder's name and an extension: so the folder is told by the name.
use Rattle.std.proofs.Common.{◌≡◌, ◌==◌, ◌<◌, ◌∷◌, ◌++◌, ℕ, List, [], Bool, true, false, cond, Option, Some, None, inl, inr, refl, sym, ap, ◌∙◌, length, bytes_eq, arith}
use Rattle.std.specs.Prelude.{codes, is_some}
use Rattle.std.specs.List.{All, AllByRecursion, join_with_byte, list_all, onto_first}
use Rattle.std.proofs.lemmas.Bool.{cases_Bool, and_parts, and_from, both_ways, eqb-true, eq-eqb, false_from_ne_true}
use Rattle.std.proofs.lemmas.List.Elements.{All-from_recursion}
use Rattle.std.proofs.lemmas.List.Splits.{slice_split_none, length-slice_split, join_with_byte-slice_split}
use Rattle.reg_base.specs.NameParts.{front_of, joined, folder_of}
use Rattle.reg_base.specs.Names.{is_colon, is_extension, is_extension_byte, extensions_of}
use Rattle.reg_terms.specs.declared.kinds.Object.{Object}
use Rattle.reg_terms.specs.declared.kinds.Object.TheVariants.{Folder}
use Rattle.reg_terms.specs.declared.rows.FolderRow.{FolderRow}
use Rattle.reg_facts.specs.Lists.{Lists, root}
use Rattle.reg_facts.specs.Named.{AreNamed}
use Rattle.reg_facts.specs.Naming.{Placed, placed, is_there, found_in, folder_row, home_of, home_text, name_in, name_of, resolve, step, walk}
use Rattle.reg_facts.specs.Sound.{AreApart, IsRooted, IsSound, is_named}
use Rattle.reg_view.proofs.Same.{bytes_same, bytes_self}
use Rattle.reg_view.proofs.Standing.{all_go, folders_named}

-- ---- pieces between colons

onto_first_append : (x : ℕ) (a b : List (List ℕ)) → 0 < length a → onto_first x (a ++ b) ≡ onto_first x a ++ b
onto_first_append x [] b h = absurd (omega arith)
onto_first_append x (piece ∷ a) b h = refl

cond_append : (t : Bool) (x : ℕ) (a b : List (List ℕ)) → 0 < length a → cond t ([] ∷ (a ++ b)) (onto_first x (a ++ b)) ≡ cond t ([] ∷ a) (onto_first x a) ++ b
cond_append true x a b h = refl
cond_append false x a b h = onto_first_append x a b h

some_pieces : (text : List ℕ) → 0 < length (extensions_of text)
some_pieces text = omega (arith, length-slice_split is_colon text)

pieces_join : (a b : List ℕ) → extensions_of (a ++ 58 ∷ b) ≡ extensions_of a ++ extensions_of b
pieces_join [] b = refl
pieces_join (x ∷ a) b = ap (λ pieces. cond (is_colon x) ([] ∷ pieces) (onto_first x pieces)) (pieces_join a b) ∙ cond_append (is_colon x) x (extensions_of a) (extensions_of b) (some_pieces a)

front_push : (a : List (List ℕ)) (x : List ℕ) → front_of (a ++ x ∷ []) ≡ a
front_push [] x = refl
front_push (y ∷ []) x = refl
front_push (y ∷ z ∷ a) x = ap (λ more. y ∷ more) (front_push (z ∷ a) x)

joined_some : (pieces : List (List ℕ)) → 0 < length pieces → joined pieces ≡ Some (join_with_byte 58 pieces)
joined_some [] h = absurd (omega arith)
joined_some (piece ∷ more) h = refl

-- ---- an extension has no colon, and isn't empty

not_colon : (b : ℕ) → is_extension_byte b ≡ true → is_colon b ≡ false
not_colon b h = false_from_ne_true (is_colon b) (λ t. both_ways (is_extension_byte 58) refl (rw (eqb-true b 58 t) at h))

plain_bytes : (e : List ℕ) → list_all is_extension_byte e ≡ true → AllByRecursion (λ b. is_colon b ≡ false) e
plain_bytes [] h = tt
plain_bytes (b ∷ e) h = let w = and_parts (is_extension_byte b) (list_all is_extension_byte e) h in (not_colon b w.0, plain_bytes e w.1)

plain : (e : List ℕ) → is_extension e ≡ true → All (λ b. is_colon b ≡ false) e
plain e h = All-from_recursion (λ b. is_colon b ≡ false) e (plain_bytes e (and_parts _ (list_all is_extension_byte e) h).1)

one_piece : (e : List ℕ) → is_extension e ≡ true → extensions_of e ≡ e ∷ []
one_piece e h = slice_split_none is_colon e (plain e h)

not_empty : (e : List ℕ) → is_extension e ≡ true → e ≡ [] → ⊥
not_empty e h is = both_ways (is_extension []) refl (rw is at h)

-- a name in a folder isn't the colon alone
alone_not_root : (e : List ℕ) → is_extension e ≡ true → bytes_eq e (codes ":") ≡ false
alone_not_root e h = false_from_ne_true (bytes_eq e (codes ":")) (λ t. both_ways (is_extension (codes ":")) refl (rw (bytes_same e (codes ":") t) at h))

below_not_root : (home e : List ℕ) → is_extension e ≡ true → bytes_eq (home ++ 58 ∷ e) (codes ":") ≡ false
below_not_root home e h = false_from_ne_true (bytes_eq (home ++ 58 ∷ e) (codes ":")) (λ t. go home (bytes_same (home ++ 58 ∷ e) (codes ":") t))
  where
    go : (home : List ℕ) → home ++ 58 ∷ e ≡ codes ":" → ⊥
    go [] is = not_empty e h (let none : e ≡ [] = cc in none)
    go (b ∷ []) is = cc
    go (b ∷ d ∷ home) is = cc

-- ---- the parts of a name in a folder

abbrev IsRootText : List ℕ → Type 0
IsRootText home = bytes_eq home (codes ":") ≡ true

home_alone : (e : List ℕ) → is_extension e ≡ true → home_of e ≡ codes ":"
unfolding folder_of
home_alone e h = ap (λ pieces. home_text (joined (front_of pieces))) (one_piece e h)

home_below : (home e : List ℕ) → is_extension e ≡ true → home_of (home ++ 58 ∷ e) ≡ home
unfolding folder_of
home_below home e h =
    ap (λ pieces. home_text (joined (front_of pieces))) (pieces_join home e ∙ ap (λ more. extensions_of home ++ more) (one_piece e h))
    ∙ ap (λ pieces. home_text (joined pieces)) (front_push (extensions_of home) e)
    ∙ ap home_text (joined_some (extensions_of home) (some_pieces home))
    ∙ join_with_byte-slice_split 58 home

home_is : (home e : List ℕ) → is_extension e ≡ true → home_of (name_in home e) ≡ home
home_is home e h = elim (cases_Bool (bytes_eq home (codes ":"))) [
  | inl t ↦ rw t (home_alone e h ∙ sym (bytes_same home (codes ":") t))
  | inr t ↦ rw t (home_below home e h)
]

not_root : (home e : List ℕ) → is_extension e ≡ true → bytes_eq (name_in home e) (codes ":") ≡ false
not_root home e h = elim (cases_Bool (bytes_eq home (codes ":"))) [
  | inl t ↦ rw t (alone_not_root e h)
  | inr t ↦ rw t (below_not_root home e h)
]

-- ---- what stands in a folder is found by the folder's name and its extension

resolve_root : (text : List ℕ) (f : Lists) → bytes_eq text (codes ":") ≡ true → resolve text f ≡ Some (Folder root)
unfolding resolve
resolve_root text f h = rw h refl

resolve_walk : (text : List ℕ) (f : Lists) → bytes_eq text (codes ":") ≡ false → resolve text f ≡ walk (Some (Folder root)) (extensions_of text) f
unfolding resolve
resolve_walk text f h = rw h refl

walk_append : (found : Option Object) (a b : List (List ℕ)) (f : Lists) → walk found (a ++ b) f ≡ walk (walk found a f) b f
walk_append found [] b f = refl
walk_append found (e ∷ a) b f = walk_append (step found e f) a b f

found_below : (home e : List ℕ) (d : ℕ) (f : Lists) → is_extension e ≡ true → resolve home f ≡ Some (Folder d) → resolve (name_in home e) f ≡ found_in d e (placed f)
found_below home e d f h at = elim (cases_Bool (bytes_eq home (codes ":"))) [
  | inl t ↦
      let one : Some (Folder root) ≡ Some (Folder d) = sym (resolve_root home f t) ∙ at in
      let is : root ≡ d = cc in
      rw t (resolve_walk e f (alone_not_root e h) ∙ ap (λ pieces. walk (Some (Folder root)) pieces f) (one_piece e h) ∙ ap (λ x. found_in x e (placed f)) is)
  | inr t ↦ rw t (
      resolve_walk (home ++ 58 ∷ e) f (below_not_root home e h)
      ∙ ap (λ pieces. walk (Some (Folder root)) pieces f) (pieces_join home e ∙ ap (λ more. extensions_of home ++ more) (one_piece e h))
      ∙ walk_append (Some (Folder root)) (extensions_of home) (e ∷ []) f
      ∙ ap (λ found. step found e f) (sym (resolve_walk home f t) ∙ at))
]

-- each of what is placed is what is found at its place
found_first : (p : Placed) (ps : List Placed) → found_in p.folder p.extension (p ∷ ps) ≡ Some p.object
found_first p ps = rw (and_from (p.folder == p.folder) (bytes_eq p.extension p.extension) (eq-eqb p.folder p.folder refl) (bytes_self p.extension)) refl

found_later : (q p : Placed) (ps : List Placed) → found_in q.folder q.extension ps ≡ None → found_in p.folder p.extension ps ≡ Some p.object → found_in p.folder p.extension (q ∷ ps) ≡ Some p.object
found_later q p ps none some = elim (cases_Bool (is_there p.folder p.extension q)) [
  | inl t ↦
      let w = and_parts (q.folder == p.folder) (bytes_eq q.extension p.extension) t in
      let same : found_in q.folder q.extension ps ≡ found_in p.folder p.extension ps = ap (λ d. found_in d q.extension ps) (eqb-true q.folder p.folder w.0) ∙ ap (λ e. found_in p.folder e ps) (bytes_same q.extension p.extension w.1) in
      let clash : None ≡ Some p.object = sym none ∙ same ∙ some in
      absurd (let never : ⊥ = cc in never)
  | inr t ↦ rw t some
]

all_found : (ps : List Placed) → AreApart ps → AllByRecursion (λ (p : Placed). found_in p.folder p.extension ps ≡ Some p.object) ps
all_found [] apart = tt
all_found (q ∷ ps) apart = (
  found_first q ps,
  all_go (λ (p : Placed). found_in p.folder p.extension ps ≡ Some p.object) (λ (p : Placed). found_in p.folder p.extension (q ∷ ps) ≡ Some p.object) (λ p h. found_later q p ps apart.0 h) ps (all_found ps apart.1),
)

-- a folder that stands has a name
row_named : (d : ℕ) (f : Lists) (rows : List FolderRow) → AllByRecursion (λ (r : FolderRow). is_named (Folder r.id) f ≡ true) rows → is_some (folder_row d rows) ≡ true → is_named (Folder d) f ≡ true
row_named d f [] all h = absurd (both_ways false refl h)
row_named d f (r ∷ rows) all h = elim (cases_Bool (r.id == d)) [
  | inl t ↦ ap (λ x. is_named (Folder x) f) (sym (eqb-true r.id d t)) ∙ all.0
  | inr t ↦ row_named d f rows all.1 (rw t at h)
]

-- ---- what is known of each that is placed

pub record Stands (f : Lists) (p : Placed) : Type 0 where
  pub found : resolve (name_of p.object f) f ≡ Some p.object
  pub name : name_of p.object f ≡ name_in (name_of (Folder p.folder) f) p.extension
  pub home : home_of (name_of p.object f) ≡ name_of (Folder p.folder) f
  pub home_found : resolve (name_of (Folder p.folder) f) f ≡ Some (Folder p.folder)
  pub below : bytes_eq (name_of p.object f) (codes ":") ≡ false

stands : (f : Lists) (are : AreNamed f) → AllByRecursion (λ (r : FolderRow). is_named (Folder r.id) f ≡ true) f.folders → (p : Placed) → is_extension p.extension ≡ true → IsRooted f.folders p.folder → found_in p.folder p.extension (placed f) ≡ Some p.object → Stands f p
stands f are named p form rooted at =
    let H = name_of (Folder p.folder) f in
    let home_found : resolve H f ≡ Some (Folder p.folder) = are.finds (Folder p.folder) (row_named p.folder f f.folders named rooted.stands) in
    let this : resolve (name_in H p.extension) f ≡ Some p.object = found_below H p.extension p.folder f form home_found ∙ at in
    let name : name_of p.object f ≡ name_in H p.extension = (are.found (name_in H p.extension) p.object this).0 in
    record {
      found = ap (λ text. resolve text f) name ∙ this;
      name = name;
      home = ap home_of name ∙ home_is H p.extension form;
      home_found = home_found;
      below = ap (λ text. bytes_eq text (codes ":")) name ∙ not_root H p.extension form;
    }

all_three : {R : Type 0} (A B C D : R → Type 0) → ((r : R) → A r → B r → C r → D r) → (rows : List R) → AllByRecursion A rows → AllByRecursion B rows → AllByRecursion C rows → AllByRecursion D rows
all_three A B C D go [] a b c = tt
all_three A B C D go (r ∷ rows) a b c = (go r a.0 b.0 c.0, all_three A B C D go rows a.1 b.1 c.1)

pub all_stand : (f : Lists) → IsSound f → AreNamed f → AllByRecursion (Stands f) (placed f)
all_stand f s are =
    all_three (λ (p : Placed). is_extension p.extension ≡ true) (λ (p : Placed). IsRooted f.folders p.folder) (λ (p : Placed). found_in p.folder p.extension (placed f) ≡ Some p.object) (Stands f)
    (λ p form rooted at. stands f are (folders_named f s) p form rooted at) (placed f) s.forms s.rooted (all_found (placed f) s.apart)
