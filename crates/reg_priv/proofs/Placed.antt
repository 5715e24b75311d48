-- Grants at their places: each place has one grant, and so grants in a map by their places are the grants in order.
use Rattle.std.proofs.Common.{◌≡◌, ◌==◌, ◌∷◌, ℕ, List, [], refl, sym, ap, ◌∙◌, map, arith}
use Rattle.std.specs.Prelude.{if◌then◌else◌}
use Rattle.std.specs.BTreeMap.{insert_entry}
use Rattle.std.specs.BTreeSet.{insert_key}
use Rattle.std.specs.Cmp.{IsTotalOrder, nat_cmp_total, on_total, then_total}
use Rattle.std.specs.List.Sorted.{IsStrictlySortedBy}
use Rattle.std.specs.Map.{values_of}
use Rattle.std.specs.Ordering.{match_ordering}
use Rattle.std.specs.declared.cmp.Ordering.{Ordering}
use Rattle.std.specs.declared.cmp.Ordering.TheVariants.{Less, Equal, Greater}
use Rattle.std.proofs.lemmas.Bool.Decides.{nat_tests}
use Rattle.std.proofs.lemmas.Grind.{common_steps}
use Rattle.reg_base.specs.declared.privilege.Privilege.{Privilege}
use Rattle.reg_base.specs.declared.privilege.Privilege.TheVariants.{Admin, Update, Read, View, Optin, Optout, GroupAttrRead, GroupAttrUpdate, StemAdmin, Create, StemAttrRead, StemAttrUpdate, AttrAdmin, AttrUpdate, AttrRead, AttrView}
use Rattle.reg_terms.specs.declared.kinds.Holder.{Holder}
use Rattle.reg_terms.specs.declared.kinds.Holder.TheVariants.{Everyone, Person, Group}
use Rattle.reg_terms.specs.Privileges.{code}
use Rattle.reg_priv.specs.Filling.{AreInPlace, entry}
use Rattle.reg_priv.specs.Grants.{Grant}
use Rattle.reg_priv.specs.Holders.{kind_of, id_of, place_of, place_cmp, grant_cmp}
use Rattle.reg_priv.proofs.Ordering.{put_sorted}

-- the privilege of a code
at_code : ℕ → Privilege
at_code n =
    if n == 1 then Admin else (if n == 2 then Update else (if n == 3 then Read else (if n == 4 then View else (if n == 5 then Optin else (if n == 6 then Optout else (if n == 7 then GroupAttrRead else (if n == 8 then GroupAttrUpdate
    else (if n == 9 then StemAdmin else (if n == 10 then Create else (if n == 11 then StemAttrRead else (if n == 12 then StemAttrUpdate else (if n == 13 then AttrAdmin else (if n == 14 then AttrUpdate else (if n == 15 then AttrRead else AttrView))))))))))))))

code_back : (p : Privilege) → at_code (code p) ≡ p
unfolding at_code
code_back Admin = refl
code_back Update = refl
code_back Read = refl
code_back View = refl
code_back Optin = refl
code_back Optout = refl
code_back GroupAttrRead = refl
code_back GroupAttrUpdate = refl
code_back StemAdmin = refl
code_back Create = refl
code_back StemAttrRead = refl
code_back StemAttrUpdate = refl
code_back AttrAdmin = refl
code_back AttrUpdate = refl
code_back AttrRead = refl
code_back AttrView = refl

-- the holder of a kind and an id
at_kind : ℕ → ℕ → Holder
at_kind k n = if k == 0 then Everyone else (if k == 1 then Person n else Group n)

holder_back : (h : Holder) → at_kind (kind_of h) (id_of h) ≡ h
unfolding at_kind
holder_back Everyone = refl
holder_back (Person s) = refl
holder_back (Group g) = refl

at_place : ℕ × ℕ × ℕ → Grant
at_place p = (at_code p.0, at_kind p.1 p.2)

place_back : (g : Grant) → at_place (place_of g) ≡ g
unfolding at_place
place_back (p, h) = rw (code_back p, holder_back h) refl

place_exact : (p q : ℕ × ℕ × ℕ) → place_cmp p q ≡ Equal → p ≡ q
place_exact (a, b, c) (x, y, z) h = rw (first a x b y c z h, second a x b y c z h, third a x b y c z h) refl
  where
    first : (a x b y c z : ℕ) → place_cmp (a, b, c) (x, y, z) ≡ Equal → a ≡ x
    first a x b y c z h = grind (arith, nat_tests, common_steps)

    second : (a x b y c z : ℕ) → place_cmp (a, b, c) (x, y, z) ≡ Equal → b ≡ y
    second a x b y c z h = grind (arith, nat_tests, common_steps)

    third : (a x b y c z : ℕ) → place_cmp (a, b, c) (x, y, z) ≡ Equal → c ≡ z
    third a x b y c z h = grind (arith, nat_tests, common_steps)

-- grants at one place are one
pub one_place : (g x : Grant) → grant_cmp g x ≡ Equal → g ≡ x
one_place g x h = sym (place_back g) ∙ ap at_place (place_exact (place_of g) (place_of x) h) ∙ place_back x

put_one : (g : Grant) (gs : List Grant) → insert_entry place_cmp (map entry gs) (place_of g) g ≡ map entry (insert_key grant_cmp gs g)
put_one g [] = refl
put_one g (x ∷ gs) = go (grant_cmp g x) refl (put_one g gs)
  where
    go : (o : Ordering) → grant_cmp g x ≡ o → insert_entry place_cmp (map entry gs) (place_of g) g ≡ map entry (insert_key grant_cmp gs g)
        → match_ordering o ((place_of g, g) ∷ entry x ∷ map entry gs) ((place_of x, g) ∷ map entry gs) (entry x ∷ insert_entry place_cmp (map entry gs) (place_of g) g) ≡ map entry (match_ordering o (g ∷ x ∷ gs) (x ∷ gs) (x ∷ insert_key grant_cmp gs g))
    go Less e rest = refl
    go Equal e rest = ap (λ z. (place_of x, z) ∷ map entry gs) (one_place g x e)
    go Greater e rest = ap (λ z. entry x ∷ z) rest

entries_back : (gs : List Grant) → values_of (map entry gs) ≡ gs
entries_back [] = refl
entries_back (g ∷ gs) = ap (λ z. g ∷ z) (entries_back gs)

place_total : IsTotalOrder place_cmp
place_total =
    let first : ℕ × ℕ × ℕ → ℕ = λ p. p.0 in
    let second : ℕ × ℕ × ℕ → ℕ = λ p. p.1 in
    let third : ℕ × ℕ × ℕ → ℕ = λ p. p.2 in
    then_total (then_total (on_total first nat_cmp_total) (on_total second nat_cmp_total)) (on_total third nat_cmp_total)

-- the order of grants is one
pub grant_total : IsTotalOrder grant_cmp
grant_total = on_total place_of place_total

-- a grant put at its place is one put in order
put_placed : (es : List ((ℕ × ℕ × ℕ) × Grant)) (g : Grant) → AreInPlace es → insert_entry place_cmp es (place_of g) g ≡ map entry (insert_key grant_cmp (values_of es) g)
put_placed es g h = ap (λ z. insert_entry place_cmp z (place_of g) g) h.placed ∙ put_one g (values_of es)

pub put_values : (es : List ((ℕ × ℕ × ℕ) × Grant)) (g : Grant) → AreInPlace es → values_of (insert_entry place_cmp es (place_of g) g) ≡ insert_key grant_cmp (values_of es) g
put_values es g h = ap values_of (put_placed es g h) ∙ entries_back (insert_key grant_cmp (values_of es) g)

pub put_in_place : (es : List ((ℕ × ℕ × ℕ) × Grant)) (g : Grant) → AreInPlace es → AreInPlace (insert_entry place_cmp es (place_of g) g)
put_in_place es g h = record {
  placed = put_placed es g h ∙ ap (map entry) (sym (put_values es g h));
  sorted = rw (put_values es g h) (put_sorted grant_total g (values_of es) h.sorted);
}

pub none_in_place : (es : List ((ℕ × ℕ × ℕ) × Grant)) → es ≡ [] → AreInPlace es
unfolding IsStrictlySortedBy
none_in_place es h = rw h (record { placed = refl; sorted = tt })
