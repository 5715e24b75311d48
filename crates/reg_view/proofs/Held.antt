-- What someone has by grants in order is what it has by the grants.
use Rattle.std.proofs.Common.{◌≡◌, ◌&&◌, ◌||◌, ◌∷◌, List, [], Bool, true, false, inl, inr, refl, sym, ap, ◌∙◌, filter}
use Rattle.std.specs.BTreeSet.{insert_key}
use Rattle.std.specs.List.{list_any}
use Rattle.std.specs.Ordering.{match_ordering}
use Rattle.std.specs.declared.cmp.Ordering.{Ordering}
use Rattle.std.specs.declared.cmp.Ordering.TheVariants.{Less, Equal, Greater}
use Rattle.std.proofs.lemmas.Bool.{cases_Bool}
use Rattle.reg_base.specs.declared.privilege.Privilege.{Privilege}
use Rattle.reg_terms.specs.Kinds.{is_of_kind}
use Rattle.reg_terms.specs.Privileges.{all_privileges, gives, line_of}
use Rattle.reg_terms.specs.declared.kinds.Object.{Object}
use Rattle.reg_facts.specs.Lists.{Lists}
use Rattle.reg_effect.specs.declared.live.Live.{Live}
use Rattle.reg_priv.specs.declared.who.Who.{Who}
use Rattle.reg_priv.specs.Grants.{Grant, grants}
use Rattle.reg_priv.specs.Holders.{grant_cmp, holders, ordered_into}
use Rattle.reg_priv.specs.May.{allows, granted, holds, is_root}
use Rattle.reg_priv.proofs.Anys.{any_filter, any_map, any_same}
use Rattle.reg_priv.proofs.Placed.{one_place}
use Rattle.reg_view.specs.Held.{fits, held_of}
use Rattle.reg_view.specs.Powers.{may_on}

twice : (a b : Bool) → (a || b) ≡ (a || (a || b))
twice true b = refl
twice false b = refl

swapped : (a b c : Bool) → (a || (b || c)) ≡ (b || (a || c))
swapped true true c = refl
swapped true false c = refl
swapped false b c = refl

shifted : (a b c : Bool) → ((a || b) || c) ≡ (b || (a || c))
shifted true true c = refl
shifted true false c = refl
shifted false b c = refl

or_false : (a : Bool) → a ≡ (a || false)
or_false true = refl
or_false false = refl

turned : (a b : Bool) → (a && b) ≡ (b && a)
turned true true = refl
turned true false = refl
turned false true = refl
turned false false = refl

-- some pass a test whether they are put in order or not
any_put : (test : Grant → Bool) (g : Grant) (gs : List Grant) → list_any test (insert_key grant_cmp gs g) ≡ (test g || list_any test gs)
any_put test g [] = refl
any_put test g (x ∷ xs) = go (grant_cmp g x) refl (any_put test g xs)
  where
    go : (w : Ordering) → grant_cmp g x ≡ w → list_any test (insert_key grant_cmp xs g) ≡ (test g || list_any test xs) → list_any test (match_ordering w (g ∷ x ∷ xs) (x ∷ xs) (x ∷ insert_key grant_cmp xs g)) ≡ (test g || (test x || list_any test xs))
    go Less e rest = refl
    go Equal e rest = twice (test x) (list_any test xs) ∙ ap (λ b. b || (test x || list_any test xs)) (ap test (sym (one_place g x e)))
    go Greater e rest = ap (λ b. test x || b) rest ∙ swapped (test x) (test g) (list_any test xs)

any_ordered : (test : Grant → Bool) (found gs : List Grant) → list_any test (ordered_into found gs) ≡ (list_any test found || list_any test gs)
any_ordered test found [] = or_false (list_any test found)
any_ordered test found (g ∷ gs) = any_ordered test (insert_key grant_cmp found g) gs ∙ (ap (λ b. b || list_any test gs) (any_put test g found) ∙ shifted (test g) (list_any test found) (list_any test gs))

any_holders : (test : Grant → Bool) (o : Object) (f : Lists) → list_any test (holders o f) ≡ list_any test (grants o f)
any_holders test o f = any_ordered test [] (grants o f)

-- two tests that agree pass the same
pub filter_same : {X : Type 0} (p q : X → Bool) (xs : List X) → ((x : X) → p x ≡ q x) → filter p xs ≡ filter q xs
filter_same p q [] same = refl
filter_same p q (x ∷ xs) same = elim (cases_Bool (q x)) [
  | inl t ↦ rw (same x, t) (ap (λ more. x ∷ more) (filter_same p q xs same))
  | inr t ↦ rw (same x, t) (filter_same p q xs same)
]

module _ (L : Live) (f : Lists) (c : Who) (o : Object) where
  -- some grant allows it where some privilege that is someone's gives it
  granted_by : (p : Privilege) → list_any (λ (q : Privilege). gives q p) (held_of L c (holders o f)) ≡ granted L f c o p
  granted_by p =
      any_map (λ (q : Privilege). gives q p) (λ (g : Grant). g.0) (filter (λ (g : Grant). holds L c g.1) (holders o f))
      ∙ any_filter (λ (g : Grant). gives g.0 p) (λ (g : Grant). holds L c g.1) (holders o f)
      ∙ any_same (λ (g : Grant). holds L c g.1 && gives g.0 p) (allows L c p) (holders o f) (λ g. turned (holds L c g.1) (gives g.0 p))
      ∙ any_holders (allows L c p) o f

  all_fit : filter (fits o (is_root L f c) (held_of L c (holders o f))) all_privileges ≡ filter (may_on L f c o) all_privileges
  all_fit = filter_same (fits o (is_root L f c) (held_of L c (holders o f))) (may_on L f c o) all_privileges (λ p. ap (λ b. is_of_kind (line_of p).on o && (is_root L f c || b)) (granted_by p))

  -- the privileges that fit are those that someone has
  pub powers_fit : (list held : List Privilege) (root : Bool) (gs : List Grant) → list ≡ filter (fits o root held) all_privileges → root ≡ is_root L f c → held ≡ held_of L c gs → gs ≡ holders o f → list ≡ filter (may_on L f c o) all_privileges
  powers_fit list held root gs is root_is held_is gs_is =
      is
      ∙ ap (λ r. filter (fits o r held) all_privileges) root_is
      ∙ ap (λ hs. filter (fits o (is_root L f c) hs) all_privileges) held_is
      ∙ ap (λ (all : List Grant). filter (fits o (is_root L f c) (held_of L c all)) all_privileges) gs_is
      ∙ all_fit
