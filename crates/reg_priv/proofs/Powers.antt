-- What a caller has of the privileges on an object, by the grants that are the caller's.
use Rattle.std.proofs.Common.{◌≡◌, ◌&&◌, ◌||◌, List, [], Bool, true, false, refl, ap, ◌∙◌, map, filter}
use Rattle.std.specs.List.{list_any}
use Rattle.reg_base.specs.declared.privilege.Privilege.{Privilege}
use Rattle.reg_terms.specs.declared.kinds.Object.{Object}
use Rattle.reg_terms.specs.Kinds.{is_of_kind}
use Rattle.reg_terms.specs.Privileges.{all_privileges, gives, line_of}
use Rattle.reg_facts.specs.Lists.{Lists}
use Rattle.reg_effect.specs.declared.live.Live.{Live}
use Rattle.reg_priv.specs.declared.who.Who.{Who}
use Rattle.reg_priv.specs.Grants.{Grant, grants}
use Rattle.reg_priv.specs.Holders.{holders}
use Rattle.reg_priv.specs.May.{allows, granted, holds, is_root, judged, may, privileges_of}
use Rattle.reg_priv.proofs.Anys.{any_filter, any_map, any_same, filter_same}
use Rattle.reg_priv.proofs.Gathering.{any_holder}

turned : (a b : Bool) → (a && b) ≡ (b && a)
turned true true = refl
turned true false = refl
turned false true = refl
turned false false = refl

-- what the caller's grants give is what some grant allows
held_gives : (L : Live) (who : Who) (p : Privilege) (gs : List Grant) → list_any (λ q. gives q p) (map (λ (g : Grant). g.0) (filter (λ (g : Grant). holds L who g.1) gs)) ≡ list_any (allows L who p) gs
held_gives L who p gs =
    any_map (λ q. gives q p) (λ (g : Grant). g.0) (filter (λ (g : Grant). holds L who g.1) gs)
    ∙ (any_filter (λ (g : Grant). gives g.0 p) (λ (g : Grant). holds L who g.1) gs
    ∙ any_same (λ (g : Grant). holds L who g.1 && gives g.0 p) (allows L who p) gs (λ (g : Grant). turned (holds L who g.1) (gives g.0 p)))

-- root has all privileges of the object's kind
pub root_has : (L : Live) (f : Lists) (who : Who) (o j : Object) → j ≡ judged o f → is_root L f who ≡ true → filter (λ p. is_of_kind (line_of p).on j && (true || list_any (λ q. gives q p) [])) all_privileges ≡ privileges_of L f who o
root_has L f who o j at root =
    filter_same (λ p. is_of_kind (line_of p).on j && (true || list_any (λ q. gives q p) [])) (may L f who o) all_privileges (λ p. rw (at, root) refl)

-- another has what the caller's grants give
pub another_has : (L : Live) (f : Lists) (who : Who) (o j : Object) (held : List Privilege) → j ≡ judged o f → is_root L f who ≡ false
    → held ≡ map (λ (g : Grant). g.0) (filter (λ (g : Grant). holds L who g.1) (holders j f))
    → filter (λ p. is_of_kind (line_of p).on j && (false || list_any (λ q. gives q p) held)) all_privileges ≡ privileges_of L f who o
another_has L f who o j held at root is =
    filter_same (λ p. is_of_kind (line_of p).on j && (false || list_any (λ q. gives q p) held)) (may L f who o) all_privileges (λ p.
    let given : list_any (λ q. gives q p) held ≡ granted L f who j p = ap (list_any (λ q. gives q p)) is ∙ (held_gives L who p (holders j f) ∙ any_holder (allows L who p) j f) in
    rw (given, at, root) refl)
