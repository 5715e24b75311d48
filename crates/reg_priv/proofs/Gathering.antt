-- Grants gathered: which are among them after each step.
use Rattle.std.proofs.Common.{◌≡◌, ◌&&◌, ◌||◌, List, [], ◌∷◌, Bool, true, false, refl, sym, ap, ◌∙◌}
use Rattle.std.specs.BTreeSet.{insert_key}
use Rattle.std.specs.List.{list_any}
use Rattle.std.specs.List.Sorted.{IsStrictlySortedBy}
use Rattle.std.specs.Ordering.{match_ordering}
use Rattle.std.specs.declared.cmp.Ordering.{Ordering}
use Rattle.std.specs.declared.cmp.Ordering.TheVariants.{Less, Equal, Greater}
use Rattle.reg_terms.specs.declared.kinds.Object.{Object}
use Rattle.reg_terms.specs.declared.kinds.Scope.{Scope}
use Rattle.reg_terms.specs.declared.rows.GrantRow.{GrantRow}
use Rattle.reg_terms.specs.declared.rows.InheritRow.{InheritRow}
use Rattle.reg_terms.specs.Kinds.{is_of_kind, same_scope}
use Rattle.reg_facts.specs.Grants.{grants_on, has_begun}
use Rattle.reg_facts.specs.Lists.{Lists}
use Rattle.reg_priv.specs.Filling.{same_grant, is_among, brings}
use Rattle.reg_priv.specs.Grants.{Grant, written, gives_one, given, reaches, grants}
use Rattle.reg_priv.specs.Holders.{grant_cmp, ordered_into, holders}
use Rattle.reg_priv.proofs.Ordering.{in_put, put_sorted, one_list, swapped, twice}
use Rattle.reg_priv.proofs.Placed.{grant_total, one_place}
use Rattle.reg_priv.proofs.Scoped.{any_grant}

pub grouped : (new a b c : Bool) → new ≡ (a || b) → (new || c) ≡ (a || (b || c))
grouped new true b c h = rw h refl
grouped new false b c h = rw h refl

pub or_none : (a b : Bool) → b ≡ false → a ≡ (a || b)
or_none true b h = refl
or_none false b h = sym h

shifted : (s f r : Bool) → ((s || f) || r) ≡ (f || (s || r))
shifted true true r = refl
shifted true false r = refl
shifted false true r = refl
shifted false false r = refl

-- one put, and the rest, are all
pub step_in : (x g : Grant) (found new : List Grant) (rest whole : Bool) → new ≡ insert_key grant_cmp found g → (is_among x found || (same_grant x g || rest)) ≡ whole → (is_among x new || rest) ≡ whole
step_in x g found new rest whole e h = ap (λ (gs : List Grant). is_among x gs || rest) e ∙ (ap (λ b. b || rest) (in_put grant_total x g found) ∙ (shifted (same_grant x g) (is_among x found) rest ∙ h))

and_first : (a b : Bool) → a ≡ true → (a && b) ≡ b
and_first true b h = refl
and_first false b h = cc

-- the same of what a grant gives that is on
pub written_in : (x : Grant) (row : GrantRow) (found new : List Grant) (rest whole : Bool) → new ≡ insert_key grant_cmp found (written row) → has_begun row ≡ true
    → (is_among x found || (gives_one (same_grant x) row || rest)) ≡ whole → (is_among x new || rest) ≡ whole
written_in x row found new rest whole e on h = step_in x (written row) found new rest whole e (sym (ap (λ b. is_among x found || (b || rest)) (and_first (has_begun row) (same_grant x (written row)) on)) ∙ h)

-- the same of what an inherit gives that has the scope and is for the object
pub given_in : (x : Grant) (row : InheritRow) (o : Object) (s : Scope) (found new : List Grant) (rest whole : Bool) → new ≡ insert_key grant_cmp found (given row) → same_scope row.scope s ≡ true → is_of_kind row.kind o ≡ true
    → (is_among x found || (brings o s x row || rest)) ≡ whole → (is_among x new || rest) ≡ whole
given_in x row o s found new rest whole e scope kind h = step_in x (given row) found new rest whole e (sym (ap (λ b. is_among x found || (b || rest)) (rw scope (rw kind refl))) ∙ h)

-- grants put in order are those before and these
ordered_in : (x : Grant) (found gs : List Grant) → is_among x (ordered_into found gs) ≡ (is_among x found || is_among x gs)
ordered_in x found [] = or_none (is_among x found) false refl
ordered_in x found (g ∷ gs) = ordered_in x (insert_key grant_cmp found g) gs ∙ (ap (λ b. b || is_among x gs) (in_put grant_total x g found) ∙ shifted (same_grant x g) (is_among x found) (is_among x gs))

ordered_sorted : (found gs : List Grant) → IsStrictlySortedBy grant_cmp found → IsStrictlySortedBy grant_cmp (ordered_into found gs)
ordered_sorted found [] h = h
ordered_sorted found (g ∷ gs) h = ordered_sorted (insert_key grant_cmp found g) gs (put_sorted grant_total g found h)

none_sorted : IsStrictlySortedBy grant_cmp []
unfolding IsStrictlySortedBy
none_sorted = tt

-- a list in order that has the direct grants and the inherited ones is the holders
pub are_holders : (o : Object) (f : Lists) (list : List Grant) → IsStrictlySortedBy grant_cmp list
    → ((x : Grant) → is_among x list ≡ (list_any (gives_one (same_grant x)) (grants_on o f.grants) || list_any (λ (row : InheritRow). reaches o f row && same_grant x (given row)) f.inherits))
    → list ≡ holders o f
are_holders o f list sorted has = one_list grant_total one_place list (holders o f) sorted (ordered_sorted [] (grants o f) none_sorted) (λ x. has x ∙ sym (ordered_in x [] (grants o f) ∙ any_grant o f (same_grant x)))

-- whether some of them pass a test: one put more, and all in order
any_put : (t : Grant → Bool) (g : Grant) (found : List Grant) → list_any t (insert_key grant_cmp found g) ≡ (t g || list_any t found)
any_put t g [] = refl
any_put t g (x ∷ found) = go (grant_cmp g x) refl (any_put t g found)
  where
    go : (w : Ordering) → grant_cmp g x ≡ w → list_any t (insert_key grant_cmp found g) ≡ (t g || list_any t found) → list_any t (match_ordering w (g ∷ x ∷ found) (x ∷ found) (x ∷ insert_key grant_cmp found g)) ≡ (t g || list_any t (x ∷ found))
    go Less e rest = refl
    go Equal e rest = rw (one_place g x e) (twice (t x) (list_any t found))
    go Greater e rest = ap (λ b. t x || b) rest ∙ sym (swapped (t g) (t x) (list_any t found))

any_ordered : (t : Grant → Bool) (found gs : List Grant) → list_any t (ordered_into found gs) ≡ (list_any t found || list_any t gs)
any_ordered t found [] = or_none (list_any t found) false refl
any_ordered t found (g ∷ gs) = any_ordered t (insert_key grant_cmp found g) gs ∙ (ap (λ b. b || list_any t gs) (any_put t g found) ∙ shifted (t g) (list_any t found) (list_any t gs))

-- whether some holder's grant passes a test is whether some grant does
pub any_holder : (t : Grant → Bool) (o : Object) (f : Lists) → list_any t (holders o f) ≡ list_any t (grants o f)
any_holder t o f = any_ordered t [] (grants o f)
