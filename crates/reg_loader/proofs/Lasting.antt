-- Who is in a job's groups after a load.
use Rattle.std.proofs.Common.{◌≡◌, Bool, true, false, not, ◌&&◌, ◌||◌, List, [], ◌∷◌, filter, refl, sym, ap, ◌∙◌, inl, inr}
use Rattle.std.specs.List.{AllByRecursion}
use Rattle.std.proofs.lemmas.Bool.{cases_Bool, or_left, or_right, and_left}
use Rattle.std.proofs.lemmas.List.Folds.{list_any-append}
use Rattle.reg_facts.specs.Lists.{Lists}
use Rattle.reg_effect.specs.declared.live.Live.{Live}
use Rattle.reg_loader.specs.Laws.{after, allowed, AreSame}
use Rattle.reg_loader.specs.Plan.{Key, added, each_once, is_added, is_among, is_forbidden, is_vetoed, removed, same_key, unchanged, vetoed}
use Rattle.reg_loader.proofs.Lists.{all_each, among_once, filters_same, same_key_is, same_key_self}

among_filter : (key : Key) (test : Key → Bool) (keys : List Key) → is_among key (filter test keys) ≡ (is_among key keys && test key)
among_filter key test [] = refl
among_filter key test (x ∷ keys) = elim (cases_Bool (same_key key x)) [
  | inl same ↦
      let e = same_key_is key x same in
      elim (cases_Bool (test x)) [
        | inl here ↦ rw (here, same, e, here) refl
        | inr other ↦ rw (other, same, e, other) (among_filter x test keys ∙ rw other (and_none (is_among x keys)))
      ]
  | inr differs ↦ elim (cases_Bool (test x)) [
    | inl here ↦ rw (here, differs) (among_filter key test keys)
    | inr other ↦ rw (other, differs) (among_filter key test keys)
  ]
]
  where
    and_none : (b : Bool) → (b && false) ≡ false
    and_none true = refl
    and_none false = refl

settled : (stood wanted forbidden : Bool) → ((stood && not (stood && not wanted)) || (wanted && (not stood && not forbidden))) ≡ (wanted && not (not stood && forbidden))
settled true true forbidden = refl
settled true false forbidden = refl
settled false true true = refl
settled false true false = refl
settled false false forbidden = refl

pub after_same : (L : Live) (there keys : List Key) (f : Lists) → AreSame (after L there f keys) (allowed L there f keys)
after_same L there keys f key =
    list_any-append (same_key key) (filter (λ (k : Key). not (is_among k (removed there keys))) there) (added L there f keys)
    ∙ ap (λ b. b || is_among key (added L there f keys)) (among_filter key (λ (k : Key). not (is_among k (removed there keys))) there ∙ ap (λ b. is_among key there && not b) (among_filter key (λ (k : Key). not (is_among k keys)) there))
    ∙ ap (λ b. (is_among key there && not (is_among key there && not (is_among key keys))) || b) (among_filter key (is_added L there f) keys)
    ∙ settled (is_among key there) (is_among key keys) (is_forbidden L f key)
    ∙ sym (among_filter key (λ (k : Key). not (is_vetoed L there f k)) keys)

-- each of some is among them
each_among : (keys : List Key) → AllByRecursion (λ (k : Key). is_among k keys ≡ true) keys
each_among [] = tt
each_among (key ∷ keys) = (
  or_left (same_key key key) (is_among key keys) (same_key_self key),
  all_each (λ (k : Key). is_among k keys ≡ true) (λ (k : Key). is_among k (key ∷ keys) ≡ true) keys (λ k h. or_right (same_key k key) (is_among k keys) h) (each_among keys),
)

filter_none : (test : Key → Bool) (keys : List Key) → AllByRecursion (λ (k : Key). test k ≡ false) keys → filter test keys ≡ []
filter_none test [] all = refl
filter_none test (key ∷ keys) all = rw all.0 (filter_none test keys all.1)

-- where all that stand are wanted, and only those
module _ (there keys : List Key) (same : AreSame there keys) where
  pub none_removed : removed there keys ≡ []
  none_removed = filter_none (λ (k : Key). not (is_among k keys)) there (all_each (λ (k : Key). is_among k there ≡ true) (λ (k : Key). not (is_among k keys) ≡ false) there (λ k h. ap not (sym (same k) ∙ h)) (each_among there))

  stands : (key : Key) → is_among key keys ≡ true → not (is_among key there) ≡ false
  stands key h = ap not (same key ∙ h)

  pub none_added : (L : Live) (f : Lists) → added L there f keys ≡ []
  none_added L f = filter_none (is_added L there f) keys (all_each (λ (k : Key). is_among k keys ≡ true) (λ (k : Key). is_added L there f k ≡ false) keys (λ k h. and_left (not (is_among k there)) (not (is_forbidden L f k)) (stands k h)) (each_among keys))

  pub none_vetoed : (L : Live) (f : Lists) → vetoed L there f keys ≡ []
  none_vetoed L f = filter_none (is_vetoed L there f) keys (all_each (λ (k : Key). is_among k keys ≡ true) (λ (k : Key). is_vetoed L there f k ≡ false) keys (λ k h. and_left (not (is_among k there)) (is_forbidden L f k) (stands k h)) (each_among keys))

-- what comes of keys, by a set of those that stand
module _ (there set : List Key) (is : set ≡ each_once same_key there) where
  set_has : (key : Key) → is_among key set ≡ is_among key there
  set_has key = ap (is_among key) is ∙ among_once key there

  pub set_added : (L : Live) (f : Lists) (keys : List Key) → added L set f keys ≡ added L there f keys
  set_added L f keys = filters_same (is_added L set f) (is_added L there f) keys (λ key. ap (λ b. not b && not (is_forbidden L f key)) (set_has key))

  pub set_vetoed : (L : Live) (f : Lists) (keys : List Key) → vetoed L set f keys ≡ vetoed L there f keys
  set_vetoed L f keys = filters_same (is_vetoed L set f) (is_vetoed L there f) keys (λ key. ap (λ b. not b && is_forbidden L f key) (set_has key))

  pub set_unchanged : (keys : List Key) → unchanged set keys ≡ unchanged there keys
  set_unchanged keys = filters_same (λ (key : Key). is_among key set) (λ (key : Key). is_among key there) keys set_has
