-- Where the first element that passes a test stands.
use Rattle.std.proofs.Common.{◌≡◌, ◌<◌, ◌≤◌, ◌+◌, ℕ, zero, suc, Bool, true, false, not, cond, List, [], ◌∷◌, ◌++◌, length, get_or, take, drop, Some, None, refl, sym, ap, ◌∙◌, arith, length-append, drop-cons}
use Rattle.std.specs.Prelude.{position, nat_lt}
use Rattle.csv.specs.Records.{field_at}
use Rattle.csv.proofs.RecordFacts.{field-get}
use Rattle.std.specs.List.{prefix_len, position_or_len}
use Rattle.std.proofs.lemmas.Bool.{eq-eqb, lt-ltb, ltb-false, le-ltb}
use Rattle.std.proofs.lemmas.List.{take-append-drop, length-take-le, take_more}
use Rattle.std.proofs.lemmas.List.Folds.{prefix_len-append}

prefix_within : {A : Type 0} (test : A → Bool) (xs : List A) → prefix_len test xs ≤ length xs
prefix_within test [] = omega arith
prefix_within test (x ∷ xs) = by (test x) (prefix_within test xs)
  where
    by : (b : Bool) → prefix_len test xs ≤ length xs → cond b (1 + prefix_len test xs) 0 ≤ length (x ∷ xs)
    by true h = omega arith
    by false h = omega arith

untrue : {A : Type 0} (b : Bool) (x : A) → cond b (Some x) None ≡ None → b ≡ false
untrue true x e = cc e
untrue false x e = refl

all_from_none : {A : Type 0} (test : A → Bool) (xs : List A) → position test xs ≡ None → position_or_len test xs ≡ length xs
all_from_none test xs e =
    let far : length xs ≤ position_or_len test xs = ltb-false _ _ (untrue (nat_lt (position_or_len test xs) (length xs)) _ e) in
    let near = prefix_within (λ x. not (test x)) xs in omega arith

behind : {A : Type 0} (test : A → Bool) (xs ys : List A) → position test xs ≡ None → position_or_len test (xs ++ ys) ≡ length xs + position_or_len test ys
behind test xs ys e = rw (prefix_len-append (λ x. not (test x)) xs ys, eq-eqb _ _ (all_from_none test xs e)) refl

-- none passes, up to one that does
pub first_at : {A : Type 0} (test : A → Bool) (xs : List A) (x : A) (more : List A) → position test xs ≡ None → test x ≡ true → position test (xs ++ x ∷ more) ≡ Some (length xs)
first_at test xs x more e here =
    let start : position_or_len test (x ∷ more) ≡ 0 = rw here refl in
    let at : position_or_len test (xs ++ x ∷ more) ≡ length xs = omega (arith, behind test xs (x ∷ more) e) in
    let inside : nat_lt (length xs) (length (xs ++ x ∷ more)) ≡ true = lt-ltb _ _ (omega (arith, length-append xs (x ∷ more))) in
    rw (at, inside) refl

-- none passes, and one more doesn't
pub none_more : {A : Type 0} (test : A → Bool) (xs : List A) (x : A) → position test xs ≡ None → test x ≡ false → position test (xs ++ x ∷ []) ≡ None
none_more test xs x e here =
    let start : position_or_len test (x ∷ []) ≡ 1 = rw here refl in
    let at : position_or_len test (xs ++ x ∷ []) ≡ length xs + 1 = omega (arith, behind test xs (x ∷ []) e) in
    let long : length (xs ++ x ∷ []) ≡ length xs + 1 = omega (arith, length-append xs (x ∷ [])) in
    let outside : nat_lt (length xs + 1) (length xs + 1) ≡ false = le-ltb _ _ (omega arith) in
    rw (at, long, outside) refl

-- none passes before a place, and the one there does
pub found_at : {A : Type 0} (test : A → Bool) (xs : List A) (i : ℕ) (d : A) → i < length xs → position test (take i xs) ≡ None → test (get_or xs i d) ≡ true → position test xs ≡ Some i
found_at test xs i d inside e here =
    let split : xs ≡ take i xs ++ get_or xs i d ∷ drop (suc i) xs = sym (take-append-drop i xs) ∙ ap (λ t. take i xs ++ t) (drop-cons xs i d inside) in
    let size : length (take i xs) ≡ i = length-take-le i xs (omega arith) in
    ap (position test) split ∙ first_at test (take i xs) (get_or xs i d) (drop (suc i) xs) e here ∙ ap Some size

-- none passes before a place, and the one there doesn't either
pub not_at : {A : Type 0} (test : A → Bool) (xs : List A) (i : ℕ) (d : A) → i < length xs → position test (take i xs) ≡ None → test (get_or xs i d) ≡ false → position test (take (i + 1) xs) ≡ None
not_at test xs i d inside e here = ap (position test) (take_more xs i d inside) ∙ none_more test (take i xs) (get_or xs i d) e here

-- the field at a place, or none past the last
pub field_there : (fields : List (List ℕ)) (i : ℕ) (x : List ℕ) → Some x ≡ field_at fields i → x ≡ get_or fields i []
field_there fields i x e = sym (field-get fields i x (sym e))

pub field_past : (fields : List (List ℕ)) (i : ℕ) → None ≡ field_at fields i → [] ≡ get_or fields i []
unfolding field_at
field_past [] i e = refl
field_past (f ∷ fs) zero e = cc e
field_past (f ∷ fs) (suc i) e = field_past fs i e
