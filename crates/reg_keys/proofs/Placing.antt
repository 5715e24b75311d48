-- Places of callers' keys: what a new one leaves at any key.
use Rattle.std.proofs.Common.{◌≡◌, ◌==◌, ℕ, zero, suc, ◌<◌, List, [], ◌∷◌, ◌++◌, length, Bool, true, false, cond, ◌&&◌, Option, Some, None, slice_get, if◌then◌else◌, refl, sym, ap, ap₂, subst, ◌∙◌, inl, inr, arith}
use Rattle.std.proofs.lemmas.Grind.{common_steps}
use Rattle.std.proofs.lemmas.Bool.Decides.{nat_tests}
use Rattle.std.proofs.lemmas.Bool.{cases_Bool, and_parts, eqb-true}
use Rattle.std.proofs.lemmas.Slice.Eq.{bytes_eq-Decides}
use Rattle.std.specs.Option.{option_map, option_and_then}
use Rattle.std.specs.Str.{bytes_eq}
use Rattle.std.specs.BTreeMap.{BTreeMap, get, is_at}
use Rattle.reg_keys.specs.declared.digest.Digest.{Digest}
use Rattle.reg_keys.specs.declared.places.Places.{Places}
use Rattle.reg_keys.specs.Digests.{digest, digest_cmp}
use Rattle.reg_keys.specs.Found.{told}
use Rattle.reg_keys.specs.Kept.{Kept}
use Rattle.reg_keys.specs.Places.{is_of, stands_at, first_or, other_in, place_in, AreBelow}

at_digest : (d q : Digest) → is_at (digest_cmp d) q ≡ ((d.front == q.front) && (d.back == q.back))
at_digest d q = grind (arith, nat_tests, common_steps)

same_digest : (d q : Digest) → is_at (digest_cmp d) q ≡ true → d ≡ q
same_digest d q h =
    let parts = and_parts (d.front == q.front) (d.back == q.back) (sym (at_digest d q) ∙ h) in
    let front : d.front ≡ q.front = eqb-true d.front q.front parts.0 in
    let back : d.back ≡ q.back = eqb-true d.back q.back parts.1 in
    λ k. record { front = front k; back = back k }

own_digest : (d : Digest) → is_at (digest_cmp d) d ≡ true
own_digest d = grind (arith, nat_tests, common_steps)

-- a command of one key is of no other
of_one : (one : Option Kept) (by key : List ℕ) → is_of one by key ≡ true → (b k : List ℕ) → is_of one b k ≡ (bytes_eq by b && bytes_eq key k)
of_one None by key h b k = cc
of_one (Some one) by key h b k =
    let parts = and_parts (bytes_eq one.by by) (bytes_eq one.key key) h in
    let same_by : one.by ≡ by = (bytes_eq-Decides one.by by).0 parts.0 in
    let same_key : one.key ≡ key = (bytes_eq-Decides one.key key).0 parts.1 in
    ap₂ (λ (x y : List ℕ). bytes_eq x b && bytes_eq y k) same_by same_key

-- a key that isn't the other one's, where both have one digest, has what stands elsewhere
passed_by : (all : List Kept) (by key : List ℕ) (o : Option ℕ) → first_or (λ p. stands_at all p by key) o None ≡ o
    → (b k : List ℕ) (elsewhere : Option ℕ) → (bytes_eq by b && bytes_eq key k) ≡ false → first_or (λ p. stands_at all p b k) o elsewhere ≡ elsewhere
passed_by all by key None h b k elsewhere n = refl
passed_by all by key (Some p) h b k elsewhere n =
    elim (cases_Bool (stands_at all p by key)) [
      | inl y ↦ ap (λ (c : Bool). if c then Some p else elsewhere) (of_one (slice_get all p) by key y b k ∙ n)
      | inr f ↦
          let none : first_or (λ p. stands_at all p by key) (Some p) None ≡ None = ap (λ (c : Bool). if c then Some p else None) f in
          let no : None ≡ Some p = sym none ∙ h in
          cc
    ]

-- the first of a digest, or one more command under the key of the first
pub first_after : (all : List Kept) (by key : List ℕ) (place : ℕ) (old new : BTreeMap Digest ℕ) (elsewhere : List ℕ → List ℕ → Option ℕ)
    → ((q : Digest) → get digest_cmp new q ≡ cond (is_at (digest_cmp (digest by key)) q) (Some place) (get digest_cmp old q))
    → ((b k : List ℕ) → stands_at all place b k ≡ (bytes_eq by b && bytes_eq key k))
    → first_or (λ p. stands_at all p by key) (get digest_cmp old (digest by key)) None ≡ get digest_cmp old (digest by key)
    → (b k : List ℕ) → first_or (λ p. stands_at all p b k) (get digest_cmp new (digest b k)) (elsewhere b k)
    ≡ (if bytes_eq by b && bytes_eq key k then Some place else first_or (λ p. stands_at all p b k) (get digest_cmp old (digest b k)) (elsewhere b k))
first_after all by key place old new elsewhere updates stands was b k =
    elim (cases_Bool (is_at (digest_cmp (digest by key)) (digest b k))) [
      | inl y ↦
          let now : get digest_cmp new (digest b k) ≡ Some place = updates (digest b k) ∙ ap (λ (c : Bool). cond c (Some place) (get digest_cmp old (digest b k))) y in
          let same : digest by key ≡ digest b k = same_digest (digest by key) (digest b k) y in
          ap (λ o. first_or (λ p. stands_at all p b k) o (elsewhere b k)) now
          ∙ ap (λ (c : Bool). if c then Some place else elsewhere b k) (stands b k)
          ∙ either (bytes_eq by b && bytes_eq key k) (λ n. sym (ap (λ d. first_or (λ p. stands_at all p b k) (get digest_cmp old d) (elsewhere b k)) (sym same) ∙ passed_by all by key (get digest_cmp old (digest by key)) was b k (elsewhere b k) n))
      | inr f ↦
          let now : get digest_cmp new (digest b k) ≡ get digest_cmp old (digest b k) = updates (digest b k) ∙ ap (λ (c : Bool). cond c (Some place) (get digest_cmp old (digest b k))) f in
          ap (λ o. first_or (λ p. stands_at all p b k) o (elsewhere b k)) now
          ∙ sym (ap (λ (c : Bool). if c then Some place else first_or (λ p. stands_at all p b k) (get digest_cmp old (digest b k)) (elsewhere b k)) (other f))
    ]
  where
    either : {x y : Option ℕ} (c : Bool) → (c ≡ false → x ≡ y) → (if c then Some place else x) ≡ (if c then Some place else y)
    either true h = refl
    either false h = h refl

    other : is_at (digest_cmp (digest by key)) (digest b k) ≡ false → (bytes_eq by b && bytes_eq key k) ≡ false
    other f = elim (cases_Bool (bytes_eq by b && bytes_eq key k)) [
      | inl y ↦
          let parts = and_parts (bytes_eq by b) (bytes_eq key k) y in
          let same : digest by key ≡ digest b k = ap₂ digest ((bytes_eq-Decides by b).0 parts.0) ((bytes_eq-Decides key k).0 parts.1) in
          let yes : is_at (digest_cmp (digest by key)) (digest b k) ≡ true = subst (λ d. is_at (digest_cmp (digest by key)) d ≡ true) same (own_digest (digest by key)) in
          let no : true ≡ false = sym yes ∙ f in
          cc
      | inr n ↦ n
    ]

-- the places stay below a number
pub below_after : (c : Bool) (place n : ℕ) (old new : Option ℕ) → ((p : ℕ) → old ≡ Some p → p < n) → new ≡ cond c (Some place) old → place < n → (p : ℕ) → new ≡ Some p → p < n
below_after true place n old new below is lt p h =
    let same : Some place ≡ Some p = sym is ∙ h in
    let it : place ≡ p = cc in
    subst (λ x. x < n) it lt
below_after false place n old new below is lt p h = below p (sym is ∙ h)

-- ---- the list of commands grows

slice_get_front : (xs ys : List Kept) (i : ℕ) → i < length xs → slice_get (xs ++ ys) i ≡ slice_get xs i
slice_get_front [] ys i h = absurd (omega (arith, h))
slice_get_front (x ∷ xs) ys zero h = refl
slice_get_front (x ∷ xs) ys (suc i) h = slice_get_front xs ys i (omega (arith, h))

slice_get_last : (xs : List Kept) (y : Kept) → slice_get (xs ++ y ∷ []) (length xs) ≡ Some y
slice_get_last [] y = refl
slice_get_last (x ∷ xs) y = slice_get_last xs y

first_stays : (xs ys : List Kept) (b k : List ℕ) (o elsewhere : Option ℕ) → ((p : ℕ) → o ≡ Some p → p < length xs)
    → first_or (λ p. stands_at (xs ++ ys) p b k) o elsewhere ≡ first_or (λ p. stands_at xs p b k) o elsewhere
first_stays xs ys b k None elsewhere below = refl
first_stays xs ys b k (Some p) elsewhere below = ap (λ o. if is_of o b k then Some p else elsewhere) (slice_get_front xs ys p (below p refl))

-- a place stays that of its key
pub place_stays : (xs ys : List Kept) (places : Places) → AreBelow (length xs) places → (b k : List ℕ) → place_in places (xs ++ ys) b k ≡ place_in places xs b k
place_stays xs ys places below b k = first_stays xs ys b k (get digest_cmp places.firsts (digest b k)) (other_in places.others b k) (below.firsts (digest b k))

first_below : (n : ℕ) (test : ℕ → Bool) (o elsewhere : Option ℕ) → ((p : ℕ) → o ≡ Some p → p < n) → ((p : ℕ) → elsewhere ≡ Some p → p < n) → (p : ℕ) → first_or test o elsewhere ≡ Some p → p < n
first_below n test None elsewhere below others p h = others p h
first_below n test (Some x) elsewhere below others p h = elim (cases_Bool (test x)) [
  | inl y ↦ below p (sym (ap (λ (c : Bool). if c then Some x else elsewhere) y) ∙ h)
  | inr f ↦ others p (sym (ap (λ (c : Bool). if c then Some x else elsewhere) f) ∙ h)
]

pub place_below : (n : ℕ) (all : List Kept) (places : Places) → AreBelow n places → (b k : List ℕ) (p : ℕ) → place_in places all b k ≡ Some p → p < n
place_below n all places below b k p h = first_below n (λ p. stands_at all p b k) (get digest_cmp places.firsts (digest b k)) (other_in places.others b k) (below.firsts (digest b k)) (below.others b k) p h

-- what a place stands for stays
told_stays : (xs ys : List Kept) (o : Option ℕ) → ((p : ℕ) → o ≡ Some p → p < length xs) → option_and_then (λ p. option_map told (slice_get (xs ++ ys) p)) o ≡ option_and_then (λ p. option_map told (slice_get xs p)) o
told_stays xs ys None below = refl
told_stays xs ys (Some p) below = ap (option_map told) (slice_get_front xs ys p (below p refl))

-- after a put, any key stands for what was put or for what it stood for
pub told_after : (c : Bool) (xs : List Kept) (y : Kept) (place : ℕ) (old new : Option ℕ) → ((p : ℕ) → old ≡ Some p → p < length xs) → place ≡ length xs → new ≡ (if c then Some place else old)
    → option_and_then (λ p. option_map told (slice_get (xs ++ y ∷ []) p)) new ≡ (if c then Some (told y) else option_and_then (λ p. option_map told (slice_get xs p)) old)
told_after true xs y place old new below at is = ap (option_and_then (λ p. option_map told (slice_get (xs ++ y ∷ []) p))) is ∙ ap (option_map told) (ap (slice_get (xs ++ y ∷ [])) at ∙ slice_get_last xs y)
told_after false xs y place old new below at is = ap (option_and_then (λ p. option_map told (slice_get (xs ++ y ∷ []) p))) is ∙ told_stays xs (y ∷ []) old below

-- a larger number is above them too
pub below_more : (n m : ℕ) (places : Places) → n < m → AreBelow n places → AreBelow m places
below_more n m places lt below = record {
  firsts = λ d p h. omega (arith, lt, below.firsts d p h);
  others = λ b k p h. omega (arith, lt, below.others b k p h);
}
