-- The first boundary whose moment isn't before one, by a binary search.
use Rattle.std.proofs.Common.{◌≡◌, ◌≤◌, ◌<◌, ◌==◌, ℕ, zero, suc, List, [], ◌∷◌, Bool, true, false, Option, Some, None, length, get_or, nat_lt, ltb, Bor, IfSome, arith, refl, sym, subst, inl, inr}
use Rattle.std.proofs.lemmas.Bool.{cases_Bool, eq-eqb, ne_eqb, ltb-true, ltb-false}
use Rattle.std.proofs.lemmas.Option.{same_Some, slice_get_past, slice_get_read}
use Rattle.std.specs.Option.{is_some, option_copied}
use Rattle.std.specs.List.{AllWithin, slice_get}
use Rattle.reg_prov.specs.declared.boundary.Boundary.{Boundary}
use Rattle.reg_prov.specs.Steps.{Chained, change_at, change_in, first_from}

pub found : (moment : ℕ) (bs : List Boundary) (i : ℕ) → AllWithin (λ (b : Boundary). nat_lt b.at moment ≡ true) bs 0 i → AllWithin (λ (b : Boundary). nat_lt b.at moment ≡ false) bs i (length bs) → slice_get bs i ≡ first_from moment bs
found moment [] i before behind = refl
found moment (b ∷ bs) zero before behind = let n : nat_lt b.at moment ≡ false = behind 0 b (omega arith) (omega arith) in rw n refl
found moment (b ∷ bs) (suc i) before behind =
    let y : nat_lt b.at moment ≡ true = before 0 b (omega arith) (omega arith) in
    rw y (found moment bs i (λ k d low high. before (suc k) d (omega arith) (omega arith)) (λ k d low high. behind (suc k) d (omega arith) (omega arith)))

above : (n x : ℕ) (bs : List Boundary) → Chained n (Some x) bs → (j : ℕ) (d : Boundary) → j < length bs → x < (get_or bs j d).at
above n x [] ch j d w = absurd (omega arith)
above n x (b ∷ bs) ch zero d w = ch.2
above n x (b ∷ bs) ch (suc j) d w =
    let here : x < b.at = ch.2 in
    let later : b.at < (get_or bs j d).at = above b.number b.at bs ch.3 j d (omega arith) in
    omega (arith, here, later)

-- moments rise
pub rising : (n : ℕ) (m : Option ℕ) (bs : List Boundary) → Chained n m bs → (i j : ℕ) (d : Boundary) → i ≤ j → j < length bs → (get_or bs i d).at ≤ (get_or bs j d).at
rising n m [] ch i j d w v = absurd (omega arith)
rising n m (b ∷ bs) ch zero zero d w v = omega arith
rising n m (b ∷ bs) ch zero (suc j) d w v =
    let later : b.at < (get_or bs j d).at = above b.number b.at bs ch.3 j d (omega arith) in
    omega (arith, later)
rising n m (b ∷ bs) ch (suc i) zero d w v = absurd (omega arith)
rising n m (b ∷ bs) ch (suc i) (suc j) d w v = rising b.number (Some b.at) bs ch.3 i j d (omega arith) (omega arith)

-- a boundary that is found is the only one of its number
pub first_is : (w : ℕ → Bool) (moment n : ℕ) (m : Option ℕ) (bs : List Boundary) (b : Boundary) → Chained n m bs → first_from moment bs ≡ Some b → (n < b.number) × (change_at w bs b.number ≡ change_in w b)
first_is w moment n m [] b ch h = absurd (cc)
first_is w moment n m (x ∷ bs) b ch h = elim (cases_Bool (nat_lt x.at moment)) [
  | inl y ↦
      let rest = first_is w moment x.number (Some x.at) bs b ch.3 (rw y at h) in
      let behind : x.number < b.number = rest.0 in
      let first : n < x.number = ch.0 in
      let apart : (x.number == b.number) ≡ false = ne_eqb x.number b.number (λ e. absurd (omega (arith, e, behind))) in
      (omega (arith, behind, first), rw apart rest.1)
  | inr f ↦
      let same : x ≡ b = same_Some x b (rw f at h) in
      let here : (x.number == x.number) ≡ true = eq-eqb x.number x.number refl in
      let at_x : change_at w (x ∷ bs) x.number ≡ change_in w x = rw here refl in
      (subst (λ (k : Boundary). n < k.number) same ch.0, subst (λ (k : Boundary). change_at w (x ∷ bs) k.number ≡ change_in w k) same at_x)
]

-- what a look at a place finds
pub got : (r : Option (Bor Boundary)) (bs : List Boundary) (i : ℕ) → is_some r ≡ ltb i (length bs) → IfSome r (λ x. x.now ≡ get_or bs i x.now) → option_copied r ≡ slice_get bs i
got None bs i e h = sym (slice_get_past bs i (ltb-false i (length bs) (sym e)))
got (Some x) bs i e h = sym (slice_get_read bs (length bs) i x.now refl (ltb-true i (length bs) (sym e)) h)
