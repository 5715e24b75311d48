-- Numbers of ways.
use Rattle.std.proofs.Common.{◌≡◌, ◌<◌, ◌≤◌, ◌+◌, ℕ, zero, suc, ◌==◌, List, [], ◌∷◌, ◌++◌, Bool, true, false, arith, refl, inl, inr, sym, ◌∙◌, ap, length, take, get_or, map, ◌-◌, ◌^◌, ◌⊎◌}
use Rattle.std.specs.Prelude.{if◌then◌else◌}
use Rattle.std.proofs.lemmas.Bool.{cases_Bool, cases_lt, eqb-true, eqb-false, eq-eqb, ne_eqb}
use Rattle.std.proofs.lemmas.List.{take_more, length-append, length-map, append-nil, get_or_append_left, get_or_push, length_push, nil_from_length, get_or_read}
use Rattle.reg_terms.specs.declared.kinds.Member.{Member}
use Rattle.reg_terms.specs.declared.kinds.Member.TheVariants.{Person, Group}
use Rattle.reg_terms.specs.declared.rows.MemberRow.{MemberRow}
use Rattle.reg_reasons.specs.Ways.{Way, by_rows, onward, shorter, ways}
use Rattle.reg_reasons.specs.Counts.{AreAll, AreLevels, AreOf, capped, count_of}

pub none_counted : (counts : List (ℕ × ℕ)) → length counts ≡ 0 → (q : ℕ) → count_of counts q ≡ 0
none_counted [] e q = refl
none_counted (c ∷ cs) e q = absurd (omega (arith, e))

pub added : (old new : List (ℕ × ℕ)) (g count more : ℕ) → count ≡ count_of old g
    → ((q : ℕ) → count_of new q ≡ (if q == g then capped (count + more) else count_of old q))
    → (q : ℕ) → count_of new q ≡ (if q == g then capped (count_of old q + more) else count_of old q)
added old new g count more e n q = elim (cases_Bool (q == g)) [
  | inl t ↦ let same : q ≡ g = eqb-true q g t in n q ∙ rw (t, same, e) refl
  | inr f ↦ n q ∙ rw f refl
]

pub stayed : (old : List (ℕ × ℕ)) (g count : ℕ) → count ≡ count_of old g → count < 2 ^ 64
    → (q : ℕ) → count_of old q ≡ (if q == g then capped (count_of old q + 0) else count_of old q)
stayed old g count e l q = elim (cases_Bool (q == g)) [
  | inl t ↦ let same : q ≡ g = eqb-true q g t in rw (t, same, ← e) (omega (arith, l))
  | inr f ↦ rw f refl
]

-- the ways by one row more at the end
pub rows_more : (W : ℕ → List Way) (last : Bool) (s g : ℕ) (row : MemberRow) (k : ℕ) → k ≡ (if row.group == g then length (onward W last s row.member) else 0)
    → (xs : List MemberRow) → length (by_rows W last s (xs ++ row ∷ []) g) ≡ length (by_rows W last s xs g) + k
rows_more W last s g row k e [] = elim (cases_Bool (row.group == g)) [
  | inl t ↦ let l : k ≡ length (onward W last s row.member) = e ∙ rw t refl in rw (t, append-nil, length-map, l) (omega arith)
  | inr f ↦ let l : k ≡ 0 = e ∙ rw f refl in rw (f, l) refl
]
rows_more W last s g row k e (x ∷ xs) =
    let r = rows_more W last s g row k e xs in
    elim (cases_Bool (x.group == g)) [
      | inl t ↦ rw t (length-append (map (λ (way : Way). x ∷ way) (onward W last s x.member)) (by_rows W last s (xs ++ row ∷ []) g)
          ∙ omega (arith, r, length-append (map (λ (way : Way). x ∷ way) (onward W last s x.member)) (by_rows W last s xs g)))
      | inr f ↦ rw f r
    ]

pub counted_more : (W : ℕ → List Way) (last : Bool) (s : ℕ) (rows : List MemberRow) (i : ℕ) (row : MemberRow) (old new : List (ℕ × ℕ)) (more : ℕ)
    → i < length rows → row ≡ get_or rows i row → AreOf (by_rows W last s (take i rows)) old → more ≡ capped (length (onward W last s row.member))
    → ((q : ℕ) → count_of new q ≡ (if q == row.group then capped (count_of old q + more) else count_of old q))
    → AreOf (by_rows W last s (take (i + 1) rows)) new
counted_more W last s rows i row old new more h is was m n g =
    rw (take_more rows i row h, ← is) (step (cases_Bool (g == row.group)))
  where
    step : ((g == row.group) ≡ true) ⊎ ((g == row.group) ≡ false) → count_of new g ≡ capped (length (by_rows W last s (take i rows ++ row ∷ []) g))
    step (inl t) =
        let same : (row.group == g) ≡ true = eq-eqb row.group g (sym (eqb-true g row.group t)) in
        let l = rows_more W last s g row (length (onward W last s row.member)) (sym (rw same refl)) (take i rows) in
        let e : count_of new g ≡ capped (count_of old g + more) = n g ∙ rw t refl in
        e ∙ rw l (rw (was g, m) (omega arith))
    step (inr f) =
        let other : (row.group == g) ≡ false = ne_eqb row.group g (λ z. eqb-false g row.group f (sym z)) in
        let l = rows_more W last s g row 0 (sym (rw other refl)) (take i rows) in
        let e : count_of new g ≡ count_of old g = n g ∙ rw f refl in
        e ∙ (was g ∙ ap capped (omega (arith, l)))

-- one level more
pub level_more : (W : ℕ → ℕ → List Way) (levels : List (List (ℕ × ℕ))) (counts : List (ℕ × ℕ)) (n : ℕ) → length levels ≡ n → AreLevels W levels → AreOf (W n) counts
    → AreLevels W (levels ++ counts ∷ [])
level_more W levels counts n e all next m l g = elim (cases_lt m n) [
  | inl below ↦ let b : m < length levels = omega arith in rw (get_or_append_left levels (counts ∷ []) [] m b) (all m b g)
  | inr above ↦
      let k : length (levels ++ counts ∷ []) ≡ length levels + 1 = length_push levels counts in
      let here : m ≡ n = omega arith in
      rw (here, get_or_push levels counts [] n e) (next g)
]

-- ---- where there are no ways of one length, there are none of greater lengths
pub none_by_rows : (W : ℕ → List Way) (s : ℕ) → ((h : ℕ) → W h ≡ []) → (rows : List MemberRow) (g : ℕ) → by_rows W false s rows g ≡ []
none_by_rows W s none [] g = refl
none_by_rows W s none (row ∷ rows) g = elim (cases_Bool (row.group == g)) [
  | inl t ↦ rw (t, no_way row.member) (none_by_rows W s none rows g)
  | inr f ↦ rw f (none_by_rows W s none rows g)
]
  where
    no_way : (m : Member) → onward W false s m ≡ []
    no_way (Person p) = refl
    no_way (Group h) = none h

pub none_later : (rows : List MemberRow) (E : ℕ → Bool) (s n : ℕ) → ((g : ℕ) → ways (suc n) rows E s g ≡ []) → (k g : ℕ) → ways (suc (k + n)) rows E s g ≡ []
none_later rows E s n none zero g = let e : zero + n ≡ n = omega arith in rw e (none g)
none_later rows E s n none (suc k) g =
    let e : suc k + n ≡ suc (k + n) = omega arith in
    let z : (suc (k + n) == 0) ≡ false = ne_eqb (suc (k + n)) 0 (λ a. absurd (omega (arith, a))) in
    rw (e, z) (none_by_rows (ways (suc (k + n)) rows E s) s (none_later rows E s n none k) rows g)

pub none_from : (counts : List (ℕ × ℕ)) (W : ℕ → List Way) → AreOf W counts → ((q : ℕ) → count_of counts q ≡ 0) → (g : ℕ) → W g ≡ []
none_from counts W of zeros g = let a = of g in let b = zeros g in nil_from_length (W g) (omega (arith, a, b))

-- all levels, where the last counts are all 0, or there is one more than rows
pub all_at : (rows : List MemberRow) (E : ℕ → Bool) (s n : ℕ) (levels : List (List (ℕ × ℕ))) → AreLevels (λ m g. ways m rows E s g) levels → length levels ≡ n + 1 → n < length rows
    → ((g : ℕ) → ways (suc n) rows E s g ≡ []) → AreAll rows E s levels
all_at rows E s n levels counted e l none = record {
  counted = counted;
  few = omega arith;
  no_more = λ m g a b.
      let at : m ≡ suc ((m - (n + 1)) + n) = omega arith in
      rw at (none_later rows E s n none (m - (n + 1)) g);
}

pub all_full : (rows : List MemberRow) (E : ℕ → Bool) (s : ℕ) (levels : List (List (ℕ × ℕ))) → AreLevels (λ m g. ways m rows E s g) levels → length levels ≡ length rows + 1 → AreAll rows E s levels
all_full rows E s levels counted e = record {
  counted = counted;
  few = omega arith;
  no_more = λ m g a b. absurd (omega arith);
}

-- ---- the number of all ways
pub total_more : (W : ℕ → List Way) (i count total sum : ℕ) → total ≡ capped (length (shorter i W)) → count ≡ capped (length (W i)) → sum ≡ capped (count + total) → sum ≡ capped (length (shorter (i + 1) W))
total_more W i count total sum a b c =
    let e : i + 1 ≡ suc i = omega arith in
    let l = length-append (shorter i W) (W i) in
    rw e (omega (arith, a, b, c, l))

-- past the levels there are none
pub shorter_all : (W : ℕ → List Way) (n k : ℕ) → ((m : ℕ) → n ≤ m → m < n + k → W m ≡ []) → shorter (k + n) W ≡ shorter n W
shorter_all W n zero none = let e : zero + n ≡ n = omega arith in ap (λ k. shorter k W) e
shorter_all W n (suc k) none =
    let e : suc k + n ≡ suc (k + n) = omega arith in
    let here : W (k + n) ≡ [] = none (k + n) (omega arith) (omega arith) in
    rw (e, here, append-nil) (shorter_all W n k (λ m a b. none m a (omega arith)))

pub all_shorter : (rows : List MemberRow) (E : ℕ → Bool) (s g : ℕ) (levels : List (List (ℕ × ℕ))) → AreAll rows E s levels
    → shorter (length levels) (λ n. ways n rows E s g) ≡ shorter (suc (length rows)) (λ n. ways n rows E s g)
all_shorter rows E s g levels all =
    let k : ℕ = suc (length rows) - length levels in
    let few = all.few in
    let e : k + length levels ≡ suc (length rows) = omega arith in
    sym (shorter_all (λ n. ways n rows E s g) (length levels) k (λ m a b. all.no_more m g a (omega (arith, few, b)))) ∙ ap (λ m. shorter m (λ n. ways n rows E s g)) e

pub level_at : (W : ℕ → ℕ → List Way) (levels : List (List (ℕ × ℕ))) (i : ℕ) (counts : List (ℕ × ℕ)) → AreLevels W levels → i < length levels → counts ≡ get_or levels i counts → AreOf (W i) counts
level_at W levels i counts all l is g = rw (get_or_read levels i counts l is []) (all i l g)
