-- A path that is a route's own has that route.
use Rattle.std.proofs.Common.{◌≡◌, ℕ, zero, suc, ◌+◌, ◌-◌, ◌<◌, ◌==◌, List, [], ◌∷◌, ◌++◌, length, drop, Some, None, Bool, true, false, cond, refl, ap, sym, ◌∙◌, arith, ltb, length-append, append-nil}
use Rattle.std.specs.Prelude.{All, nat_eq}
use Rattle.std.specs.List.{ends_with}
use Rattle.std.specs.Cmp.Lexicographic.{pointwise}
use Rattle.std.proofs.Math.Seq.{drop-append_seam}
use Rattle.std.proofs.lemmas.Bool.{and_from, and_left, and_right, lt-ltb}
use Rattle.std.proofs.lemmas.Bool.Decides.{nat_tests}
use Rattle.matchit.specs.Rows.{RowsOf, param_token, catch_all_token}
use Rattle.matchit.specs.Seek.{own, step, or_else, seek, segment, has_slash, with_suffix, cuts, better, longest_from, longest_suffix, param_step}
use Rattle.reg_http.specs.Paths.{IsSegment}

-- the slash at the end of a segment

first_byte : (x : ℕ) → (x == 47) ≡ false → nat_eq 47 x ≡ false
first_byte x e = grind (arith, nat_tests)

slash_parts : (c later : Bool) → cond c true later ≡ false → (c ≡ false) × (later ≡ false)
slash_parts true later e = absurd (cc)
slash_parts false later e = (refl, e)

slash_drop : (n : ℕ) (text : List ℕ) → has_slash text ≡ false → has_slash (drop n text) ≡ false
slash_drop zero text plain = plain
slash_drop (suc n) [] plain = refl
slash_drop (suc n) (b ∷ text) plain = slash_drop n text (slash_parts (b == 47) (has_slash text) plain).1

no_slash : (text : List ℕ) → has_slash text ≡ false → pointwise nat_eq (47 ∷ []) text ≡ false
no_slash [] plain = refl
no_slash (b ∷ text) plain = and_left (nat_eq 47 b) (pointwise nat_eq [] text) (first_byte b (slash_parts (b == 47) (has_slash text) plain).0)

no_cut : (part : List ℕ) → has_slash part ≡ false → cuts part (47 ∷ []) ≡ false
no_cut part plain = and_right (ltb 1 (length part)) (ends_with nat_eq part (47 ∷ [])) (no_slash (drop (length part - 1) part) (slash_drop (length part - 1) part plain))

cut_slash : (part : List ℕ) → 0 < length part → cuts (part ++ 47 ∷ []) (47 ∷ []) ≡ true
cut_slash part some =
    let many : length (part ++ 47 ∷ []) ≡ length part + 1 = length-append part (47 ∷ []) in
    let at : length (part ++ 47 ∷ []) - 1 ≡ length part = omega (arith, many) in
    let last : drop (length (part ++ 47 ∷ []) - 1) (part ++ 47 ∷ []) ≡ 47 ∷ [] = ap (λ n. drop n (part ++ 47 ∷ [])) at ∙ drop-append_seam part (47 ∷ []) in
    and_from _ _ (lt-ltb 1 (length (part ++ 47 ∷ [])) (omega (arith, many, some))) (ap (pointwise nat_eq (47 ∷ [])) last)

segment_cases : (c : Bool) (b : ℕ) (some other : List ℕ) → c ≡ false → some ≡ other → cond c (b ∷ []) (b ∷ some) ≡ b ∷ other
segment_cases c b some other plain same = ap (λ d. cond d (b ∷ []) (b ∷ some)) plain ∙ ap (λ xs. b ∷ xs) same

segment_plain : (part : List ℕ) → has_slash part ≡ false → segment part ≡ part
segment_plain [] plain = refl
segment_plain (b ∷ part) plain =
    let (here, later) = slash_parts (b == 47) (has_slash part) plain in
    segment_cases (b == 47) b (segment part) part here (segment_plain part later)

segment_slash : (part more : List ℕ) → has_slash part ≡ false → segment (part ++ 47 ∷ more) ≡ part ++ 47 ∷ []
segment_slash [] more plain = refl
segment_slash (b ∷ part) more plain =
    let (here, later) = slash_parts (b == 47) (has_slash part) plain in
    segment_cases (b == 47) b (segment (part ++ 47 ∷ more)) (part ++ 47 ∷ []) here (segment_slash part more later)

not_wild : (x b : ℕ) → x ≡ 256 → b < 256 → (x == b) ≡ false
not_wild x b is low = grind (arith, nat_tests)

module _ {K : Type 0} where
  -- every row goes on with a parameter
  abbrev pub Wild : RowsOf K → Type 0
  Wild [] = Unit {0}
  Wild (([], k) ∷ rest) = ⊥
  Wild ((x ∷ t, k) ∷ rest) = (x ≡ 256) × Wild rest

  -- every row ends or goes on with a slash
  abbrev pub Slashed : RowsOf K → Type 0
  Slashed [] = Unit {0}
  Slashed (([], k) ∷ rest) = Slashed rest
  Slashed ((x ∷ t, k) ∷ rest) = (x ≡ 47) × Slashed rest

  -- some row goes on
  abbrev pub goes_on : RowsOf K → Bool
  goes_on [] = false
  goes_on (([], k) ∷ rest) = goes_on rest
  goes_on ((x ∷ t, k) ∷ rest) = true

  abbrev pub steps : List ℕ → RowsOf K → RowsOf K
  steps [] rs = rs
  steps (b ∷ bs) rs = steps bs (step b rs)

  wild_cons : (c : Bool) (t : List ℕ) (k : K) (more : RowsOf K) → c ≡ false → more ≡ [] → cond c ((t, k) ∷ more) more ≡ []
  wild_cons c t k more no_more none = ap (λ d. cond d ((t, k) ∷ more) more) no_more ∙ none

  step_wild : (b : ℕ) (rs : RowsOf K) → b < 256 → Wild rs → step b rs ≡ []
  step_wild b [] low wild = refl
  step_wild b (([], k) ∷ rest) low wild = absurd wild
  step_wild b ((x ∷ t, k) ∷ rest) low (is, wild) = wild_cons (x == b) t k (step b rest) (not_wild x b is low) (step_wild b rest low wild)

  param_none : (c : Bool) (n : ℕ) → (let p : ℕ × RowsOf K = cond c (0, []) (n, []) in p.1) ≡ []
  param_none true n = refl
  param_none false n = refl

  seek_none : (n : ℕ) (path : List ℕ) → seek {K = K} n [] path ≡ None
  unfolding seek param_step
  seek_none zero [] = refl
  seek_none (suc n) [] = refl
  seek_none (suc n) (b ∷ path) = seek_none n path
  seek_none zero (b ∷ path) =
      let p : ℕ × RowsOf K = param_step [] (b ∷ path) in
      ap (λ o. or_else o (or_else (seek (p.0 - 1) p.1 path) None)) (seek_none 0 path)
      ∙ ap (λ rs. or_else (seek (p.0 - 1) rs path) None) (param_none (has_slash (b ∷ path)) (length (b ∷ path)))
      ∙ ap (λ o. or_else o None) (seek_none (p.0 - 1) path)

  down : (b : ℕ) (path : List ℕ) (rs : RowsOf K) (k : K) → seek 0 (step b rs) path ≡ Some k → seek 0 rs (b ∷ path) ≡ Some k
  unfolding seek
  down b path rs k e =
      let p = param_step (step param_token rs) (b ∷ path) in
      ap (λ o. or_else o (or_else (seek (p.0 - 1) p.1 path) (own (step catch_all_token rs)))) e

  pub downs : (front path : List ℕ) (rs : RowsOf K) (k : K) → seek 0 (steps front rs) path ≡ Some k → seek 0 rs (front ++ path) ≡ Some k
  downs [] path rs k e = e
  downs (b ∷ front) path rs k e = down b (front ++ path) rs k (downs front path (step b rs) k e)

  by_param : (b : ℕ) (path : List ℕ) (rs : RowsOf K) (k : K) → step b rs ≡ []
      → (let p = param_step (step param_token rs) (b ∷ path) in seek (p.0 - 1) p.1 path ≡ Some k) → seek 0 rs (b ∷ path) ≡ Some k
  unfolding seek
  by_param b path rs k none e =
      let p = param_step (step param_token rs) (b ∷ path) in
      let last = own (step catch_all_token rs) in
      ap (λ some. or_else (seek 0 some path) (or_else (seek (p.0 - 1) p.1 path) last)) none
      ∙ ap (λ o. or_else o (or_else (seek (p.0 - 1) p.1 path) last)) (seek_none 0 path)
      ∙ ap (λ o. or_else o last) e

  skip : (part rest : List ℕ) (rs : RowsOf K) → seek (length part) rs (part ++ rest) ≡ seek 0 rs rest
  unfolding seek
  skip [] rest rs = refl
  skip (b ∷ part) rest rs = skip part rest rs

  -- the suffix that is left to the rows
  no_suffix : (seg : List ℕ) (rs : RowsOf K) → Slashed rs → cuts seg (47 ∷ []) ≡ false → longest_from seg [] rs ≡ []
  no_suffix seg [] slashed plain = refl
  no_suffix seg (([], k) ∷ rest) slashed plain = no_suffix seg rest slashed plain
  no_suffix seg ((x ∷ t, k) ∷ rest) (is, slashed) plain =
      ap (λ y. longest_from seg (better seg [] (segment (y ∷ t))) rest) is
      ∙ ap (λ c. longest_from seg (cond c (47 ∷ []) []) rest) plain
      ∙ no_suffix seg rest slashed plain

  slash_stays : (seg : List ℕ) (rs : RowsOf K) → Slashed rs → longest_from seg (47 ∷ []) rs ≡ 47 ∷ []
  slash_stays seg [] slashed = refl
  slash_stays seg (([], k) ∷ rest) slashed = slash_stays seg rest slashed
  slash_stays seg ((x ∷ t, k) ∷ rest) (is, slashed) =
      ap (λ y. longest_from seg (better seg (47 ∷ []) (segment (y ∷ t))) rest) is ∙ slash_stays seg rest slashed

  slash_suffix : (seg : List ℕ) (rs : RowsOf K) → Slashed rs → goes_on rs ≡ true → cuts seg (47 ∷ []) ≡ true → longest_from seg [] rs ≡ 47 ∷ []
  slash_suffix seg [] slashed goes cut = absurd (cc)
  slash_suffix seg (([], k) ∷ rest) slashed goes cut = slash_suffix seg rest slashed goes cut
  slash_suffix seg ((x ∷ t, k) ∷ rest) (is, slashed) goes cut =
      ap (λ y. longest_from seg (better seg [] (segment (y ∷ t))) rest) is
      ∙ ap (λ c. longest_from seg (cond c (47 ∷ []) []) rest) cut
      ∙ slash_stays seg rest slashed

  param_plain : (rs : RowsOf K) (path : List ℕ) → Slashed rs → has_slash path ≡ false → param_step rs path ≡ (length path, rs)
  unfolding param_step
  param_plain rs path slashed plain =
      let none : longest_suffix (segment path) rs ≡ [] = ap (λ seg. longest_from seg [] rs) (segment_plain path plain) ∙ no_suffix path rs slashed (no_cut path plain) in
      ap (λ s. cond (ltb 0 (length s)) (length (segment path) - length s, with_suffix s rs) (cond (has_slash path) (0, []) (length path, rs))) none
      ∙ ap (λ c. cond c (0, []) (length path, rs)) plain

  param_slash : (rs : RowsOf K) (part more : List ℕ) → Slashed rs → goes_on rs ≡ true → IsSegment part
      → param_step rs (part ++ 47 ∷ more) ≡ (length part, with_suffix (47 ∷ []) rs)
  unfolding param_step
  param_slash rs part more slashed goes seg =
      let path = part ++ 47 ∷ more in
      let cut : segment path ≡ part ++ 47 ∷ [] = segment_slash part more seg.plain in
      let slash : longest_suffix (segment path) rs ≡ 47 ∷ [] = ap (λ s. longest_from s [] rs) cut ∙ slash_suffix (part ++ 47 ∷ []) rs slashed goes (cut_slash part seg.some) in
      let many : length (segment path) - 1 ≡ length part = omega (arith, ap length cut, length-append part (47 ∷ [])) in
      ap (λ s. cond (ltb 0 (length s)) (length (segment path) - length s, with_suffix s rs) (cond (has_slash path) (0, []) (length path, rs))) slash
      ∙ ap (λ n. (n, with_suffix (47 ∷ []) rs)) many

  pub found_plain : (rs : RowsOf K) (part : List ℕ) (k : K) → Wild rs → Slashed (step param_token rs) → IsSegment part → All (λ byte. byte < 256) part
      → own (step param_token rs) ≡ Some k → seek 0 rs part ≡ Some k
  unfolding seek
  found_plain rs [] k wild slashed seg bytes e = absurd (omega (arith, seg.some))
  found_plain rs (b ∷ part) k wild slashed seg bytes e =
      by_param b part rs k (step_wild b rs (bytes 0 b (omega arith)) wild)
      (ap (λ p. seek (p.0 - 1) p.1 part) (param_plain (step param_token rs) (b ∷ part) slashed seg.plain)
      ∙ ap (λ n. seek n (step param_token rs) part) (omega arith)
      ∙ ap (seek (length part) (step param_token rs)) (sym (append-nil part))
      ∙ skip part [] (step param_token rs)
      ∙ e)

  pub found_back : (rs : RowsOf K) (part more : List ℕ) (k : K) → Wild rs → Slashed (step param_token rs) → goes_on (step param_token rs) ≡ true → IsSegment part → All (λ byte. byte < 256) part
      → own (steps (47 ∷ more) (with_suffix (47 ∷ []) (step param_token rs))) ≡ Some k → seek 0 rs (part ++ 47 ∷ more) ≡ Some k
  unfolding seek
  found_back rs [] more k wild slashed goes seg bytes e = absurd (omega (arith, seg.some))
  found_back rs (b ∷ part) more k wild slashed goes seg bytes e =
      let left = with_suffix (47 ∷ []) (step param_token rs) in
      by_param b (part ++ 47 ∷ more) rs k (step_wild b rs (bytes 0 b (omega arith)) wild)
      (ap (λ p. seek (p.0 - 1) p.1 (part ++ 47 ∷ more)) (param_slash (step param_token rs) (b ∷ part) more slashed goes seg)
      ∙ ap (λ n. seek n left (part ++ 47 ∷ more)) (omega arith)
      ∙ skip part (47 ∷ more) left
      ∙ ap (seek 0 left) (sym (append-nil (47 ∷ more)))
      ∙ downs (47 ∷ more) [] left k e)
