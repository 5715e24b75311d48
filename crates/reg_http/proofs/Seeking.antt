-- A path that has a route matches the tokens of its row.
use Rattle.std.proofs.Common.{◌≡◌, ◌⊎◌, inl, inr, ℕ, zero, suc, ◌-◌, ◌<◌, ◌==◌, List, [], ◌∷◌, ◌++◌, length, take, drop, Option, Some, None, Bool, true, false, cond, refl, ap, sym, ◌∙◌, rules, arith, ltb, ◌&&◌}
use Rattle.std.specs.Prelude.{All}
use Rattle.std.proofs.lemmas.List.{take-append-drop, take_all}
use Rattle.std.proofs.lemmas.Bool.{ltb-true, and_parts}
use Rattle.matchit.specs.Rows.{RowsOf, param_token, catch_all_token}
use Rattle.matchit.specs.Seek.{own, step, or_else, seek, segment, has_slash, same_text, with_suffix, cuts, better, longest_from, longest_suffix, param_step}
use Rattle.reg_http.specs.Paths.{IsSegment}

-- the row is one of these
abbrev pub RowIn : {K : Type 0} → List ℕ → K → RowsOf K → Type 0
RowIn t k [] = ⊥
RowIn t k (r ∷ rest) = ((r.0 ≡ t) × (r.1 ≡ k)) ⊎ RowIn t k rest

-- the path is these tokens with parts for the parameters
abbrev pub Matches : List ℕ → List ℕ → Type 0
Matches [] path = path ≡ []
Matches (t ∷ ts) path =
    ((t < 256) × (rest : List ℕ) × (path ≡ t ∷ rest) × Matches ts rest)
    ⊎ (((t ≡ 256) × (part : List ℕ) × (rest : List ℕ) × IsSegment part × (path ≡ part ++ rest) × Matches ts rest)
    ⊎ (t ≡ 257))

same_byte : (x b : ℕ) → (x == b) ≡ true → x ≡ b
same_byte x b e = search rules

-- a part of a segment that isn't all of it has no slash
plain_cases : (c : Bool) (b : ℕ) (some : List ℕ) (n : ℕ) (later : Bool) → suc n < length (cond c (b ∷ []) (b ∷ some)) → (n < length some → later ≡ false) → cond c true later ≡ false
plain_cases true b some n later inside go = absurd (omega arith)
plain_cases false b some n later inside go = go (omega arith)

plain_front : (path : List ℕ) (n : ℕ) → n < length (segment path) → has_slash (take n path) ≡ false
plain_front [] n inside = absurd (omega arith)
plain_front (b ∷ path) zero inside = refl
plain_front (b ∷ path) (suc n) inside = plain_cases (b == 47) b (segment path) n (has_slash (take n path)) inside (plain_front path n)

abbrev Short : List ℕ → List ℕ → Type 0
Short seg best = 0 < length best → length best < length seg

pick_short : (t : Bool) (seg best suffix : List ℕ) → (t ≡ true → length suffix < length seg) → Short seg best → Short seg (cond t suffix best)
pick_short true seg best suffix here before = λ _. here refl
pick_short false seg best suffix here before = before

better_short : (seg best suffix : List ℕ) → Short seg best → Short seg (better seg best suffix)
better_short seg best suffix before =
    pick_short (ltb (length best) (length suffix) && cuts seg suffix) seg best suffix
    (λ e. ltb-true _ _ (and_parts _ _ (and_parts (ltb (length best) (length suffix)) (cuts seg suffix) e).1).0)
    before

-- so much of the path is a segment
abbrev Takes : ℕ → List ℕ → Type 0
Takes n path = (0 < n) × (has_slash (take n path) ≡ false)

part_split : (b n : ℕ) (path : List ℕ) → Takes n (b ∷ path) → (part : List ℕ) × IsSegment part × (b ∷ path ≡ part ++ drop (n - 1) path)
part_split b zero path (some, plain) = absurd (omega arith)
part_split b (suc n) path (some, plain) =
    let less : drop n path ≡ drop (suc n - 1) path = ap (λ m. drop m path) (omega arith) in (
      take (suc n) (b ∷ path),
      record { some = omega arith; plain = plain },
      sym (take-append-drop (suc n) (b ∷ path)) ∙ ap (λ rest. take (suc n) (b ∷ path) ++ rest) less,
    )

module _ {K : Type 0} where
  longest_short : (seg best : List ℕ) (rs : RowsOf K) → Short seg best → Short seg (longest_from seg best rs)
  longest_short seg best [] before = before
  longest_short seg best ((t, k) ∷ rest) before = longest_short seg (better seg best (segment t)) rest (better_short seg best (segment t) before)

  own_in : (rs : RowsOf K) (k : K) → own rs ≡ Some k → RowIn [] k rs
  own_in [] k e = absurd (cc)
  own_in (([], j) ∷ rest) k e = inl (refl, cc)
  own_in ((x ∷ t, j) ∷ rest) k e = inr (own_in rest k e)

  step_cons : (c : Bool) (b x : ℕ) (t : List ℕ) (j : K) (more rest : RowsOf K) (u : List ℕ) (k : K) → (c ≡ true → x ≡ b)
      → (RowIn u k more → RowIn (b ∷ u) k rest) → RowIn u k (cond c ((t, j) ∷ more) more) → RowIn (b ∷ u) k ((x ∷ t, j) ∷ rest)
  step_cons true b x t j more rest u k is go (inl (e, f)) = inl (ap (λ y. y ∷ t) (is refl) ∙ ap (λ s. b ∷ s) e, f)
  step_cons true b x t j more rest u k is go (inr h) = inr (go h)
  step_cons false b x t j more rest u k is go h = inr (go h)

  step_in : (b : ℕ) (rs : RowsOf K) (u : List ℕ) (k : K) → RowIn u k (step b rs) → RowIn (b ∷ u) k rs
  step_in b [] u k h = h
  step_in b (([], j) ∷ rest) u k h = inr (step_in b rest u k h)
  step_in b ((x ∷ t, j) ∷ rest) u k h = step_cons (x == b) b x t j (step b rest) rest u k (same_byte x b) (step_in b rest u k) h

  keep_cons : (c : Bool) (t : List ℕ) (j : K) (more rest : RowsOf K) (u : List ℕ) (k : K) → (RowIn u k more → RowIn u k rest)
      → RowIn u k (cond c ((t, j) ∷ more) more) → RowIn u k ((t, j) ∷ rest)
  keep_cons true t j more rest u k go (inl e) = inl e
  keep_cons true t j more rest u k go (inr h) = inr (go h)
  keep_cons false t j more rest u k go h = inr (go h)

  suffix_in : (s : List ℕ) (rs : RowsOf K) (u : List ℕ) (k : K) → RowIn u k (with_suffix s rs) → RowIn u k rs
  suffix_in s [] u k h = h
  suffix_in s ((t, j) ∷ rest) u k h = keep_cons (same_text (segment t) s) t j (with_suffix s rest) rest u k (suffix_in s rest u k) h

  param_cases : (a c : Bool) (x y : ℕ) (some rs : RowsOf K) (u path : List ℕ) (k : K) → (RowIn u k some → RowIn u k rs)
      → (a ≡ true → Takes x path) → (c ≡ false → Takes y path)
      → (let p : ℕ × RowsOf K = cond a (x, some) (cond c (0, []) (y, rs)) in RowIn u k p.1 → RowIn u k rs × Takes p.0 path)
  param_cases true c x y some rs u path k go one two h = (go h, one refl)
  param_cases false true x y some rs u path k go one two h = absurd h
  param_cases false false x y some rs u path k go one two h = (h, two refl)

  param_part : (rs : RowsOf K) (b : ℕ) (path u : List ℕ) (k : K) → RowIn u k (param_step rs (b ∷ path)).1 → RowIn u k rs × Takes (param_step rs (b ∷ path)).0 (b ∷ path)
  unfolding param_step
  param_part rs b path u k h =
      let all = b ∷ path in
      let suffix = longest_suffix (segment all) rs in
      let short : Short (segment all) suffix = longest_short (segment all) [] rs (λ none. absurd (omega (arith, none))) in
      param_cases _ (has_slash all) _ (length all) _ rs u all k (suffix_in suffix rs u k)
      (λ e. let some = ltb-true 0 (length suffix) e in
      (omega (arith, short some), plain_front all (length (segment all) - length suffix) (omega (arith, short some, some))))
      (λ e. (omega arith, ap has_slash (take_all (length all) all (omega arith)) ∙ e))
      h

  one_of : (a b : Option K) (k : K) → or_else a b ≡ Some k → (a ≡ Some k) ⊎ (b ≡ Some k)
  one_of None b k e = inr e
  one_of (Some j) b k e = inl e

  abbrev pub Found : RowsOf K → List ℕ → K → Type 0
  Found rs path k = (u : List ℕ) × RowIn u k rs × Matches u path

  pub seek_found : (n : ℕ) (rs : RowsOf K) (path : List ℕ) (k : K) → All (λ byte. byte < 256) path → seek n rs path ≡ Some k → Found rs (drop n path) k
  unfolding seek
  seek_found zero rs [] k bytes e = ([], own_in rs k e, refl)
  seek_found (suc n) rs [] k bytes e = ([], own_in rs k e, refl)
  seek_found (suc n) rs (b ∷ path) k bytes e = seek_found n rs path k (λ i d inside. bytes (suc i) d (omega arith)) e
  seek_found zero rs (b ∷ path) k bytes e =
      let after = param_step (step param_token rs) (b ∷ path) in
      let later : All (λ byte. byte < 256) path = λ i d inside. bytes (suc i) d (omega arith) in
      elim (one_of (seek 0 (step b rs) path) (or_else (seek (after.0 - 1) after.1 path) (own (step catch_all_token rs))) k e) [
        | inl x ↦ let (u, h, m) = seek_found 0 (step b rs) path k later x in (b ∷ u, step_in b rs u k h, inl (bytes 0 b (omega arith), path, refl, m))
        | inr y ↦ elim (one_of (seek (after.0 - 1) after.1 path) (own (step catch_all_token rs)) k y) [
          | inl x ↦
              let (u, h, m) = seek_found (after.0 - 1) after.1 path k later x in
              let (is, takes) = param_part (step param_token rs) b path u k h in
              let (part, seg, split) = part_split b after.0 path takes in
              (param_token ∷ u, step_in param_token rs u k is, inr (inl (refl, part, drop (after.0 - 1) path, seg, split, m)))
          | inr x ↦ (catch_all_token ∷ [], step_in catch_all_token rs [] k (own_in (step catch_all_token rs) k x), inr (inr refl))
        ]
      ]
