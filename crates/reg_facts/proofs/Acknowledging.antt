-- A list of consumers that is changed from the front, one after another, and so the one that has read further.
use Rattle.std.proofs.Common.{◌≡◌, ◌<◌, ◌≤◌, ◌+◌, ◌∙◌, ℕ, zero, suc, List, [], ◌∷◌, true, false, map, length, set, get_or, refl, ap, arith}
use Rattle.std.specs.Str.{bytes_eq}
use Rattle.reg_terms.specs.declared.rows.ConsumerRow.{ConsumerRow}
use Rattle.reg_facts.specs.Consumers.{acknowledged}

-- so many of them are changed
abbrev pub changed : (ConsumerRow → ConsumerRow) → ℕ → List ConsumerRow → List ConsumerRow
changed change zero rows = rows
changed change (suc n) [] = []
changed change (suc n) (row ∷ rows) = change row ∷ changed change n rows

module _ (change : ConsumerRow → ConsumerRow) where
  -- in the end all are
  pub changed_all : (n : ℕ) (rows : List ConsumerRow) → length rows ≤ n → changed change n rows ≡ map change rows
  changed_all zero [] past = refl
  changed_all (suc n) [] past = refl
  changed_all zero (row ∷ rows) past = absurd (omega (arith, past))
  changed_all (suc n) (row ∷ rows) past = ap (λ more. change row ∷ more) (changed_all n rows (omega (arith, past)))

  -- the next one is as it was
  next_is : (n : ℕ) (rows : List ConsumerRow) (d : ConsumerRow) → get_or (changed change n rows) n d ≡ get_or rows n d
  next_is zero rows d = refl
  next_is (suc n) [] d = refl
  next_is (suc n) (row ∷ rows) d = next_is n rows d

  -- the next one is written
  written : (n : ℕ) (rows : List ConsumerRow) (d row : ConsumerRow) → n < length rows → row ≡ change (get_or rows n d) → set (changed change n rows) n row ≡ changed change (suc n) rows
  written zero [] d row below is = absurd (omega (arith, below))
  written (suc n) [] d row below is = absurd (omega (arith, below))
  written zero (r ∷ rows) d row below is = ap (λ (first : ConsumerRow). first ∷ rows) is
  written (suc n) (r ∷ rows) d row below is = ap (λ more. change r ∷ more) (written n rows d row (omega (arith, below)) is)

one_more : (n : ℕ) → suc n ≡ n + 1
one_more n = omega arith

module _ (name : List ℕ) (seq : ℕ) where
  further : (row : ConsumerRow) → bytes_eq row.name name ≡ true → record row { place = seq } ≡ acknowledged name seq row
  further row t = rw t refl

  other : (row : ConsumerRow) → bytes_eq row.name name ≡ false → row ≡ acknowledged name seq row
  other row n = rw n refl

  -- the next one has the name
  pub step_there : (n : ℕ) (first now new : List ConsumerRow) (d : ConsumerRow) → now ≡ changed (acknowledged name seq) n first → n < length first
      → bytes_eq (get_or now n d).name name ≡ true → new ≡ set now n (record (get_or now n d) { place = seq }) → new ≡ changed (acknowledged name seq) (n + 1) first
  step_there n first now new d is below there made =
      let same : get_or now n d ≡ get_or first n d = ap (λ rows. get_or rows n d) is ∙ next_is (acknowledged name seq) n first d in
      let row : ConsumerRow = record (get_or now n d) { place = seq } in
      made ∙ ap (λ rows. set rows n row) is ∙ written (acknowledged name seq) n first d row below (further (get_or now n d) there ∙ ap (acknowledged name seq) same) ∙ ap (λ k. changed (acknowledged name seq) k first) (one_more n)

  -- or hasn't
  pub step_other : (n : ℕ) (first now new : List ConsumerRow) (d : ConsumerRow) → now ≡ changed (acknowledged name seq) n first → n < length first
      → bytes_eq (get_or now n d).name name ≡ false → new ≡ set now n (get_or now n d) → new ≡ changed (acknowledged name seq) (n + 1) first
  step_other n first now new d is below differs made =
      let same : get_or now n d ≡ get_or first n d = ap (λ rows. get_or rows n d) is ∙ next_is (acknowledged name seq) n first d in
      let row : ConsumerRow = get_or now n d in
      made ∙ ap (λ rows. set rows n row) is ∙ written (acknowledged name seq) n first d row below (other row differs ∙ ap (acknowledged name seq) same) ∙ ap (λ k. changed (acknowledged name seq) k first) (one_more n)
