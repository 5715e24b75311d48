-- Without a circle a group has whom one level gives, by the groups below it.
use Rattle.std.proofs.Common.{◌≡◌, ◌<◌, ◌≤◌, ◌+◌, ◌||◌, ◌&&◌, ◌==◌, ℕ, List, [], ◌∷◌, length, Bool, true, arith, refl, inl, inr, sym, ◌∙◌, zero, suc, ap}
use Rattle.std.proofs.lemmas.Bool.{or_cases, and_parts, and_from, or_left, or_right, eq-eqb, cases_Bool}
use Rattle.std.specs.List.{list_any}
use Rattle.std.proofs.lemmas.List.Folds.{list_any-append}
use Rattle.reg_terms.specs.declared.kinds.Member.{Member}
use Rattle.reg_terms.specs.declared.kinds.Member.TheVariants.{Person, Group}
use Rattle.reg_terms.specs.declared.rows.CompositeRow.{CompositeRow}
use Rattle.reg_effect.specs.declared.live.Live.{Live}
use Rattle.reg_effect.specs.Member.{in_rows, in_factors, level, member_in, entries, member}
use Rattle.reg_graph.specs.Edges.{reaches, has_edge, IsAcyclic}
use Rattle.reg_effect.specs.Edges.{edges, row_edges, factor_edges}
use Rattle.reg_reasons.proofs.Reaches.{falls, passing, passing_le}

-- the groups of the entries
abbrev pub sources : List (ℕ × Member) → List CompositeRow → List ℕ
sources [] [] = []
sources [] (c ∷ cs) = c.group ∷ sources [] cs
sources (row ∷ rows) cs = row.0 ∷ sources rows cs

pub sources_length : (rows : List (ℕ × Member)) (cs : List CompositeRow) → length (sources rows cs) ≡ length rows + length cs
sources_length [] [] = refl
sources_length [] (c ∷ cs) = omega (arith, sources_length [] cs)
sources_length (row ∷ rows) cs = omega (arith, sources_length rows cs)

pub source_rows : (rows : List (ℕ × Member)) (cs : List CompositeRow) (g h : ℕ) → has_edge (row_edges rows) g h ≡ true → list_any (λ x. x == g) (sources rows cs) ≡ true
source_rows [] cs g h e = cc
source_rows ((x, Person p) ∷ rows) cs g h e = or_right (x == g) _ (source_rows rows cs g h e)
source_rows ((x, Group y) ∷ rows) cs g h e =
    elim (or_cases _ _ e) [
      | inl here ↦ or_left _ _ (and_parts (x == g) (y == h) here).0
      | inr later ↦ or_right (x == g) _ (source_rows rows cs g h later)
    ]

pub source_factors : (cs : List CompositeRow) (g h : ℕ) → has_edge (factor_edges cs) g h ≡ true → list_any (λ x. x == g) (sources [] cs) ≡ true
source_factors [] g h e = cc
source_factors (c ∷ cs) g h e =
    elim (or_cases _ _ e) [
      | inl here ↦ or_left _ _ (and_parts (c.group == g) (c.left == h) here).0
      | inr later ↦ elim (or_cases _ _ later) [
        | inl there ↦ or_left _ _ (and_parts (c.group == g) (c.right == h) there).0
        | inr last ↦ or_right (c.group == g) _ (source_factors cs g h last)
      ]
    ]

pub source_more : (rows : List (ℕ × Member)) (cs : List CompositeRow) (g : ℕ) → list_any (λ x. x == g) (sources [] cs) ≡ true → list_any (λ x. x == g) (sources rows cs) ≡ true
source_more [] cs g h = h
source_more (row ∷ rows) cs g h = or_right (row.0 == g) _ (source_more rows cs g h)

-- an edge's group has an entry
pub source_edge : (L : Live) (g h : ℕ) → has_edge (edges L) g h ≡ true → list_any (λ x. x == g) (sources L.rows L.composites) ≡ true
unfolding edges
source_edge L g h e =
    elim (or_cases (has_edge (row_edges L.rows) g h) (has_edge (factor_edges L.composites) g h) (sym (list_any-append (λ (e : ℕ × ℕ). (e.0 == g) && (e.1 == h)) (row_edges L.rows) (factor_edges L.composites)) ∙ e)) [
      | inl r ↦ source_rows L.rows L.composites g h r
      | inr c ↦ source_more L.rows L.composites g (source_factors L.composites g h c)
    ]

pub rank : Live → ℕ → ℕ
rank L g = passing (reaches (edges L) g) (sources L.rows L.composites)

pub rank_le : (L : Live) (g : ℕ) → rank L g ≤ entries L
unfolding rank
rank_le L g = rw (← (sources_length L.rows L.composites)) (passing_le (reaches (edges L) g) (sources L.rows L.composites))

pub rank_edge : (L : Live) → IsAcyclic (edges L) → (g h : ℕ) → has_edge (edges L) g h ≡ true → rank L h < rank L g
unfolding rank
rank_edge L n g h e = falls (edges L) n (sources L.rows L.composites) g h e (source_edge L g h e)

-- the edges of a row and of a composite
pub row_edge : (M N : ℕ → Bool) (s g : ℕ) (rows : List (ℕ × Member)) → ((h : ℕ) → has_edge (row_edges rows) g h ≡ true → M h ≡ N h) → in_rows M rows g s ≡ in_rows N rows g s
row_edge M N s g [] same = refl
row_edge M N s g ((x, Person p) ∷ rows) same = ap (λ b. ((x == g) && (p == s)) || b) (row_edge M N s g rows same)
row_edge M N s g ((x, Group y) ∷ rows) same =
    let rest : in_rows M rows g s ≡ in_rows N rows g s = row_edge M N s g rows (λ h e. same h (or_right ((x == g) && (y == h)) _ e)) in
    elim (cases_Bool (x == g)) [
      | inl t ↦ let here : M y ≡ N y = same y (or_left _ _ (and_from _ _ t (eq-eqb y y refl))) in rw (here, rest) refl
      | inr f ↦ rw (f, rest) refl
    ]

pub factor_edge : (M N : ℕ → Bool) (g : ℕ) (cs : List CompositeRow) → ((h : ℕ) → has_edge (factor_edges cs) g h ≡ true → M h ≡ N h) → in_factors M cs g ≡ in_factors N cs g
factor_edge M N g [] same = refl
factor_edge M N g (c ∷ cs) same =
    let rest : in_factors M cs g ≡ in_factors N cs g = factor_edge M N g cs (λ h e. same h (or_right ((c.group == g) && (c.left == h)) _ (or_right ((c.group == g) && (c.right == h)) _ e))) in
    elim (cases_Bool (c.group == g)) [
      | inl t ↦
          let left : M c.left ≡ N c.left = same c.left (or_left _ _ (and_from _ _ t (eq-eqb c.left c.left refl))) in
          let right : M c.right ≡ N c.right = same c.right (or_right ((c.group == g) && (c.left == c.right)) _ (or_left _ _ (and_from _ _ t (eq-eqb c.right c.right refl)))) in
          rw (left, right, rest) refl
      | inr f ↦ rw (f, rest) refl
    ]

-- one level asks along the group's edges alone
pub level_same : (L : Live) (M N : ℕ → Bool) (s g : ℕ) → ((h : ℕ) → has_edge (edges L) g h ≡ true → M h ≡ N h) → level M L g s ≡ level N L g s
unfolding edges
level_same L M N s g same =
    let in_r : (h : ℕ) → has_edge (row_edges L.rows) g h ≡ true → M h ≡ N h = λ h e. same h (list_any-append (λ (e : ℕ × ℕ). (e.0 == g) && (e.1 == h)) (row_edges L.rows) (factor_edges L.composites) ∙ or_left _ _ e) in
    let in_c : (h : ℕ) → has_edge (factor_edges L.composites) g h ≡ true → M h ≡ N h = λ h e. same h (list_any-append (λ (e : ℕ × ℕ). (e.0 == g) && (e.1 == h)) (row_edges L.rows) (factor_edges L.composites) ∙ or_right (has_edge (row_edges L.rows) g h) _ e) in
    rw (factor_edge M N g L.composites in_c, row_edge M N s g L.rows in_r) refl

-- deep enough is deep enough
pub deep_same : (L : Live) → IsAcyclic (edges L) → (s n m g : ℕ) → rank L g < n → rank L g < m → member_in n L g s ≡ member_in m L g s
deep_same L c s zero m g p q = absurd (omega (arith, p))
deep_same L c s (suc n) zero g p q = absurd (omega (arith, q))
deep_same L c s (suc n) (suc m) g p q =
    level_same L (λ h. member_in n L h s) (λ h. member_in m L h s) s g
    (λ h e. let lt = rank_edge L c g h e in deep_same L c s n m h (omega (arith, p, lt)) (omega (arith, q, lt)))

-- the law of memberships: a group has whom its rows or factors give, by the groups below as they are
pub member_level : (L : Live) → IsAcyclic (edges L) → (g s : ℕ) → member L g s ≡ level (λ h. member L h s) L g s
unfolding member
member_level L c g s =
    level_same L (λ h. member_in (entries L) L h s) (λ h. member_in (suc (entries L)) L h s) s g
    (λ h e. let lt = rank_edge L c g h e in let le = rank_le L g in deep_same L c s (entries L) (suc (entries L)) h (omega (arith, lt, le)) (omega (arith, lt, le)))
