-- Effective memberships level by level.
use Rattle.std.proofs.Common.{◌≡◌, ◌≤◌, ◌<◌, ◌+◌, ◌-◌, ◌==◌, ◌&&◌, ◌||◌, ℕ, List, [], ◌∷◌, ◌++◌, Bool, true, false, not, arith, refl, sym, ◌∙◌, ap, inl, inr, zero, suc, add-one, length, filter}
use Rattle.std.proofs.lemmas.Bool.{cases_Bool, eqb-true}
use Rattle.std.proofs.lemmas.List.Folds.{list_any-append}
use Rattle.std.specs.List.Sorted.{IsStrictlySortedBy}
use Rattle.reg_terms.specs.declared.kinds.Member.{Member}
use Rattle.reg_terms.specs.declared.kinds.SetOp.{SetOp}
use Rattle.reg_graph.specs.Sets.{holds, pair_cmp}
use Rattle.reg_graph.specs.Edges.{among}
use Rattle.reg_graph.proofs.Reaching.{eq_turned}
use Rattle.reg_graph.proofs.Orders.{among_more}
use Rattle.reg_effect.specs.declared.live.Live.{Live}
use Rattle.reg_terms.specs.Rows.{is_composite}
use Rattle.reg_effect.specs.Member.{combine, gives, in_rows, in_factors, level, member_in, entries, member}
use Rattle.reg_effect.specs.Asked.{IsWell}
use Rattle.reg_effect.specs.Deltas.{began, ended}
use Rattle.reg_effect.proofs.Deep.{level_same}
use Rattle.reg_effect.proofs.Tops.{combine_some}
use Rattle.reg_effect.proofs.Asking.{no_rows, no_factors}
use Rattle.reg_effect.proofs.Lists.{holds_filter, began_is, ended_is}

-- ---- one person, one group
pub person_given : (old new : ℕ → ℕ → Bool) (g p : ℕ) → ((y q : ℕ) → new y q ≡ (((y == g) && (q == p)) || old y q)) → (y q : ℕ) → new y q ≡ (((g == y) && (p == q)) || old y q)
person_given old new g p h y q = h y q ∙ rw (eq_turned g y, eq_turned p q) refl

pub group_given : (old new : ℕ → ℕ → Bool) (below : ℕ → Bool) (g : ℕ) (persons : List ℕ) → ((y q : ℕ) → new y q ≡ (((y == g) && among q persons) || old y q)) → ((q : ℕ) → among q persons ≡ below q) → (y q : ℕ) → new y q ≡ (((g == y) && below q) || old y q)
group_given old new below g persons h k y q = h y q ∙ rw (eq_turned g y, k q) refl

-- ---- factors
pub factor_added : (old new : ℕ → ℕ → Bool) (g p : ℕ) (given : Bool) → given ≡ true → ((y q : ℕ) → new y q ≡ (((y == g) && (q == p)) || old y q)) → (y q : ℕ) → new y q ≡ ((((y == g) && (q == p)) && given) || old y q)
factor_added old new g p given t h y q = h y q ∙ rw t (elim ((y == g) && (q == p)) as (λ b. (b || old y q) ≡ ((b && true) || old y q)) [ true ↦ refl | false ↦ refl ])

pub factor_left : (old : ℕ → ℕ → Bool) (g p : ℕ) (given : Bool) → given ≡ false → (y q : ℕ) → old y q ≡ ((((y == g) && (q == p)) && given) || old y q)
factor_left old g p given f y q = rw f (elim ((y == g) && (q == p)) as (λ b. old y q ≡ ((b && false) || old y q)) [ true ↦ refl | false ↦ refl ])

pub factors_more : (old now new : ℕ → ℕ → Bool) (g p : ℕ) (given : ℕ → Bool) (ps : List ℕ) → ((y q : ℕ) → now y q ≡ (((y == g) && (among q ps && given q)) || old y q)) → ((y q : ℕ) → new y q ≡ ((((y == g) && (q == p)) && given p) || now y q)) → (y q : ℕ) → new y q ≡ (((y == g) && (among q (ps ++ p ∷ []) && given q)) || old y q)
factors_more old now new g p given ps k h y q = h y q ∙ elim (cases_Bool (q == p)) [
  | inl t ↦ let e : q ≡ p = eqb-true q p t in rw (k y q, among_more q p ps, t, e) (here (y == g) (among p ps) (given p) (old y p))
  | inr f ↦ rw (k y q, among_more q p ps, f) (other (y == g) (among q ps) (given p) (given q) (old y q))
]
  where
    here : (a c d o : Bool) → (((a && true) && d) || ((a && (c && d)) || o)) ≡ ((a && ((c || true) && d)) || o)
    here true true true o = refl
    here true true false o = refl
    here true false true o = refl
    here true false false o = refl
    here false c d o = refl

    other : (a c d e o : Bool) → (((a && false) && d) || ((a && (c && e)) || o)) ≡ ((a && ((c || false) && e)) || o)
    other true true d e o = refl
    other true false d e o = refl
    other false c d e o = refl

pub factors_given : (old mid new : ℕ → ℕ → Bool) (g : ℕ) (op : SetOp) (left right : ℕ → Bool) (xs ys : List ℕ) → ((q : ℕ) → among q xs ≡ left q) → ((q : ℕ) → among q ys ≡ right q)
    → ((y q : ℕ) → mid y q ≡ (((y == g) && (among q xs && combine op (left q) (right q))) || old y q))
    → ((y q : ℕ) → new y q ≡ (((y == g) && (among q ys && combine op (left q) (right q))) || mid y q)) → (y q : ℕ) → new y q ≡ (((g == y) && combine op (left q) (right q)) || old y q)
factors_given old mid new g op left right xs ys h k m n y q = n y q ∙ rw (m y q, h q, k q, eq_turned g y) (elim (cases_Bool (combine op (left q) (right q))) [
  | inl t ↦ rw t (given (y == g) (left q) (right q) (old y q) (combine_some op (left q) (right q) t))
  | inr f ↦ rw f (none (y == g) (left q) (right q) (old y q))
])
  where
    given : (a b c o : Bool) → (b || c) ≡ true → ((a && (c && true)) || ((a && (b && true)) || o)) ≡ ((a && true) || o)
    given false b c o h = refl
    given true true true o h = refl
    given true true false o h = refl
    given true false true o h = refl
    given true false false o h = cc

    none : (a b c o : Bool) → ((a && (c && false)) || ((a && (b && false)) || o)) ≡ ((a && false) || o)
    none false b c o = refl
    none true true true o = refl
    none true true false o = refl
    none true false true o = refl
    none true false false o = refl

-- ---- lists of rows and of composites
pub rows_more : (table : List (ℕ × ℕ)) (old now new : ℕ → ℕ → Bool) (g : ℕ) (m : Member) (rows : List (ℕ × Member)) → ((y q : ℕ) → now y q ≡ (in_rows (λ h. holds h q table) rows y q || old y q))
    → ((y q : ℕ) → new y q ≡ (((g == y) && gives (λ h. holds h q table) q m) || now y q)) → (y q : ℕ) → new y q ≡ (in_rows (λ h. holds h q table) (rows ++ (g, m) ∷ []) y q || old y q)
rows_more table old now new g m rows k h y q = h y q ∙ rw (k y q, list_any-append (λ (row : ℕ × Member). (row.0 == y) && gives (λ h. holds h q table) q row.1) rows ((g, m) ∷ [])) (bools ((g == y) && gives (λ h. holds h q table) q m) (in_rows (λ h. holds h q table) rows y q) (old y q))
  where
    bools : (a b o : Bool) → (a || (b || o)) ≡ ((b || (a || false)) || o)
    bools true true o = refl
    bools true false o = refl
    bools false true o = refl
    bools false false o = refl

pub round_is : (none mid new a b : ℕ → ℕ → Bool) → ((y q : ℕ) → none y q ≡ false) → ((y q : ℕ) → mid y q ≡ (a y q || none y q)) → ((y q : ℕ) → new y q ≡ (b y q || mid y q)) → (y q : ℕ) → new y q ≡ (b y q || a y q)
round_is none mid new a b n m h y q = h y q ∙ rw (m y q, n y q) (elim (a y q) as (λ x. (b y q || (x || false)) ≡ (b y q || x)) [ true ↦ refl | false ↦ refl ])

-- ---- levels
pub either : (L : Live) → IsWell L → (M : ℕ → Bool) (y q : ℕ) → level M L y q ≡ (in_factors M L.composites y || in_rows M L.rows y q)
either L w M y q = elim (cases_Bool (is_composite y L.composites)) [
  | inl t ↦ rw (t, no_rows M L.rows y q (w.rowless y t)) (none (in_factors M L.composites y))
  | inr f ↦ rw (f, no_factors M L.composites y f) refl
]
  where
    none : (b : Bool) → b ≡ (b || false)
    none true = refl
    none false = refl

pub next_round : (L : Live) → IsWell L → (n : ℕ) (table next : List (ℕ × ℕ)) → ((y q : ℕ) → holds y q table ≡ member_in n L y q)
    → ((y q : ℕ) → holds y q next ≡ (in_factors (λ h. holds h q table) L.composites y || in_rows (λ h. holds h q table) L.rows y q)) → (y q : ℕ) → holds y q next ≡ member_in (n + 1) L y q
next_round L w n table next k h y q = rw add-one (h y q ∙ (sym (either L w (λ h. holds h q table) y q) ∙ level_same L (λ h. holds h q table) (λ h. member_in n L h q) q y (λ x e. k x q)))

abbrev pub plus : ℕ → ℕ → ℕ
plus zero n = n
plus (suc m) n = suc (plus m n)

pub plus_is : (m n : ℕ) → plus m n ≡ m + n
plus_is zero n = omega arith
plus_is (suc m) n = let r = plus_is m n in omega (arith, r)

pub deeper_same : (L : Live) (n : ℕ) → ((y q : ℕ) → member_in (suc n) L y q ≡ member_in n L y q) → (m y q : ℕ) → member_in (plus m n) L y q ≡ member_in n L y q
deeper_same L n h zero y q = refl
deeper_same L n h (suc m) y q = level_same L (λ x. member_in (plus m n) L x q) (λ x. member_in n L x q) q y (λ x e. deeper_same L n h m x q) ∙ h y q

-- a round that changes nothing was the last
pub settled : (L : Live) (n r : ℕ) (table next : List (ℕ × ℕ)) → ((y q : ℕ) → holds y q table ≡ member_in n L y q) → ((y q : ℕ) → holds y q next ≡ member_in (n + 1) L y q) → next ≡ table → r ≡ length L.rows + length L.composites + 1 → n < r → (y q : ℕ) → holds y q next ≡ member L y q
unfolding member
settled L n r table next k h e i l y q =
    let same : (y q : ℕ) → member_in (suc n) L y q ≡ member_in n L y q = λ y q. sym (rw add-one at (h y q)) ∙ (ap (holds y q) e ∙ k y q) in
    let depth : plus (suc (entries L) - n) n ≡ suc (entries L) = plus_is (suc (entries L) - n) n ∙ (let j : (suc (entries L) - n) + n ≡ suc (entries L) = omega (arith, i, l) in j) in
    ap (holds y q) e ∙ (k y q ∙ (sym (deeper_same L n same (suc (entries L) - n) y q) ∙ ap (λ d. member_in d L y q) depth))

pub all_rounds : (L : Live) (n r : ℕ) (table : List (ℕ × ℕ)) → ((y q : ℕ) → holds y q table ≡ member_in n L y q) → r ≡ length L.rows + length L.composites + 1 → r ≤ n → n ≤ r → (y q : ℕ) → holds y q table ≡ member L y q
unfolding member
all_rounds L n r table k i l m y q = k y q ∙ ap (λ d. member_in d L y q) (let j : n ≡ suc (entries L) = omega (arith, i, l, m) in j)

-- ---- what begins and ends, by two tables
pub tables_began : (L N : Live) (old new out : List (ℕ × ℕ)) → ((y q : ℕ) → holds y q old ≡ member L y q) → ((y q : ℕ) → holds y q new ≡ member N y q) → out ≡ filter (λ (q : ℕ × ℕ). not (holds q.0 q.1 old)) new → IsStrictlySortedBy pair_cmp out → out ≡ began L N
tables_began L N old new out h k e s = began_is L N out s (λ y q. ap (holds y q) e ∙ (holds_filter (λ (q : ℕ × ℕ). not (holds q.0 q.1 old)) y q new ∙ rw (h y q, k y q) (turned (member L y q) (member N y q))))
  where
    turned : (a b : Bool) → (not a && b) ≡ (b && not a)
    turned true true = refl
    turned true false = refl
    turned false true = refl
    turned false false = refl

pub tables_ended : (L N : Live) (old new out : List (ℕ × ℕ)) → ((y q : ℕ) → holds y q old ≡ member L y q) → ((y q : ℕ) → holds y q new ≡ member N y q) → out ≡ filter (λ (q : ℕ × ℕ). not (holds q.0 q.1 new)) old → IsStrictlySortedBy pair_cmp out → out ≡ ended L N
tables_ended L N old new out h k e s = ended_is L N out s (λ y q. ap (holds y q) e ∙ (holds_filter (λ (q : ℕ × ℕ). not (holds q.0 q.1 new)) y q old ∙ rw (h y q, k y q) (turned (member N y q) (member L y q))))
  where
    turned : (a b : Bool) → (not a && b) ≡ (b && not a)
    turned true true = refl
    turned true false = refl
    turned false true = refl
    turned false false = refl
