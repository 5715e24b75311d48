-- A date that comes: what it changes in the live data, and that these changes suit.
use Rattle.std.proofs.Common.{◌≡◌, ◌≤◌, ◌<◌, ◌==◌, ◌&&◌, ◌||◌, ℕ, List, [], ◌∷◌, Bool, true, false, not, Option, Some, None, map, filter, refl, sym, ◌∙◌, ap, subst, inl, inr, ◌⊎◌, arith, nat_le, nat_lt}
use Rattle.std.specs.Prelude.{IfSome, min}
use Rattle.std.proofs.lemmas.Bool.{cases_Bool, or_cases, or_parts, or_from, or_left, or_right, and_parts, eqb-true, eqb-false, ne_eqb, le-leb, leb-true, leb-false, lt-leb, ltb-true}
use Rattle.std.proofs.lemmas.Bool.Decides.{nat_tests}
use Rattle.std.proofs.lemmas.Grind.{common_steps}
use Rattle.std.proofs.lemmas.List.Folds.{list_any-append}
use Rattle.std.specs.List.{list_any, AllByRecursion}
use Rattle.std.specs.List.Sorted.{IsStrictlySortedBy, IsPermutation}
use Rattle.reg_terms.specs.declared.kinds.Member.{Member}
use Rattle.reg_terms.specs.declared.kinds.Member.TheVariants.{Group}
use Rattle.reg_terms.specs.declared.rows.MemberRow.{MemberRow}
use Rattle.reg_terms.specs.Rows as terms
use Rattle.reg_terms.specs.Rows.{is_composite}
use Rattle.reg_facts.specs.Lists.{Lists}
use Rattle.reg_facts.specs.Sound.{AreRowsOnce, IsSound}
use Rattle.reg_graph.specs.Edges.{has_edge, IsAcyclic}
use Rattle.reg_effect.specs.declared.live.Live.{Live}
use Rattle.reg_effect.specs.Order.{row_cmp, has_live_row}
use Rattle.reg_effect.specs.Edges.{edges, row_edges, factor_edges}
use Rattle.reg_effect.specs.Changes.{changed_by, all_off, all_on, rows_where, rows_on, SuitAll}
use Rattle.reg_effect.specs.Standing.{pair_of, standing}
use Rattle.reg_effect.proofs.Edits.{row_is}
use Rattle.reg_effect.proofs.Graphs.{acyclic_fewer}
use Rattle.reg_effect.proofs.LiveOf.{empty_sorted, where_sorted, where_has, one_rows}
use Rattle.reg_effect.proofs.LiveLaws.{live_rows, composites_same}
use Rattle.reg_effect.proofs.Standing.{acyclic_permuted, edge_stands, edge_row, row_of_facts, live_acyclic}
use Rattle.reg_current.specs.Dates.{begins_at, ends_at, without_ended, ending, beginning, date_changes}
use Rattle.reg_current.specs.Invariant.{IsOpen}
use Rattle.reg_current.specs.Live.{live}
use Rattle.reg_current.proofs.Due.{IsStill}
use Rattle.reg_current.proofs.ChangesJoined.{changed_by_append, suit_append}
use Rattle.reg_current.proofs.RowsInTurn.{taken, put, changed_all_off, changed_all_on, all_taken_sorted, all_put_sorted, all_taken_has, all_put_has, suit_all_off, suit_all_on}

each : {X : Type 0} (P Q : X → Type 0) → ((x : X) → P x → Q x) → (xs : List X) → AllByRecursion P xs → AllByRecursion Q xs
each P Q h [] a = tt
each P Q h (x ∷ xs) a = (h x a.0, each P Q h xs a.1)

both : {X : Type 0} (P Q R : X → Type 0) → ((x : X) → P x → Q x → R x) → (xs : List X) → AllByRecursion P xs → AllByRecursion Q xs → AllByRecursion R xs
both P Q R h [] a b = tt
both P Q R h (x ∷ xs) a b = (h x a.0 b.0, both P Q R h xs a.1 b.1)

-- ---- one row at the date
-- what a row is before the date and at it
record Turns (a d : ℕ) (row : MemberRow) : Type 0 where
  ended : ends_at d row ≡ true → nat_le row.from a ≡ true
  begun : begins_at d row ≡ true → nat_le row.from a ≡ false
  is_on : (not (ends_at d row) && nat_le row.from d) ≡ (begins_at d row || (not (ends_at d row) && nat_le row.from a))

ends_later : (a d from : ℕ) (until : Option ℕ) → IfSome until (λ u. (a < u) × (from < u)) → elim until [ None ↦ false | Some u ↦ u == d ] ≡ true → from < d
ends_later a d from None o h = cc
ends_later a d from (Some u) o h = let l = o.1 in let e = eqb-true u d h in omega arith

on_at : (x a d : ℕ) → a < d → (x ≤ a) ⊎ (d ≤ x) → nat_le x d ≡ ((x == d) || nat_le x a)
on_at x a d l (inl h) = le-leb x d (let k : x ≤ d = omega arith in k) ∙ sym (or_right (x == d) (nat_le x a) (le-leb x a h))
on_at x a d l (inr h) = elim (cases_Bool (x == d)) [
  | inl t ↦ let e = eqb-true x d t in rw t (le-leb x d (let k : x ≤ d = omega arith in k))
  | inr f ↦ let n = eqb-false x d f in rw f (lt-leb x d (let k : d < x = omega arith in k) ∙ sym (lt-leb x a (let k : a < x = omega arith in k)))
]

turns : (a d : ℕ) (row : MemberRow) → a < d → (row.from ≤ a) ⊎ (d ≤ row.from) → IsOpen a row → Turns a d row
turns a d row l p o = record { ended = ended; begun = begun; is_on = is_on }
  where
    ended : ends_at d row ≡ true → nat_le row.from a ≡ true
    ended e = let k = ends_later a d row.from row.until o e in le-leb row.from a (before p k)
      where
        before : (row.from ≤ a) ⊎ (d ≤ row.from) → row.from < d → row.from ≤ a
        before (inl h) k = h
        before (inr h) k = absurd (omega arith)

    begun : begins_at d row ≡ true → nat_le row.from a ≡ false
    begun e = let k = eqb-true row.from d e in lt-leb row.from a (let h : a < row.from = omega arith in h)

    is_on : (not (ends_at d row) && nat_le row.from d) ≡ (begins_at d row || (not (ends_at d row) && nat_le row.from a))
    is_on = elim (cases_Bool (ends_at d row)) [
      | inl e ↦ let k = ends_later a d row.from row.until o e in let n : (row.from == d) ≡ false = ne_eqb row.from d (λ s. absurd (omega arith)) in rw (e, n) refl
      | inr f ↦ rw f (on_at row.from a d l p)
    ]

-- ---- rows of which each stands once: what tests find of one group's member
abbrev finds : (MemberRow → Bool) → ℕ → Member → List MemberRow → Bool
finds test g m rows = list_any (λ (row : MemberRow). test row && terms.is_row g m row) rows

none : (b : Bool) → (b && false) ≡ false
none true = refl
none false = refl

whole : (b : Bool) → (b && true) ≡ b
whole true = refl
whole false = refl

alone : (b : Bool) → (b || false) ≡ b
alone true = refl
alone false = refl

finds_none : (test : MemberRow → Bool) (g : ℕ) (m : Member) (rows : List MemberRow) → terms.has_row g m rows ≡ false → finds test g m rows ≡ false
finds_none test g m [] h = refl
finds_none test g m (r ∷ rs) h =
    let parts = or_parts (terms.is_row g m r) (terms.has_row g m rs) h in
    or_from (test r && terms.is_row g m r) (finds test g m rs) (ap (λ b. test r && b) parts.0 ∙ none (test r)) (finds_none test g m rs parts.1)

-- where the row is first, no other is found
finds_first : (test : MemberRow → Bool) (g : ℕ) (m : Member) (r : MemberRow) (rs : List MemberRow) → terms.is_row g m r ≡ true → terms.has_row r.group r.member rs ≡ false → finds test g m (r ∷ rs) ≡ test r
finds_first test g m r rs t o =
    let w = row_is g m r.group r.member t in
    let others : finds test g m rs ≡ false = finds_none test g m rs (rw (w.0, w.1) at o) in
    ap (λ b. (test r && b) || finds test g m rs) t ∙ (ap (λ b. (test r && true) || b) others ∙ (alone (test r && true) ∙ whole (test r)))

finds_later : (test : MemberRow → Bool) (g : ℕ) (m : Member) (r : MemberRow) (rs : List MemberRow) → terms.is_row g m r ≡ false → finds test g m (r ∷ rs) ≡ finds test g m rs
finds_later test g m r rs f = ap (λ b. (test r && b) || finds test g m rs) f ∙ ap (λ b. b || finds test g m rs) (none (test r))

-- what holds of the tests of each row holds of what they find
finds_each : (Q : Bool → Bool → Bool → Bool → Type 0) (p q s t : MemberRow → Bool) (g : ℕ) (m : Member) → Q false false false false → (rows : List MemberRow) → AreRowsOnce rows → AllByRecursion (λ (row : MemberRow). Q (p row) (q row) (s row) (t row)) rows → Q (finds p g m rows) (finds q g m rows) (finds s g m rows) (finds t g m rows)
finds_each Q p q s t g m z [] o a = z
finds_each Q p q s t g m z (r ∷ rs) o a = elim (cases_Bool (terms.is_row g m r)) [
  | inl y ↦ at_once (finds p g m (r ∷ rs)) (finds q g m (r ∷ rs)) (finds s g m (r ∷ rs)) (finds t g m (r ∷ rs)) (p r) (q r) (s r) (t r) (finds_first p g m r rs y o.0) (finds_first q g m r rs y o.0) (finds_first s g m r rs y o.0) (finds_first t g m r rs y o.0) a.0
  | inr n ↦ at_once (finds p g m (r ∷ rs)) (finds q g m (r ∷ rs)) (finds s g m (r ∷ rs)) (finds t g m (r ∷ rs)) (finds p g m rs) (finds q g m rs) (finds s g m rs) (finds t g m rs) (finds_later p g m r rs n) (finds_later q g m r rs n) (finds_later s g m r rs n) (finds_later t g m r rs n) (finds_each Q p q s t g m z rs o.1 a.1)
]
  where
    at_once : (a b c d w x y z : Bool) → a ≡ w → b ≡ x → c ≡ y → d ≡ z → Q w x y z → Q a b c d
    at_once a b c d w x y z e f g h k = rw (e, f, g, h) k

finds_kept : (keep test : MemberRow → Bool) (g : ℕ) (m : Member) (rows : List MemberRow) → finds test g m (filter keep rows) ≡ finds (λ (row : MemberRow). keep row && test row) g m rows
finds_kept keep test g m [] = refl
finds_kept keep test g m (r ∷ rs) = elim (cases_Bool (keep r)) [
  | inl t ↦ rw t (ap (λ b. (test r && terms.is_row g m r) || b) (finds_kept keep test g m rs))
  | inr f ↦ rw f (finds_kept keep test g m rs)
]

finds_where : (test : MemberRow → Bool) (g : ℕ) (m : Member) (rows : List MemberRow) → has_live_row g m (rows_where test rows []) ≡ finds test g m rows
finds_where test g m rows = where_has test g m rows [] ∙ alone (finds test g m rows)

-- ---- the rows that end or begin at a date
pub ending_sorted : (d : ℕ) (rows : List MemberRow) → IsStrictlySortedBy row_cmp (ending d rows)
ending_sorted d rows = where_sorted (ends_at d) rows [] (empty_sorted row_cmp)

pub ending_has : (d g : ℕ) (m : Member) (rows : List MemberRow) → has_live_row g m (ending d rows) ≡ list_any (λ (row : MemberRow). ends_at d row && terms.is_row g m row) rows
ending_has d g m rows = finds_where (ends_at d) g m rows

pub beginning_sorted : (d : ℕ) (rows : List MemberRow) → IsStrictlySortedBy row_cmp (beginning d rows)
beginning_sorted d rows = where_sorted (begins_at d) rows [] (empty_sorted row_cmp)

pub beginning_has : (d g : ℕ) (m : Member) (rows : List MemberRow) → has_live_row g m (beginning d rows) ≡ list_any (λ (row : MemberRow). begins_at d row && terms.is_row g m row) rows
beginning_has d g m rows = finds_where (begins_at d) g m rows

pub where_none : (test : MemberRow → Bool) (rows : List MemberRow) → list_any test rows ≡ false → rows_where test rows [] ≡ []
where_none test [] h = refl
where_none test (r ∷ rs) h = let parts = or_parts (test r) (list_any test rs) h in rw parts.0 (where_none test rs parts.1)

-- ---- the date that comes, between which and the moment no row begins or ends
module _ (a d : ℕ) (f : Lists) (later : a < d) (still : AllByRecursion (IsStill a d) f.rows) (ends : AllByRecursion (IsOpen a) f.rows) (sound : IsSound f) where
  each_turns : AllByRecursion (Turns a d) f.rows
  each_turns = both (IsStill a d) (IsOpen a) (Turns a d) (λ row s o. turns a d row later s.begins o) f.rows still ends

  -- whether a row was on before
  abbrev was_on : MemberRow → Bool
  was_on row = nat_le row.from a

  -- whether it stands after
  abbrev stays : MemberRow → Bool
  stays row = not (ends_at d row)

  -- whether it is on after
  abbrev comes_on : MemberRow → Bool
  comes_on row = stays row && nat_le row.from d

  abbrev old_rows : List (ℕ × Member)
  old_rows = rows_on a f.rows []

  abbrev gone : List (ℕ × Member)
  gone = ending d f.rows

  abbrev new : List (ℕ × Member)
  new = beginning d f.rows

  old_sorted : IsStrictlySortedBy row_cmp old_rows
  old_sorted = where_sorted was_on f.rows [] (empty_sorted row_cmp)

  after_gone_has : (g : ℕ) (m : Member) → has_live_row g m (taken gone old_rows) ≡ (not (finds (ends_at d) g m f.rows) && finds was_on g m f.rows)
  after_gone_has g m = all_taken_has g m gone old_rows old_sorted ∙ (ap (λ c. not c && has_live_row g m old_rows) (ending_has d g m f.rows) ∙ ap (λ c. not (finds (ends_at d) g m f.rows) && c) (finds_where was_on g m f.rows))

  on_after : (g : ℕ) (m : Member) → finds comes_on g m f.rows ≡ (finds (begins_at d) g m f.rows || (not (finds (ends_at d) g m f.rows) && finds was_on g m f.rows))
  on_after g m = finds_each (λ x y z w. x ≡ (y || (not z && w))) comes_on (begins_at d) (ends_at d) was_on g m refl f.rows sound.rows_once (each (Turns a d) (λ (row : MemberRow). comes_on row ≡ (begins_at d row || (not (ends_at d row) && was_on row))) (λ row t. t.is_on) f.rows each_turns)

  rows_lived : rows_on d (filter stays f.rows) [] ≡ put new (taken gone old_rows)
  rows_lived =
      one_rows (rows_on d (filter stays f.rows) []) (put new (taken gone old_rows))
      (where_sorted (λ (row : MemberRow). nat_le row.from d) (filter stays f.rows) [] (empty_sorted row_cmp))
      (all_put_sorted new (taken gone old_rows) (all_taken_sorted gone old_rows old_sorted))
      (λ g m. finds_where (λ (row : MemberRow). nat_le row.from d) g m (filter stays f.rows)
      ∙ (finds_kept stays (λ (row : MemberRow). nat_le row.from d) g m f.rows
      ∙ (on_after g m
      ∙ sym (all_put_has g m new (taken gone old_rows)
      ∙ (ap (λ c. c || has_live_row g m (taken gone old_rows)) (beginning_has d g m f.rows)
      ∙ ap (λ c. finds (begins_at d) g m f.rows || c) (after_gone_has g m))))))

  changed_gone : changed_by (all_off gone) (live a f) ≡ record (live a f) { rows = taken gone old_rows }
  changed_gone = changed_all_off gone (live a f)

  changed_lived : changed_by (date_changes d f) (live a f) ≡ record (live a f) { rows = put new (taken gone old_rows) }
  changed_lived =
      changed_by_append (all_off gone) (all_on new) (live a f)
      ∙ (ap (λ (L : Live). changed_by (all_on new) L) changed_gone
      ∙ changed_all_on new (record (live a f) { rows = taken gone old_rows }))

  -- rows that end go, and rows that begin come on
  pub date_lived : live d (without_ended d f) ≡ changed_by (date_changes d f) (live a f)
  date_lived = live_rows (live a f) (rows_on d (filter stays f.rows) []) (put new (taken gone old_rows)) rows_lived ∙ sym changed_lived

  -- ---- the changes suit
  gone_was_on : (g : ℕ) (m : Member) → has_live_row g m gone ≡ true → has_live_row g m old_rows ≡ true
  gone_was_on g m h =
      finds_where was_on g m f.rows
      ∙ finds_each (λ x y z w. x ≡ true → y ≡ true) (ends_at d) was_on was_on was_on g m (λ e. e) f.rows sound.rows_once (each (Turns a d) (λ (row : MemberRow). ends_at d row ≡ true → was_on row ≡ true) (λ row t. t.ended) f.rows each_turns) (sym (ending_has d g m f.rows) ∙ h)

  new_was_off : (g : ℕ) (m : Member) → has_live_row g m new ≡ true → has_live_row g m (taken gone old_rows) ≡ false
  new_was_off g m h =
      let off : finds was_on g m f.rows ≡ false = finds_each (λ x y z w. x ≡ true → y ≡ false) (begins_at d) was_on was_on was_on g m (λ e. refl) f.rows sound.rows_once (each (Turns a d) (λ (row : MemberRow). begins_at d row ≡ true → was_on row ≡ false) (λ row t. t.begun) f.rows each_turns) (sym (beginning_has d g m f.rows) ∙ h) in
      after_gone_has g m ∙ (ap (λ c. not (finds (ends_at d) g m f.rows) && c) off ∙ none (not (finds (ends_at d) g m f.rows)))

  plain : (test : MemberRow → Bool) (g : ℕ) (m : Member) (rows : List MemberRow) → AllByRecursion (λ (row : MemberRow). is_composite row.group f.composites ≡ false) rows → finds test g m rows ≡ true → is_composite g f.composites ≡ false
  plain test g m [] p h = cc
  plain test g m (r ∷ rs) p h = elim (or_cases (test r && terms.is_row g m r) (finds test g m rs) h) [
    | inl t ↦ let w = row_is g m r.group r.member (and_parts (test r) (terms.is_row g m r) t).1 in ap (λ x. is_composite x f.composites) (sym w.0) ∙ p.0
    | inr u ↦ plain test g m rs p.1 u
  ]

  new_is_plain : (g : ℕ) (m : Member) → has_live_row g m new ≡ true → is_composite g (live a f).composites ≡ false
  new_is_plain g m h = composites_same g f.composites ∙ plain (begins_at d) g m f.rows sound.rowless (sym (beginning_has d g m f.rows) ∙ h)

  -- an edge that stands after stood before
  stood : (x y : ℕ) → has_edge (standing (filter stays f.rows) f.composites) x y ≡ true → has_edge (standing f.rows f.composites) x y ≡ true
  unfolding standing
  stood x y h =
      list_any-append (λ (e : ℕ × ℕ). (e.0 == x) && (e.1 == y)) (row_edges (map pair_of f.rows)) (factor_edges f.composites)
      ∙ elim (or_cases (has_edge (row_edges (map pair_of (filter stays f.rows))) x y) (has_edge (factor_edges f.composites) x y) (sym (list_any-append (λ (e : ℕ × ℕ). (e.0 == x) && (e.1 == y)) (row_edges (map pair_of (filter stays f.rows))) (factor_edges f.composites)) ∙ h)) [
        | inl r ↦ or_left (has_edge (row_edges (map pair_of f.rows)) x y) (has_edge (factor_edges f.composites) x y) (edge_row x y (map pair_of f.rows) ∙ (row_of_facts x (Group y) f.rows ∙ of_kept (terms.is_row x (Group y)) stays f.rows (sym (row_of_facts x (Group y) (filter stays f.rows)) ∙ (sym (edge_row x y (map pair_of (filter stays f.rows))) ∙ r))))
        | inr c ↦ or_right (has_edge (row_edges (map pair_of f.rows)) x y) (has_edge (factor_edges f.composites) x y) c
      ]
    where
      of_kept : (test keep : MemberRow → Bool) (rows : List MemberRow) → list_any test (filter keep rows) ≡ true → list_any test rows ≡ true
      of_kept test keep [] h = h
      of_kept test keep (r ∷ rs) h = elim (cases_Bool (keep r)) [
        | inl t ↦ elim (or_cases (test r) (list_any test (filter keep rs)) (rw t at h)) [
          | inl here ↦ or_left (test r) (list_any test rs) here
          | inr later ↦ or_right (test r) (list_any test rs) (of_kept test keep rs later)
        ]
        | inr n ↦ or_right (test r) (list_any test rs) (of_kept test keep rs (rw n at h))
      ]

  module _ (graph : List (ℕ × ℕ)) (stands : IsPermutation graph (standing f.rows f.composites)) (no_circle : IsAcyclic graph) where
    old_acyclic : IsAcyclic (edges (live a f))
    old_acyclic = live_acyclic a f.rows f.composites graph stands no_circle

    new_acyclic : IsAcyclic (edges (live d (without_ended d f)))
    new_acyclic =
        acyclic_fewer (standing f.rows f.composites) (edges (live d (without_ended d f))) (acyclic_permuted graph (standing f.rows f.composites) stands no_circle)
        (λ x y h. stood x y (edge_stands d (filter stays f.rows) f.composites x y h))

    last_acyclic : IsAcyclic (edges (changed_by (all_on new) (record (live a f) { rows = taken gone old_rows })))
    last_acyclic = subst (λ (L : Live). IsAcyclic (edges L)) (date_lived ∙ (changed_lived ∙ sym (changed_all_on new (record (live a f) { rows = taken gone old_rows })))) new_acyclic

    new_suit : SuitAll (all_on new) (record (live a f) { rows = taken gone old_rows })
    new_suit = suit_all_on new (record (live a f) { rows = taken gone old_rows }) (beginning_sorted d f.rows) (λ g m h. (new_was_off g m h, new_is_plain g m h)) last_acyclic

    -- rows that end are on, and rows that begin are not, each when its turn comes; and no circle is closed
    pub date_suits : SuitAll (date_changes d f) (live a f)
    date_suits =
        suit_append (all_off gone) (all_on new) (live a f)
        (suit_all_off gone (live a f) (ending_sorted d f.rows) old_sorted gone_was_on old_acyclic)
        (subst (λ (L : Live). SuitAll (all_on new) L) (sym changed_gone) new_suit)
