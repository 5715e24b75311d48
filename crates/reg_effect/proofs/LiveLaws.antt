-- The live data at a moment after one row or composite of the facts more or less.
use Rattle.std.proofs.Common.{◌≡◌, ◌<◌, ◌+◌, ◌==◌, ◌||◌, ℕ, List, [], ◌∷◌, ◌++◌, Bool, true, false, not, cond, filter, Option, Some, None, length, take, get_or, arith, refl, sym, ◌∙◌, ap, inl, inr, nat_le}
use Rattle.std.proofs.lemmas.Bool.{cases_Bool, both_ways, false_from_ne_true, or_cases, or_left, or_right, or_parts, or_from, eqb-true}
use Rattle.std.proofs.lemmas.Bool.Decides.{nat_tests}
use Rattle.std.proofs.lemmas.Grind.{common_steps}
use Rattle.std.proofs.lemmas.List.{take_more}
use Rattle.std.specs.List.{list_any, find, AllByRecursion}
use Rattle.std.specs.List.Sorted.{IsStrictlySortedBy}
use Rattle.std.specs.BTreeSet.{insert_key}
use Rattle.std.specs.Set.{remove_key}
use Rattle.std.specs.Cmp.{IsTotalOrder, nat_cmp_total, on_total}
use Rattle.std.specs.Ordering.{match_ordering, ordering_reverse, nat_cmp, is_eq, is_le}
use Rattle.std.specs.declared.cmp.Ordering.{Ordering}
use Rattle.std.specs.declared.cmp.Ordering.TheVariants.{Less, Equal, Greater}
use Rattle.reg_terms.specs.declared.kinds.Member.{Member}
use Rattle.reg_terms.specs.declared.rows.MemberRow.{MemberRow}
use Rattle.reg_terms.specs.declared.rows.CompositeRow.{CompositeRow}
use Rattle.reg_terms.specs.declared.kinds.SetOp.{SetOp}
use Rattle.reg_terms.specs.Rows as terms
use Rattle.reg_effect.specs.declared.live.Live.{Live}
use Rattle.reg_effect.specs.declared.live.Change.TheVariants.{RowOn, RowOff, FactorsOn, FactorsOff}
use Rattle.reg_terms.specs.Rows.{is_composite}
use Rattle.reg_effect.specs.Order.{row_cmp, composite_cmp, is_live_row, has_live_row}
use Rattle.reg_effect.specs.Changes.{rows_on, composites_in, live_of, changed}
use Rattle.reg_effect.proofs.Edits.{composite_added, composite_absent, group_same}
use Rattle.reg_effect.proofs.Places.{at_number}
use Rattle.reg_effect.proofs.LiveOf.{put_sorted, all_later, empty_sorted, rows_on_more, rows_on_less}

-- ---- a row more
-- a row that is on comes
pub row_on_more : (at from g : ℕ) (m : Member) (until : Option ℕ) (rows : List MemberRow) → nat_le from at ≡ true → rows_on at (rows ++ (record { group = g; member = m; from = from; until = until }) ∷ []) [] ≡ insert_key row_cmp (rows_on at rows []) (g, m)
row_on_more at from g m until rows h = rows_on_more at rows (record { group = g; member = m; from = from; until = until }) [] ∙ rw h refl

-- a row that isn't on yet changes nothing
pub row_later_more : (at from g : ℕ) (m : Member) (until : Option ℕ) (rows : List MemberRow) → nat_le from at ≡ false → rows_on at (rows ++ (record { group = g; member = m; from = from; until = until }) ∷ []) [] ≡ rows_on at rows []
row_later_more at from g m until rows h = rows_on_more at rows (record { group = g; member = m; from = from; until = until }) [] ∙ rw h refl

pub live_rows : (L : Live) (rs qs : List (ℕ × Member)) → rs ≡ qs → record L { rows = rs } ≡ record L { rows = qs }
live_rows L rs qs e = let f : List (ℕ × Member) → Live = λ xs. record L { rows = xs } in ap f e

pub live_composites : (L : Live) (cs ds : List CompositeRow) → cs ≡ ds → record L { composites = cs } ≡ record L { composites = ds }
live_composites L cs ds e = let f : List CompositeRow → Live = λ xs. record L { composites = xs } in ap f e

-- the live data after a row that is on
pub live_row_more : (at from g : ℕ) (m : Member) (until : Option ℕ) (rows : List MemberRow) (cs : List CompositeRow) → nat_le from at ≡ true → live_of at (rows ++ (record { group = g; member = m; from = from; until = until }) ∷ []) cs ≡ changed (RowOn g m) (live_of at rows cs)
live_row_more at from g m until rows cs h = live_rows (live_of at rows cs) _ _ (row_on_more at from g m until rows h)

pub live_row_later : (at from g : ℕ) (m : Member) (until : Option ℕ) (rows : List MemberRow) (cs : List CompositeRow) → nat_le from at ≡ false → live_of at (rows ++ (record { group = g; member = m; from = from; until = until }) ∷ []) cs ≡ live_of at rows cs
live_row_later at from g m until rows cs h = live_rows (live_of at rows cs) _ _ (row_later_more at from g m until rows h)

-- ---- a row less
pub row_on_less : (at g : ℕ) (m : Member) (rows : List MemberRow) → rows_on at (filter (λ (row : MemberRow). not (terms.is_row g m row)) rows) [] ≡ remove_key (is_live_row g m) (rows_on at rows [])
row_on_less at g m rows = rows_on_less at g m rows

pub live_row_less : (at g : ℕ) (m : Member) (rows : List MemberRow) (cs : List CompositeRow) → live_of at (filter (λ (row : MemberRow). not (terms.is_row g m row)) rows) cs ≡ changed (RowOff g m) (live_of at rows cs)
live_row_less at g m rows cs = live_rows (live_of at rows cs) _ _ (row_on_less at g m rows)

pub none_taken : {X : Type 0} (t : X → Bool) (xs : List X) → list_any t xs ≡ false → remove_key t xs ≡ xs
none_taken t [] h = refl
none_taken t (x ∷ xs) h = elim (cases_Bool (t x)) [
  | inl y ↦ let w : true ≡ false = rw y at h in cc
  | inr n ↦ rw n (ap (λ ys. x ∷ ys) (none_taken t xs (rw n at h)))
]

-- a row that isn't on goes without a trace
pub row_later_less : (at g : ℕ) (m : Member) (rows : List MemberRow) → has_live_row g m (rows_on at rows []) ≡ false → rows_on at (filter (λ (row : MemberRow). not (terms.is_row g m row)) rows) [] ≡ rows_on at rows []
row_later_less at g m rows h = row_on_less at g m rows ∙ none_taken (is_live_row g m) (rows_on at rows []) h

-- ---- the rows of a group less
-- ---- a composite more
pub composites_in_more : (cs : List CompositeRow) (c : CompositeRow) (acc : List CompositeRow) → composites_in (cs ++ c ∷ []) acc ≡ insert_key composite_cmp (composites_in cs acc) c
composites_in_more [] c acc = refl
composites_in_more (d ∷ ds) c acc = composites_in_more ds c (insert_key composite_cmp acc d)

pub live_factors_more : (at g : ℕ) (op : SetOp) (left right : ℕ) (rows : List MemberRow) (cs : List CompositeRow) → live_of at rows (cs ++ (record { group = g; op = op; left = left; right = right }) ∷ []) ≡ changed (FactorsOn g op left right) (live_of at rows cs)
live_factors_more at g op left right rows cs = live_composites (live_of at rows cs) _ _ (composites_in_more cs (record { group = g; op = op; left = left; right = right }) [])

-- ---- as loops over the lists come to one row or composite more
pub le_cmp : (a b : ℕ) → is_le (nat_cmp a b) ≡ nat_le a b
le_cmp a b = grind (arith, nat_tests, common_steps)

pub rows_on_step : (at i : ℕ) (rows : List MemberRow) (r : MemberRow) → i < length rows → r ≡ get_or rows i r → rows_on at (take (i + 1) rows) [] ≡ cond (nat_le r.from at) (insert_key row_cmp (rows_on at (take i rows) []) (r.group, r.member)) (rows_on at (take i rows) [])
rows_on_step at i rows r l e = ap (λ xs. rows_on at xs []) (take_more rows i r l ∙ ap (λ x. take i rows ++ x ∷ []) (sym e)) ∙ rows_on_more at (take i rows) r []

pub rows_on_comes : (at i : ℕ) (rows : List MemberRow) (r : MemberRow) → i < length rows → r ≡ get_or rows i r → true ≡ is_le (nat_cmp r.from at) → insert_key row_cmp (rows_on at (take i rows) []) (r.group, r.member) ≡ rows_on at (take (i + 1) rows) []
rows_on_comes at i rows r l e t = let is_on : nat_le r.from at ≡ true = sym (t ∙ le_cmp r.from at) in sym (rows_on_step at i rows r l e ∙ rw is_on refl)

pub rows_on_waits : (at i : ℕ) (rows : List MemberRow) (r : MemberRow) → i < length rows → r ≡ get_or rows i r → false ≡ is_le (nat_cmp r.from at) → rows_on at (take i rows) [] ≡ rows_on at (take (i + 1) rows) []
rows_on_waits at i rows r l e t = let is_off : nat_le r.from at ≡ false = sym (t ∙ le_cmp r.from at) in sym (rows_on_step at i rows r l e ∙ rw is_off refl)

pub composites_in_step : (i : ℕ) (cs : List CompositeRow) (c : CompositeRow) (kept : List CompositeRow) → i < length cs → c ≡ get_or cs i c → kept ≡ insert_key composite_cmp (composites_in (take i cs) []) c → kept ≡ composites_in (take (i + 1) cs) []
composites_in_step i cs c kept l e h = h ∙ sym (ap (λ xs. composites_in xs []) (take_more cs i c l ∙ ap (λ x. take i cs ++ x ∷ []) (sym e)) ∙ composites_in_more (take i cs) c [])

-- ---- a composite less
pub composite_cmp_total : IsTotalOrder composite_cmp
composite_cmp_total = on_total (λ (c : CompositeRow). c.group) nat_cmp_total

pub composites_in_sorted : (cs acc : List CompositeRow) → IsStrictlySortedBy composite_cmp acc → IsStrictlySortedBy composite_cmp (composites_in cs acc)
composites_in_sorted [] acc s = s
composites_in_sorted (c ∷ cs) acc s = composites_in_sorted cs (insert_key composite_cmp acc c) (put_sorted composite_cmp composite_cmp_total c acc s)

module _ {X : Type 0} (R : X → X → Ordering) (o : IsTotalOrder R) (t : X → Bool) where
  pub put_first : (x : X) (ys : List X) → AllByRecursion (λ z. R x z ≡ Less) ys → insert_key R ys x ≡ x ∷ ys
  put_first x [] a = refl
  put_first x (y ∷ ys) a = rw a.0 refl

  pub none_later : ((x y : X) → t x ≡ true → R x y ≡ Less → t y ≡ false) → (x : X) → t x ≡ true → (ys : List X) → AllByRecursion (λ z. R x z ≡ Less) ys → list_any t ys ≡ false
  none_later one x h [] a = refl
  none_later one x h (y ∷ ys) a = rw (one x y h a.0) (none_later one x h ys a.1)

  -- what is put is taken again
  pub put_taken : ((x y : X) → t x ≡ true → R x y ≡ Less → t y ≡ false) → (x : X) (xs : List X) → t x ≡ true → IsStrictlySortedBy R xs → remove_key t (insert_key R xs x) ≡ remove_key t xs
  unfolding IsStrictlySortedBy
  put_taken one x [] h s = rw h refl
  put_taken one x (y ∷ ys) h s = go (put_taken one x ys h s.1) (R x y) refl
    where
      go : remove_key t (insert_key R ys x) ≡ remove_key t ys → (e : Ordering) → R x y ≡ e → remove_key t (match_ordering e (x ∷ y ∷ ys) (y ∷ ys) (y ∷ insert_key R ys x)) ≡ remove_key t (y ∷ ys)
      go r Less e = rw h (sym (none_taken t (y ∷ ys) (none_later one x h (y ∷ ys) (e, all_later R o x y ys e s.0))))
      go r Equal e = refl
      go r Greater e = elim (cases_Bool (t y)) [
        | inl z ↦ absurd (both_ways (t x) (one y x z (o.antisymm y x ∙ ap ordering_reverse e)) h)
        | inr n ↦ rw n (ap (λ zs. y ∷ zs) r)
      ]

  -- what is put stays when others are taken
  pub put_kept : ((x y : X) → R x y ≡ Equal → t y ≡ t x) → (x : X) (xs : List X) → t x ≡ false → IsStrictlySortedBy R xs → insert_key R (remove_key t xs) x ≡ remove_key t (insert_key R xs x)
  unfolding IsStrictlySortedBy
  put_kept same x [] h s = rw h refl
  put_kept same x (y ∷ ys) h s = go (put_kept same x ys h s.1) (R x y) refl
    where
      go : insert_key R (remove_key t ys) x ≡ remove_key t (insert_key R ys x) → (e : Ordering) → R x y ≡ e → insert_key R (remove_key t (y ∷ ys)) x ≡ remove_key t (match_ordering e (x ∷ y ∷ ys) (y ∷ ys) (y ∷ insert_key R ys x))
      go r Less e = rw h (elim (cases_Bool (t y)) [
        | inl z ↦ rw z (put_first x ys (all_later R o x y ys e s.0))
        | inr n ↦ rw (n, e) refl
      ])
      go r Equal e = let n : t y ≡ false = same x y e ∙ h in rw (n, e) refl
      go r Greater e = elim (cases_Bool (t y)) [
        | inl z ↦ rw z refl
        | inr n ↦ rw (n, e) (ap (λ zs. y ∷ zs) r)
      ]

module _ {X : Type 0} (R : X → X → Ordering) (o : IsTotalOrder R) where
  pub none_equal : (x : X) (ys : List X) → AllByRecursion (λ z. R x z ≡ Less) ys → list_any (λ y. is_eq (R x y)) ys ≡ false
  none_equal x [] a = refl
  none_equal x (y ∷ ys) a = or_from (is_eq (R x y)) (list_any (λ y. is_eq (R x y)) ys) (ap is_eq a.0) (none_equal x ys a.1)

  -- nothing is put where an equal one stands
  pub put_again : (x : X) (xs : List X) → IsStrictlySortedBy R xs → list_any (λ y. is_eq (R x y)) xs ≡ true → insert_key R xs x ≡ xs
  unfolding IsStrictlySortedBy
  put_again x [] s h = cc
  put_again x (y ∷ ys) s h = go (put_again x ys s.1) (R x y) refl
    where
      go : (list_any (λ y. is_eq (R x y)) ys ≡ true → insert_key R ys x ≡ ys) → (e : Ordering) → R x y ≡ e → match_ordering e (x ∷ y ∷ ys) (y ∷ ys) (y ∷ insert_key R ys x) ≡ y ∷ ys
      go r Less e = absurd (both_ways (list_any (λ y. is_eq (R x y)) (y ∷ ys)) (none_equal x (y ∷ ys) (e, all_later R o x y ys e s.0)) h)
      go r Equal e = refl
      go r Greater e = ap (λ zs. y ∷ zs) (r (rw e at h))

abbrev pub of_group : ℕ → CompositeRow → Bool
of_group g c = c.group == g

pub other_group : (g : ℕ) (c d : CompositeRow) → of_group g c ≡ true → composite_cmp c d ≡ Less → of_group g d ≡ false
other_group g c d h e = ap (λ x. d.group == x) (sym (eqb-true c.group g h)) ∙ (sym (at_number c.group d.group) ∙ ap is_eq e)

pub composites_in_without : (g : ℕ) (cs acc : List CompositeRow) → IsStrictlySortedBy composite_cmp acc → composites_in (filter (λ (c : CompositeRow). not (c.group == g)) cs) (remove_key (λ (c : CompositeRow). c.group == g) acc) ≡ remove_key (λ (c : CompositeRow). c.group == g) (composites_in cs acc)
composites_in_without g [] acc s = refl
composites_in_without g (c ∷ cs) acc s =
    let rest = composites_in_without g cs (insert_key composite_cmp acc c) (put_sorted composite_cmp composite_cmp_total c acc s) in
    elim (cases_Bool (c.group == g)) [
      | inl t ↦ rw t (ap (λ ds. composites_in (filter (λ (c : CompositeRow). not (c.group == g)) cs) ds) (sym (put_taken composite_cmp composite_cmp_total (of_group g) (other_group g) c acc t s)) ∙ rest)
      | inr f ↦ rw f (ap (λ ds. composites_in (filter (λ (c : CompositeRow). not (c.group == g)) cs) ds) (put_kept composite_cmp composite_cmp_total (of_group g) (λ c d e. ap (λ y. y == g) (eqb-true d.group c.group (group_same c d e))) c acc f s) ∙ rest)
    ]

pub composites_less : (g : ℕ) (cs : List CompositeRow) → composites_in (filter (λ (c : CompositeRow). not (c.group == g)) cs) [] ≡ remove_key (λ (c : CompositeRow). c.group == g) (composites_in cs [])
composites_less g cs = composites_in_without g cs [] (empty_sorted composite_cmp)

pub live_factors_less : (at g : ℕ) (rows : List MemberRow) (cs : List CompositeRow) → live_of at rows (filter (λ (c : CompositeRow). not (c.group == g)) cs) ≡ changed (FactorsOff g) (live_of at rows cs)
live_factors_less at g rows cs = live_composites (live_of at rows cs) _ _ (composites_less g cs)

-- a second composite of a group counts for nothing
pub composites_in_again : (cs : List CompositeRow) (c : CompositeRow) → is_composite c.group (composites_in cs []) ≡ true → composites_in (cs ++ c ∷ []) [] ≡ composites_in cs []
composites_in_again cs c h = composites_in_more cs c [] ∙ put_again composite_cmp composite_cmp_total c (composites_in cs []) (composites_in_sorted cs [] (empty_sorted composite_cmp)) (composite_absent c (composites_in cs []) ∙ h)

pub composites_in_stays : (i : ℕ) (cs : List CompositeRow) (c : CompositeRow) → i < length cs → c ≡ get_or cs i c → is_composite c.group (composites_in (take i cs) []) ≡ true → composites_in (take i cs) [] ≡ composites_in (take (i + 1) cs) []
composites_in_stays i cs c l e h = sym (ap (λ xs. composites_in xs []) (take_more cs i c l ∙ ap (λ x. take i cs ++ x ∷ []) (sym e)) ∙ composites_in_again (take i cs) c h)

pub composites_same_in : (g : ℕ) (cs acc : List CompositeRow) → is_composite g (composites_in cs acc) ≡ (is_composite g cs || is_composite g acc)
composites_same_in g [] acc = refl
composites_same_in g (c ∷ cs) acc = composites_same_in g cs (insert_key composite_cmp acc c) ∙ rw (composite_added g c acc) (turned (is_composite g cs) (c.group == g) (is_composite g acc))
  where
    turned : (a b c : Bool) → (a || (b || c)) ≡ ((b || a) || c)
    turned true true c = refl
    turned true false c = refl
    turned false true c = refl
    turned false false c = refl

-- a group is a composite in the live data exactly where it is one in the facts
pub composites_same : (g : ℕ) (cs : List CompositeRow) → is_composite g (composites_in cs []) ≡ is_composite g cs
composites_same g cs = composites_same_in g cs [] ∙ outside (is_composite g cs)
  where
    outside : (b : Bool) → (b || false) ≡ b
    outside true = refl
    outside false = refl

-- the one, or else the other
abbrev pub either : Option CompositeRow → Option CompositeRow → Option CompositeRow
either None b = b
either (Some a) b = Some a

pub found_none : (t : CompositeRow → Bool) (cs : List CompositeRow) → list_any t cs ≡ false → find t cs ≡ None
found_none t [] h = refl
found_none t (c ∷ cs) h = let parts = or_parts (t c) (list_any t cs) h in rw parts.0 (found_none t cs parts.1)

pub found_put : (g : ℕ) (c : CompositeRow) (cs : List CompositeRow) → IsStrictlySortedBy composite_cmp cs → find (of_group g) (insert_key composite_cmp cs c) ≡ either (find (of_group g) cs) (cond (of_group g c) (Some c) None)
unfolding IsStrictlySortedBy
found_put g c [] s = refl
found_put g c (d ∷ ds) s = go (found_put g c ds s.1) (composite_cmp c d) refl
  where
    go : find (of_group g) (insert_key composite_cmp ds c) ≡ either (find (of_group g) ds) (cond (of_group g c) (Some c) None) → (e : Ordering) → composite_cmp c d ≡ e → find (of_group g) (match_ordering e (c ∷ d ∷ ds) (d ∷ ds) (d ∷ insert_key composite_cmp ds c)) ≡ either (find (of_group g) (d ∷ ds)) (cond (of_group g c) (Some c) None)
    go r Less e = elim (cases_Bool (of_group g c)) [
      | inl t ↦ rw (found_none (of_group g) (d ∷ ds) (none_later composite_cmp composite_cmp_total (of_group g) (other_group g) c t (d ∷ ds) (e, all_later composite_cmp composite_cmp_total c d ds e s.0)), t) refl
      | inr f ↦ rw f (self (find (of_group g) (d ∷ ds)))
    ]
      where
        self : (o : Option CompositeRow) → o ≡ either o None
        self None = refl
        self (Some x) = refl
    go r Equal e = same (of_group g c) (of_group g d) (ap (λ y. y == g) (eqb-true d.group c.group (group_same c d e)))
      where
        same : (a b : Bool) → b ≡ a → cond b (Some d) (find (of_group g) ds) ≡ either (cond b (Some d) (find (of_group g) ds)) (cond a (Some c) None)
        same a true k = refl
        same true false k = cc
        same false false k = self (find (of_group g) ds)
          where
            self : (o : Option CompositeRow) → o ≡ either o None
            self None = refl
            self (Some x) = refl
    go r Greater e = elim (cases_Bool (of_group g d)) [
      | inl t ↦ rw t refl
      | inr f ↦ rw f r
    ]

pub found_in : (g : ℕ) (cs acc : List CompositeRow) → IsStrictlySortedBy composite_cmp acc → find (of_group g) (composites_in cs acc) ≡ either (find (of_group g) acc) (find (of_group g) cs)
found_in g [] acc s = self (find (of_group g) acc)
  where
    self : (o : Option CompositeRow) → o ≡ either o None
    self None = refl
    self (Some x) = refl
found_in g (c ∷ cs) acc s = found_in g cs (insert_key composite_cmp acc c) (put_sorted composite_cmp composite_cmp_total c acc s) ∙ (ap (λ o. either o (find (of_group g) cs)) (found_put g c acc s) ∙ over (find (of_group g) acc) (of_group g c) (find (of_group g) cs))
  where
    over : (o : Option CompositeRow) (b : Bool) (p : Option CompositeRow) → either (either o (cond b (Some c) None)) p ≡ either o (cond b (Some c) p)
    over None true p = refl
    over None false p = refl
    over (Some x) b p = refl

-- ---- rows that are all on
-- ---- tests of the rows that are on
-- what is put comes, or was there
pub any_put_from : {X : Type 0} (cmp : X → X → Ordering) (test : X → Bool) (x : X) (xs : List X) → list_any test (insert_key cmp xs x) ≡ true → (test x || list_any test xs) ≡ true
any_put_from cmp test x [] h = h
any_put_from cmp test x (y ∷ ys) h = go (any_put_from cmp test x ys) (cmp x y) h
  where
    swap : (a b c : Bool) → (b || c) ≡ true → (b || (a || c)) ≡ true
    swap a true c h = refl
    swap true false c h = refl
    swap false false c h = h

    go : (list_any test (insert_key cmp ys x) ≡ true → (test x || list_any test ys) ≡ true) → (o : Ordering) → list_any test (match_ordering o (x ∷ y ∷ ys) (y ∷ ys) (y ∷ insert_key cmp ys x)) ≡ true → (test x || (test y || list_any test ys)) ≡ true
    go r Less h = h
    go r Equal h = or_right (test x) (test y || list_any test ys) h
    go r Greater h = elim (or_cases (test y) (list_any test (insert_key cmp ys x)) h) [
      | inl t ↦ or_right (test x) (test y || list_any test ys) (or_left (test y) (list_any test ys) t)
      | inr u ↦ swap (test y) (test x) (list_any test ys) (r u)
    ]

pub rows_from : (test : ℕ × Member → Bool) (at : ℕ) (rows : List MemberRow) (acc : List (ℕ × Member)) → list_any test (rows_on at rows acc) ≡ true → (list_any (λ (r : MemberRow). test (r.group, r.member)) rows || list_any test acc) ≡ true
rows_from test at [] acc h = h
rows_from test at (r ∷ rs) acc h = elim (cases_Bool (nat_le r.from at)) [
  | inl on ↦ elim (or_cases (list_any (λ (r : MemberRow). test (r.group, r.member)) rs) (list_any test (insert_key row_cmp acc (r.group, r.member))) (rows_from test at rs (insert_key row_cmp acc (r.group, r.member)) (rw on at h))) [
    | inl t ↦ or_left (test (r.group, r.member) || list_any (λ (r : MemberRow). test (r.group, r.member)) rs) (list_any test acc) (or_right (test (r.group, r.member)) (list_any (λ (r : MemberRow). test (r.group, r.member)) rs) t)
    | inr u ↦ with_own (test (r.group, r.member)) (list_any (λ (r : MemberRow). test (r.group, r.member)) rs) (list_any test acc) (any_put_from row_cmp test (r.group, r.member) acc u)
  ]
  | inr off ↦ later (test (r.group, r.member)) (list_any (λ (r : MemberRow). test (r.group, r.member)) rs) (list_any test acc) (rows_from test at rs acc (rw off at h))
]
  where
    with_own : (x y z : Bool) → (x || z) ≡ true → ((x || y) || z) ≡ true
    with_own true y z h = refl
    with_own false true z h = refl
    with_own false false z h = h

    later : (x y z : Bool) → (y || z) ≡ true → ((x || y) || z) ≡ true
    later true y z h = refl
    later false y z h = h

-- what a test finds in the live data stands in the facts
pub test_stands : (test : ℕ × Member → Bool) (at : ℕ) (rows : List MemberRow) → list_any test (rows_on at rows []) ≡ true → list_any (λ (r : MemberRow). test (r.group, r.member)) rows ≡ true
test_stands test at rows h = sym (outside (list_any (λ (r : MemberRow). test (r.group, r.member)) rows)) ∙ rows_from test at rows [] h
  where
    outside : (b : Bool) → (b || false) ≡ b
    outside true = refl
    outside false = refl

pub test_absent : (test : ℕ × Member → Bool) (at : ℕ) (rows : List MemberRow) → list_any (λ (r : MemberRow). test (r.group, r.member)) rows ≡ false → list_any test (rows_on at rows []) ≡ false
test_absent test at rows f = false_from_ne_true (list_any test (rows_on at rows [])) (λ t. both_ways (list_any (λ (r : MemberRow). test (r.group, r.member)) rows) f (test_stands test at rows t))

pub row_stands : (at g : ℕ) (m : Member) (rows : List MemberRow) → has_live_row g m (rows_on at rows []) ≡ true → terms.has_row g m rows ≡ true
row_stands at g m rows h = test_stands (is_live_row g m) at rows h

pub row_absent : (at g : ℕ) (m : Member) (rows : List MemberRow) → terms.has_row g m rows ≡ false → has_live_row g m (rows_on at rows []) ≡ false
row_absent at g m rows h = test_absent (is_live_row g m) at rows h
