-- Rows that go one after another leave the facts without all of them.
use Rattle.std.proofs.Common.{◌≡◌, ◌&&◌, ◌||◌, ◌==◌, ℕ, List, [], ◌∷◌, Bool, true, false, not, filter, map, refl, sym, ◌∙◌, ap, subst, inl, inr}
use Rattle.std.proofs.lemmas.Bool.{cases_Bool, or_left, or_right, or_parts, both_ways, false_from_ne_true}
use Rattle.std.proofs.lemmas.List.Elements.{filter_agree}
use Rattle.std.proofs.lemmas.Map.Views.{any-filter_same}
use Rattle.std.specs.List.{list_any, AllByRecursion}
use Rattle.std.specs.List.Sorted.{IsStrictlySortedBy}
use Rattle.reg_terms.specs.declared.kinds.Member.{Member}
use Rattle.reg_terms.specs.declared.rows.MemberRow.{MemberRow}
use Rattle.reg_terms.specs.Rows as terms
use Rattle.reg_facts.specs.Events.{happened, all_happened, row_gone}
use Rattle.reg_terms.specs.declared.event.Event.TheVariants.{RowRemoved}
use Rattle.reg_facts.specs.RowOrder.{rows_of}
use Rattle.reg_facts.specs.Lists.{Lists}
use Rattle.reg_effect.specs.Order.{row_cmp, is_live_row, has_live_row}
use Rattle.reg_effect.specs.Changes.{rows_where}
use Rattle.reg_effect.specs.Standing.{pair_of, RowsOnce}
use Rattle.reg_effect.proofs.Edits.{row_is}
use Rattle.reg_effect.proofs.LiveOf.{where_sorted, where_has, empty_sorted, none_after, row_self, row_turned}
use Rattle.reg_current.specs.Dates.{ends_at, ending, pair_gone}
use Rattle.reg_current.specs.Holding.{AllHold}
use Rattle.reg_current.proofs.Unlinking.{group_pairs}

-- the facts without rows that go one after another
abbrev pub all_removed : List (ℕ × Member) → Lists → Lists
all_removed ps f = all_happened (map pair_gone ps) f

-- each row stands when its turn comes
abbrev pub AllStand : List (ℕ × Member) → Lists → Type 0
AllStand [] f = Unit {0}
AllStand (p ∷ ps) f = (terms.has_row p.0 p.1 f.rows ≡ true) × AllStand ps (happened (RowRemoved p.0 p.1) f)

-- ---- what stands when its turn comes
-- in a list in order no row stands twice
all_stand : (ps : List (ℕ × Member)) (f : Lists) → IsStrictlySortedBy row_cmp ps → ((g : ℕ) (m : Member) → has_live_row g m ps ≡ true → terms.has_row g m f.rows ≡ true) → AllStand ps f
unfolding IsStrictlySortedBy
all_stand [] f s h = tt
all_stand (p ∷ ps) f s h = (
  h p.0 p.1 (or_left (is_live_row p.0 p.1 p) (has_live_row p.0 p.1 ps) (row_self p.0 p.1)),
  all_stand ps (happened (RowRemoved p.0 p.1) f) s.1 (λ g m t.
      any-filter_same (terms.is_row g m) (λ (row : MemberRow). not (terms.is_row p.0 p.1 row)) true (λ row u. let w = row_is g m row.group row.member u in rw (w.0, w.1) (ap not (other g m t))) f.rows
      ∙ h g m (or_right (is_live_row g m p) (has_live_row g m ps) t)),
)
  where
    other : (g : ℕ) (m : Member) → has_live_row g m ps ≡ true → is_live_row p.0 p.1 (g, m) ≡ false
    other g m t = false_from_ne_true (is_live_row p.0 p.1 (g, m)) (λ y. let w = row_is p.0 p.1 g m y in both_ways (has_live_row g m ps) (rw (w.0, w.1) (none_after p.0 p.1 ps s.0)) t)

-- whether a row of the group for the member passes a test
abbrev passes : (MemberRow → Bool) → ℕ → Member → List MemberRow → Bool
passes test g m rows = list_any (λ (row : MemberRow). test row && is_live_row g m (row.group, row.member)) rows

passing_stands : (test : MemberRow → Bool) (g : ℕ) (m : Member) (rows : List MemberRow) → (passes test g m rows || false) ≡ true → terms.has_row g m rows ≡ true
passing_stands test g m [] h = h
passing_stands test g m (row ∷ rows) h = by (λ k. passing_stands test g m rows k) (test row) (terms.is_row g m row) h
  where
    by : ((passes test g m rows || false) ≡ true → terms.has_row g m rows ≡ true) → (a b : Bool) → (((a && b) || passes test g m rows) || false) ≡ true → (b || terms.has_row g m rows) ≡ true
    by later a true k = refl
    by later true false k = later k
    by later false false k = later k

where_stand : (test : MemberRow → Bool) (f : Lists) → AllStand (rows_where test f.rows []) f
where_stand test f = all_stand (rows_where test f.rows []) f (where_sorted test f.rows [] (empty_sorted row_cmp)) (λ g m t. passing_stands test g m f.rows (sym (where_has test g m f.rows []) ∙ t))

-- and so each can go
pub rows_hold : (at : ℕ) (ps : List (ℕ × Member)) (f : Lists) → AllStand ps f → AllHold at (map pair_gone ps) f
rows_hold at [] f h = tt
rows_hold at (p ∷ ps) f h = (record { suits = h.0; no_circle = tt; later = tt }, rows_hold at ps (happened (RowRemoved p.0 p.1) f) h.1)

-- ---- what is left
rows_left : List (ℕ × Member) → List MemberRow → List MemberRow
rows_left [] rows = rows
rows_left (p ∷ ps) rows = rows_left ps (filter (λ (row : MemberRow). not (terms.is_row p.0 p.1 row)) rows)

removed_rows : (ps : List (ℕ × Member)) (f : Lists) → all_removed ps f ≡ record f { rows = rows_left ps f.rows }
unfolding rows_left
removed_rows [] f = refl
removed_rows (p ∷ ps) f = removed_rows ps (happened (RowRemoved p.0 p.1) f)

pub filter_twice : {X : Type 0} (first then : X → Bool) (xs : List X) → filter then (filter first xs) ≡ filter (λ x. first x && then x) xs
filter_twice first then [] = refl
filter_twice first then (x ∷ xs) =
    let rest = filter_twice first then xs in
    elim (cases_Bool (first x)) [
      | inl t ↦ elim (cases_Bool (then x)) [
        | inl u ↦ rw (t, u, rest) refl
        | inr v ↦ rw (t, v, rest) refl
      ]
      | inr f ↦ rw (f, rest) refl
    ]

pub filter_none : {X : Type 0} (xs : List X) → filter (λ x. true) xs ≡ xs
filter_none [] = refl
filter_none (x ∷ xs) = ap (λ ys. x ∷ ys) (filter_none xs)

pub filter_same_in : {X : Type 0} (p q : X → Bool) (xs : List X) → AllByRecursion (λ x. p x ≡ q x) xs → filter p xs ≡ filter q xs
filter_same_in p q [] a = refl
filter_same_in p q (x ∷ xs) a =
    let rest = filter_same_in p q xs a.1 in
    elim (cases_Bool (q x)) [
      | inl t ↦ rw (a.0, t, rest) refl
      | inr f ↦ rw (a.0, f, rest) refl
    ]

-- the rows that aren't listed are left
left_unlisted : (ps : List (ℕ × Member)) (rows : List MemberRow) → rows_left ps rows ≡ filter (λ (row : MemberRow). not (has_live_row row.group row.member ps)) rows
unfolding rows_left
left_unlisted [] rows = sym (filter_none rows)
left_unlisted (p ∷ ps) rows =
    left_unlisted ps (filter (λ (row : MemberRow). not (terms.is_row p.0 p.1 row)) rows)
    ∙ (filter_twice (λ (row : MemberRow). not (terms.is_row p.0 p.1 row)) (λ (row : MemberRow). not (has_live_row row.group row.member ps)) rows
    ∙ filter_agree _ _ (λ (row : MemberRow). ap (λ b. not b && not (has_live_row row.group row.member ps)) (row_turned p.0 row.group p.1 row.member) ∙ neither (is_live_row row.group row.member p) (has_live_row row.group row.member ps)) rows)
  where
    neither : (a b : Bool) → (not a && not b) ≡ not (a || b)
    neither true b = refl
    neither false b = refl

-- where rows stand once, a row passes a test exactly where one of its group and member does
none_passes : (test : MemberRow → Bool) (g : ℕ) (m : Member) (rows : List MemberRow) → terms.has_row g m rows ≡ false → passes test g m rows ≡ false
none_passes test g m [] h = refl
none_passes test g m (row ∷ rows) h =
    let parts = or_parts (terms.is_row g m row) (terms.has_row g m rows) h in
    rw (parts.0, none_passes test g m rows parts.1) (no_way (test row))
  where
    no_way : (a : Bool) → ((a && false) || false) ≡ false
    no_way true = refl
    no_way false = refl

each_passes : (test : MemberRow → Bool) (rows : List MemberRow) → RowsOnce rows → AllByRecursion (λ (row : MemberRow). passes test row.group row.member rows ≡ test row) rows
each_passes test [] o = tt
each_passes test (q ∷ qs) o = (rw (row_self q.group q.member, none_passes test q.group q.member qs o.0) (alone (test q)), later qs o.0 (each_passes test qs o.1))
  where
    alone : (a : Bool) → ((a && true) || false) ≡ a
    alone true = refl
    alone false = refl

    past : (a b : Bool) → ((a && false) || b) ≡ b
    past true b = refl
    past false b = refl

    later : (rs : List MemberRow) → terms.has_row q.group q.member rs ≡ false → AllByRecursion (λ (row : MemberRow). passes test row.group row.member qs ≡ test row) rs → AllByRecursion (λ (row : MemberRow). passes test row.group row.member (q ∷ qs) ≡ test row) rs
    later [] h a = tt
    later (r ∷ rs) h a =
        let parts = or_parts (terms.is_row q.group q.member r) (terms.has_row q.group q.member rs) h in
        let other : is_live_row r.group r.member (q.group, q.member) ≡ false = row_turned r.group q.group r.member q.member ∙ parts.0 in
        (rw other (past (test q) (passes test r.group r.member qs) ∙ a.0), later rs parts.1 a.1)

left_failing : (test : MemberRow → Bool) (rows : List MemberRow) → RowsOnce rows → rows_left (rows_where test rows []) rows ≡ filter (λ (row : MemberRow). not (test row)) rows
left_failing test rows o =
    left_unlisted (rows_where test rows []) rows
    ∙ filter_same_in (λ (row : MemberRow). not (has_live_row row.group row.member (rows_where test rows []))) (λ (row : MemberRow). not (test row)) rows (each rows (each_passes test rows o))
  where
    outside : (a : Bool) → (a || false) ≡ a
    outside true = refl
    outside false = refl

    each : (rs : List MemberRow) → AllByRecursion (λ (row : MemberRow). passes test row.group row.member rows ≡ test row) rs → AllByRecursion (λ (row : MemberRow). not (has_live_row row.group row.member (rows_where test rows [])) ≡ not (test row)) rs
    each [] a = tt
    each (r ∷ rs) a = (ap not (where_has test r.group r.member rows [] ∙ (outside (passes test r.group r.member rows) ∙ a.0)), each rs a.1)

where_removed : (test : MemberRow → Bool) (f : Lists) → RowsOnce f.rows → all_removed (rows_where test f.rows []) f ≡ record f { rows = filter (λ (row : MemberRow). not (test row)) f.rows }
where_removed test f o = removed_rows (rows_where test f.rows []) f ∙ (let g : List MemberRow → Lists = λ rows. record f { rows = rows } in ap g (left_failing test f.rows o))

-- ---- the rows that end at a date

-- the facts without them
abbrev pub rows_ended : ℕ → Lists → Lists
rows_ended d f = record f { rows = filter (λ (row : MemberRow). not (ends_at d row)) f.rows }

pub ending_removed : (d : ℕ) (f : Lists) → RowsOnce f.rows → all_removed (ending d f.rows) f ≡ rows_ended d f
ending_removed d f o = where_removed (ends_at d) f o

pub ending_hold : (at d : ℕ) (f : Lists) → AllHold at (map pair_gone (ending d f.rows)) f
ending_hold at d f = rows_hold at (ending d f.rows) f (where_stand (ends_at d) f)

-- ---- the rows of a group
gone_pairs : (rows : List MemberRow) → map row_gone rows ≡ map pair_gone (map pair_of rows)
gone_pairs [] = refl
gone_pairs (row ∷ rows) = ap (λ es. row_gone row ∷ es) (gone_pairs rows)

of_group : (g : ℕ) (f : Lists) → map row_gone (rows_of g f.rows) ≡ map pair_gone (rows_where (λ (row : MemberRow). row.group == g) f.rows [])
of_group g f = gone_pairs (rows_of g f.rows) ∙ ap (map pair_gone) (group_pairs g f.rows)

pub group_removed : (g : ℕ) (f : Lists) → RowsOnce f.rows → all_happened (map row_gone (rows_of g f.rows)) f ≡ record f { rows = filter (λ (row : MemberRow). not (row.group == g)) f.rows }
group_removed g f o = ap (λ es. all_happened es f) (of_group g f) ∙ where_removed (λ (row : MemberRow). row.group == g) f o

pub group_hold : (at g : ℕ) (f : Lists) → AllHold at (map row_gone (rows_of g f.rows)) f
group_hold at g f = subst (λ es. AllHold at es f) (sym (of_group g f)) (rows_hold at (rows_where (λ (row : MemberRow). row.group == g) f.rows []) f (where_stand (λ (row : MemberRow). row.group == g) f))
