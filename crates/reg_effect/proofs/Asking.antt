-- Who isn't asked for keeps the membership of the group of the change.
use Rattle.std.proofs.Common.{◌≡◌, ◌==◌, ◌&&◌, ℕ, List, [], ◌∷◌, Bool, true, false, refl, sym, ◌∙◌, inl, inr, ap}
use Rattle.std.proofs.lemmas.Bool.{eqb-true, ne_eqb, eq-eqb, cases_Bool, both_ways, or_cases, or_left}
use Rattle.reg_terms.specs.declared.kinds.Member.{Member}
use Rattle.reg_terms.specs.declared.kinds.Member.TheVariants.{Person, Group}
use Rattle.reg_terms.specs.declared.rows.CompositeRow.{CompositeRow}
use Rattle.reg_terms.specs.declared.kinds.SetOp.{SetOp}
use Rattle.reg_terms.specs.declared.kinds.SetOp.TheVariants.{Intersection, Complement, Union}
use Rattle.reg_effect.specs.declared.live.Live.{Live}
use Rattle.reg_effect.specs.declared.live.Change.{Change}
use Rattle.reg_effect.specs.declared.live.Change.TheVariants.{RowOn, RowOff, FactorsOn, FactorsOff}
use Rattle.reg_terms.specs.Rows.{is_composite}
use Rattle.reg_effect.specs.Member.{combine, gives, in_rows, in_factors, level, member}
use Rattle.reg_graph.specs.Edges.{IsAcyclic, among}
use Rattle.reg_effect.specs.Edges.{edges}
use Rattle.std.proofs.lemmas.Bool.{or_parts}
use Rattle.std.specs.BTreeSet.{insert_key}
use Rattle.std.specs.Set.{remove_key}
use Rattle.std.specs.Ordering.{match_ordering}
use Rattle.std.specs.declared.cmp.Ordering.{Ordering}
use Rattle.std.specs.declared.cmp.Ordering.TheVariants.{Less, Equal, Greater}
use Rattle.reg_graph.proofs.Reaching.{eq_turned}
use Rattle.reg_effect.specs.Changes.{changed, group_of, Fits}
use Rattle.reg_effect.specs.Order.{row_cmp, composite_cmp, is_live_row, has_live_rows}
use Rattle.reg_effect.specs.Asked.{asks, asks_of, asks_row, IsWell, Once}
use Rattle.reg_effect.proofs.Deep.{member_level}
use Rattle.reg_effect.proofs.Edits.{any_removed, any_added, any_new, row_is, row_same, composite_absent, composite_added}
use Rattle.reg_effect.proofs.Apart.{at_group}

pub gives_is : (L : Live) (m : Member) (q : ℕ) → gives (λ h. member L h q) q m ≡ asks_row (member L) m q
gives_is L (Person p) q = refl
gives_is L (Group h) q = refl

-- the same memberships ask for the same persons
pub asks_same : (c : Change) (was M : ℕ → ℕ → Bool) → ((y q : ℕ) → was y q ≡ M y q) → (q : ℕ) → asks c was q ≡ asks c M q
asks_same (RowOn g (Person p)) was M k q = refl
asks_same (RowOn g (Group h)) was M k q = k h q
asks_same (RowOff g (Person p)) was M k q = refl
asks_same (RowOff g (Group h)) was M k q = k h q
asks_same (FactorsOn g op left right) was M k q = rw (k left q, k right q) refl
asks_same (FactorsOff g) was M k q = k g q

pub no_rows : (M : ℕ → Bool) (rows : List (ℕ × Member)) (g q : ℕ) → has_live_rows g rows ≡ false → in_rows M rows g q ≡ false
no_rows M [] g q h = refl
no_rows M (row ∷ rows) g q h = elim (cases_Bool (row.0 == g)) [
  | inl t ↦ absurd (both_ways (has_live_rows g (row ∷ rows)) h (or_left _ _ t))
  | inr f ↦ rw f (no_rows M rows g q (rw f at h))
]

pub no_factors : (M : ℕ → Bool) (cs : List CompositeRow) (g : ℕ) → is_composite g cs ≡ false → in_factors M cs g ≡ false
no_factors M [] g h = refl
no_factors M (c ∷ cs) g h = elim (cases_Bool (c.group == g)) [
  | inl t ↦ absurd (both_ways (is_composite g (c ∷ cs)) h (or_left _ _ t))
  | inr f ↦ rw f (no_factors M cs g (rw f at h))
]

pub not_asked_of : (op : SetOp) (a b : Bool) → asks_of op a b ≡ false → combine op a b ≡ false
not_asked_of Intersection a b h = rw h refl
not_asked_of Complement a b h = rw h refl
not_asked_of Union a b h = h

pub never : (b : Bool) → (b && false) ≡ false
never true = refl
never false = refl

pub composite_out : (g : ℕ) (cs : List CompositeRow) → Once cs → is_composite g (remove_key (λ (c : CompositeRow). c.group == g) cs) ≡ false
composite_out g [] o = refl
composite_out g (d ∷ ds) o = elim (cases_Bool (d.group == g)) [
  | inl t ↦ rw t (rw (eqb-true d.group g t) at o.0)
  | inr f ↦ rw f (rw f (composite_out g ds o.1))
]

-- a row that comes gives nobody but those for whom it asks
pub row_on_kept : (g : ℕ) (m : Member) (L : Live) (q : ℕ) → asks_row (member L) m q ≡ false → level (λ h. member L h q) L g q ≡ level (λ h. member L h q) (changed (RowOn g m) L) g q
row_on_kept g m L q n =
    let test : ℕ × Member → Bool = λ (row : ℕ × Member). (row.0 == g) && gives (λ h. member L h q) q row.1 in
    rw (any_added row_cmp test (g, m) (row_same g m test) (rw (gives_is L m q, n) (never (g == g))) L.rows) refl

-- one level of the group, before and after
pub level_kept : (c : Change) (L : Live) → IsWell L → Fits c L → IsAcyclic (edges L) → (q : ℕ) → asks c (member L) q ≡ false → level (λ h. member L h q) L (group_of c) q ≡ level (λ h. member L h q) (changed c L) (group_of c) q
level_kept (RowOn g m) L w f a q n = row_on_kept g m L q n
level_kept (RowOff g m) L w f a q n =
    rw (any_removed (is_live_row g m) (λ (row : ℕ × Member). (row.0 == g) && gives (λ h. member L h q) q row.1) (λ row t. gone row.0 row.1 t) L.rows) refl
  where
    gone : (y : ℕ) (o : Member) → is_live_row g m (y, o) ≡ true → ((y == g) && gives (λ h. member L h q) q o) ≡ false
    gone y o t = rw ((row_is g m y o t).1, gives_is L m q, n) (never (y == g))
level_kept (FactorsOn g op left right) L w f a q n =
    let c : CompositeRow = record { group = g; op = op; left = left; right = right } in
    let M : ℕ → Bool = λ h. member L h q in
    let there : is_composite g (insert_key composite_cmp L.composites c) ≡ true = composite_added g c L.composites ∙ or_left _ _ (eq-eqb g g refl) in
    let factors : in_factors M (insert_key composite_cmp L.composites c) g ≡ false =
    any_new composite_cmp (λ (c : CompositeRow). (c.group == g) && combine c.op (M c.left) (M c.right)) c L.composites (composite_absent c L.composites ∙ f.0)
    ∙ rw (not_asked_of op (member L left q) (member L right q) n, never (g == g), no_factors M L.composites g f.0) refl in
    rw (f.0, no_rows M L.rows g q f.1, there, factors) refl
level_kept (FactorsOff g) L w f a q n =
    sym (member_level L a g q) ∙ (n ∙ sym (rw (composite_out g L.composites w.once, no_rows (λ h. member L h q) L.rows g q (w.rowless g f)) refl))

pub not_asked : (c : Change) (L : Live) → IsWell L → Fits c L → IsAcyclic (edges L) → IsAcyclic (edges (changed c L)) → (q : ℕ) → asks c (member L) q ≡ false → member L (group_of c) q ≡ member (changed c L) (group_of c) q
not_asked c L w f a b q n = member_level L a (group_of c) q ∙ (level_kept c L w f a q n ∙ sym (at_group c L a b q))

-- the same by a list of those who are asked, and memberships that are known to be those before
pub not_asked_at : (c : Change) (L N : Live) → N ≡ changed c L → IsWell L → Fits c L → IsAcyclic (edges L) → IsAcyclic (edges N) → (was : ℕ → ℕ → Bool) → ((y q : ℕ) → was y q ≡ member L y q) → (xs : List ℕ) → ((q : ℕ) → among q xs ≡ asks c was q) → (q : ℕ) → among q xs ≡ false → was (group_of c) q ≡ member N (group_of c) q
not_asked_at c L N is w f a b was k xs h q n =
    let none : asks c (member L) q ≡ false = sym (h q ∙ asks_same c was (member L) k q) ∙ n in
    let circle : IsAcyclic (edges (changed c L)) = rw is at b in
    k (group_of c) q ∙ (not_asked c L w f a circle q none ∙ ap (λ (M : Live). member M (group_of c) q) (sym is))

-- a change that fits keeps live data well
pub once_added : (c : CompositeRow) (cs : List CompositeRow) → Once cs → is_composite c.group cs ≡ false → Once (insert_key composite_cmp cs c)
once_added c [] o h = (refl, tt)
once_added c (d ∷ ds) o h =
    let parts = or_parts (d.group == c.group) (is_composite c.group ds) h in
    go (once_added c ds o.1 parts.1) (composite_cmp c d) (eq_turned c.group d.group ∙ parts.0)
  where
    go : Once (insert_key composite_cmp ds c) → (e : Ordering) → (c.group == d.group) ≡ false → Once (match_ordering e (c ∷ d ∷ ds) (d ∷ ds) (d ∷ insert_key composite_cmp ds c))
    go r Less n = (h, o)
    go r Equal n = o
    go r Greater n = (composite_added d.group c ds ∙ rw (n, o.0) refl, r)

pub composite_gone : (x g : ℕ) (cs : List CompositeRow) → is_composite x cs ≡ false → is_composite x (remove_key (λ (c : CompositeRow). c.group == g) cs) ≡ false
composite_gone x g [] h = refl
composite_gone x g (d ∷ ds) h =
    let parts = or_parts (d.group == x) (is_composite x ds) h in
    let rest = composite_gone x g ds parts.1 in
    elim (cases_Bool (d.group == g)) [ inl u ↦ rw u parts.1 | inr v ↦ rw v (rw parts.0 rest) ]

pub once_gone : (g : ℕ) (cs : List CompositeRow) → Once cs → Once (remove_key (λ (c : CompositeRow). c.group == g) cs)
once_gone g [] o = tt
once_gone g (d ∷ ds) o = elim (cases_Bool (d.group == g)) [ inl u ↦ rw u o.1 | inr v ↦ rw v (composite_gone d.group g ds o.0, once_gone g ds o.1) ]

pub rows_gone : (x : ℕ) (t : ℕ × Member → Bool) (rows : List (ℕ × Member)) → has_live_rows x rows ≡ false → has_live_rows x (remove_key t rows) ≡ false
rows_gone x t [] h = refl
rows_gone x t (r ∷ rs) h =
    let parts = or_parts (r.0 == x) (has_live_rows x rs) h in
    let rest = rows_gone x t rs parts.1 in
    elim (cases_Bool (t r)) [ inl u ↦ rw u parts.1 | inr v ↦ rw v (rw parts.0 rest) ]

pub well_kept : (c : Change) (L : Live) → IsWell L → Fits c L → IsWell (changed c L)
well_kept (RowOn g m) L w f = record {
  rowless = λ x h. any_added row_cmp (λ (row : ℕ × Member). row.0 == x) (g, m) (row_same g m (λ (row : ℕ × Member). row.0 == x)) (ne_eqb g x (λ e. both_ways (is_composite g L.composites) f.1 (rw e h))) L.rows ∙ w.rowless x h;
  once = w.once;
}
well_kept (RowOff g m) L w f = record {
  rowless = λ x h. rows_gone x (is_live_row g m) L.rows (w.rowless x h);
  once = w.once;
}
well_kept (FactorsOn g op left right) L w f = record {
  rowless = λ x h. elim (or_cases _ _ (sym (composite_added x (record { group = g; op = op; left = left; right = right }) L.composites) ∙ h)) [ inl u ↦ rw (← (eqb-true g x u)) f.1 | inr t ↦ w.rowless x t ];
  once = once_added (record { group = g; op = op; left = left; right = right }) L.composites w.once f.0;
}
well_kept (FactorsOff g) L w f = record {
  rowless = λ x h. w.rowless x (still x L.composites h);
  once = once_gone g L.composites w.once;
}
  where
    still : (x : ℕ) (cs : List CompositeRow) → is_composite x (remove_key (λ (c : CompositeRow). c.group == g) cs) ≡ true → is_composite x cs ≡ true
    still x cs h = elim (cases_Bool (is_composite x cs)) [ inl t ↦ t | inr v ↦ absurd (both_ways (is_composite x (remove_key (λ (c : CompositeRow). c.group == g) cs)) (composite_gone x g cs v) h) ]
