-- What an event changes in the live data: the changes suit, and lead to the live data after it.
use Rattle.std.proofs.Common.{◌≡◌, ◌==◌, ◌&&◌, ℕ, List, [], ◌∷◌, ◌++◌, Bool, true, false, refl, sym, ◌∙◌, inl, inr, nat_le}
use Rattle.std.proofs.lemmas.Bool.{cases_Bool, or_cases, and_parts, eqb-true, true≢false}
use Rattle.std.proofs.lemmas.List.Sorted.{IsPermutation-refl}
use Rattle.std.specs.List.{AllByRecursion}
use Rattle.std.specs.List.Sorted.{IsPermutation}
use Rattle.reg_terms.specs.declared.event.Event.{Event}
use Rattle.reg_terms.specs.declared.event.Event.TheVariants.{RowAdded, RowRemoved, RowRedated, Composed, Decomposed}
use Rattle.reg_terms.specs.declared.kinds.Member.{Member}
use Rattle.reg_terms.specs.declared.kinds.Member.TheVariants.{Person, Group}
use Rattle.reg_terms.specs.declared.rows.MemberRow.{MemberRow}
use Rattle.reg_terms.specs.declared.rows.CompositeRow.{CompositeRow}
use Rattle.reg_terms.specs.Kinds.{same_member}
use Rattle.reg_facts.specs.Lists.{Lists}
use Rattle.reg_terms.specs.Rows.{has_row, is_row, is_composite}
use Rattle.reg_facts.specs.Events.{happened}
use Rattle.reg_facts.specs.Sound.{IsSound}
use Rattle.reg_facts.specs.Suiting.{Suits}
use Rattle.reg_graph.specs.Edges.{has_edge, reaches, IsAcyclic}
use Rattle.reg_graph.proofs.Reaching.{reaches_trans, reaches_edge}
use Rattle.reg_effect.specs.declared.live.Live.{Live}
use Rattle.reg_effect.specs.Order as order
use Rattle.reg_effect.specs.Edges.{edges}
use Rattle.reg_effect.specs.Changes.{changed_by, SuitAll}
use Rattle.reg_effect.specs.Standing.{standing}
use Rattle.reg_effect.proofs.LiveLaws.{live_rows, live_row_more, live_row_later, live_row_less, row_later_less, live_factors_more, live_factors_less, composites_same}
use Rattle.reg_effect.proofs.Standing.{acyclic_permuted, live_acyclic, row_off_suits, factors_off_suits, row_on_suits, factors_on_suits, person_more, nested_added, factors_more}
use Rattle.reg_current.specs.Circles.{ClosesNone}
use Rattle.reg_current.specs.Live.{live}
use Rattle.reg_current.specs.Steps.{changes_of}
use Rattle.reg_current.proofs.Turning.{windowed_live, windowed_suits}

-- ---- the live data after an event
added_live : (at : ℕ) (row : MemberRow) (f : Lists) → live at (happened (RowAdded row) f) ≡ changed_by (changes_of at (RowAdded row) (live at f)) (live at f)
unfolding changes_of
added_live at row f = elim (cases_Bool (nat_le row.from at)) [
  | inl on ↦ rw on (live_row_more at row.from row.group row.member row.until f.rows f.composites on)
  | inr later ↦ rw later (live_row_later at row.from row.group row.member row.until f.rows f.composites later)
]

pub removed_live : (at g : ℕ) (m : Member) (f : Lists) → live at (happened (RowRemoved g m) f) ≡ changed_by (changes_of at (RowRemoved g m) (live at f)) (live at f)
unfolding changes_of
removed_live at g m f =
    let L : Live = live at f in
    elim (cases_Bool (order.has_live_row g m L.rows)) [
      | inl on ↦ rw on (live_row_less at g m f.rows f.composites)
      | inr off ↦ rw off (live_rows L _ _ (row_later_less at g m f.rows off))
    ]

pub stepped : (at : ℕ) (e : Event) (f : Lists) → Suits e f → live at (happened e f) ≡ changed_by (changes_of at e (live at f)) (live at f)
unfolding changes_of
stepped at (RowAdded row) f suits = added_live at row f
stepped at (RowRemoved g m) f suits = removed_live at g m f
stepped at (RowRedated g m from until) f suits = windowed_live from until g m at f.rows f.composites suits
stepped at (Composed row) f suits = live_factors_more at row.group row.op row.left row.right f.rows f.composites
stepped at (Decomposed g) f suits = live_factors_less at g f.rows f.composites
stepped at _ f suits = refl

-- ---- edges that close no circle

-- an edge more closes no circle where nothing leads back
acyclic_more : (es : List (ℕ × ℕ)) (g h : ℕ) → IsAcyclic es → reaches es h g ≡ false → IsAcyclic ((g, h) ∷ es)
unfolding reaches
acyclic_more es g h none apart a b edge = elim (or_cases ((g == a) && (h == b)) (has_edge es a b) edge) [
  | inl new ↦ let ends = and_parts (g == a) (h == b) new in
      let same_a = eqb-true g a ends.0 in
      let same_b = eqb-true h b ends.1 in
      rw (sym same_a, sym same_b, apart) refl
  | inr old ↦ rw (none a b old) (apart_by (reaches es b g) (reaches es h a) (λ up down. true≢false (sym (reaches_trans es h a g down (reaches_trans es a b g (reaches_edge es a b old) up)) ∙ apart)))
]
  where
    apart_by : (x y : Bool) → (x ≡ true → y ≡ true → ⊥) → (x && y) ≡ false
    apart_by true true clash = absurd (clash refl refl)
    apart_by true false clash = refl
    apart_by false y clash = refl

-- and neither do two edges of a group
acyclic_both : (es : List (ℕ × ℕ)) (g l r : ℕ) → IsAcyclic es → reaches es l g ≡ false → reaches es r g ≡ false → IsAcyclic ((g, r) ∷ (g, l) ∷ es)
unfolding reaches
acyclic_both es g l r none left right = acyclic_more ((g, l) ∷ es) g r (acyclic_more es g l none left) (rw right refl)

-- ---- each change suits

-- with a row more, what stands closes no circle
row_more_clear : (row : MemberRow) (m : Member) (rows : List MemberRow) (cs : List CompositeRow) → row.member ≡ m → IsAcyclic (standing rows cs) → ((h : ℕ) → m ≡ Group h → reaches (standing rows cs) h row.group ≡ false) → IsAcyclic (standing (rows ++ row ∷ []) cs)
row_more_clear row (Person p) rows cs is none apart = acyclic_permuted (standing rows cs) (standing (rows ++ row ∷ []) cs) (person_more rows cs row p (standing rows cs) is (IsPermutation-refl (standing rows cs))) none
row_more_clear row (Group h) rows cs is none apart =
    acyclic_permuted ((row.group, h) ∷ standing rows cs) (standing (rows ++ row ∷ []) cs) (nested_added rows cs row h (standing rows cs) is (IsPermutation-refl (standing rows cs)))
    (acyclic_more (standing rows cs) row.group h none (apart h refl))

added_suits : (at : ℕ) (row : MemberRow) (f : Lists) → IsAcyclic (standing f.rows f.composites) → Suits (RowAdded row) f → ClosesNone (RowAdded row) f → SuitAll (changes_of at (RowAdded row) (live at f)) (live at f)
unfolding changes_of
added_suits at row f none suits clear =
    elim (cases_Bool (nat_le row.from at)) [
      | inl on ↦ rw on (
        row_on_suits at row.from row.group row.member row.until f.rows f.composites (standing (f.rows ++ row ∷ []) f.composites) on suits.2 suits.3 (IsPermutation-refl (standing (f.rows ++ row ∷ []) f.composites))
            (row_more_clear row row.member f.rows f.composites refl none clear),
        tt,
      )
      | inr later ↦ rw later tt
    ]

removed_suits : (at g : ℕ) (m : Member) (f : Lists) → IsAcyclic (edges (live at f)) → SuitAll (changes_of at (RowRemoved g m) (live at f)) (live at f)
unfolding changes_of
removed_suits at g m f none =
    let L : Live = live at f in
    elim (cases_Bool (order.has_live_row g m L.rows)) [
      | inl on ↦ rw on (row_off_suits g m L on none, tt)
      | inr off ↦ rw off tt
    ]

-- a group that has rows is no composite
rowless : (g : ℕ) (m : Member) (rows : List MemberRow) (cs : List CompositeRow) → has_row g m rows ≡ true → AllByRecursion (λ (row : MemberRow). is_composite row.group cs ≡ false) rows → is_composite g cs ≡ false
rowless g m [] cs stands plain = absurd (let clash : ⊥ = cc in clash)
rowless g m (row ∷ rows) cs stands plain = elim (or_cases (is_row g m row) (has_row g m rows) stands) [
  | inl here ↦ rw (← eqb-true row.group g (and_parts (row.group == g) (same_member row.member m) here).0) plain.0
  | inr there ↦ rowless g m rows cs there plain.1
]

composed_suits : (at : ℕ) (row : CompositeRow) (f : Lists) → IsAcyclic (standing f.rows f.composites) → Suits (Composed row) f → ClosesNone (Composed row) f → SuitAll (changes_of at (Composed row) (live at f)) (live at f)
unfolding changes_of
composed_suits at row f none suits clear =
    let S : List (ℕ × ℕ) = standing f.rows f.composites in
    let g : ℕ = row.group in (
      factors_on_suits at g row.op row.left row.right f.rows f.composites ((g, row.right) ∷ (g, row.left) ∷ S) suits.1 suits.2
          (factors_more f.rows f.composites row S ((g, row.left) ∷ S) ((g, row.right) ∷ (g, row.left) ∷ S) (IsPermutation-refl S) (IsPermutation-refl ((g, row.left) ∷ S)) (IsPermutation-refl ((g, row.right) ∷ (g, row.left) ∷ S)))
          (acyclic_both S g row.left row.right none clear.0 clear.1),
      tt,
    )

suit_each : (at : ℕ) (e : Event) (f : Lists) → IsSound f → IsAcyclic (standing f.rows f.composites) → IsAcyclic (edges (live at f)) → Suits e f → ClosesNone e f → SuitAll (changes_of at e (live at f)) (live at f)
unfolding changes_of
suit_each at (RowAdded row) f sound none on suits clear = added_suits at row f none suits clear
suit_each at (RowRemoved g m) f sound none on suits clear = removed_suits at g m f on
suit_each at (RowRedated g m from until) f sound none on suits clear = windowed_suits from until g m at f.rows f.composites (standing f.rows f.composites) suits (rowless g m f.rows f.composites suits sound.rowless) (IsPermutation-refl (standing f.rows f.composites)) none
suit_each at (Composed row) f sound none on suits clear = composed_suits at row f none suits clear
suit_each at (Decomposed g) f sound none on suits clear = (factors_off_suits g (live at f) (composites_same g f.composites ∙ suits) on, tt)
suit_each at _ f sound none on suits clear = tt

pub suit : (at : ℕ) (e : Event) (f : Lists) (graph : List (ℕ × ℕ)) (kept : Live) → IsSound f → IsPermutation graph (standing f.rows f.composites) → IsAcyclic graph → kept ≡ live at f → Suits e f → ClosesNone e f → SuitAll (changes_of at e kept) kept
suit at e f graph kept sound same none is suits clear = rw is (suit_each at e f sound (acyclic_permuted graph (standing f.rows f.composites) same none) (live_acyclic at f.rows f.composites graph same none) suits clear)
