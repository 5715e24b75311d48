-- The reasons are exactly the ways that the checker takes, and there is one exactly for a member.
use Rattle.std.proofs.Common.{◌≡◌, ◌<◌, ◌≤◌, ◌⊎◌, ◌&&◌, ◌||◌, ◌==◌, ℕ, zero, suc, List, [], ◌∷◌, Bool, true, false, not, arith, refl, inl, inr, sym, ◌∙◌, ap, length, map, filter, subst}
use Rattle.std.specs.Prelude.{if◌then◌else◌}
use Rattle.std.specs.List.{Contains, list_any}
use Rattle.std.proofs.lemmas.Bool.{cases_Bool, and_parts, and_from, eqb-true, eq-eqb, or_left, both_ways, not-true, ne_eqb, cases_eq}
use Rattle.std.proofs.lemmas.List.{length-map}
use Rattle.reg_terms.specs.declared.kinds.Member.{Member}
use Rattle.reg_terms.specs.declared.kinds.Member.TheVariants.{Person, Group}
use Rattle.reg_terms.specs.declared.rows.MemberRow.{MemberRow}
use Rattle.reg_terms.specs.Rows.{is_composite}
use Rattle.reg_graph.specs.Edges.{has_edge, reaches, IsAcyclic}
use Rattle.reg_effect.specs.declared.live.Live.{Live}
use Rattle.reg_effect.specs.Edges.{edges, row_edges, factor_edges}
use Rattle.reg_effect.specs.Member.{gives, in_rows, level, member}
use Rattle.std.proofs.lemmas.List.Folds.{list_any-append}
use Rattle.reg_reasons.specs.Ways.{Way, by_rows, onward, shorter, ways}
use Rattle.reg_reasons.specs.Reasons.{IsBehind, IsReason, having, is_end, leads, reasons}
use Rattle.reg_reasons.proofs.Ends.{an_end, end_composite}
use Rattle.reg_reasons.proofs.Items.{IsItem, found_item, item_behind, item_cases, item_found, item_from, item_kept, item_left, item_mapped, item_passed, item_right, item_to}
use Rattle.reg_reasons.proofs.Levels.{member_level, rank, rank_edge}
use Rattle.reg_reasons.proofs.Reaches.{falls, passing, passing_le, passing_less, reaches_self}

-- ---- ways by rows
pub by_row : (W : ℕ → List Way) (last : Bool) (s : ℕ) (rows : List MemberRow) (g : ℕ) (row : MemberRow) (way : Way) → IsItem rows row → row.group ≡ g → IsItem (onward W last s row.member) way
    → IsItem (by_rows W last s rows g) (row ∷ way)
by_row W last s [] g row way i e w = absurd i
by_row W last s (r ∷ rs) g row way i e w = go (λ j. by_row W last s rs g row way j e w) i (cases_Bool (r.group == g))
  where
    go : (IsItem rs row → IsItem (by_rows W last s rs g) (row ∷ way)) → (r ≡ row) ⊎ IsItem rs row → ((r.group == g) ≡ true) ⊎ ((r.group == g) ≡ false) → IsItem (by_rows W last s (r ∷ rs) g) (row ∷ way)
    go later (inl same) (inl t) =
        let here : IsItem (onward W last s r.member) way = subst (λ (x : MemberRow). IsItem (onward W last s x.member) way) (sym same) w in
        let put : IsItem (map (λ (way : Way). r ∷ way) (onward W last s r.member)) (row ∷ way) = subst (λ (x : MemberRow). IsItem (map (λ (way : Way). r ∷ way) (onward W last s r.member)) (x ∷ way)) same (item_mapped (λ (way : Way). r ∷ way) (onward W last s r.member) way here) in
        rw t (item_left (map (λ (way : Way). r ∷ way) (onward W last s r.member)) (by_rows W last s rs g) (row ∷ way) put)
    go later (inl same) (inr f) = absurd (both_ways (r.group == g) f (eq-eqb r.group g (ap (λ (x : MemberRow). x.group) same ∙ e)))
    go later (inr i) (inl t) = rw t (item_right (map (λ (way : Way). r ∷ way) (onward W last s r.member)) (by_rows W last s rs g) (row ∷ way) (later i))
    go later (inr i) (inr f) = rw f (later i)

-- the first row of a way and the rest
pub record Begins (W : ℕ → List Way) (last : Bool) (s : ℕ) (rows : List MemberRow) (g : ℕ) (way : Way) : Type 0 where
  pub row : MemberRow
  pub rest : Way
  pub is_row : IsItem rows row
  pub is_group : row.group ≡ g
  pub is_way : row ∷ rest ≡ way
  pub goes_on : IsItem (onward W last s row.member) rest

pub begins : (W : ℕ → List Way) (last : Bool) (s : ℕ) (rows : List MemberRow) (g : ℕ) (way : Way) → IsItem (by_rows W last s rows g) way → Begins W last s rows g way
begins W last s [] g way i = absurd i
begins W last s (r ∷ rs) g way i = elim (cases_Bool (r.group == g)) [
  | inl t ↦ elim (item_cases (map (λ (way : Way). r ∷ way) (onward W last s r.member)) (by_rows W last s rs g) way (rw t at i)) [
    | inl a ↦
        let b = item_behind (λ (way : Way). r ∷ way) (onward W last s r.member) way a in
        record { row = r; rest = b.0; is_row = inl refl; is_group = eqb-true r.group g t; is_way = b.2; goes_on = b.1 }
    | inr b ↦ later (begins W last s rs g way b)
  ]
  | inr f ↦ later (begins W last s rs g way (rw f at i))
]
  where
    later : Begins W last s rs g way → Begins W last s (r ∷ rs) g way
    later b = record { row = b.row; rest = b.rest; is_row = inr b.is_row; is_group = b.is_group; is_way = b.is_way; goes_on = b.goes_on }

pub only_item : {X : Type 0} (b : Bool) (x y : X) → IsItem (if b then x ∷ [] else []) y → (b ≡ true) × (x ≡ y)
only_item true x y (inl e) = (refl, e)
only_item true x y (inr i) = absurd i
only_item false x y i = absurd i

-- ---- of all lengths
pub shorter_from : (W : ℕ → List Way) (n : ℕ) (way : Way) → IsItem (shorter n W) way → (m : ℕ) × IsItem (W m) way
shorter_from W zero way i = absurd i
shorter_from W (suc n) way i = elim (item_cases (shorter n W) (W n) way i) [ inl a ↦ shorter_from W n way a | inr b ↦ (n, b) ]

pub shorter_to : (W : ℕ → List Way) (n m : ℕ) (way : Way) → m < n → IsItem (W m) way → IsItem (shorter n W) way
shorter_to W zero m way l i = absurd (omega (arith, l))
shorter_to W (suc n) m way l i = elim (cases_eq m n) [
  | inl e ↦ item_right (shorter n W) (W n) way (subst (λ k. IsItem (W k) way) e i)
  | inr d ↦ item_left (shorter n W) (W n) way (shorter_to W n m way (omega (arith, l, d)) i)
]

-- ---- the edge of a row
is_nested : ℕ → ℕ → ℕ × Member → Bool
is_nested g h (x, Person p) = false
is_nested g h (x, Group y) = (x == g) && (y == h)

nested_edge : (g h : ℕ) (rows : List (ℕ × Member)) → has_edge (row_edges rows) g h ≡ list_any (is_nested g h) rows
unfolding is_nested
nested_edge g h [] = refl
nested_edge g h ((x, Person p) ∷ rows) = nested_edge g h rows
nested_edge g h ((x, Group y) ∷ rows) = ap (λ b. ((x == g) && (y == h)) || b) (nested_edge g h rows)

module _ (L : Live) (no_circle : IsAcyclic (edges L)) (s : ℕ) (rows : List MemberRow) (same : (P : ℕ × Member → Bool) → list_any P L.rows ≡ list_any (λ (r : MemberRow). P (r.group, r.member)) rows) where
  leading : List MemberRow
  leading = filter (leads L s) rows

  law : (g : ℕ) → member L g s ≡ level (having L s) L g s
  law g = member_level L no_circle g s

  row_edge : (row : MemberRow) (h : ℕ) → IsItem rows row → row.member ≡ Group h → has_edge (edges L) row.group h ≡ true
  unfolding edges is_nested
  row_edge row h i e =
      let here : is_nested row.group h (row.group, row.member) ≡ true = rw e (and_from _ _ (eq-eqb row.group row.group refl) (eq-eqb h h refl)) in
      let found : list_any (λ (r : MemberRow). is_nested row.group h (r.group, r.member)) rows ≡ true = found_item (λ (r : MemberRow). is_nested row.group h (r.group, r.member)) rows row i here in
      let edge : has_edge (row_edges L.rows) row.group h ≡ true = nested_edge row.group h L.rows ∙ (same (is_nested row.group h) ∙ found) in
      list_any-append (λ (e : ℕ × ℕ). (e.0 == row.group) && (e.1 == h)) (row_edges L.rows) (factor_edges L.composites) ∙ or_left _ _ edge

  -- a row that gives the person to a group makes it a member
  by_given : (row : MemberRow) → IsItem rows row → is_composite row.group L.composites ≡ false → gives (having L s) s row.member ≡ true → member L row.group s ≡ true
  by_given row i plain t =
      let P : ℕ × Member → Bool = λ (r : ℕ × Member). (r.0 == row.group) && gives (having L s) s r.1 in
      let here : P (row.group, row.member) ≡ true = and_from _ _ (eq-eqb row.group row.group refl) t in
      let found : list_any (λ (r : MemberRow). P (r.group, r.member)) rows ≡ true = found_item (λ (r : MemberRow). P (r.group, r.member)) rows row i here in
      let stands : in_rows (having L s) L.rows row.group s ≡ true = same P ∙ found in
      law row.group ∙ rw plain stands

  on_gives : (m : Member) (way : Way) → ((h : ℕ) → IsReason L rows s h way → member L h s ≡ true) → IsBehind (λ h. IsReason L rows s h way) s m way → gives (having L s) s m ≡ true
  on_gives (Person p) way below e = eq-eqb p s e.0
  on_gives (Group h) way below e = below h e

  -- what the checker takes makes a member
  pub is_member : (g : ℕ) (way : Way) → IsReason L rows s g way → member L g s ≡ true
  is_member g [] r = sym (an_end L s g (end_composite L s g r) (law g)) ∙ r
  is_member g (row ∷ way) r =
      let given : gives (having L s) s row.member ≡ true = on_gives row.member way (λ h q. is_member h way q) r.3 in
      let at : member L row.group s ≡ true = by_given row (item_from rows row r.0) (rw r.1 r.2) given in
      rw (← r.1) at

  -- ---- each reason is taken
  leads_parts : (row : MemberRow) → IsItem leading row → IsItem rows row × (gives (having L s) s row.member ≡ true) × (is_composite row.group L.composites ≡ false)
  unfolding leading
  leads_parts row i =
      let k = item_passed (leads L s) rows row i in
      let w = and_parts (gives (having L s) s row.member) (not (is_composite row.group L.composites)) k.1 in
      (k.0, w.0, not-true (is_composite row.group L.composites) w.1)

  on_taken : (n : ℕ) (m : Member) (rest : Way) → ((h : ℕ) (way : Way) → IsItem (ways n leading (is_end L s) s h) way → IsReason L rows s h way)
      → IsItem (onward (ways n leading (is_end L s) s) (n == 0) s m) rest → IsBehind (λ h. IsReason L rows s h rest) s m rest
  on_taken n (Person p) rest below i =
      let o = only_item ((n == 0) && (p == s)) [] rest i in
      let w = and_parts (n == 0) (p == s) o.0 in
      (eqb-true p s w.1, sym o.1)
  on_taken n (Group h) rest below i = below h rest i

  way_taken : (n g : ℕ) (way : Way) → IsItem (ways n leading (is_end L s) s g) way → IsReason L rows s g way
  way_taken zero g way i =
      let o = only_item (is_end L s g) [] way i in
      subst (λ (w : Way). IsReason L rows s g w) o.1 o.0
  way_taken (suc n) g way i =
      let b = begins (ways n leading (is_end L s) s) (n == 0) s leading g way i in
      let k = leads_parts b.row b.is_row in
      subst (λ (w : Way). IsReason L rows s g w) b.is_way
      (item_to rows b.row k.0, b.is_group, rw (← b.is_group) k.2, on_taken n b.row.member b.rest (way_taken n) b.goes_on)

  -- ---- and each that is taken is a reason
  leads_row : (row : MemberRow) → IsItem rows row → gives (having L s) s row.member ≡ true → is_composite row.group L.composites ≡ false → IsItem leading row
  unfolding leading
  leads_row row i t plain = item_kept (leads L s) rows row i (and_from _ _ t (rw plain refl))

  taken_row : (g : ℕ) (row : MemberRow) (way : Way) → IsReason L rows s g (row ∷ way) → IsItem leading row
  taken_row g row way r = leads_row row (item_from rows row r.0) (on_gives row.member way (λ h q. is_member h way q) r.3) (rw r.1 r.2)

  on_found : (m : Member) (way : Way) → ((h : ℕ) → IsReason L rows s h way → IsItem (ways (length way) leading (is_end L s) s h) way)
      → IsBehind (λ h. IsReason L rows s h way) s m way → IsItem (onward (ways (length way) leading (is_end L s) s) (length way == 0) s m) way
  on_found (Person p) way below e =
      let z : (length way == 0) ≡ true = eq-eqb (length way) 0 (ap (λ (w : Way). length w) e.1) in
      rw (z, eq-eqb p s e.0) (inl (sym e.1))
  on_found (Group h) way below e = below h e

  way_found : (g : ℕ) (way : Way) → IsReason L rows s g way → IsItem (ways (length way) leading (is_end L s) s g) way
  way_found g [] r = rw r (inl refl)
  way_found g (row ∷ way) r =
      by_row (ways (length way) leading (is_end L s) s) (length way == 0) s leading g row way (taken_row g row way r) r.1 (on_found row.member way (λ h q. way_found h way q) r.3)

  -- ---- no way is longer than there are rows that lead
  groups : List ℕ
  groups = map (λ (r : MemberRow). r.group) leading

  height : ℕ → ℕ
  height g = passing (reaches (edges L) g) groups

  height_le : (g : ℕ) → height g ≤ length leading
  unfolding height groups
  height_le g = rw (← (length-map leading (λ (r : MemberRow). r.group))) (passing_le (reaches (edges L) g) (map (λ (r : MemberRow). r.group) leading))

  among_groups : (row : MemberRow) → IsItem leading row → list_any (λ x. x == row.group) groups ≡ true
  unfolding groups
  among_groups row i = found_item (λ x. x == row.group) (map (λ (r : MemberRow). r.group) leading) row.group (item_mapped (λ (r : MemberRow). r.group) leading row i) (eq-eqb row.group row.group refl)

  on_low : (row : MemberRow) (way : Way) → IsItem leading row → IsItem rows row → ((h : ℕ) → IsReason L rows s h way → length way ≤ height h)
      → (m : Member) → row.member ≡ m → IsBehind (λ h. IsReason L rows s h way) s m way → length (row ∷ way) ≤ height row.group
  unfolding height
  on_low row way i j below (Person p) is e =
      let none : length way ≡ 0 = ap (λ (w : Way). length w) e.1 in
      let some : passing (λ x. false) groups < passing (reaches (edges L) row.group) groups =
      passing_less (λ x. false) (reaches (edges L) row.group) (λ x f. absurd (both_ways false refl f)) row.group refl (reaches_self (edges L) row.group) groups (among_groups row i) in
      omega (arith, none, some)
  on_low row way i j below (Group h) is e =
      let rest : length way ≤ passing (reaches (edges L) h) groups = below h e in
      let less : passing (reaches (edges L) h) groups < passing (reaches (edges L) row.group) groups =
      falls (edges L) no_circle groups row.group h (row_edge row h j is) (among_groups row i) in
      omega (arith, rest, less)

  low : (g : ℕ) (way : Way) → IsReason L rows s g way → length way ≤ height g
  low g [] r = omega arith
  low g (row ∷ way) r = rw (← r.1) (on_low row way (taken_row g row way r) (item_from rows row r.0) (λ h q. low h way q) row.member refl r.3)

  pub taken : (g : ℕ) (way : Way) → Contains (reasons L rows s g) way → IsReason L rows s g way
  unfolding reasons leading
  taken g way c =
      let i : IsItem (reasons L rows s g) way = item_from (reasons L rows s g) way c in
      let f = shorter_from (λ n. ways n leading (is_end L s) s g) (suc (length leading)) way i in
      way_taken f.0 g way f.1

  pub found : (g : ℕ) (way : Way) → IsReason L rows s g way → Contains (reasons L rows s g) way
  unfolding reasons leading
  found g way r =
      let a = low g way r in
      let b = height_le g in
      item_to (reasons L rows s g) way
      (shorter_to (λ n. ways n leading (is_end L s) s g) (suc (length leading)) (length way) way (omega (arith, a, b)) (way_found g way r))

  -- ---- a member has a reason
  one_row : (g : ℕ) → is_composite g L.composites ≡ false → ((h : ℕ) → rank L h < rank L g → member L h s ≡ true → (way : Way) × IsReason L rows s h way)
      → (row : MemberRow) → IsItem rows row → row.group ≡ g → (m : Member) → row.member ≡ m → gives (having L s) s m ≡ true → (way : Way) × IsReason L rows s g way
  one_row g f below row i e (Person p) is t =
      (row ∷ [], (item_to rows row i, e, f, subst (λ (m : Member). IsBehind (λ h. IsReason L rows s h []) s m []) (sym is) (eqb-true p s t, refl)))
  one_row g f below row i e (Group h) is t =
      let edge : has_edge (edges L) g h ≡ true = subst (λ x. has_edge (edges L) x h ≡ true) e (row_edge row h i is) in
      let r = below h (rank_edge L no_circle g h edge) t in
      (row ∷ r.0, (item_to rows row i, e, f, subst (λ (m : Member). IsBehind (λ h. IsReason L rows s h r.0) s m r.0) (sym is) r.1))

  one_way : (n g : ℕ) → rank L g < n → member L g s ≡ true → (way : Way) × IsReason L rows s g way
  one_way zero g l m = absurd (omega (arith, l))
  one_way (suc n) g l m = elim (cases_Bool (is_composite g L.composites)) [
    | inl t ↦ ([], an_end L s g t (law g) ∙ m)
    | inr f ↦
        let stands : in_rows (having L s) L.rows g s ≡ true = rw f at (sym (law g) ∙ m) in
        let P : ℕ × Member → Bool = λ (r : ℕ × Member). (r.0 == g) && gives (having L s) s r.1 in
        let row = item_found (λ (r : MemberRow). P (r.group, r.member)) rows (sym (same P) ∙ stands) in
        let w = and_parts (row.0.group == g) (gives (having L s) s row.0.member) row.2 in
        one_row g f (λ h less. one_way n h (omega (arith, l, less))) row.0 row.1 (eqb-true row.0.group g w.0) row.0.member refl w.1
  ]

  pub has_reason : (g : ℕ) → member L g s ≡ not (length (reasons L rows s g) == 0)
  has_reason g = elim (cases_Bool (member L g s)) [
    | inl t ↦
        let w = one_way (suc (rank L g)) g (omega arith) t in
        let c = found g w.0 w.1 in
        let some = c.1 in
        t ∙ sym (ap not (ne_eqb (length (reasons L rows s g)) 0 (λ z. omega (arith, some, z))))
    | inr f ↦ elim (cases_eq (length (reasons L rows s g)) 0) [
      | inl z ↦ f ∙ sym (ap not (eq-eqb (length (reasons L rows s g)) 0 z))
      | inr n ↦
          let c = first (reasons L rows s g) n in
          absurd (both_ways (member L g s) f (is_member g c.0 (taken g c.0 c.1)))
    ]
  ]
    where
      first : (ws : List Way) → (length ws ≡ 0 → ⊥) → (w : Way) × Contains ws w
      first [] n = absurd (n refl)
      first (w ∷ ws) n = (w, item_to (w ∷ ws) w (inl refl))
