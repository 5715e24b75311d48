-- A change reaches only what depends on its group, and only the persons whose membership of that group it changes.
use Rattle.std.proofs.Common.{◌≡◌, ◌<◌, ◌&&◌, ◌==◌, ℕ, List, Bool, true, false, arith, refl, inl, inr, sym, ◌∙◌, zero, suc, subst}
use Rattle.std.proofs.lemmas.Bool.{eqb-true, cases_Bool, false_from_ne_true, both_ways, ne_eqb}
use Rattle.reg_terms.specs.declared.kinds.Member.{Member}
use Rattle.reg_terms.specs.declared.rows.CompositeRow.{CompositeRow}
use Rattle.reg_effect.specs.declared.live.Live.{Live}
use Rattle.reg_effect.specs.declared.live.Change.{Change}
use Rattle.reg_effect.specs.declared.live.Change.TheVariants.{RowOn, RowOff, FactorsOn, FactorsOff}
use Rattle.reg_effect.specs.Member.{combine, gives, level, member}
use Rattle.reg_graph.specs.Edges.{reaches, IsAcyclic}
use Rattle.reg_effect.specs.Edges.{edges}
use Rattle.reg_effect.specs.Changes.{changed, group_of}
use Rattle.reg_effect.specs.Order.{row_cmp, composite_cmp, is_live_row}
use Rattle.reg_effect.specs.Walk.{Touches}
use Rattle.reg_effect.proofs.Edits.{any_removed, any_added, row_is, row_same, group_same}
use Rattle.reg_graph.proofs.Reaching.{reaches_self, reaches_trans, reaches_edge}
use Rattle.reg_effect.proofs.Deep.{rank, rank_edge, level_same, member_level, member_only}

-- in another group a change changes nothing by itself
pub own_same : (c : Change) (L : Live) (M : ℕ → Bool) (x s : ℕ) → (group_of c == x) ≡ false → level M (changed c L) x s ≡ level M L x s
own_same (RowOn g m) L M x s h =
    let test : ℕ × Member → Bool = λ (row : ℕ × Member). (row.0 == x) && gives M s row.1 in
    rw (any_added row_cmp test (g, m) (row_same g m test) (rw h refl) L.rows) refl
own_same (RowOff g m) L M x s h =
    rw (any_removed (is_live_row g m) (λ (row : ℕ × Member). (row.0 == x) && gives M s row.1) (λ row t. other row.0 row.1 t) L.rows) refl
  where
    other : (y : ℕ) (n : Member) → is_live_row g m (y, n) ≡ true → ((y == x) && gives M s n) ≡ false
    other y n t = rw ((row_is g m y n t).0, h) refl
own_same (FactorsOn g op left right) L M x s h =
    let c : CompositeRow = record { group = g; op = op; left = left; right = right } in
    rw (
      any_added composite_cmp (λ (c : CompositeRow). c.group == x) c (λ d e. other d (group_same c d e) ∙ sym h) h L.composites,
      any_added composite_cmp (λ (c : CompositeRow). (c.group == x) && combine c.op (M c.left) (M c.right)) c (λ d e. rw (other d (group_same c d e), h) refl) (rw h refl) L.composites,
    ) refl
  where
    other : (d : CompositeRow) → (d.group == g) ≡ true → (d.group == x) ≡ false
    other d t = rw (eqb-true d.group g t) h
own_same (FactorsOff g) L M x s h =
    rw (
      any_removed (λ (c : CompositeRow). c.group == g) (λ (c : CompositeRow). c.group == x) other L.composites,
      any_removed (λ (c : CompositeRow). c.group == g) (λ (c : CompositeRow). (c.group == x) && combine c.op (M c.left) (M c.right)) (λ c t. rw (other c t) refl) L.composites,
    ) refl
  where
    other : (d : CompositeRow) → (d.group == g) ≡ true → (d.group == x) ≡ false
    other d t = rw (eqb-true d.group g t) h

-- what doesn't reach the group of the change isn't it
pub not_it : (es : List (ℕ × ℕ)) (x g : ℕ) → reaches es x g ≡ false → (g == x) ≡ false
not_it es x g r = ne_eqb g x (λ e. both_ways (reaches es x g) r (rw e (reaches_self es x)))

-- what doesn't depend on the group stays
pub apart : (c : Change) (L : Live) → IsAcyclic (edges L) → IsAcyclic (edges (changed c L)) → (s n x : ℕ) → rank (changed c L) x < n → reaches (edges (changed c L)) x (group_of c) ≡ false → member L x s ≡ member (changed c L) x s
apart c L a b s zero x lt r = absurd (omega (arith, lt))
apart c L a b s (suc n) x lt r =
    let N : Live = changed c L in
    let own : level (λ h. member L h s) N x s ≡ level (λ h. member L h s) L x s = own_same c L (λ h. member L h s) x s (not_it (edges N) x (group_of c) r) in
    let below : level (λ h. member L h s) N x s ≡ level (λ h. member N h s) N x s =
    level_same N (λ h. member L h s) (λ h. member N h s) s x
    (λ h e. let falls = rank_edge N b x h e in apart c L a b s n h (omega (arith, lt, falls))
    (false_from_ne_true (reaches (edges N) h (group_of c)) (λ t. both_ways (reaches (edges N) x (group_of c)) r (reaches_trans (edges N) x h (group_of c) (reaches_edge (edges N) x h e) t)))) in
    member_level L a x s ∙ (sym own ∙ (below ∙ sym (member_level N b x s)))

pub stays : (c : Change) (L : Live) → IsAcyclic (edges L) → IsAcyclic (edges (changed c L)) → (x s : ℕ) → reaches (edges (changed c L)) x (group_of c) ≡ false → member L x s ≡ member (changed c L) x s
stays c L a b x s r = apart c L a b s (suc (rank (changed c L) x)) x (omega arith) r

-- the group's members after the change, by what was below it
pub at_group : (c : Change) (L : Live) → IsAcyclic (edges L) → IsAcyclic (edges (changed c L)) → (s : ℕ) → member (changed c L) (group_of c) s ≡ level (λ h. member L h s) (changed c L) (group_of c) s
at_group c L a b s =
    let N : Live = changed c L in
    member_level N b (group_of c) s
    ∙ sym (level_same N (λ h. member L h s) (λ h. member N h s) s (group_of c) (λ h e. stays c L a b h s (b (group_of c) h e)))

-- a person whose membership of the group stays keeps all memberships
pub quiet : (c : Change) (L : Live) → IsAcyclic (edges L) → IsAcyclic (edges (changed c L)) → (s : ℕ) → member L (group_of c) s ≡ member (changed c L) (group_of c) s → (x : ℕ) → member L x s ≡ member (changed c L) x s
quiet c L a b s same = member_only (changed c L) b s (λ x. member L x s) fix
  where
    fix : (x : ℕ) → member L x s ≡ level (λ h. member L h s) (changed c L) x s
    fix x = elim (cases_Bool (group_of c == x)) [
      | inl t ↦ let e : group_of c ≡ x = eqb-true (group_of c) x t in rw (← e) (same ∙ at_group c L a b s)
      | inr f ↦ member_level L a x s ∙ sym (own_same c L (λ h. member L h s) x s f)
    ]

-- the same of live data that are known to be those after the change
pub stays_at : (c : Change) (L N : Live) → N ≡ changed c L → IsAcyclic (edges L) → IsAcyclic (edges N) → (x s : ℕ) → reaches (edges N) x (group_of c) ≡ false → member L x s ≡ member N x s
stays_at c L N is = let P : Live → Type 0 = λ M. IsAcyclic (edges L) → IsAcyclic (edges M) → (x s : ℕ) → reaches (edges M) x (group_of c) ≡ false → member L x s ≡ member M x s in subst P (sym is) (stays c L)

pub at_group_at : (c : Change) (L N : Live) → N ≡ changed c L → IsAcyclic (edges L) → IsAcyclic (edges N) → (s : ℕ) → member N (group_of c) s ≡ level (λ h. member L h s) N (group_of c) s
at_group_at c L N is = let P : Live → Type 0 = λ M. IsAcyclic (edges L) → IsAcyclic (edges M) → (s : ℕ) → member M (group_of c) s ≡ level (λ h. member L h s) M (group_of c) s in subst P (sym is) (at_group c L)

pub quiet_at : (c : Change) (L N : Live) → N ≡ changed c L → IsAcyclic (edges L) → IsAcyclic (edges N) → (s : ℕ) → member L (group_of c) s ≡ member N (group_of c) s → (x : ℕ) → member L x s ≡ member N x s
quiet_at c L N is = let P : Live → Type 0 = λ M. IsAcyclic (edges L) → IsAcyclic (edges M) → (s : ℕ) → member L (group_of c) s ≡ member M (group_of c) s → (x : ℕ) → member L x s ≡ member M x s in subst P (sym is) (quiet c L)

-- what stands of the old memberships after a change
pub touches : (c : Change) (L N : Live) → N ≡ changed c L → IsAcyclic (edges L) → IsAcyclic (edges N) → (was : ℕ → ℕ → Bool) → ((y q : ℕ) → was y q ≡ member L y q) → Touches was N (group_of c)
touches c L N is a b was k = record {
  stays = λ x q r. k x q ∙ stays_at c L N is a b x q r;
  here = λ q. level_same N (λ h. was h q) (λ h. member L h q) q (group_of c) (λ h e. k h q) ∙ sym (at_group_at c L N is a b q);
  quiet = λ q same x. k x q ∙ quiet_at c L N is a b q (sym (k (group_of c) q) ∙ same) x;
}
