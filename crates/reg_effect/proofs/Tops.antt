-- All ids with members, and all members, are below the top.
use Rattle.std.proofs.Common.{◌≡◌, ◌<◌, ◌==◌, ◌||◌, ◌⊎◌, ℕ, List, [], ◌∷◌, Bool, true, not, arith, refl, ◌∙◌, inl, inr, zero, suc}
use Rattle.std.proofs.lemmas.Bool.{eqb-true, eq-eqb, cases_Bool, and_parts, or_cases, or_left, or_right, cases_lt}
use Rattle.std.proofs.lemmas.List.Folds.{list_any-append}
use Rattle.reg_terms.specs.declared.kinds.Member.{Member}
use Rattle.reg_terms.specs.declared.kinds.Member.TheVariants.{Person, Group}
use Rattle.reg_terms.specs.declared.rows.CompositeRow.{CompositeRow}
use Rattle.reg_terms.specs.declared.kinds.SetOp.{SetOp}
use Rattle.reg_terms.specs.declared.kinds.SetOp.TheVariants.{Intersection, Complement, Union}
use Rattle.reg_effect.specs.declared.live.Live.{Live}
use Rattle.reg_terms.specs.Rows.{is_composite}
use Rattle.reg_effect.specs.Member.{combine, in_rows, in_factors, member, member_in, entries}
use Rattle.reg_effect.specs.Deltas.{rows_top, composites_top, top, below, members_of}
use Rattle.reg_graph.specs.Edges.{among}
use Rattle.reg_effect.proofs.Counting.{among_filter}

pub rows_below : (M : ℕ → Bool) (rows : List (ℕ × Member)) (g s : ℕ) → in_rows M rows g s ≡ true → (g < rows_top rows) × ((s < rows_top rows) ⊎ ((h : ℕ) × (M h ≡ true)))
rows_below M [] g s h = cc
rows_below M ((x, Person p) ∷ rows) g s h = elim (or_cases _ _ h) [
  | inl here ↦ let w = and_parts (x == g) (p == s) here in let a = eqb-true x g w.0 in let b = eqb-true p s w.1 in (omega (arith, a), inl (omega (arith, b)))
  | inr later ↦ let r = rows_below M rows g s later in (omega (arith, r.0), elim r.1 [ inl l ↦ inl (omega (arith, l)) | inr m ↦ inr m ])
]
rows_below M ((x, Group y) ∷ rows) g s h = elim (or_cases _ _ h) [
  | inl here ↦ let w = and_parts (x == g) (M y) here in let a = eqb-true x g w.0 in (omega (arith, a), inr (y, w.1))
  | inr later ↦ let r = rows_below M rows g s later in (omega (arith, r.0), elim r.1 [ inl l ↦ inl (omega (arith, l)) | inr m ↦ inr m ])
]

-- whom a composite has, one of its factors has
pub combine_some : (op : SetOp) (a b : Bool) → combine op a b ≡ true → (a || b) ≡ true
combine_some Intersection a b h = or_left _ _ (and_parts a b h).0
combine_some Complement a b h = or_left _ _ (and_parts a (not b) h).0
combine_some Union a b h = h

pub factors_below : (M : ℕ → Bool) (cs : List CompositeRow) (g : ℕ) → in_factors M cs g ≡ true → (g < composites_top cs) × ((h : ℕ) × (M h ≡ true))
factors_below M [] g h = cc
factors_below M (c ∷ cs) g h = elim (or_cases _ _ h) [
  | inl here ↦ let w = and_parts (c.group == g) (combine c.op (M c.left) (M c.right)) here in let a = eqb-true c.group g w.0 in
      (omega (arith, a), some (or_cases _ _ (combine_some c.op (M c.left) (M c.right) w.1)))
  | inr later ↦ let r = factors_below M cs g later in (omega (arith, r.0), r.1)
]
  where
    some : ((M c.left ≡ true) ⊎ (M c.right ≡ true)) → (h : ℕ) × (M h ≡ true)
    some (inl l) = (c.left, l)
    some (inr r) = (c.right, r)

pub member_in_below : (n : ℕ) (L : Live) (g s : ℕ) → member_in n L g s ≡ true → (g < top L) × (s < top L)
member_in_below zero L g s h = cc
member_in_below (suc n) L g s h = elim (cases_Bool (is_composite g L.composites)) [
  | inl t ↦ let r = factors_below (λ h. member_in n L h s) L.composites g (rw t at h) in let i = member_in_below n L r.1.0 s r.1.1 in (omega (arith, r.0), i.1)
  | inr f ↦ let r = rows_below (λ h. member_in n L h s) L.rows g s (rw f at h) in
      (omega (arith, r.0), elim r.1 [ inl l ↦ omega (arith, l) | inr m ↦ (member_in_below n L m.0 s m.1).1 ])
]

pub member_below : (L : Live) (g s : ℕ) → member L g s ≡ true → (g < top L) × (s < top L)
unfolding member
member_below L g s h = member_in_below (suc (entries L)) L g s h

pub among_below : (q n : ℕ) → q < n → among q (below n) ≡ true
among_below q zero h = absurd (omega (arith, h))
among_below q (suc n) h = list_any-append (λ x. x == q) (below n) (n ∷ []) ∙ elim (cases_lt q n) [
  | inl lt ↦ or_left _ _ (among_below q n lt)
  | inr ge ↦ or_right (among q (below n)) _ (or_left _ _ (eq-eqb n q (let e : n ≡ q = omega (arith, h, ge) in e)))
]

-- who is listed
pub among_members : (L : Live) (g q : ℕ) → among q (members_of L g) ≡ member L g q
unfolding members_of
among_members L g q = among_filter (member L g) q (below (top L)) ∙ elim (cases_Bool (member L g q)) [
  | inl t ↦ rw t (among_below q (top L) (member_below L g q t).1)
  | inr f ↦ rw f refl
]
