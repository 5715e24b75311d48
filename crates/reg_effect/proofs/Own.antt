-- What one group's own rows and factors give, and how many groups they ask.
use Rattle.std.proofs.Common.{◌≡◌, ◌≤◌, ◌+◌, ◌==◌, ◌&&◌, ◌||◌, ℕ, List, [], ◌∷◌, Bool, true, false, cond, Option, Some, None, length, arith, refl, sym, ◌∙◌, ap, inl, inr}
use Rattle.std.proofs.lemmas.Bool.{cases_Bool, eqb-true, or_left}
use Rattle.std.specs.List.{list_any, find}
use Rattle.reg_terms.specs.declared.kinds.Member.{Member}
use Rattle.reg_terms.specs.declared.kinds.Member.TheVariants.{Person, Group}
use Rattle.reg_terms.specs.declared.rows.CompositeRow.{CompositeRow}
use Rattle.reg_effect.specs.declared.live.Live.{Live}
use Rattle.reg_terms.specs.Rows.{is_composite}
use Rattle.reg_effect.specs.Member.{combine, in_rows, in_factors, level}
use Rattle.reg_effect.specs.Order.{has_live_row, nested}
use Rattle.reg_effect.specs.Edges.{edges, row_edges, factor_edges}
use Rattle.reg_effect.specs.Asked.{Once}
use Rattle.reg_effect.specs.Bound.{leaving}
use Rattle.reg_effect.proofs.Leaving.{leaving_parts}
use Rattle.reg_effect.proofs.Asking.{no_factors}

pub some_is : (x y : CompositeRow) → Some x ≡ Some y → x ≡ y
some_is x y e = cc

pub found_composite : (g : ℕ) (cs : List CompositeRow) (c : CompositeRow) → find (λ (d : CompositeRow). d.group == g) cs ≡ Some c → is_composite g cs ≡ true
found_composite g [] c h = cc
found_composite g (d ∷ ds) c h = elim (cases_Bool (d.group == g)) [
  | inl t ↦ or_left _ _ t
  | inr f ↦ rw f (found_composite g ds c (rw f at h))
]

pub no_composite : (g : ℕ) (cs : List CompositeRow) → find (λ (d : CompositeRow). d.group == g) cs ≡ None → is_composite g cs ≡ false
no_composite g [] h = refl
no_composite g (d ∷ ds) h = elim (cases_Bool (d.group == g)) [
  | inl t ↦ let e : Some d ≡ None = rw t at h in cc
  | inr f ↦ rw f (no_composite g ds (rw f at h))
]

pub found_factors : (M : ℕ → Bool) (g : ℕ) (cs : List CompositeRow) (c : CompositeRow) → Once cs → find (λ (d : CompositeRow). d.group == g) cs ≡ Some c → in_factors M cs g ≡ combine c.op (M c.left) (M c.right)
found_factors M g [] c o h = cc
found_factors M g (d ∷ ds) c o h = elim (cases_Bool (d.group == g)) [
  | inl t ↦
      let e : d ≡ c = some_is d c (rw t at h) in
      let rest : in_factors M ds g ≡ false = no_factors M ds g (rw (eqb-true d.group g t) at o.0) in
      rw (t, rest, ← e) (none (combine d.op (M d.left) (M d.right)))
  | inr f ↦ rw f (found_factors M g ds c o.1 (rw f at h))
]
  where
    none : (b : Bool) → (b || false) ≡ b
    none true = refl
    none false = refl

pub by_factors : (M : ℕ → Bool) (L : Live) (g s : ℕ) (found : Option CompositeRow) (c : CompositeRow) (left right : Bool) → Once L.composites → found ≡ find (λ (d : CompositeRow). d.group == g) L.composites → found ≡ Some c → left ≡ M c.left → right ≡ M c.right → combine c.op left right ≡ level M L g s
by_factors M L g s found c left right o f e l r =
    let h : find (λ (d : CompositeRow). d.group == g) L.composites ≡ Some c = sym f ∙ e in
    rw (l, r) (sym (rw (found_composite g L.composites c h) (found_factors M g L.composites c o h)))

pub rows_given : (M : ℕ → Bool) (rows : List (ℕ × Member)) (g s : ℕ) → (has_live_row g (Person s) rows || list_any M (nested g rows)) ≡ in_rows M rows g s
rows_given M [] g s = refl
rows_given M ((x, Person p) ∷ rows) g s = over ((x == g) && (p == s)) (has_live_row g (Person s) rows) (list_any M (nested g rows)) ∙ ap (λ b. ((x == g) && (p == s)) || b) (rows_given M rows g s)
  where
    over : (a b c : Bool) → ((a || b) || c) ≡ (a || (b || c))
    over true b c = refl
    over false b c = refl
rows_given M ((x, Group h) ∷ rows) g s = elim (cases_Bool (x == g)) [
  | inl t ↦ rw t (past (has_live_row g (Person s) rows) (M h) (list_any M (nested g rows)) ∙ ap (λ b. M h || b) (rows_given M rows g s))
  | inr f ↦ rw f (rows_given M rows g s)
]
  where
    past : (a b c : Bool) → (a || (b || c)) ≡ (b || (a || c))
    past true true c = refl
    past true false c = refl
    past false true c = refl
    past false false c = refl

pub by_rows : (M : ℕ → Bool) (L : Live) (g s : ℕ) (found : Option CompositeRow) (direct : Bool) → found ≡ find (λ (d : CompositeRow). d.group == g) L.composites → found ≡ None → direct ≡ has_live_row g (Person s) L.rows → (direct || list_any M (nested g L.rows)) ≡ level M L g s
by_rows M L g s found direct f e d = rw (d, no_composite g L.composites (sym f ∙ e)) (rows_given M L.rows g s)

pub rows_leaving : (rows : List (ℕ × Member)) (g : ℕ) → length (nested g rows) ≡ leaving (row_edges rows) g
rows_leaving [] g = refl
rows_leaving ((x, Person p) ∷ rows) g = rows_leaving rows g
rows_leaving ((x, Group h) ∷ rows) g =
    let r = rows_leaving rows g in
    elim (x == g) as (λ b. length (cond b (h ∷ nested g rows) (nested g rows)) ≡ cond b (1 + leaving (row_edges rows) g) (leaving (row_edges rows) g)) [ true ↦ omega (arith, r) | false ↦ r ]

pub rows_cost : (L : Live) (g : ℕ) → length (nested g L.rows) ≤ leaving (edges L) g
rows_cost L g =
    let r = rows_leaving L.rows g in
    let p = leaving_parts L g in
    omega (arith, r, p)

pub factors_leaving : (g : ℕ) (cs : List CompositeRow) (c : CompositeRow) → find (λ (d : CompositeRow). d.group == g) cs ≡ Some c → 2 ≤ leaving (factor_edges cs) g
factors_leaving g [] c h = cc
factors_leaving g (d ∷ ds) c h = elim (cases_Bool (d.group == g)) [
  | inl t ↦ rw t (omega arith)
  | inr f ↦ rw f (factors_leaving g ds c (rw f at h))
]

pub factors_cost : (L : Live) (g : ℕ) (found : Option CompositeRow) (c : CompositeRow) → found ≡ find (λ (d : CompositeRow). d.group == g) L.composites → found ≡ Some c → 2 ≤ leaving (edges L) g
factors_cost L g found c f e =
    let r = factors_leaving g L.composites c (sym f ∙ e) in
    let p = leaving_parts L g in
    omega (arith, r, p)
