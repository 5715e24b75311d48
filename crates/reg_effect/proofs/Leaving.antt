-- How many edges leave a group.
use Rattle.std.proofs.Common.{◌≡◌, ◌+◌, ◌==◌, ℕ, List, [], ◌∷◌, ◌++◌, true, false, cond, arith, refl}
use Rattle.reg_effect.specs.declared.live.Live.{Live}
use Rattle.reg_effect.specs.Edges.{edges, row_edges, factor_edges}
use Rattle.reg_effect.specs.Bound.{leaving}

pub leaving-append : (xs ys : List (ℕ × ℕ)) (g : ℕ) → leaving (xs ++ ys) g ≡ leaving xs g + leaving ys g
leaving-append [] ys g = omega arith
leaving-append (x ∷ xs) ys g =
    rw (leaving-append xs ys g) (elim (x.0 == g) as (λ b. cond b (1 + (leaving xs g + leaving ys g)) (leaving xs g + leaving ys g) ≡ cond b (1 + leaving xs g) (leaving xs g) + leaving ys g) [ true ↦ omega arith | false ↦ refl ])

pub leaving_parts : (L : Live) (g : ℕ) → leaving (edges L) g ≡ leaving (row_edges L.rows) g + leaving (factor_edges L.composites) g
unfolding edges
leaving_parts L g = leaving-append (row_edges L.rows) (factor_edges L.composites) g
