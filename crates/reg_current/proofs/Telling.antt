-- What the graph of the edges that stand tells of the facts.
use Rattle.std.proofs.Common.{◌≡◌, ◌==◌, ◌&&◌, ◌||◌, ℕ, List, [], ◌∷◌, Bool, true, false, refl, ◌∙◌, ap, map}
use Rattle.std.proofs.lemmas.List.Folds.{list_any-append}
use Rattle.std.proofs.lemmas.List.Sorted.{list_any-IsPermutation}
use Rattle.reg_terms.specs.declared.kinds.Member.TheVariants.{Person, Group}
use Rattle.reg_terms.specs.declared.rows.MemberRow.{MemberRow}
use Rattle.reg_terms.specs.declared.rows.CompositeRow.{CompositeRow}
use Rattle.reg_terms.specs.Kinds.{same_member}
use Rattle.reg_terms.specs.Rows.{is_nested, is_factor}
use Rattle.reg_facts.specs.Lists.{Lists}
use Rattle.reg_graph.specs.Edges.{is_needed, reaches}
use Rattle.reg_effect.specs.declared.live.Live.{Live}
use Rattle.reg_effect.specs.Edges.{edge_of, row_edges, factor_edges}
use Rattle.reg_effect.specs.Standing.{pair_of, standing}
use Rattle.reg_effect.proofs.Graphs.{reaches_same}
use Rattle.reg_current.specs.declared.dates.Dates.{Dates}
use Rattle.reg_current.specs.Circles.{leads_back}
use Rattle.reg_current.specs.Invariant.{IsBeside}

needed_rows : (rows : List MemberRow) (b : ℕ) → is_needed (row_edges (map pair_of rows)) b ≡ is_nested b rows
needed_rows [] b = refl
needed_rows (row ∷ rows) b = elim row.member as (λ m. is_needed (edge_of row.group m (row_edges (map pair_of rows))) b ≡ (same_member m (Group b) || is_nested b rows)) [
  | Person p ↦ needed_rows rows b
  | Group h ↦ ap (λ x. (h == b) || x) (needed_rows rows b)
]

needed_factors : (cs : List CompositeRow) (b : ℕ) → is_needed (factor_edges cs) b ≡ is_factor b cs
needed_factors [] b = refl
needed_factors (c ∷ cs) b = rw (needed_factors cs b) (over (c.left == b) (c.right == b) (is_factor b cs))
  where
    over : (x y z : Bool) → (x || (y || z)) ≡ ((x || y) || z)
    over true y z = refl
    over false y z = refl

-- a group to which an edge goes is a factor, where no row names it
factor_needed : (rows : List MemberRow) (cs : List CompositeRow) (b : ℕ) → is_nested b rows ≡ false → is_needed (standing rows cs) b ≡ is_factor b cs
unfolding standing
factor_needed rows cs b none =
    list_any-append (λ (e : ℕ × ℕ). e.1 == b) (row_edges (map pair_of rows)) (factor_edges cs)
    ∙ rw (needed_rows rows b, none) (needed_factors cs b)

-- ---- the same of what is kept beside the facts

pub leads_told : (at : ℕ) (f : Lists) (kept : Live) (graph : List (ℕ × ℕ)) (dates : Dates) (g other : ℕ) → IsBeside at f kept graph dates → reaches graph other g ≡ leads_back g other f
leads_told at f kept graph dates g other h = reaches_same graph (standing f.rows f.composites) (λ a b. list_any-IsPermutation (λ (e : ℕ × ℕ). (e.0 == a) && (e.1 == b)) graph (standing f.rows f.composites) h.edges) other g

pub factor_told : (at : ℕ) (f : Lists) (kept : Live) (graph : List (ℕ × ℕ)) (dates : Dates) (g : ℕ) → IsBeside at f kept graph dates → is_nested g f.rows ≡ false → is_needed graph g ≡ is_factor g f.composites
factor_told at f kept graph dates g h none = list_any-IsPermutation (λ (e : ℕ × ℕ). e.1 == g) graph (standing f.rows f.composites) h.edges ∙ factor_needed f.rows f.composites g none
