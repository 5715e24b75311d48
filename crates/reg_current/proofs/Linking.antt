-- Edges that come: the graph after a row or a composite more.
use Rattle.std.proofs.Common.{◌≡◌, ◌==◌, ◌&&◌, ℕ, List, [], ◌∷◌, false, map, Option, refl, sym, ◌∙◌, inl, inr}
use Rattle.std.proofs.lemmas.Bool.{cases_Bool}
use Rattle.std.proofs.lemmas.List.Sorted.{list_any-IsPermutation}
use Rattle.std.specs.List.Sorted.{IsPermutation}
use Rattle.reg_terms.specs.declared.kinds.Member.{Member}
use Rattle.reg_terms.specs.declared.rows.MemberRow.{MemberRow}
use Rattle.reg_facts.specs.Edits.{windowed}
use Rattle.reg_terms.specs.Rows.{is_row}
use Rattle.reg_facts.specs.Events.{happened}
use Rattle.reg_terms.specs.declared.event.Event.TheVariants.{RowRedated}
use Rattle.reg_facts.specs.Lists.{Lists}
use Rattle.reg_graph.specs.Edges.{reaches}
use Rattle.reg_effect.specs.Standing.{pair_of, standing}
use Rattle.reg_effect.proofs.Graphs.{reaches_same}
use Rattle.reg_current.specs.Circles.{leads_back}

-- a graph with the same edges in another order leads where they do
pub reaches_permuted : (es fs : List (ℕ × ℕ)) → IsPermutation es fs → (a b : ℕ) → reaches es a b ≡ reaches fs a b
reaches_permuted es fs p a b = reaches_same es fs (λ x y. list_any-IsPermutation (λ (e : ℕ × ℕ). (e.0 == x) && (e.1 == y)) es fs p) a b

-- what the graph tells of the facts' edges
pub stays_open : (graph : List (ℕ × ℕ)) (f : Lists) (g h : ℕ) → IsPermutation graph (standing f.rows f.composites) → leads_back g h f ≡ false → reaches graph h g ≡ false
stays_open graph f g h p clear = reaches_permuted graph (standing f.rows f.composites) p h g ∙ clear

-- and after one edge more of the same group
pub stays_open_more : (old mid : List (ℕ × ℕ)) (f : Lists) (g l r : ℕ) → IsPermutation old (standing f.rows f.composites) → IsPermutation ((g, l) ∷ old) mid → leads_back g r f ≡ false → reaches mid r g ≡ false
unfolding reaches
stays_open_more old mid f g l r p q clear =
    sym (reaches_permuted ((g, l) ∷ old) mid q r g) ∙ rw (stays_open old f g r p clear) refl

-- ---- other dates change no edge
pub windowed_pairs : (from : ℕ) (until : Option ℕ) (g : ℕ) (m : Member) (rows : List MemberRow) → map pair_of (map (windowed from until g m) rows) ≡ map pair_of rows
windowed_pairs from until g m [] = refl
windowed_pairs from until g m (row ∷ rows) =
    let rest = windowed_pairs from until g m rows in
    elim (cases_Bool (is_row g m row)) [
      | inl t ↦ rw (t, rest) refl
      | inr f ↦ rw (f, rest) refl
    ]

pub redated_same : (g : ℕ) (m : Member) (from : ℕ) (until : Option ℕ) (f : Lists) (graph : List (ℕ × ℕ)) → IsPermutation graph (standing f.rows f.composites) → IsPermutation graph (standing (happened (RowRedated g m from until) f).rows (happened (RowRedated g m from until) f).composites)
unfolding standing
redated_same g m from until f graph p = rw (windowed_pairs from until g m f.rows) p
