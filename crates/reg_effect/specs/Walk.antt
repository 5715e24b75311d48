-- Words of the walk over the groups above a change.
use Rattle.reg_graph.specs.Sets.{holds}
use Rattle.reg_graph.specs.Edges.{among, reaches}
use Rattle.reg_effect.specs.declared.live.Live.{Live}
use Rattle.reg_effect.specs.Member.{member, level}
use Rattle.reg_effect.specs.Edges.{edges}
use Rattle.reg_effect.specs.Bound.{leaving}
use Rattle.std.specs.Prelude.{◌≡◌, ◌+◌, ℕ, ◌==◌, ◌&&◌, List, [], ◌∷◌, Bool, false, not}
use Rattle.std.specs.Prelude.{if◌then◌else◌}

-- whether the old and the new membership differ
abbrev pub differ : Bool → Bool → Bool
differ a b = if a then not b else b

-- whether a membership begins, by the old and the new one
abbrev pub begins : Bool → Bool → Bool
begins was is = is && not was

-- whether it ends
abbrev pub ends : Bool → Bool → Bool
ends was is = was && not is

-- the persons have the membership that lev says in the group, and all other memberships stay
abbrev pub Passed : List (ℕ × ℕ) → List (ℕ × ℕ) → ℕ → (ℕ → Bool) → List ℕ → Type 0
Passed old now g lev persons =
    (y q : ℕ) → holds y q now ≡ (if (y == g) && among q persons then lev q else holds y q old)

-- the steps for one person over the groups above
abbrev pub climb : List (ℕ × ℕ) → ℕ → List ℕ → ℕ
climb es g [] = 0
climb es g (x ∷ xs) = (if x == g then 0 else leaving es x + 2) + climb es g xs

-- what stands of the memberships from before a change of the group, for the live data after it:
-- groups that don't depend on it have kept their members, one level gives its new members, and who
-- keeps its membership keeps all
pub record Touches (was : ℕ → ℕ → Bool) (N : Live) (g : ℕ) : Type 0 where
  pub stays : (x q : ℕ) → reaches (edges N) x g ≡ false → was x q ≡ member N x q
  pub here : (q : ℕ) → level (λ h. was h q) N g q ≡ member N g q
  pub quiet : (q : ℕ) → was g q ≡ member N g q → (x : ℕ) → was x q ≡ member N x q
