-- A statement of a group that has had one changes nothing.
use Rattle.std.proofs.Common.{◌≡◌, ◌==◌, ◌&&◌, ◌||◌, not, ℕ, List, [], Bool, true, false, refl, sym, ◌∙◌, inl, inr, eqb-true}
use Rattle.std.proofs.lemmas.Bool.{or_cases, or_left, or_right}
use Rattle.reg_effect.specs.Member.{member}
use Rattle.reg_effect.specs.declared.live.Live.{Live}
use Rattle.reg_graph.specs.Edges.{among}
use Rattle.reg_access.specs.Grounds.{AreDecided}

-- no group has had one
pub none_known : (L : Live) (groups decided : List ℕ) → groups ≡ [] → AreDecided L groups decided
none_known L groups decided none = record { each = λ g q is m. let some : among g [] ≡ true = rw none at is in absurd (let clash : ⊥ = cc in clash) }

-- of the members of a group that has had one all is decided
pub passed_decided : (L : Live) (groups decided : List ℕ) (g q : ℕ) → AreDecided L groups decided → among g groups ≡ true → among q decided ≡ (member L g q || among q decided)
passed_decided L groups decided g q known old = by (member L g q) (among q decided) (known.each g q old)
  where
    by : (m d : Bool) → (m ≡ true → d ≡ true) → d ≡ (m || d)
    by true d h = h refl
    by false d h = refl

pub passed_allowed : (L : Live) (groups decided : List ℕ) (g q : ℕ) (allow is : Bool) → AreDecided L groups decided → among g groups ≡ true → is ≡ ((allow && (member L g q && not (among q decided))) || is)
passed_allowed L groups decided g q allow is known old = by allow (member L g q) (among q decided) is (known.each g q old)
  where
    by : (a m d b : Bool) → (m ≡ true → d ≡ true) → b ≡ ((a && (m && not d)) || b)
    by true true d b h = rw (h refl) refl
    by true false d b h = refl
    by false m d b h = refl

-- one group more, of whose members all is decided
pub more_known : (L : Live) (groups now decided new : List ℕ) (g : ℕ) → AreDecided L groups decided → ((h : ℕ) → among h now ≡ ((g == h) || among h groups))
    → ((q : ℕ) → among q new ≡ (member L g q || among q decided)) → AreDecided L now new
more_known L groups now decided new g known marked more = record {
  each = λ h q is m. more q ∙ elim (or_cases (g == h) (among h groups) (sym (marked h) ∙ is)) [
    | inl same ↦ or_left (member L g q) (among q decided) (rw (← eqb-true g h same) at m)
    | inr old ↦ or_right (member L g q) (among q decided) (known.each h q old m)
  ];
}

-- a group that isn't new has had one
pub is_old : (is old : Bool) → is ≡ not old → is ≡ false → old ≡ true
is_old is true h f = refl
is_old is false h f = absurd (let clash : ⊥ = cc in clash)
