-- Who is a member after memberships were turned.
use Rattle.std.proofs.Common.{◌≡◌, ◌==◌, ◌&&◌, ℕ, List, [], ◌∷◌, Bool, true, false, max, if◌then◌else◌, refl, inl, inr}
use Rattle.std.proofs.lemmas.Bool.{cases_Bool, or_cases, and_parts, eqb-true}
use Rattle.reg_graph.specs.Sets.{holds}
use Rattle.reg_effect.specs.declared.live.Live.{Live}
use Rattle.reg_effect.specs.Deltas.{top, pairs_below}
use Rattle.reg_effect.specs.Member.{member}
use Rattle.reg_effect.specs.Walk.{differ}
use Rattle.reg_effect.specs.Turned.{after_turns, turns_by, turns}
use Rattle.reg_effect.proofs.Remembering.{differ_below}

turned_one : (is : ℕ → ℕ → Bool) (a b g s : ℕ) (old : Bool) → old ≡ is g s → (if (a == g) && (b == s) then is a b else old) ≡ is g s
turned_one is a b g s old e = elim (cases_Bool ((a == g) && (b == s))) [
  | inl y ↦ let w = and_parts (a == g) (b == s) y in rw y (rw (eqb-true a g w.0, eqb-true b s w.1) refl)
  | inr n ↦ rw n e
]

-- a membership that is as it will be stays so
settled : (was is : ℕ → ℕ → Bool) (ps : List (ℕ × ℕ)) (g s : ℕ) (old : Bool) → old ≡ is g s → after_turns (turns_by was is ps) g s old ≡ is g s
settled was is [] g s old e = e
settled was is (p ∷ ps) g s old e = elim (cases_Bool (differ (was p.0 p.1) (is p.0 p.1))) [
  | inl y ↦ rw y (settled was is ps g s (if (p.0 == g) && (p.1 == s) then is p.0 p.1 else old) (turned_one is p.0 p.1 g s old e))
  | inr n ↦ rw n (settled was is ps g s old e)
]

-- one that differs is turned
reached : (was is : ℕ → ℕ → Bool) (ps : List (ℕ × ℕ)) (g s : ℕ) (old : Bool) → holds g s ps ≡ true → differ (was g s) (is g s) ≡ true → after_turns (turns_by was is ps) g s old ≡ is g s
reached was is [] g s old h d = cc
reached was is (p ∷ ps) g s old h d = elim (or_cases ((p.0 == g) && (p.1 == s)) (holds g s ps) h) [
  | inl here ↦
      let w = and_parts (p.0 == g) (p.1 == s) here in
      let y : differ (was p.0 p.1) (is p.0 p.1) ≡ true = rw (eqb-true p.0 g w.0, eqb-true p.1 s w.1) d in
      let v : (if (p.0 == g) && (p.1 == s) then is p.0 p.1 else old) ≡ is g s = rw here (rw (eqb-true p.0 g w.0, eqb-true p.1 s w.1) refl) in
      rw y (settled was is ps g s (if (p.0 == g) && (p.1 == s) then is p.0 p.1 else old) v)
  | inr later ↦ elim (cases_Bool (differ (was p.0 p.1) (is p.0 p.1))) [
    | inl y ↦ rw y (reached was is ps g s (if (p.0 == g) && (p.1 == s) then is p.0 p.1 else old) later d)
    | inr n ↦ rw n (reached was is ps g s old later d)
  ]
]

same_where : (a b : Bool) → differ a b ≡ false → a ≡ b
same_where true true h = refl
same_where true false h = cc
same_where false true h = cc
same_where false false h = refl

-- from the memberships of L the turns from L to N lead to those of N
pub turned_to : (L N : Live) (g s : ℕ) → after_turns (turns L N) g s (member L g s) ≡ member N g s
unfolding turns
turned_to L N g s = elim (cases_Bool (differ (member L g s) (member N g s))) [
  | inl y ↦ reached (member L) (member N) (pairs_below (max (top L) (top N)) (max (top L) (top N))) g s (member L g s) (differ_below L N g s y) y
  | inr n ↦ settled (member L) (member N) (pairs_below (max (top L) (top N)) (max (top L) (top N))) g s (member L g s) (same_where (member L g s) (member N g s) n)
]
