-- Who is gained and lost among those that are turned.
use Rattle.std.proofs.Common.{◌≡◌, ◌&&◌, ℕ, List, [], ◌∷◌, Bool, true, false, not, max, filter, arith, refl, ◌∙◌, ap}
use Rattle.reg_effect.specs.declared.live.Live.{Live}
use Rattle.reg_effect.specs.Deltas.{top, pairs_below, is_gained, began, ended}
use Rattle.reg_effect.specs.Member.{member}
use Rattle.reg_effect.specs.Turned.{turns_by, turns}
use Rattle.reg_rules.specs.Settling.{gains, losses}

module _ (was is : ℕ → ℕ → Bool) where
  losses_are : (ps : List (ℕ × ℕ)) → losses (turns_by was is ps) ≡ filter (λ (p : ℕ × ℕ). was p.0 p.1 && not (is p.0 p.1)) ps
  losses_are [] = refl
  losses_are (p ∷ ps) = go (was p.0 p.1) (is p.0 p.1) refl refl (losses_are ps)
    where
      go : (a b : Bool) → was p.0 p.1 ≡ a → is p.0 p.1 ≡ b → losses (turns_by was is ps) ≡ filter (λ (p : ℕ × ℕ). was p.0 p.1 && not (is p.0 p.1)) ps → losses (turns_by was is (p ∷ ps)) ≡ filter (λ (p : ℕ × ℕ). was p.0 p.1 && not (is p.0 p.1)) (p ∷ ps)
      go true true e d h = rw (e, d) h
      go true false e d h = rw (e, d) (ap (λ rest. (p.0, p.1) ∷ rest) h)
      go false true e d h = rw (e, d) h
      go false false e d h = rw (e, d) h

  gains_are : (ps : List (ℕ × ℕ)) → gains (turns_by was is ps) ≡ filter (λ (p : ℕ × ℕ). is p.0 p.1 && not (was p.0 p.1)) ps
  gains_are [] = refl
  gains_are (p ∷ ps) = go (was p.0 p.1) (is p.0 p.1) refl refl (gains_are ps)
    where
      go : (a b : Bool) → was p.0 p.1 ≡ a → is p.0 p.1 ≡ b → gains (turns_by was is ps) ≡ filter (λ (p : ℕ × ℕ). is p.0 p.1 && not (was p.0 p.1)) ps → gains (turns_by was is (p ∷ ps)) ≡ filter (λ (p : ℕ × ℕ). is p.0 p.1 && not (was p.0 p.1)) (p ∷ ps)
      go true true e d h = rw (e, d) h
      go true false e d h = rw (e, d) h
      go false true e d h = rw (e, d) (ap (λ rest. (p.0, p.1) ∷ rest) h)
      go false false e d h = rw (e, d) h

max_turned : (a b : ℕ) → max a b ≡ max b a
max_turned a b = omega arith

pub losses_ended : (L N : Live) → losses (turns L N) ≡ ended L N
unfolding turns ended
losses_ended L N = losses_are (member L) (member N) (pairs_below (max (top L) (top N)) (max (top L) (top N))) ∙ ap (λ (n : ℕ). filter (is_gained N L) (pairs_below n n)) (max_turned (top L) (top N))

pub gains_began : (L N : Live) → gains (turns L N) ≡ began L N
unfolding turns began
gains_began L N = gains_are (member L) (member N) (pairs_below (max (top L) (top N)) (max (top L) (top N)))
