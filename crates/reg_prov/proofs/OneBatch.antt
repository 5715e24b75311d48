-- Two batches of one question are one, and a batch goes on from its place.
use Rattle.std.proofs.Common.{◌≡◌, ◌≤◌, ℕ, List, [], Bool, length, map, take, sym, ◌∙◌, ap, subst}
use Rattle.std.specs.List.{AllByRecursion}
use Rattle.reg_prov.specs.declared.target.TargetOp.{TargetOp}
use Rattle.reg_prov.specs.declared.past.GroupPast.{GroupPast}
use Rattle.reg_prov.specs.Batches.{IsBatchOf}
use Rattle.reg_prov.specs.Boundaries.{start_of}
use Rattle.reg_prov.specs.Pasts.{Tell, want_in}
use Rattle.reg_prov.specs.Targets.{after_ops}
use Rattle.reg_prov.specs.Turns.{AreTurns, IsBetween, op_of, wanted_at}
use Rattle.reg_prov.proofs.Batches.{all_last, fronts_between}
use Rattle.reg_prov.proofs.OneTurns.{none_turn, same_turns}
use Rattle.reg_prov.proofs.Placing.{end_for}
use Rattle.reg_prov.proofs.Wishes.{turns_told}

module _ (want : ℕ → ℕ → ℕ → Bool) (moments : List ℕ) (clock place most : ℕ) where
  pub one_batch : (end last : ℕ) (ops others : List TargetOp) → IsBatchOf want moments clock place most ops end → IsBatchOf want moments clock place most others last → (ops ≡ others) × (end ≡ last)
  one_batch end last ops others p q =
      let same : last ≡ end = q.ends ∙ sym p.ends in
      let again : AreTurns (wanted_at want moments) moments (start_of moments place) end q.turned.0 = subst (λ (n : ℕ). AreTurns (wanted_at want moments) moments (start_of moments place) n q.turned.0) same q.turned.1 in
      let turns : p.turned.0 ≡ q.turned.0 = same_turns (wanted_at want moments) moments (start_of moments place) end p.turned.0 q.turned.0 p.turned.1 again in
      (p.turned.2 ∙ (ap (map op_of) turns ∙ sym q.turned.2), sym same)

  pub none_done : (ops : List TargetOp) → IsBatchOf want moments clock place most ops place → ops ≡ []
  none_done ops p = p.turned.2 ∙ ap (map op_of) (none_turn (wanted_at want moments) moments place p.turned.0 p.turned.1)

  pub goes_on : (ops : List TargetOp) (end : ℕ) → IsBatchOf want moments clock place most ops end → place ≤ end
  goes_on ops end p = subst (λ (n : ℕ). place ≤ n) (sym p.ends) (end_for moments clock place most).0

  pub stays_inside : (ops : List TargetOp) (end : ℕ) → IsBatchOf want moments clock place most ops end → place ≤ length moments → end ≤ length moments
  stays_inside ops end p w = subst (λ (n : ℕ). n ≤ length moments) (sym p.ends) ((end_for moments clock place most).1 w)

  -- what is known of groups tells who is wanted
  pub batch_told : (pasts : List GroupPast) (ops : List TargetOp) (end : ℕ) → AllByRecursion (λ t. t ≤ clock) moments → Tell want clock pasts → IsBatchOf (want_in pasts) moments clock place most ops end → IsBatchOf want moments clock place most ops end
  batch_told pasts ops end by tell h = record { ends = h.ends; turned = (h.turned.0, turns_told want clock moments pasts (start_of moments place) end h.turned.0 by tell h.turned.1, h.turned.2) }

  -- what the operations leave of a target
  pub fronts_left : (ops : List TargetOp) (end : ℕ) (target : ℕ → ℕ → Bool) → IsBatchOf want moments clock place most ops end → IsBetween (wanted_at want moments) moments (start_of moments place) end target → (k : ℕ) → IsBetween (wanted_at want moments) moments (start_of moments place) end (after_ops (take k ops) target)
  fronts_left ops end target p between k =
      subst (λ (l : List TargetOp). IsBetween (wanted_at want moments) moments (start_of moments place) end (after_ops (take k l) target)) (sym p.turned.2)
      (fronts_between (wanted_at want moments) moments (start_of moments place) end p.turned.0 target p.turned.1 between k)

  pub all_left : (ops : List TargetOp) (end : ℕ) (target : ℕ → ℕ → Bool) → IsBatchOf want moments clock place most ops end → IsBetween (wanted_at want moments) moments (start_of moments place) end target → (g s : ℕ) → after_ops ops target g s ≡ wanted_at want moments (start_of moments end) g s
  all_left ops end target p between g s =
      ap (λ (l : List TargetOp). after_ops l target g s) p.turned.2
      ∙ all_last (wanted_at want moments) moments (start_of moments place) end p.turned.0 target p.turned.1 between g s
