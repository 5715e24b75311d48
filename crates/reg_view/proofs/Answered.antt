-- What a caller that stands is told at a clock is the answer over the facts, the memberships and the past of then.
use Rattle.std.proofs.Common.{◌≡◌, ◌∙◌, ℕ, List, Some, refl, subst, sym}
use Rattle.std.specs.List.Sorted.{IsStrictlySortedBy}
use Rattle.std.specs.Cmp.Lexicographic.{slice_cmp}
use Rattle.std.specs.Ordering.{nat_cmp}
use Rattle.reg_terms.specs.declared.command.Stamped.{Stamped}
use Rattle.reg_terms.specs.declared.query.Query.{Query}
use Rattle.reg_facts.specs.Children.{by_bytes, is_among}
use Rattle.reg_facts.specs.Lists.{Lists}
use Rattle.reg_facts.specs.Named.{AreNamed}
use Rattle.reg_facts.specs.Sound.{IsHeld, IsSound}
use Rattle.reg_priv.specs.declared.who.Who.{Who}
use Rattle.reg_machine.specs.History.{facts}
use Rattle.reg_current.specs.Live.{live}
use Rattle.reg_view.specs.Answers.{answer_of}
use Rattle.reg_view.specs.AtClock.{asked_at, told, view}
use Rattle.reg_view.specs.Past.{past}
use Rattle.reg_view.specs.Show.{show}
use Rattle.reg_view.specs.View.{caller_of, view_of}
use Rattle.reg_view.proofs.Shown.{caller_shown}

-- the view at the clock
told_is : (history : List Stamped) (now : ℕ) (by : List ℕ) (q : Query) → told history now by q ≡ show (view_of (past history now) (live now (facts history now)) (facts history now) now (asked_at now q) by) q
unfolding view
told_is history now by q = refl

module _ (sorted : (texts : List (List ℕ)) → IsStrictlySortedBy (slice_cmp nat_cmp) (by_bytes texts)) (same : (text : List ℕ) (texts : List (List ℕ)) → is_among text (by_bytes texts) ≡ is_among text texts) where
  at_facts : (history : List Stamped) (now : ℕ) (by : List ℕ) (c : Who) (q : Query) → IsSound (facts history now) → IsHeld (facts history now) → AreNamed (facts history now) → caller_of by (facts history now) ≡ Some c
      → told history now by q ≡ answer_of (past history now) (live now (facts history now)) (facts history now) now by c q
  at_facts history now by c q sound held are stands =
      told_is history now by q
      ∙ sym (caller_shown sorted same (past history now) (live now (facts history now)) (facts history now) sound held are now by (λ g s. refl) refl refl c q stands)

  pub told_answer : (history : List Stamped) (now : ℕ) (f : Lists) → f ≡ facts history now → IsSound f → IsHeld f → AreNamed f → (by : List ℕ) (c : Who) (q : Query) → caller_of by (facts history now) ≡ Some c
      → told history now by q ≡ answer_of (past history now) (live now (facts history now)) (facts history now) now by c q
  told_answer history now f is sound held are by c q stands =
      at_facts history now by c q (subst IsSound is sound) (subst IsHeld is held) (subst AreNamed is are) stands
