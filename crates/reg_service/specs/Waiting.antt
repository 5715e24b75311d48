-- Payloads that wait in memory behind a history, and what a stop would leave of them.
use Rattle.std.specs.Prelude.{◌≡◌, ℕ, ◌+◌, ◌≤◌, List, [], ◌++◌, length, Bool, false, Option, Some}
use Rattle.std.specs.Prelude.{Result, Ok}
use Rattle.std.proofs.Common.{sym, subst, arith, length-append}
use Rattle.reg_terms.specs.declared.command.Stamped.{Stamped}
use Rattle.reg_keep.specs.Pieces.{KeptSince, kept_counts, kept_only, kept_earlier}
use Rattle.reg_service.specs.Opening.{payloads_of}

-- the history before any waited, the payloads that wait, and whether there was no memory for one
pub record Waits : Type 0 where
  pub before : List Stamped
  pub held : List (List ℕ)
  pub short : Bool

-- none waits behind this history
abbrev pub none_behind : List Stamped → Waits
none_behind history = record { before = history; held = []; short = false }

-- the payloads of the history, and behind them those that wait
abbrev pub all_of : Waits → List (List ℕ)
all_of w = payloads_of w.before ++ w.held

-- a stop since t of them waited would leave the first so many payloads
abbrev pub HeldSince : Waits → ℕ → Result (List (List ℕ)) ℕ → Type 0
HeldSince w t r = KeptSince (all_of w) (length (payloads_of w.before) + t) r

pub held_counts : (w : Waits) (t : ℕ) (r : Result (List (List ℕ)) ℕ) → t ≤ length w.held
    → r ≡ Ok (all_of w) → HeldSince w t r
held_counts w t r le left =
    kept_counts (all_of w) (length (payloads_of w.before) + t) r
    (omega (arith, le, length-append (payloads_of w.before) w.held)) left

pub held_only : (w : Waits) (r : Result (List (List ℕ)) ℕ) → HeldSince w (length w.held) r
    → r ≡ Ok (all_of w)
held_only w r left =
    kept_only (all_of w) r
    (subst (λ (n : ℕ). KeptSince (all_of w) n r)
    (sym (length-append (payloads_of w.before) w.held)) left)

pub held_earlier : (w : Waits) (t u : ℕ) (r : Result (List (List ℕ)) ℕ) → t ≤ u → HeldSince w u r
    → HeldSince w t r
held_earlier w t u r le left =
    kept_earlier (all_of w) (length (payloads_of w.before) + t) (length (payloads_of w.before) + u)
    r (omega (arith, le)) left
