-- What is held when more bytes come.
use Rattle.std.proofs.Common.{ℕ, Bool, true, false, List, ◌++◌, drop, Option, Some, None, arith, length-append, if◌then◌else◌}
use Rattle.std.specs.Prelude.{IfSome}
use Rattle.std.proofs.lemmas.List.{drop-append-le}
use Rattle.reg_http.specs.declared.head.Head.{Head}
use Rattle.reg_http.specs.Fronts.{IsHeadAt}
use Rattle.reg_http.specs.Holding.{IsHeld}
use Rattle.reg_http.proofs.Windows.{begins_more}

front_more : (bytes more : List ℕ) (head : Option Head) → IfSome head (IsHeadAt bytes) → IfSome head (IsHeadAt (bytes ++ more))
front_more bytes more (Some read) at = record { head = at.head; rest = _; begins = begins_more bytes more at.head at.rest at.begins; read_is = at.read_is }
front_more bytes more None at = tt

held_more : (bytes more : List ℕ) (start : ℕ) (head : Option Head) → IsHeld bytes start head → IsHeld (bytes ++ more) start head
held_more bytes more start head held = record {
  within = omega (arith, held.within, length-append bytes more);
  front = rw (drop-append-le start bytes more held.within) (front_more (drop start bytes) more head held.front);
}

-- a piece is fed, or there was no memory for it
pub held_fed : (fed : Bool) (bytes more : List ℕ) (start : ℕ) (head : Option Head) → IsHeld bytes start head → IsHeld (if fed then bytes ++ more else bytes) start head
held_fed true bytes more start head held = held_more bytes more start head held
held_fed false bytes more start head held = held
