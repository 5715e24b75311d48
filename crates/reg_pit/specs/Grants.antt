-- Grants as intervals.
use Rattle.std.specs.Prelude.{◌≡◌, ◌≤◌, ◌<◌, ◌^◌, ◌&&◌, ⊤, ℕ, List, Bool, false}
use Rattle.std.specs.Ordering.{ordering_then, is_eq}
use Rattle.std.specs.List.{list_any}
use Rattle.std.specs.declared.cmp.Ordering.{Ordering}
use Rattle.reg_base.specs.declared.privilege.Privilege.{Privilege}
use Rattle.reg_base.specs.contracts.privilege.PrivilegeOrd.TheImpl as privilege_ord
use Rattle.reg_terms.specs.declared.kinds.Object.{Object}
use Rattle.reg_terms.specs.declared.kinds.Holder.{Holder}
use Rattle.reg_terms.specs.declared.kinds.Holder.TheVariants as holder
use Rattle.reg_terms.specs.contracts.kinds.ObjectOrd.TheImpl as object_ord
use Rattle.reg_terms.specs.contracts.kinds.HolderOrd.TheImpl as holder_ord
use Rattle.reg_pit.specs.Spans.{covers}
use Rattle.reg_pit.specs.Runs.{spans_of}

-- the orders of the types: by kind, and then by number
abbrev pub object_cmp : Object → Object → Ordering
object_cmp = (object_ord.ghosts).cmp

abbrev pub privilege_cmp : Privilege → Privilege → Ordering
privilege_cmp = (privilege_ord.ghosts).cmp

abbrev pub holder_cmp : Holder → Holder → Ordering
holder_cmp = (holder_ord.ghosts).cmp

-- by object, then by privilege, and then by holder
abbrev pub grant_cmp : Object × Privilege × Holder → Object × Privilege × Holder → Ordering
grant_cmp a b =
    ordering_then (ordering_then (object_cmp a.0 b.0) (privilege_cmp a.1 b.1)) (holder_cmp a.2 b.2)

-- by privilege, and then by holder
abbrev pub held_cmp : Privilege × Holder → Privilege × Holder → Ordering
held_cmp a b = ordering_then (privilege_cmp a.0 b.0) (holder_cmp a.1 b.1)

-- whether a holder had a privilege on an object at a moment
abbrev pub is_granted : List (((Object × Privilege × Holder) × ℕ) × ℕ) → Object → Privilege → Holder
    → ℕ → Bool
is_granted grants o p h t = covers (spans_of grant_cmp grants (o, p, h)) t

-- the two are one privilege of one holder
abbrev pub same_held : Privilege × Holder → Privilege × Holder → Bool
same_held a b = is_eq (privilege_cmp a.0 b.0) && is_eq (holder_cmp a.1 b.1)

-- whether a privilege of a holder is among some
abbrev pub has_grant : List (Privilege × Holder) → Privilege → Holder → Bool
has_grant grants p h =
    list_any (λ g. is_eq (privilege_cmp g.0 p) && is_eq (holder_cmp g.1 h)) grants

-- the number of a group that holds something has 32 bits
abbrev pub Fits : Holder → Type 0
Fits holder.Everyone = ⊤
Fits (holder.Person s) = ⊤
Fits (holder.Group g) = g < 2 ^ 32

-- no group of a greater number ever held anything
abbrev pub AreHeld : List (((Object × Privilege × Holder) × ℕ) × ℕ) → Type 0
AreHeld grants =
    (o : Object) (p : Privilege) (g t : ℕ) → 2 ^ 32 ≤ g
    → is_granted grants o p (holder.Group g) t ≡ false
