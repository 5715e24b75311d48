-- What values say of actions.
use Rattle.std.specs.Prelude.{ℕ, List, ◌++◌, Bool, true, false, ◌&&◌, nat_le, length, codes}
use Rattle.std.specs.Prelude.{Option, None, Some, if◌then◌else◌}
use Rattle.std.specs.Str.{bytes_eq}
use Rattle.reg_base.specs.Names.{is_extension}
use Rattle.reg_terms.specs.declared.kinds.AttrValue.{AttrValue}
use Rattle.reg_terms.specs.declared.kinds.AttrValue.TheVariants as value
use Rattle.reg_access.specs.declared.saying.Saying.{Saying}

-- an action: 1 to 32 bytes of an extension
abbrev pub is_action : List ℕ → Bool
is_action text = is_extension text && nat_le (length text) 32

-- what a value says of an action: whether it allows it, and whether by its name
abbrev pub saying : Bool → Bool → Saying
saying allow named = record { allow = allow; named = named }

-- what a text says of an action, if it speaks of it: `allow` or `deny`, a space, and the action's
-- name or `*`, which stands for every action
abbrev pub says : List ℕ → List ℕ → Option Saying
says a text =
    if bytes_eq text (codes "allow " ++ a) then Some (saying true true)
    else (if bytes_eq text (codes "deny " ++ a) then Some (saying false true)
    else (if bytes_eq text (codes "allow *") then Some (saying true false)
    else (if bytes_eq text (codes "deny *") then Some (saying false false) else None)))

-- what a value says of an action: only a text speaks
abbrev pub value_says : List ℕ → AttrValue → Option Saying
value_says a (value.Int n) = None
value_says a (value.Text text) = says a text
value_says a (value.Moment at) = None
