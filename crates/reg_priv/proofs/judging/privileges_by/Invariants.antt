use Rattle.std.proofs.Common.{◌≡◌, ◌++◌, ◌&&◌, ◌||◌, drop, filter}
use Rattle.std.specs.List.{list_any}
use Rattle.reg_terms.specs.Kinds.{is_of_kind}
use Rattle.reg_terms.specs.Privileges.{gives, line_of}
use Rattle.reg_priv.proofs.judging.privileges_by.Given as goal

-- those so far, and those among the rest, are all
abbrev pub invariant-loop-privilege : goal.invariant-loop-privilege
invariant-loop-privilege l = l.list ++ filter (λ p. is_of_kind (line_of p).on l.object && (l.root || list_any (λ q. gives q p) l.held)) (drop l.privilege-index l.privilege-items) ≡ filter (λ p. is_of_kind (line_of p).on l.object && (l.root || list_any (λ q. gives q p) l.held)) l.privilege-items
