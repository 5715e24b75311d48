use Rattle.std.proofs.Common.{◌≡◌, drop}
use Rattle.std.specs.List.{list_any}
use Rattle.reg_base.specs.declared.privilege.Privilege.{Privilege}
use Rattle.reg_terms.specs.Privileges.{gives}
use Rattle.reg_view.proofs.earlier.any_gives.Given as goal

-- none so far, so it is one of the rest
abbrev pub invariant-loop-privilege : goal.invariant-loop-privilege
invariant-loop-privilege l = list_any (λ (p : Privilege). gives p l.wanted) (drop l.privilege-index l.held) ≡ list_any (λ (p : Privilege). gives p l.wanted) l.held
