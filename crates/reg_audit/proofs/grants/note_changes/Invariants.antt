use Rattle.std.proofs.Common.{◌≡◌, ◌&&◌, ℕ, drop, nat_le, if◌then◌else◌}
use Rattle.std.specs.List.{list_any}
use Rattle.reg_base.specs.declared.privilege.Privilege.{Privilege}
use Rattle.reg_terms.specs.declared.kinds.Holder.{Holder}
use Rattle.reg_terms.specs.declared.kinds.Object.{Object}
use Rattle.reg_pit.specs.Grants.{has_grant}
use Rattle.reg_pit.specs.Past.{was_granted, NotedBy, KeepsMembers, KeepsWheel, KeepsAssigns}
use Rattle.reg_priv.specs.Grants.{grants}
use Rattle.reg_audit.specs.Changed.{is_changed}
use Rattle.reg_audit.proofs.grants.note_changes.Given as goal

abbrev pub invariant-loop-change : goal.invariant-loop-change
invariant-loop-change l = record {
  noted : (o : Object) (p : Privilege) (h : Holder) (t : ℕ) → (if list_any (is_changed l.touched o (p, h)) (drop l.change-index l.changes) && nat_le l.at t then has_grant (grants o l.facts) p h else was_granted l.past o p h t) ≡ (if list_any (is_changed l.touched o (p, h)) l.changes && nat_le l.at t then has_grant (grants o l.facts) p h else was_granted l.fn.past o p h t);
  members : KeepsMembers l.fn.past l.past;
  wheel : KeepsWheel l.fn.past l.past;
  assigns : KeepsAssigns l.fn.past l.past;
  last : NotedBy l.at l.past;
}
