use Rattle.std.proofs.Common.{◌≡◌, ◌&&◌, ℕ, drop, nat_le, if◌then◌else◌}
use Rattle.reg_base.specs.declared.privilege.Privilege.{Privilege}
use Rattle.reg_terms.specs.declared.kinds.Holder.{Holder}
use Rattle.reg_terms.specs.declared.kinds.Object.{Object}
use Rattle.reg_pit.specs.Grants.{has_grant}
use Rattle.reg_pit.specs.Past.{was_granted, NotedBy, KeepsMembers, KeepsWheel, KeepsAssigns}
use Rattle.reg_priv.specs.Grants.{grants}
use Rattle.reg_priv.specs.Touched.{is_listed}
use Rattle.reg_audit.specs.Changed.{may_change}
use Rattle.reg_audit.proofs.grants.note_touched.Given as goal

abbrev pub invariant-loop-object : goal.invariant-loop-object
invariant-loop-object l = record {
  noted : (o : Object) (p : Privilege) (h : Holder) (t : ℕ) → (if (is_listed o (drop l.object-index l.touched) && may_change l.changed (p, h)) && nat_le l.at t then has_grant (grants o l.facts) p h else was_granted l.past o p h t) ≡ (if (is_listed o l.touched && may_change l.changed (p, h)) && nat_le l.at t then has_grant (grants o l.facts) p h else was_granted l.fn.past o p h t);
  members : KeepsMembers l.fn.past l.past;
  wheel : KeepsWheel l.fn.past l.past;
  assigns : KeepsAssigns l.fn.past l.past;
  last : NotedBy l.at l.past;
}
