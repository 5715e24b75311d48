use Rattle.std.proofs.Common.{◌≡◌, ◌&&◌, ℕ, true, take, nat_le, if◌then◌else◌}
use Rattle.reg_base.specs.declared.privilege.Privilege.{Privilege}
use Rattle.reg_terms.specs.Kinds.{same_object}
use Rattle.reg_terms.specs.declared.kinds.Object.{Object}
use Rattle.reg_terms.specs.declared.kinds.Holder.{Holder}
use Rattle.reg_pit.specs.Spans.{NoLater}
use Rattle.reg_pit.specs.Runs.{spans_of}
use Rattle.reg_pit.specs.Grants.{grant_cmp, is_granted, has_grant, AreHeld}
use Rattle.reg_pit.proofs.grants.Grants.note.Given as goal

abbrev pub invariant-loop-privilege : goal.invariant-loop-privilege
invariant-loop-privilege l = record {
  last : (k : Object × Privilege × Holder) → NoLater l.at (spans_of grant_cmp l.granted k);
  held : AreHeld l.granted;
  on : (o : Object) (p : Privilege) (h : Holder) (t : ℕ)
      → is_granted l.granted o p h t ≡ (if (same_object o l.object && has_grant (take l.privilege-index l.grants) p h) && nat_le l.at t then true else is_granted l.initial.granted o p h t);
}
