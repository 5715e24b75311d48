use Rattle.std.proofs.Common.{◌≡◌, true, take}
use Rattle.reg_terms.specs.declared.kinds.Object.{Object}
use Rattle.reg_terms.specs.Kinds.{is_of_kind}
use Rattle.reg_priv.specs.Touched.{is_listed}
use Rattle.reg_priv.proofs.touched.of_kind.Given as goal

abbrev pub invariant-loop-object : goal.invariant-loop-object
invariant-loop-object l = record {
  each : (o : Object) → is_of_kind l.kind o ≡ true → is_listed o (take l.object-index l.objects) ≡ true → is_listed o l.kept.items ≡ true;
  kind : (o : Object) → is_listed o l.kept.items ≡ true → is_of_kind l.kind o ≡ true;
  among : (o : Object) → is_listed o l.kept.items ≡ true → is_listed o (take l.object-index l.objects) ≡ true;
}
