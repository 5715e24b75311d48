use Rattle.std.proofs.Common.{◌≡◌, true, take}
use Rattle.reg_terms.specs.declared.kinds.Object.{Object}
use Rattle.reg_priv.specs.Touched.{is_listed}
use Rattle.reg_current.proofs.touching.put_all.Given as goal

abbrev pub invariant-loop-object : goal.invariant-loop-object
invariant-loop-object l = record {
  kept : (o : Object) → is_listed o l.fn.touched.items ≡ true → is_listed o l.touched.items ≡ true;
  put : (o : Object) → is_listed o (take l.object-index l.objects) ≡ true → is_listed o l.touched.items ≡ true;
}
