-- What a call says of what isn't told.
use Rattle.std.proofs.Common.{◌≡◌, Option, None, Result, Ok, Err, refl}
use Rattle.std.specs.Prelude.{OnOk, OnErr}

pub on_ok_untold : (X : Type 0) {T E : Type 0} (r : Result T E) → OnOk r (◌≡◌ {A = Option X} None None)
on_ok_untold X (Ok x) = refl
on_ok_untold X (Err e) = tt

pub on_err_untold : (X : Type 0) {T E : Type 0} (r : Result T E) → OnErr r (◌≡◌ {A = Option X} None None)
on_err_untold X (Ok x) = tt
on_err_untold X (Err e) = refl
