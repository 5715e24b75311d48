-- Events that happen one after another.
use Rattle.std.proofs.Common.{◌≡◌, ◌∙◌, Result, Ok, Err, OnOk, IfOk, IsOk, sym}
use Rattle.std.proofs.lemmas.Bool.{true≢false}

-- what holds where there was memory for a change, where that has a consequence
pub on_ok : {T E P Q : Type 0} (done : Result T E) → OnOk done P → (P → Q) → OnOk done Q
on_ok (Ok u) h more = more h
on_ok (Err e) h more = tt

-- and where there was memory for two
pub on_both : {T E P Q R : Type 0} (first second done : Result T E) → OnOk done (IsOk first × IsOk second) → OnOk first P → OnOk second Q → (P → Q → R) → OnOk done R
on_both (Ok a) (Ok b) (Ok u) there p q more = more p q
on_both (Ok a) (Err e) (Ok u) there p q more = absurd (true≢false (sym there.1))
on_both (Err e) second (Ok u) there p q more = absurd (true≢false (sym there.0))
on_both first second (Err e) there p q more = tt

-- what is there in the end, where it is there only if there was memory for the change
pub on_finished : {T X E : Type 0} (done : Result T E) (result : Result X E) (x y : X) → OnOk result (IsOk done) → IfOk result (λ f. f ≡ x) → OnOk done (x ≡ y) → IfOk result (λ f. f ≡ y)
on_finished (Ok u) (Ok f) x y there is same = is ∙ same
on_finished (Err e) (Ok f) x y there is same = absurd (true≢false (sym there))
on_finished done (Err e) x y there is same = tt
