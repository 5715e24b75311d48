-- A text of few bytes is a display text, since texts are UTF-8.
use Rattle.std.proofs.Common.{◌≡◌, ◌≤◌, ℕ, true, List, length}
use Rattle.std.specs.Str.{IsUtf8}
use Rattle.std.proofs.lemmas.Bool.{and_from, le-leb}
use Rattle.std.proofs.lemmas.Str.{is_utf8-from_IsUtf8}
use Rattle.reg_ops.specs.Forms.{is_display}
use Rattle.reg_terms.specs.Limits.{max_display}

pub display_is : (text : List ℕ) → length text ≤ max_display → IsUtf8 text → is_display text ≡ true
display_is text short utf8 = and_from _ _ (le-leb _ _ short) (is_utf8-from_IsUtf8 text utf8)
