use Rattle.std.proofs.Common.{◌≡◌, ℕ, ◌-◌, ◌+◌, List, length, take, drop, ap, ◌∙◌, arith, length-drop}
use Rattle.std.proofs.lemmas.List.{take_all, drop-drop}
use Rattle.reg_http.proofs.pieces.after.Goals as goal

rest_is : (xs : List ℕ) → take (length xs - 1) (drop 1 xs) ≡ drop 1 xs
rest_is xs = take_all (length xs - 1) (drop 1 xs) (omega (arith, length-drop 1 xs))

pub returns-in-len1-up : goal.returns-in-len1-up
returns-in-len1-up c =
    rest_is c.split_at.result.1.now ∙ ap (drop 1) c.split_at.ensures.back ∙ drop-drop 1 c.place.result c.args.bytes.now ∙ ap (λ n. drop (n + 1) c.args.bytes.now) c.place.ensures.place
