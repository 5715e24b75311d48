-- The entries after a place.
use Rattle.std.proofs.Common.{◌≡◌, ◌<◌, ◌+◌, ◌-◌, ℕ, List, [], ◌∷◌, ◌++◌, length, take, drop, min, refl, arith, get_or, nat_le, append_assoc, drop-cons, add-one, inl, inr}
use Rattle.std.proofs.lemmas.Bool.{cases_Bool}
use Rattle.std.proofs.lemmas.Bool.Decides.{nat_tests}
use Rattle.std.proofs.lemmas.Grind.{common_steps}
use Rattle.std.proofs.lemmas.List.{length-drop, take_min}
use Rattle.std.proofs.Math.Seq.{drop-length}
use Rattle.std.proofs.Math.ListN.{drop_of_length-le}
use Rattle.reg_log.specs.Numbering.{entry_of, numbered, entries_after}
use Rattle.reg_log.specs.declared.entries.Entry.{Entry}
use Rattle.reg_log.specs.declared.entries.Line.{Line}

-- the lines after a place, where a place after the last line is the last line's
pub lines_after : (place max n : ℕ) (lines : List Line) → n ≡ length lines → numbered (min place n) (take (min max (n - min place n)) (drop (min place n) lines)) ≡ entries_after place max lines
lines_after place max n lines e = elim (cases_Bool (nat_le place n)) [
  | inl y ↦
      let least : min place n ≡ place = grind (arith, nat_tests) in
      let rest : length (drop place lines) ≡ n - place = rw e (length-drop place lines) in
      rw (least, ← rest, take_min max (drop place lines)) refl
  | inr f ↦
      let least : min place n ≡ n = grind (arith, nat_tests) in
      let none : drop n lines ≡ [] = rw e (drop-length lines) in
      let beyond : drop place lines ≡ [] = drop_of_length-le lines (grind (arith, nat_tests, e)) in
      rw (least, none, beyond) (nothing (min max (n - n)) max n place)
]
  where
    nothing : (a b p q : ℕ) → numbered p (take a []) ≡ numbered q (take b [])
    nothing a b p q = grind (arith, common_steps)
