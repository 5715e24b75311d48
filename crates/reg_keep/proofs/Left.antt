-- A file that ends as the journal left it, and how long an append leaves it.
use Rattle.std.proofs.Common.{◌≡◌, ◌≢◌, ⊎_elim, inl, inr, ℕ, ◌+◌, ◌<◌, ◌≤◌, max, List, [], ◌∷◌, ◌++◌, length, get_or, take, drop, Option, Some, None, option_map, is_some, Bool, true, false, ◌&&◌, not, nat_eq, IfSome, refl, sym, ◌∙◌, ap, subst, arith, length-append, length-drop}
use Rattle.std.proofs.lemmas.Bool.{cases_lt}
use Rattle.std.proofs.lemmas.Bool.Decides.{nat_tests}
use Rattle.std.proofs.lemmas.List.{get_or_at, get_or_past, drop_more, drop_all, length-take-le}
use Rattle.reg_outside.specs.Disk.{Changes, Leaves, After, Same, Only, put}
use Rattle.reg_keep.specs.Frames.{frames_of, opened, gate_of, with_frames}
use Rattle.reg_keep.proofs.DiskCrash.{all_by}
use Rattle.reg_keep.specs.Settled.{IsAtRest, IsSettled, IsBeforeOrAll, ends_as_left, EndsAsLeft}
use Rattle.reg_keep.proofs.Appends.{before_now}
use Rattle.reg_keep.proofs.Begins.{only_still}
use Rattle.reg_keep.proofs.Gates.{resting, gate_inside}

-- by the two numbers that the look reads: the length, and the byte at the gate
abbrev stands : ℕ → ℕ → ℕ → Bool
stands long size byte = nat_eq long size && not (nat_eq byte 1)

shut_stands : (long size byte : ℕ) → long ≡ size → byte ≢ 1 → stands long size byte ≡ true
shut_stands long size byte is shut = grind (arith, nat_tests)

open_falls : (long size byte : ℕ) → byte ≡ 1 → false ≡ stands long size byte
open_falls long size byte is = grind (arith, nat_tests)

other_falls : (n long size byte : ℕ) → n ≡ long → n ≢ size → false ≡ stands long size byte
other_falls n long size byte is other = grind (arith, nat_tests)

same_stands : (long size byte there : ℕ) → long ≡ size → byte ≡ there → not (nat_eq byte 1) ≡ stands long size there
same_stands long size byte there is same = grind (arith, nat_tests)

long_stands : (long size byte : ℕ) → stands long size byte ≡ true → long ≡ size
long_stands long size byte is = grind (arith, nat_tests)

-- a file at rest has a closed gate
shut_there : (gate : ℕ) (file : List ℕ) → IsAtRest gate file → get_or file gate 1 ≢ 1
shut_there gate file r =
    let p = resting gate file r in
    let there : get_or file gate 1 ≡ p.byte = ap (λ (l : List ℕ). get_or l gate 1) p.split ∙ get_or_at p.front p.byte p.rest 1 gate p.size in
    λ one. p.shut (sym there ∙ one)

pub left_of : (gate size : ℕ) (held : Option (List ℕ)) → IfSome held (λ file. length file ≡ size) → IfSome held (IsAtRest gate) → EndsAsLeft gate size held
left_of gate size None long rest = tt
left_of gate size (Some file) long rest = shut_stands (length file) size (get_or file gate 1) long (shut_there gate file rest)

-- what the look read
pub another_length : (gate size : ℕ) (held : Option (List ℕ)) (n : ℕ) → IfSome held (λ file. n ≡ length file) → n ≢ size → IfSome held (λ file. false ≡ ends_as_left gate size file)
another_length gate size None n is other = tt
another_length gate size (Some file) n is other = other_falls n (length file) size (get_or file gate 1) is other

first_of_read : (gate count : ℕ) (buf file : List ℕ) → length buf ≡ 1 → count ≡ 1 → take count buf ≡ take count (drop gate file) → get_or buf 0 0 ≡ get_or file gate 1
first_of_read gate count [] file one is read = absurd (omega arith)
first_of_read gate count (x ∷ rest) file one is read =
    let both : x ∷ [] ≡ take 1 (drop gate file) = ap (λ (n : ℕ). take n (x ∷ rest)) (sym is) ∙ read ∙ ap (λ (n : ℕ). take n (drop gate file)) is in
    elim (cases_lt gate (length file)) [
      | inl inside ↦ let this : x ∷ [] ≡ get_or file gate 1 ∷ [] = both ∙ ap (λ (l : List ℕ). take 1 l) (drop_more file gate 1 inside) in cc
      | inr past ↦ let none : x ∷ [] ≡ [] = both ∙ ap (λ (l : List ℕ). take 1 l) (drop_all gate file past) in cc
    ]

pub one_byte : (gate size n count byte : ℕ) (buf : List ℕ) (held : Option (List ℕ)) → IfSome held (λ file. n ≡ length file) → n ≡ size → length buf ≡ 1 → count ≡ 1 → IfSome held (λ file. take count buf ≡ take count (drop gate file)) → byte ≡ get_or buf 0 0
    → IfSome held (λ file. not (nat_eq byte 1) ≡ ends_as_left gate size file)
one_byte gate size n count byte buf None long is one count_is read at = tt
one_byte gate size n count byte buf (Some file) long is one count_is read at =
    same_stands (length file) size byte (get_or file gate 1) (sym long ∙ is) (at ∙ first_of_read gate count buf file one count_is read)

pub no_byte : (gate size count : ℕ) (buf : List ℕ) (held : Option (List ℕ)) → length buf ≡ 1 → count ≡ 0 → IfSome held (λ file. count ≡ 0 → 0 < length buf → length file ≤ gate) → IfSome held (λ file. false ≡ ends_as_left gate size file)
no_byte gate size count buf None one none end = tt
no_byte gate size count buf (Some file) one none end = open_falls (length file) size (get_or file gate 1) (get_or_past file gate 1 (end none (omega arith)))

-- what the look told
pub as_left : (gate size : ℕ) (held : Option (List ℕ)) (b : Bool) → IfSome held (λ file. b ≡ ends_as_left gate size file) → b ≡ true → EndsAsLeft gate size held
as_left gate size None b is told = tt
as_left gate size (Some file) b is told = sym is ∙ told

pub not_left : (gate size : ℕ) (held : Option (List ℕ)) (b : Bool) → IfSome held (λ file. b ≡ ends_as_left gate size file) → b ≡ false → IfSome held (λ file. ends_as_left gate size file ≡ false)
not_left gate size None b is told = tt
not_left gate size (Some file) b is told = sym is ∙ told

-- the two don't hold of the same bytes
pub not_both : (X : Type 0) (gate size : ℕ) (held : Option (List ℕ)) → EndsAsLeft gate size held → IfSome held (λ file. ends_as_left gate size file ≡ false → X)
not_both X gate size None left = tt
not_both X gate size (Some file) left = λ changed. let both : true ≡ false = sym left ∙ changed in cc

pub not_told : (gate size : ℕ) (held : Option (List ℕ)) → EndsAsLeft gate size held → IfSome held (λ file. ends_as_left gate size file ≡ false) → held ≡ None
not_told gate size None left changed = refl
not_told gate size (Some file) left changed = let both : true ≡ false = sym left ∙ changed in cc

pub none_told : (held new : Option (List ℕ)) (Q : List ℕ → Type 0) → held ≡ None → is_some new ≡ is_some held → IfSome new Q
none_told held None Q is told = tt
none_told held (Some new) Q is told = let both : true ≡ false = told ∙ ap is_some is in cc

still_left : (P : List ℕ → Type 0) (leaves : List ℕ → Type 0) → ((c : List ℕ) → leaves c → P c) → (c : List ℕ) → After Same leaves c → P c
still_left P leaves here c from = subst P (sym from.2) (here from.0 from.1)

module _ {D : Type 0} (moment : D → ℕ) (may_leave : D → List ℕ → Type 0) (left_since : D → ℕ → List ℕ → Type 0) where
  pub settled_still : (gate : ℕ) (held same : Option (List ℕ)) (old new : D) → IsSettled gate held (may_leave old) → same ≡ held → Changes moment may_leave left_since Same old new → IsSettled gate same (may_leave new)
  settled_still gate held same old new settled is by = record {
    rest = subst (λ o. IfSome o (IsAtRest gate)) (sym is) settled.rest;
    durable = subst (λ o. Only o (may_leave new)) (sym is) (only_still moment may_leave left_since held old new settled.durable by);
  }

  -- the look leaves the images
  pub looked : (gate : ℕ) (p : List ℕ) (ps : List (List ℕ)) (held : Option (List ℕ)) (old mid : D) → ((c : List ℕ) → left_since old (moment old) c → may_leave old c) → IsSettled gate held (may_leave old) → Changes moment may_leave left_since Same old mid
      → Leaves moment left_since (IsBeforeOrAll held (p ∷ ps)) old mid
  looked gate p ps held old mid only_now settled by =
      let here = before_now gate p ps held (may_leave old) settled in
      all_by moment may_leave left_since (IsBeforeOrAll held (p ∷ ps)) Same old mid only_now here (still_left (IsBeforeOrAll held (p ∷ ps)) (may_leave old) here) by

  -- one run after another
  pub leaves_both : (P : List ℕ → Type 0) (old mid new : D) → Leaves moment left_since P old mid → Leaves moment left_since P mid new → Leaves moment left_since P old new
  leaves_both P old mid new one two = record {
    later = omega (arith, one.later, two.later);
    each = λ c left. ⊎_elim (one.each c) (λ is. is) (two.since (moment old) c one.later left);
    since = λ t c le left. ⊎_elim (one.since t c le) (λ is. inr is) (two.since t c (omega (arith, le, one.later)) left);
  }

pub length_put : (at : ℕ) (bytes held : List ℕ) → at ≤ length held → length (put at bytes held) ≡ max (length held) (at + length bytes)
length_put at bytes held fits =
    omega (arith, length-append (take at held ++ bytes) (drop (at + length bytes) held), length-append (take at held) bytes, length-take-le at held fits, length-drop (at + length bytes) held)

-- so long is the file after frames were appended
pub long_after : (gate size : ℕ) (p : List ℕ) (ps : List (List ℕ)) (n : ℕ) (held new : Option (List ℕ)) → IfSome held (IsAtRest gate) → EndsAsLeft gate size held → n ≡ gate + length (frames_of (p ∷ ps)) → new ≡ option_map (λ file. with_frames file (p ∷ ps)) held
    → IfSome new (λ file. length file ≡ max size (n + 1))
long_after gate size p ps n None new rest left next is = subst (λ o. IfSome o (λ file. length file ≡ max size (n + 1))) (sym is) tt
long_after gate size p ps n (Some held) new rest left next is =
    let more = frames_of (p ∷ ps) ++ 0 ∷ [] in
    let place : gate_of (opened held) ≡ gate = ap gate_of rest.opens ∙ sym rest.place in
    let inside = gate_inside gate held rest in
    let whole : length (with_frames held (p ∷ ps)) ≡ length (put gate more held) = ap (λ (n : ℕ). length (put n more held)) place in
    let put_long : length (put gate more held) ≡ max (length held) (gate + length more) = length_put gate more held (omega (arith, inside)) in
    let held_long : length held ≡ size = long_stands (length held) size (get_or held gate 1) left in
    let more_long : length more ≡ length (frames_of (p ∷ ps)) + 1 = length-append (frames_of (p ∷ ps)) (0 ∷ []) in
    subst (λ o. IfSome o (λ file. length file ≡ max size (n + 1))) (sym is) (omega (arith, whole, put_long, held_long, more_long, next))

pub kept_long : (size long : ℕ) (held : Option (List ℕ)) → IfSome held (λ file. length file ≡ size) → size ≡ long → option_map length held ≡ option_map (λ file. long) held
kept_long size long None is same = refl
kept_long size long (Some file) is same = ap Some (is ∙ same)
