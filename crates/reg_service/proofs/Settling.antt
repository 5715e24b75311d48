-- What waited behind a history, in a keeper that has that history.
use Rattle.std.proofs.Common.{◌≡◌, ℕ, ◌+◌, ◌≤◌, List, ◌++◌, length, take, drop, Bool, true, false, Option, Some, None, Result, Ok, Err, IfSome, OnOk, OnErr, option_map, refl, sym, ◌∙◌, ap, subst, arith, length-append}
use Rattle.std.specs.Prelude.{⊤, is_some}
use Rattle.std.proofs.lemmas.List.{take_at, take-append-drop, take-map, length-map}
use Rattle.std.proofs.Math.Seq.{take-append-add}
use Rattle.reg_outside.specs.Disk.{Leaves}
use Rattle.reg_keep.specs.declared.keeper.Keeper.{Ghosts}
use Rattle.reg_keep.specs.Keeping.{IsWithFront, AreWithFront}
use Rattle.reg_terms.specs.declared.command.Stamped.{Stamped}
use Rattle.reg_machine.specs.History.{State}
use Rattle.reg_wire.specs.Payload.{payload}
use Rattle.reg_service.specs.Opening.{payloads_of, IsServed, FrontsReopen}
use Rattle.reg_service.specs.Kept.{KeptOn, IsBetween, Stopped}
use Rattle.reg_service.proofs.Keeping.{leaves_by}

module _ (before : List Stamped) (held : List (List ℕ)) (h : List Stamped) where
  abbrev first : List Stamped
  first = take (length before) h

  -- the payloads of the history, where those of its front are told
  whole : (ps : List (List ℕ)) → payloads_of before ++ held ≡ payloads_of h → ps ≡ payloads_of first → ps ++ held ≡ payloads_of h
  whole ps all is =
      let n = length before in
      let base : take n (payloads_of before ++ held) ≡ payloads_of before = take_at (payloads_of before) held n (length-map before payload) in
      let same : ps ≡ payloads_of before = is ∙ sym (take-map payload n h) ∙ ap (λ (l : List (List ℕ)). take n l) (sym all) ∙ base in
      ap (λ (l : List (List ℕ)). l ++ held) same ∙ all

  -- a front of what waited leads to a history between the two
  between : (ps : List (List ℕ)) (r : Result (List (List ℕ)) ℕ) → payloads_of before ++ held ≡ payloads_of h → ps ≡ payloads_of first → IsWithFront ps held r → IsBetween first h r
  between ps r all is (m, le, left) =
      let here = whole ps all is in
      let count : length ps ≡ length first = ap (λ (l : List (List ℕ)). length l) is ∙ length-map first payload in
      let size : length ps + length held ≡ length h = sym (length-append ps held) ∙ ap (λ (l : List (List ℕ)). length l) here ∙ length-map h payload in (
        length ps + m,
        omega (arith, count),
        omega (arith, size, le),
        left ∙ ap Ok (sym (take-append-add ps held m) ∙ ap (λ (l : List (List ℕ)). take (length ps + m) l) here ∙ take-map payload (length ps + m) h),
      )

  told_settled : {E : Type 0} (r : Result ⊤ E) (old new : Option (List (List ℕ))) → OnOk r (new ≡ option_map (λ ps. ps ++ held) old) → OnErr r (AreWithFront old held new) → IfSome old (λ ps. is_some new ≡ true)
  told_settled r None new ok err = tt
  told_settled (Ok x) (Some ps) new ok err = rw ok refl
  told_settled (Err e) (Some ps) new ok err = rw err.2 refl

  module _ {K : Type 0} (g : Ghosts K) (old new : K) (all : payloads_of before ++ held ≡ payloads_of h) (has : IfSome (g.payloads old) (λ ps. ps ≡ payloads_of first))
      (run : IfSome (g.payloads old) (λ ps. Leaves g.keep_moment g.stopped_since (IsWithFront ps held) old new)) where
    leaves : (o : Option (List (List ℕ))) → IfSome o (λ ps. ps ≡ payloads_of first) → IfSome o (λ ps. Leaves g.keep_moment g.stopped_since (IsWithFront ps held) old new) → IfSome o (λ ps. Leaves g.keep_moment g.stopped_since (IsBetween first h) old new)
    leaves None is l = tt
    leaves (Some ps) is l = leaves_by g.keep_moment g.stopped_since (IsWithFront ps held) (IsBetween first h) old new (λ r left. between ps r all is left) l

    -- the history went on, in the keeper that has the front
    pub settled_on : {E : Type 0} (r : Result ⊤ E) → OnOk r (g.payloads new ≡ option_map (λ ps. ps ++ held) (g.payloads old)) → OnErr r (AreWithFront (g.payloads old) held (g.payloads new)) → g.keep_name new ≡ g.keep_name old → g.keep_faults old ≤ g.keep_faults new
        → KeptOn g first old h new
    settled_on r ok err object later = record {
      more = drop (length before) h;
      grown = sym (take-append-drop (length before) h);
      object = object;
      later = later;
      told = told_settled r (g.payloads old) (g.payloads new) ok err;
      crash = leaves (g.payloads old) has run;
    }

    -- where it failed, a stop leaves a history between the two
    pub settled_part : FrontsReopen h → ((t : ℕ) (r : Result (List (List ℕ)) ℕ) → t ≤ g.keep_moment new → g.stop_leaves new r → g.stopped_since new t r) → IfSome (g.payloads old) (λ ps. Stopped g first h new)
    settled_part fronts counts = stopped (g.payloads old) (leaves (g.payloads old) has run)
      where
        stopped : (o : Option (List (List ℕ))) → IfSome o (λ ps. Leaves g.keep_moment g.stopped_since (IsBetween first h) old new) → IfSome o (λ ps. Stopped g first h new)
        stopped None l = tt
        stopped (Some ps) l = (fronts, λ r left. l.each r (counts (g.keep_moment old) r l.later left))

-- and the service goes on over it
pub served_settled : (before : List Stamped) (held : List (List ℕ)) (s : State) (told told2 : Option (List (List ℕ))) (failed failed2 : Bool) → IsServed s (Some (payloads_of before ++ held)) failed → IfSome told (λ ps. ps ≡ payloads_of (take (length before) s.history)) → told2 ≡ option_map (λ ps. ps ++ held) told
    → failed2 ≡ false → IsServed s told2 failed2
served_settled before held s told told2 failed failed2 served has kept going = record {
  payloads = subst (λ (o : Option (List (List ℕ))). IfSome o (λ ps. ps ≡ payloads_of s.history)) (sym kept) (all told has);
  going = going;
  opens = served.opens;
  last = served.last;
}
  where
    all : (o : Option (List (List ℕ))) → IfSome o (λ ps. ps ≡ payloads_of (take (length before) s.history)) → IfSome (option_map (λ (ps : List (List ℕ)). ps ++ held) o) (λ ps. ps ≡ payloads_of s.history)
    all None is = tt
    all (Some ps) is = whole before held s.history ps served.payloads is
