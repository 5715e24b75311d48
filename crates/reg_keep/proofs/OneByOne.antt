-- Payloads that are added one after the other.
use Rattle.std.proofs.Common.{◌≡◌, ◌⊎◌, inl, inr, ℕ, ◌+◌, ◌-◌, ◌≤◌, List, ◌++◌, length, take, Some, Result, Ok, Err, OnErr, refl, sym, ◌∙◌, ap, arith, length-append}
use Rattle.std.proofs.lemmas.List.{append-nil, take_at, take-take, take-append-le, length-take-le}
use Rattle.std.proofs.lemmas.Bool.{cases_lt}
use Rattle.std.proofs.Math.Seq.{take-append-add}
use Rattle.reg_outside.specs.Disk.{Leaves}
use Rattle.reg_keep.specs.Frames.{AreShort}
use Rattle.reg_keep.specs.Keeping.{IsWithFront}
use Rattle.reg_keep.specs.Pieces.{KeptSince, kept_only}

-- what was there before and is there now, with those that were added and those that are left
pub record Added (before all left now : List (List ℕ)) : Type 0 where
  pub done : List (List ℕ)
  pub split : all ≡ done ++ left
  pub short : AreShort left
  pub has : now ≡ before ++ done

module _ (before all left now : List (List ℕ)) (a : Added before all left now) where
  -- so far it is a front
  pub added_front : (n : ℕ) × (n ≤ length all) × (now ≡ before ++ take n all)
  added_front =
      let front : take (length a.done) all ≡ a.done = ap (λ (l : List (List ℕ)). take (length a.done) l) a.split ∙ take_at a.done left (length a.done) refl in (
        length a.done,
        omega (arith, ap length a.split, length-append a.done left),
        a.has ∙ ap (λ (l : List (List ℕ)). before ++ l) (sym front),
      )

-- what a stop since then leaves of a keeper in memory
front_since : (before all now : List (List ℕ)) (n t : ℕ) (r : Result (List (List ℕ)) ℕ) → n ≤ length all → now ≡ before ++ take n all → t ≤ length before → KeptSince now t r → KeptSince before t r ⊎ IsWithFront before all r
front_since before all now n t r le has past (k, from, to, is) = elim (sides k (length before)) [
  | inl short ↦ inl (k, from, short, is ∙ ap (λ (l : List (List ℕ)). Ok (take k l)) has ∙ ap Ok (take-append-le k before (take n all) short))
  | inr m ↦ inr (m.0, within m.0 m.1, is ∙ ap (λ (l : List (List ℕ)). Ok (take k l)) has ∙ ap (λ (j : ℕ). Ok (take j (before ++ take n all))) m.1 ∙ ap Ok (take-append-add before (take n all) m.0 ∙ ap (λ (l : List (List ℕ)). before ++ l) (take-take m.0 n all (fits m.0 m.1))))
]
  where
    sides : (a b : ℕ) → (a ≤ b) ⊎ ((m : ℕ) × (a ≡ b + m))
    sides a b = elim (cases_lt a b) [
      | inl less ↦ inl (omega (arith, less))
      | inr more ↦ inr (a - b, omega (arith, more))
    ]

    fits : (m : ℕ) → k ≡ length before + m → m ≤ n
    fits m same = omega (arith, same, to, ap length has, length-append before (take n all), length-take-le n all le)

    within : (m : ℕ) → k ≡ length before + m → m ≤ length all
    within m same = omega (arith, fits m same, le)

pub run_since : {K : Type 0} (payloads : K → List (List ℕ)) (all : List (List ℕ)) (old new : K) → (n : ℕ) × (n ≤ length all) × (payloads new ≡ payloads old ++ take n all) → Leaves (λ k. length (payloads k)) (λ k. KeptSince (payloads k)) (IsWithFront (payloads old) all) old new
run_since payloads all old new f = record {
  later = omega (arith, ap length f.2, length-append (payloads old) (take f.0 all));
  each = λ r left. whole r (front_since (payloads old) all (payloads new) f.0 (length (payloads old)) r f.1 f.2 (omega arith) left);
  since = λ t r le left. front_since (payloads old) all (payloads new) f.0 t r f.1 f.2 le left;
}
  where
    whole : (r : Result (List (List ℕ)) ℕ) → KeptSince (payloads old) (length (payloads old)) r ⊎ IsWithFront (payloads old) all r → IsWithFront (payloads old) all r
    whole r (inl was) = (0, omega arith, kept_only (payloads old) r was ∙ ap Ok (sym (append-nil (payloads old))))
    whole r (inr now) = now

pub on_any_err : {T E P : Type 0} (r : Result T E) → P → OnErr r P
on_any_err (Ok x) p = tt
on_any_err (Err e) p = p

pub front_told : (before all now new : List (List ℕ)) → (n : ℕ) × (n ≤ length all) × (now ≡ before ++ take n all) → new ≡ now → (n : ℕ) × (n ≤ length all) × (Some new ≡ Some (before ++ take n all))
front_told before all now new f same = (f.0, f.1, ap Some (same ∙ f.2))
