-- The rows that have begun are those of the live data.
use Rattle.std.proofs.Common.{◌≡◌, ℕ, ◌==◌, ◌||◌, List, [], ◌∷◌, Bool, true, false, refl, inl, inr, sym, ◌∙◌, ap, arith}
use Rattle.std.specs.Prelude.{nat_le}
use Rattle.std.specs.List.{list_any}
use Rattle.std.specs.BTreeSet.{insert_key}
use Rattle.std.specs.Ordering.{nat_cmp, ordering_then, match_ordering, is_eq}
use Rattle.std.specs.declared.cmp.Ordering.{Ordering}
use Rattle.std.specs.declared.cmp.Ordering.TheVariants.{Less, Equal, Greater}
use Rattle.std.proofs.lemmas.Grind.{common_steps}
use Rattle.std.proofs.lemmas.Bool.Decides.{nat_tests}
use Rattle.std.proofs.lemmas.Bool.{cases_Bool, eqb-true}
use Rattle.reg_terms.specs.declared.kinds.Member.{Member}
use Rattle.reg_terms.specs.declared.kinds.Member.TheVariants.{Person, Group}
use Rattle.reg_terms.specs.declared.rows.MemberRow.{MemberRow}
use Rattle.reg_terms.specs.Rows.{member_cmp}
use Rattle.reg_effect.specs.Order.{row_cmp}
use Rattle.reg_effect.specs.Changes.{rows_on}
use Rattle.reg_reasons.specs.Ways.{begun}

equal_is : (a b : ℕ) → nat_cmp a b ≡ Equal → b ≡ a
equal_is a b e =
    let t : is_eq (nat_cmp a b) ≡ (b == a) = grind (arith, nat_tests, common_steps) in
    eqb-true b a (sym t ∙ ap is_eq e)

both_equal : (o p : Ordering) → ordering_then o p ≡ Equal → (o ≡ Equal) × (p ≡ Equal)
both_equal Less p e = cc
both_equal Equal p e = (refl, e)
both_equal Greater p e = cc

member_equal : (m n : Member) → member_cmp m n ≡ Equal → n ≡ m
member_equal (Person a) (Person b) e = ap Person (equal_is a b e)
member_equal (Person a) (Group b) e = cc
member_equal (Group a) (Person b) e = cc
member_equal (Group a) (Group b) e = ap Group (equal_is a b e)

row_equal : (x y : ℕ × Member) → row_cmp x y ≡ Equal → y ≡ x
row_equal (a, m) (b, n) e =
    let w = both_equal (nat_cmp a b) (member_cmp m n) e in
    rw (equal_is a b w.0, member_equal m n w.1) refl

-- a test finds what is put, or what was there
put_any : (P : ℕ × Member → Bool) (x : ℕ × Member) (ys : List (ℕ × Member)) → list_any P (insert_key row_cmp ys x) ≡ (P x || list_any P ys)
put_any P x [] = refl
put_any P x (y ∷ ys) = go (put_any P x ys) (row_cmp x y) refl
  where
    twice : (a b : Bool) → (a || b) ≡ (a || (a || b))
    twice true b = refl
    twice false b = refl

    swap : (a b c : Bool) → (a || (b || c)) ≡ (b || (a || c))
    swap true true c = refl
    swap true false c = refl
    swap false true c = refl
    swap false false c = refl

    go : list_any P (insert_key row_cmp ys x) ≡ (P x || list_any P ys) → (o : Ordering) → row_cmp x y ≡ o → list_any P (match_ordering o (x ∷ y ∷ ys) (y ∷ ys) (y ∷ insert_key row_cmp ys x)) ≡ (P x || (P y || list_any P ys))
    go r Less e = refl
    go r Equal e = rw (row_equal x y e) (twice (P x) (list_any P ys))
    go r Greater e = rw r (swap (P y) (P x) (list_any P ys))

on_beside : (P : ℕ × Member → Bool) (at : ℕ) (rows : List MemberRow) (beside : List (ℕ × Member)) → list_any P (rows_on at rows beside) ≡ (list_any (λ (r : MemberRow). P (r.group, r.member)) (begun at rows) || list_any P beside)
on_beside P at [] beside = refl
on_beside P at (r ∷ rs) beside = elim (cases_Bool (nat_le r.from at)) [
  | inl t ↦ rw t (on_beside P at rs (insert_key row_cmp beside (r.group, r.member)) ∙ rw (put_any P (r.group, r.member) beside) (swap (list_any (λ (r : MemberRow). P (r.group, r.member)) (begun at rs)) (P (r.group, r.member)) (list_any P beside)))
  | inr f ↦ rw f (on_beside P at rs beside)
]
  where
    swap : (a b c : Bool) → (a || (b || c)) ≡ ((b || a) || c)
    swap true true c = refl
    swap true false c = refl
    swap false true c = refl
    swap false false c = refl

-- a test finds the same in both
pub on_any : (P : ℕ × Member → Bool) (at : ℕ) (rows : List MemberRow) → list_any P (rows_on at rows []) ≡ list_any (λ (r : MemberRow). P (r.group, r.member)) (begun at rows)
on_any P at rows = on_beside P at rows [] ∙ outside (list_any (λ (r : MemberRow). P (r.group, r.member)) (begun at rows))
  where
    outside : (b : Bool) → (b || false) ≡ b
    outside true = refl
    outside false = refl
