-- A set of numbers with one more.
use Rattle.std.proofs.Common.{◌≡◌, ◌==◌, ◌||◌, not, ℕ, List, [], ◌∷◌, Bool, true, false, cond, refl, sym, ap, ◌∙◌, arith}
use Rattle.std.proofs.lemmas.Bool.Decides.{nat_tests}
use Rattle.std.proofs.lemmas.Grind.{common_steps}
use Rattle.std.specs.List.{list_any}
use Rattle.std.specs.BTreeMap.{is_at}
use Rattle.std.specs.Ordering.{nat_cmp}
use Rattle.reg_graph.specs.Edges.{among}

turned : (a b : ℕ) → (a == b) ≡ (b == a)
turned a b = grind (arith, common_steps)

at_number : (g x : ℕ) → is_at (nat_cmp g) x ≡ (x == g)
at_number g x = grind (arith, nat_tests, common_steps)

among_at : (q : ℕ) (xs : List ℕ) → list_any (is_at (nat_cmp q)) xs ≡ among q xs
among_at q [] = refl
among_at q (x ∷ xs) = rw (among_at q xs) (ap (λ b. b || among q xs) (at_number q x))

pub one_more : (now new : List ℕ) (person : ℕ) → ((q : ℕ) → list_any (is_at (nat_cmp q)) new ≡ cond (is_at (nat_cmp person) q) true (list_any (is_at (nat_cmp q)) now)) → (q : ℕ) → among q new ≡ ((person == q) || among q now)
one_more now new person h q = sym (among_at q new) ∙ (h q ∙ rw (at_number person q, among_at q now, turned q person) (by (person == q) (among q now)))
  where
    by : (b r : Bool) → cond b true r ≡ (b || r)
    by true r = refl
    by false r = refl

pub is_new : (now : List ℕ) (person : ℕ) (r : Bool) → r ≡ not (list_any (is_at (nat_cmp person)) now) → r ≡ not (among person now)
is_new now person r h = h ∙ ap not (among_at person now)
