-- Turns by boundary, group and person as the entries of a map.
use Rattle.std.proofs.Common.{◌≡◌, ◌==◌, ◌&&◌, ℕ, List, [], ◌∷◌, Bool, true, false, cond, Some, map, if◌then◌else◌, arith, refl, sym, ◌∙◌, ap}
use Rattle.std.proofs.lemmas.Bool.Decides.{nat_tests}
use Rattle.std.proofs.lemmas.Grind.{common_steps}
use Rattle.std.specs.List.{AllByRecursion}
use Rattle.std.specs.List.Sorted.{IsStrictlySortedBy}
use Rattle.std.specs.Map.{lookup, keys_of}
use Rattle.std.specs.Ordering.{nat_cmp, ordering_then, eq_by_cmp, is_eq}
use Rattle.std.specs.declared.cmp.Ordering.{Ordering}
use Rattle.std.specs.declared.cmp.Ordering.TheVariants.{Less, Equal, Greater}
use Rattle.reg_prov.specs.Notes.{turn_of}
use Rattle.reg_prov.specs.Turns.{turn_at, turn_cmp}

-- by the first, the second, and then the third
abbrev pub key_cmp : ℕ × ℕ × ℕ → ℕ × ℕ × ℕ → Ordering
key_cmp a b = ordering_then (ordering_then (nat_cmp a.0 b.0) (nat_cmp a.1 b.1)) (nat_cmp a.2 b.2)

eq_then : (a b : Ordering) → is_eq (ordering_then a b) ≡ (is_eq a && is_eq b)
eq_then Less b = refl
eq_then Equal b = refl
eq_then Greater b = refl

eq_nat : (a x : ℕ) → is_eq (nat_cmp a x) ≡ (a == x)
eq_nat a x = grind (arith, nat_tests, common_steps)

eq_turned : (a x : ℕ) → is_eq (nat_cmp a x) ≡ (x == a)
eq_turned a x = grind (arith, nat_tests, common_steps)

regroup : (p q r : Bool) → ((p && q) && r) ≡ (p && (q && r))
regroup true q r = refl
regroup false q r = refl

same_key : (a b c x y z : ℕ) → eq_by_cmp key_cmp (a, b, c) (x, y, z) ≡ ((a == x) && ((b == y) && (c == z)))
same_key a b c x y z =
    eq_then (ordering_then (nat_cmp a x) (nat_cmp b y)) (nat_cmp c z)
    ∙ (ap (λ (k : Bool). k && is_eq (nat_cmp c z)) (eq_then (nat_cmp a x) (nat_cmp b y))
    ∙ rw (eq_nat a x, eq_nat b y, eq_nat c z) (regroup (a == x) (b == y) (c == z)))

turned_key : (a b c x y z : ℕ) → eq_by_cmp key_cmp (a, b, c) (x, y, z) ≡ ((x == a) && ((y == b) && (z == c)))
turned_key a b c x y z =
    eq_then (ordering_then (nat_cmp a x) (nat_cmp b y)) (nat_cmp c z)
    ∙ (ap (λ (k : Bool). k && is_eq (nat_cmp c z)) (eq_then (nat_cmp a x) (nat_cmp b y))
    ∙ rw (eq_turned a x, eq_turned b y, eq_turned c z) (regroup (x == a) (y == b) (z == c)))

looked_up : (n g s : ℕ) (es : List ((ℕ × ℕ × ℕ) × Bool)) → lookup (eq_by_cmp key_cmp (n, g, s)) es ≡ turn_at (map turn_of es) n g s
looked_up n g s [] = refl
looked_up n g s (((x, y, z), on) ∷ es) = rw (turned_key n g s x y z, looked_up n g s es) refl

pub turn_set : (at group subject : ℕ) (on : Bool) (old new : List ((ℕ × ℕ × ℕ) × Bool)) → ((q : ℕ × ℕ × ℕ) → lookup (eq_by_cmp key_cmp q) new ≡ cond (eq_by_cmp key_cmp (at, group, subject) q) (Some on) (lookup (eq_by_cmp key_cmp q) old)) → (n g s : ℕ)
    → turn_at (map turn_of new) n g s ≡ (if (at == n) && ((group == g) && (subject == s)) then Some on else turn_at (map turn_of old) n g s)
turn_set at group subject on old new h n g s = sym (looked_up n g s new) ∙ (h (n, g, s) ∙ rw (same_key at group subject n g s, looked_up n g s old) refl)

sorted_below : (e : (ℕ × ℕ × ℕ) × Bool) (es : List ((ℕ × ℕ × ℕ) × Bool)) → AllByRecursion (λ q. key_cmp e.0 q ≡ Less) (keys_of es) → AllByRecursion (λ t. turn_cmp (turn_of e) t ≡ Less) (map turn_of es)
sorted_below e [] h = tt
sorted_below e (x ∷ es) h = (h.0, sorted_below e es h.1)

pub turns_sorted : (es : List ((ℕ × ℕ × ℕ) × Bool)) → IsStrictlySortedBy key_cmp (keys_of es) → IsStrictlySortedBy turn_cmp (map turn_of es)
unfolding IsStrictlySortedBy
turns_sorted [] h = tt
turns_sorted (e ∷ es) h = (sorted_below e es h.0, turns_sorted es h.1)
