-- What is remembered of memberships under changes, and who they turn.
use Rattle.std.proofs.Common.{◌≡◌, ◌≤◌, length, ◌&&◌, ◌||◌, ℕ, List, [], ◌∷◌, ◌++◌, Bool, true, false, not, max, map, filter, drop, arith, refl, sym, ◌∙◌, ap, inl, inr}
use Rattle.std.proofs.lemmas.Bool.{cases_Bool}
use Rattle.std.proofs.lemmas.List.{append-nil, drop_all}
use Rattle.std.proofs.lemmas.List.Kept.{IsStrictlySortedBy-filter}
use Rattle.std.specs.List.Sorted.{IsStrictlySortedBy}
use Rattle.reg_graph.specs.Sets.{holds, pair_cmp}
use Rattle.reg_effect.specs.declared.live.Live.{Live}
use Rattle.reg_effect.specs.declared.turned.Turned.{Turned}
use Rattle.reg_effect.specs.Deltas.{top, pairs_below, began, ended}
use Rattle.reg_effect.specs.Member.{member}
use Rattle.reg_effect.specs.Walk.{differ, begins, ends}
use Rattle.reg_effect.specs.Turned.{turns_by, turns, Remembers}
use Rattle.reg_effect.proofs.Lists.{holds_gained, holds_filter, holds_below, one_list, pairs_sorted}
use Rattle.reg_effect.proofs.Tops.{member_below}

pub holds_began : (L N : Live) (g s : ℕ) → holds g s (began L N) ≡ begins (member L g s) (member N g s)
unfolding began
holds_began L N g s = holds_gained L N g s

pub holds_ended : (L N : Live) (g s : ℕ) → holds g s (ended L N) ≡ begins (member N g s) (member L g s)
unfolding ended
holds_ended L N g s = holds_gained N L g s

-- one change more, seen at one membership: what it was at first, before the change, and after it
began_one : (l m n : Bool) → (not (m && not n) && (((n && not m) && not (l && not m)) || (m && not l))) ≡ (n && not l)
began_one true true true = refl
began_one true true false = refl
began_one true false true = refl
began_one true false false = refl
began_one false true true = refl
began_one false true false = refl
began_one false false true = refl
began_one false false false = refl

ended_one : (l m n : Bool) → (((m && not n) && not (((n && not m) && not (l && not m)) || (m && not l))) || (not (n && not m) && (l && not m))) ≡ (l && not n)
ended_one true true true = refl
ended_one true true false = refl
ended_one true false true = refl
ended_one true false false = refl
ended_one false true true = refl
ended_one false true false = refl
ended_one false false true = refl
ended_one false false false = refl

-- what begins and hadn't ended has begun, and has ended no longer; and then the same of what ends
pub remembered : (L M N : Live) (old new : Turned) (first second b e : List (ℕ × ℕ)) → Remembers L M old → first ≡ began M N → second ≡ ended M N
    → ((y q : ℕ) → holds y q b ≡ ((holds y q first && not (holds y q old.ended)) || holds y q old.began))
    → ((y q : ℕ) → holds y q e ≡ (not (holds y q first) && holds y q old.ended))
    → ((y q : ℕ) → holds y q new.ended ≡ ((holds y q second && not (holds y q b)) || holds y q e))
    → ((y q : ℕ) → holds y q new.began ≡ (not (holds y q second) && holds y q b))
    → Remembers L N new
remembered L M N old new first second b e h f s begun left more rest = record {
  began = λ g q. rest g q ∙ rw (begun g q, firsts g q, seconds g q, h.began g q, h.ended g q) (began_one (member L g q) (member M g q) (member N g q));
  ended = λ g q. more g q ∙ rw (begun g q, left g q, firsts g q, seconds g q, h.began g q, h.ended g q) (ended_one (member L g q) (member M g q) (member N g q));
}
  where
    firsts : (g q : ℕ) → holds g q first ≡ begins (member M g q) (member N g q)
    firsts g q = rw f (holds_began M N g q)

    seconds : (g q : ℕ) → holds g q second ≡ begins (member N g q) (member M g q)
    seconds g q = rw s (holds_ended M N g q)

-- ---- who is turned

-- a pair whose memberships differ
abbrev pub is_turned : (ℕ → ℕ → Bool) → (ℕ → ℕ → Bool) → ℕ × ℕ → Bool
is_turned was is p = differ (was p.0 p.1) (is p.0 p.1)

abbrev pub turn_of : (ℕ → ℕ → Bool) → ℕ × ℕ → ℕ × ℕ × Bool
turn_of is p = (p.0, p.1, is p.0 p.1)

-- of pairs those that differ, each with whether it began
turns_filtered : (was is begun : ℕ → ℕ → Bool) → ((g s : ℕ) → begun g s ≡ begins (was g s) (is g s)) → (ps : List (ℕ × ℕ)) → map {B = ℕ × ℕ × Bool} (turn_of begun) (filter (is_turned was is) ps) ≡ turns_by was is ps
turns_filtered was is begun h [] = refl
turns_filtered was is begun h (p ∷ ps) = elim (cases_Bool (is_turned was is p)) [
  | inl y ↦ rw (y, turns_filtered was is begun h ps, h p.0 p.1, turned_so (was p.0 p.1) (is p.0 p.1) y) refl
  | inr n ↦ rw n (turns_filtered was is begun h ps)
]
  where
    turned_so : (l n : Bool) → differ l n ≡ true → begins l n ≡ n
    turned_so true true d = cc
    turned_so true false d = refl
    turned_so false true d = refl
    turned_so false false d = refl

pub differ_below : (L N : Live) (g s : ℕ) → differ (member L g s) (member N g s) ≡ true → holds g s (pairs_below (max (top L) (top N)) (max (top L) (top N))) ≡ true
differ_below L N g s h = elim (cases_Bool (member L g s)) [
  | inl y ↦ let m = member_below L g s y in holds_below g s (max (top L) (top N)) (max (top L) (top N)) (omega (arith, m.0)) (omega (arith, m.1))
  | inr n ↦ let other : member N g s ≡ true = rw n at h in let m = member_below N g s other in holds_below g s (max (top L) (top N)) (max (top L) (top N)) (omega (arith, m.0)) (omega (arith, m.1))
]

-- all pairs that began or ended, in order, are those that are turned
turns_are : (L N : Live) (turned : Turned) (pairs : List (ℕ × ℕ)) (out : List (ℕ × ℕ × Bool)) → Remembers L N turned
    → ((y q : ℕ) → holds y q pairs ≡ (holds y q turned.began || holds y q turned.ended)) → IsStrictlySortedBy pair_cmp pairs
    → out ≡ map {B = ℕ × ℕ × Bool} (turn_of (λ g s. holds g s turned.began)) pairs → out ≡ turns L N
unfolding turns
turns_are L N turned pairs out h each sorted e =
    e ∙ (ap (λ ps. map {B = ℕ × ℕ × Bool} (turn_of (λ g s. holds g s turned.began)) ps) (one_list pairs (filter (is_turned (member L) (member N)) below) sorted
    (IsStrictlySortedBy-filter pair_cmp (is_turned (member L) (member N)) below (pairs_sorted (max (top L) (top N)) (max (top L) (top N))))
    same)
    ∙ turns_filtered (member L) (member N) (λ g s. holds g s turned.began) h.began below)
  where
    below : List (ℕ × ℕ)
    below = pairs_below (max (top L) (top N)) (max (top L) (top N))

    one : (l n b : Bool) → (differ l n ≡ true → b ≡ true) → (begins l n || ends l n) ≡ (differ l n && b)
    one true true b d = refl
    one true false b d = sym (d refl)
    one false true b d = sym (d refl)
    one false false b d = refl

    same : (g s : ℕ) → holds g s pairs ≡ holds g s (filter (is_turned (member L) (member N)) below)
    same g s = each g s ∙ (rw (h.began g s, h.ended g s) (one (member L g s) (member N g s) (holds g s below) (differ_below L N g s)) ∙ sym (holds_filter (is_turned (member L) (member N)) g s below))

-- all are looked at
pub all_turned : (L N : Live) (turned : Turned) (pairs : List (ℕ × ℕ)) (out : List (ℕ × ℕ × Bool)) (index : ℕ) → Remembers L N turned
    → ((y q : ℕ) → holds y q pairs ≡ (holds y q turned.began || holds y q turned.ended)) → IsStrictlySortedBy pair_cmp pairs → length pairs ≤ index
    → out ++ map {B = ℕ × ℕ × Bool} (turn_of (λ g s. holds g s turned.began)) (drop index pairs) ≡ map {B = ℕ × ℕ × Bool} (turn_of (λ g s. holds g s turned.began)) pairs → out ≡ turns L N
all_turned L N turned pairs out index h each sorted last k =
    let end : drop index pairs ≡ [] = drop_all index pairs last in
    turns_are L N turned pairs out h each sorted (sym (append-nil out) ∙ (rw end at k))
