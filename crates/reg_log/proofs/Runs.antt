-- The lines of a log that stores their moments apart.
use Rattle.std.proofs.Common.{◌≡◌, ◌≤◌, ◌<◌, ◌+◌, ℕ, zero, suc, List, [], ◌∷◌, ◌++◌, true, false, Some, None, if◌then◌else◌, length, get_or, slice_get, take, drop, nat_le, option_map, ◌-◌, min, append_assoc, append-nil, add-one, drop-cons, arith, refl, sym, ap, ◌∙◌, inl, inr}
use Rattle.std.proofs.lemmas.Bool.{cases_Bool, leb-true, leb-false, le-leb, lt-leb}
use Rattle.std.specs.List.{AllWithin}
use Rattle.std.proofs.lemmas.Option.{slice_get_past}
use Rattle.std.proofs.Math.ListN.{drop_of_length-le}
use Rattle.reg_log.specs.Numbering.{entry_of, numbered, entries_after, moment_of}
use Rattle.reg_log.proofs.Following.{lines_after}
use Rattle.reg_log.specs.declared.entries.Entry.{Entry}
use Rattle.reg_log.specs.Stretches.{line_of, moment_at, lines_from, Begin, begun, moment_begun}
use Rattle.reg_log.specs.declared.entries.Line.{Line}
use Rattle.reg_log.specs.declared.stored.StoredLine.{StoredLine}
use Rattle.reg_log.specs.declared.stored.Stretch.{Stretch}

-- stretches in turn have room between the first place and the end
pub has_room : (low end : ℕ) (ss : List Stretch) → Begin low ss end → low ≤ end
has_room low end [] b = b
has_room low end (s ∷ ss) b =
    let later : suc s.first ≤ end = has_room (suc s.first) end ss b.1 in
    let here : low ≤ s.first = b.0 in
    omega (arith, later, here)

-- the end may be later
pub end_later : (low end : ℕ) (ss : List Stretch) → Begin low ss end → Begin low ss (suc end)
end_later low end [] b = omega arith
end_later low end (s ∷ ss) b = (b.0, end_later (suc s.first) end ss b.1)

-- a stretch that begins at the end comes last
pub one_more_begins : (low end : ℕ) (ss : List Stretch) (s : Stretch) → s.first ≡ end → Begin low ss end → Begin low (ss ++ s ∷ []) (suc end)
one_more_begins low end [] s e b = let low_end : low ≤ end = b in (omega (arith, e, low_end), omega (arith, e))
one_more_begins low end (x ∷ ss) s e b = (b.0, one_more_begins (suc x.first) end ss s e b.1)

-- the moment of a place after one stretch more
pub moment_at_one_more : (m i : ℕ) (ss : List Stretch) (s : Stretch) → moment_at m i (ss ++ s ∷ []) ≡ (if nat_le s.first i then s.at else moment_at m i ss)
moment_at_one_more m i [] s = refl
moment_at_one_more m i (x ∷ ss) s = moment_at_one_more (if nat_le x.first i then x.at else m) i ss s

pub moment_at_new : (i : ℕ) (ss : List Stretch) (s : Stretch) → s.first ≤ i → moment_at 0 i (ss ++ s ∷ []) ≡ s.at
moment_at_new i ss s h = let y : nat_le s.first i ≡ true = le-leb s.first i h in rw (moment_at_one_more 0 i ss s, y) refl

pub moment_at_before : (i : ℕ) (ss : List Stretch) (s : Stretch) → i < s.first → moment_at 0 i (ss ++ s ∷ []) ≡ moment_at 0 i ss
moment_at_before i ss s h = let f : nat_le s.first i ≡ false = lt-leb s.first i h in rw (moment_at_one_more 0 i ss s, f) refl

-- before stretches begin the moment stays
pub none_begun : (m i low end : ℕ) (ss : List Stretch) → i < low → Begin low ss end → (moment_at m i ss ≡ m) × (begun i ss ≡ 0)
none_begun m i low end [] h b = (refl, refl)
none_begun m i low end (s ∷ ss) h b =
    let here : low ≤ s.first = b.0 in
    let f : nat_le s.first i ≡ false = lt-leb s.first i (omega (arith, h, here)) in
    (rw f (none_begun m i (suc s.first) end ss (omega (arith, h, here)) b.1).0, rw f refl)

-- the moment of a place is that of the stretches which have begun there
pub moment_at_begun : (m i low end : ℕ) (ss : List Stretch) → Begin low ss end → moment_at m i ss ≡ moment_begun m (begun i ss) ss
moment_at_begun m i low end [] b = refl
moment_at_begun m i low end (s ∷ ss) b = elim (cases_Bool (nat_le s.first i)) [
  | inl y ↦ rw y (moment_at_begun s.at i (suc s.first) end ss b.1)
  | inr f ↦ rw f (none_begun m i (suc s.first) end ss (let h : i < s.first = leb-false s.first i f in omega (arith, h)) b.1).0
]

-- at the end all have begun
pub all_begun : (i low end : ℕ) (ss : List Stretch) → Begin low ss end → end ≤ suc i → begun i ss ≡ length ss
all_begun i low end [] b h = refl
all_begun i low end (s ∷ ss) b h =
    let later : suc s.first ≤ end = has_room (suc s.first) end ss b.1 in
    let y : nat_le s.first i ≡ true = le-leb s.first i (omega (arith, later, h)) in
    rw y (ap suc (all_begun i (suc s.first) end ss b.1 h))

pub begun_at_most : (i : ℕ) (ss : List Stretch) → begun i ss ≤ length ss
begun_at_most i [] = omega arith
begun_at_most i (s ∷ ss) = elim (cases_Bool (nat_le s.first i)) [
  | inl y ↦ rw y (let h : begun i ss ≤ length ss = begun_at_most i ss in omega (arith, h))
  | inr f ↦ rw f (omega arith)
]

-- at the next place one stretch more may have begun
pub begun_next_yes : (i low end : ℕ) (ss : List Stretch) (d : Stretch) → Begin low ss end → begun i ss < length ss → (get_or ss (begun i ss) d).first ≤ i + 1 → begun (suc i) ss ≡ begun i ss + 1
begun_next_yes i low end [] d b w h = absurd (omega (arith, w))
begun_next_yes i low end (s ∷ ss) d b w h = elim (cases_Bool (nat_le s.first i)) [
  | inl y ↦
      let here : s.first ≤ i = leb-true s.first i y in
      let y2 : nat_le s.first (suc i) ≡ true = le-leb s.first (suc i) (omega (arith, here)) in
      let w2 : suc (begun i ss) < suc (length ss) = rw y at w in
      let h2 : (get_or ss (begun i ss) d).first ≤ i + 1 = rw y at h in
      rw (y, y2) (let e : begun (suc i) ss ≡ begun i ss + 1 = begun_next_yes i (suc s.first) end ss d b.1 (omega (arith, w2)) h2 in omega (arith, e))
  | inr f ↦
      let here : i < s.first = leb-false s.first i f in
      let h2 : s.first ≤ i + 1 = rw f at h in
      let y2 : nat_le s.first (suc i) ≡ true = le-leb s.first (suc i) (omega (arith, h2)) in
      let none : begun (suc i) ss ≡ 0 = (none_begun 0 (suc i) (suc s.first) end ss (omega (arith, here)) b.1).1 in
      rw (f, y2) (omega (arith, none))
]

pub begun_next_no : (i low end : ℕ) (ss : List Stretch) (d : Stretch) → Begin low ss end → (begun i ss < length ss → i + 1 < (get_or ss (begun i ss) d).first) → begun (suc i) ss ≡ begun i ss
begun_next_no i low end [] d b h = refl
begun_next_no i low end (s ∷ ss) d b h = elim (cases_Bool (nat_le s.first i)) [
  | inl y ↦
      let here : s.first ≤ i = leb-true s.first i y in
      let y2 : nat_le s.first (suc i) ≡ true = le-leb s.first (suc i) (omega (arith, here)) in
      let h2 : suc (begun i ss) < suc (length ss) → i + 1 < (get_or ss (begun i ss) d).first = rw y at h in
      rw (y, y2) (ap suc (begun_next_no i (suc s.first) end ss d b.1 (λ w. h2 (omega (arith, w)))))
  | inr f ↦
      let h2 : zero < suc (length ss) → i + 1 < s.first = rw f at h in
      let h3 : i + 1 < s.first = h2 (omega arith) in
      let f2 : nat_le s.first (suc i) ≡ false = lt-leb s.first (suc i) (omega (arith, h3)) in
      rw (f, f2) refl
]

pub length_lines : (i : ℕ) (ss : List Stretch) (ls : List StoredLine) → length (lines_from i ss ls) ≡ length ls
length_lines i ss [] = refl
length_lines i ss (l ∷ ls) = ap suc (length_lines (suc i) ss ls)

-- a line more
pub lines_one_more : (i n : ℕ) (old new : List Stretch) (ls : List StoredLine) (l : StoredLine) (line : Line) → n ≡ i + length ls
    → line_of (moment_at 0 n new) l ≡ line → ((k : ℕ) → k < n → moment_at 0 k new ≡ moment_at 0 k old)
    → lines_from i new (ls ++ l ∷ []) ≡ lines_from i old ls ++ line ∷ []
lines_one_more i n old new [] l line e h k = let same : n ≡ i = omega (arith, e) in rw (← same, h) refl
lines_one_more i n old new (x ∷ ls) l line e h k =
    let here : moment_at 0 i new ≡ moment_at 0 i old = k i (omega (arith, e)) in
    rw (here, lines_one_more (suc i) n old new ls l line (omega (arith, e)) h k) refl

-- the lines from a place on
pub lines_drop : (i k : ℕ) (ss : List Stretch) (ls : List StoredLine) → drop k (lines_from i ss ls) ≡ lines_from (i + k) ss (drop k ls)
lines_drop i zero ss ls = let e : i + 0 ≡ i = omega arith in rw e refl
lines_drop i (suc k) ss [] = refl
lines_drop i (suc k) ss (l ∷ ls) = let e : i + suc k ≡ suc i + k = omega arith in rw e (lines_drop (suc i) k ss ls)

pub lines_take : (i k : ℕ) (ss : List Stretch) (ls : List StoredLine) → take k (lines_from i ss ls) ≡ lines_from i ss (take k ls)
lines_take i zero ss ls = refl
lines_take i (suc k) ss [] = refl
lines_take i (suc k) ss (l ∷ ls) = rw (lines_take (suc i) k ss ls) refl

-- the moment of a line
pub moment_there : (i k : ℕ) (ss : List Stretch) (ls : List StoredLine) → k < length ls → option_map (λ (line : Line). line.at) (slice_get (lines_from i ss ls) k) ≡ Some (moment_at 0 (i + k) ss)
moment_there i k ss [] w = absurd (omega (arith, w))
moment_there i zero ss (l ∷ ls) w = let e : i + 0 ≡ i = omega arith in rw e refl
moment_there i (suc k) ss (l ∷ ls) w = let e : i + suc k ≡ suc i + k = omega arith in rw e (moment_there (suc i) k ss ls (omega (arith, w)))

-- stretches rise
first_after : (low end : ℕ) (ss : List Stretch) → Begin low ss end → (j : ℕ) (d : Stretch) → j < length ss → low ≤ (get_or ss j d).first
first_after low end [] b j d w = absurd (omega (arith, w))
first_after low end (s ∷ ss) b zero d w = b.0
first_after low end (s ∷ ss) b (suc j) d w =
    let here : low ≤ s.first = b.0 in
    let later : suc s.first ≤ (get_or ss j d).first = first_after (suc s.first) end ss b.1 j d (omega (arith, w)) in
    omega (arith, here, later)

pub rising : (low end : ℕ) (ss : List Stretch) → Begin low ss end → (i j : ℕ) (d : Stretch) → i ≤ j → j < length ss → (get_or ss i d).first ≤ (get_or ss j d).first
rising low end [] b i j d h w = absurd (omega (arith, w))
rising low end (s ∷ ss) b zero zero d h w = omega arith
rising low end (s ∷ ss) b zero (suc j) d h w =
    let later : suc s.first ≤ (get_or ss j d).first = first_after (suc s.first) end ss b.1 j d (omega (arith, w)) in
    omega (arith, later)
rising low end (s ∷ ss) b (suc i) zero d h w = absurd (omega (arith, h))
rising low end (s ∷ ss) b (suc i) (suc j) d h w = rising (suc s.first) end ss b.1 i j d (omega (arith, h)) (omega (arith, w))

-- what a search by halves finds
pub found : (place : ℕ) (ss : List Stretch) (i : ℕ) → i ≤ length ss → AllWithin (λ (s : Stretch). nat_le s.first place ≡ true) ss 0 i → AllWithin (λ (s : Stretch). nat_le s.first place ≡ false) ss i (length ss) → i ≡ begun place ss
found place [] i w before behind = omega (arith, w)
found place (s ∷ ss) zero w before behind = let n : nat_le s.first place ≡ false = behind 0 s (omega arith) (omega arith) in rw n refl
found place (s ∷ ss) (suc i) w before behind =
    let y : nat_le s.first place ≡ true = before 0 s (omega arith) (omega arith) in
    rw y (ap suc (found place ss i (omega (arith, w)) (λ k d low high. before (suc k) d (omega (arith, low)) (omega (arith, high))) (λ k d low high. behind (suc k) d (omega (arith, low)) (omega (arith, high)))))

-- a look at the last stretch that has begun
pub last_begun : (m n : ℕ) (ss : List Stretch) (d : Stretch) → n < length ss → moment_begun m (suc n) ss ≡ (get_or ss n d).at
last_begun m n [] d w = absurd (omega (arith, w))
last_begun m zero (s ∷ ss) d w = refl
last_begun m (suc n) (s ∷ ss) d w = last_begun s.at n ss d (omega (arith, w))

-- the next stretch has begun
pub next_begun : (i n end : ℕ) (ss : List Stretch) (d : Stretch) → n ≡ begun i ss → Begin 0 ss end → n < length ss → d ≡ get_or ss n d → d.first ≤ i + 1 → n + 1 ≡ begun (suc i) ss
next_begun i n end ss d e b w g h =
    let w2 : begun i ss < length ss = rw (← e) w in
    let h2 : (get_or ss (begun i ss) d).first ≤ i + 1 = rw (← e, ← g) h in
    let next : begun (suc i) ss ≡ begun i ss + 1 = begun_next_yes i 0 end ss d b w2 h2 in
    omega (arith, e, next)

-- the next stretch begins later
pub next_later : (i n end : ℕ) (ss : List Stretch) (d : Stretch) → n ≡ begun i ss → Begin 0 ss end → d ≡ get_or ss n d → i + 1 < d.first → n ≡ begun (suc i) ss
next_later i n end ss d e b g h =
    let h2 : i + 1 < (get_or ss (begun i ss) d).first = rw (← e, ← g) h in
    e ∙ sym (begun_next_no i 0 end ss d b (λ w. h2))

-- there is no further stretch
pub next_none : (i n end : ℕ) (ss : List Stretch) → n ≡ begun i ss → Begin 0 ss end → length ss ≤ n → n ≡ begun (suc i) ss
next_none i n end ss e b h = e ∙ sym (begun_next_no i 0 end ss (record { first = 0; at = 0 }) b (λ w. absurd (omega (arith, w, e, h))))

-- the moment of a line, where it is known how many stretches have begun
pub moment_known : (at n place end : ℕ) (ss : List Stretch) → Begin 0 ss end → n ≡ begun place ss → at ≡ moment_begun 0 n ss → at ≡ moment_at 0 place ss
moment_known at n place end ss b e h = h ∙ rw e (sym (moment_at_begun 0 place 0 end ss b))

-- no line has this number
pub moment_none : (seq k : ℕ) (ss : List Stretch) (ls : List StoredLine) → seq ≡ suc k → length ls ≤ k → None ≡ moment_of seq (lines_from 0 ss ls)
moment_none seq k ss ls e h =
    let none : slice_get (lines_from 0 ss ls) k ≡ None = slice_get_past (lines_from 0 ss ls) k (rw length_lines h) in
    rw (e, none) refl

-- the line of this number has this moment
pub moment_some : (seq k n end at : ℕ) (ss : List Stretch) (ls : List StoredLine) → seq ≡ suc k → k < length ls → Begin 0 ss end → n ≡ begun k ss → at ≡ moment_begun 0 n ss → Some at ≡ moment_of seq (lines_from 0 ss ls)
moment_some seq k n end at ss ls e w b h m =
    let there : option_map (λ (line : Line). line.at) (slice_get (lines_from 0 ss ls) k) ≡ Some (moment_at 0 (0 + k) ss) = moment_there 0 k ss ls w in
    let same : 0 + k ≡ k = omega arith in
    let known : at ≡ moment_at 0 k ss = moment_known at n k end ss b h m in
    rw e (sym (there ∙ rw (same, known) refl))

-- one line more is given
pub one_more_given : (done whole : List Entry) (seq i at : ℕ) (ss : List Stretch) (ls : List StoredLine) (d : StoredLine) → i < length ls → at ≡ moment_at 0 seq ss
    → done ++ numbered seq (lines_from seq ss (drop i ls)) ≡ whole
    → (done ++ entry_of (seq + 1) (line_of at (get_or ls i d)) ∷ []) ++ numbered (seq + 1) (lines_from (seq + 1) ss (drop (i + 1) ls)) ≡ whole
one_more_given done whole seq i at ss ls d h m k = rw (append_assoc, add-one seq, add-one i, m) (rw (drop-cons ls i d) at k)

-- the lines after a place
pub given_after : (place max n : ℕ) (ss : List Stretch) (ls : List StoredLine) → n ≡ length ls
    → numbered (min place n) (lines_from (min place n) ss (take (min max (n - min place n)) (drop (min place n) ls))) ≡ entries_after place max (lines_from 0 ss ls)
given_after place max n ss ls e =
    let from : lines_from (min place n) ss (take (min max (n - min place n)) (drop (min place n) ls)) ≡ take (min max (n - min place n)) (drop (min place n) (lines_from 0 ss ls)) =
    (let same : 0 + min place n ≡ min place n = omega arith in rw (lines_drop 0 (min place n) ss ls, same, lines_take (min place n)) refl) in
    rw from (lines_after place max n (lines_from 0 ss ls) (e ∙ sym (length_lines 0 ss ls)))

-- all lines after a place are given
pub all_given : (place max n from some k seq : ℕ) (ss : List Stretch) (ls : List StoredLine) (done : List Entry) → n ≡ length ls → from ≡ min place n → some ≡ min max (n - from)
    → length (take (from + some - from) (drop from ls)) ≤ k
    → done ++ numbered seq (lines_from seq ss (drop k (take (from + some - from) (drop from ls)))) ≡ numbered from (lines_from from ss (take (from + some - from) (drop from ls)))
    → done ≡ entries_after place max (lines_from 0 ss ls)
all_given place max n from some k seq ss ls done e ef es w h =
    let same : from + some - from ≡ some = omega arith in
    let none : drop k (take (from + some - from) (drop from ls)) ≡ [] = drop_of_length-le (take (from + some - from) (drop from ls)) w in
    let all : done ++ [] ≡ numbered from (lines_from from ss (take some (drop from ls))) = rw (none, same) at h in
    rw (← given_after place max n ss ls e, ← ef, ← es) (sym (append-nil done) ∙ all)
