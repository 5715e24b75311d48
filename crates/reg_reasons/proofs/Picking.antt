-- One way of many.
use Rattle.std.proofs.Common.{◌≡◌, ◌<◌, ◌≤◌, ◌-◌, ◌+◌, ℕ, zero, suc, ◌==◌, List, [], ◌∷◌, ◌++◌, Bool, true, false, arith, refl, sym, ◌∙◌, ap, length, drop, get_or, map, subst}
use Rattle.std.specs.Prelude.{if◌then◌else◌, Option, None, Some, slice_get}
use Rattle.std.specs.Option.{option_map}
use Rattle.std.proofs.lemmas.Bool.{eq-eqb, ne_eqb}
use Rattle.std.proofs.lemmas.List.{at_drop_more, at_drop_all, length-map, append_assoc, append-nil}
use Rattle.std.proofs.lemmas.Option.{slice_get-map, slice_get-get_or, slice_get_past}
use Rattle.reg_terms.specs.declared.kinds.Member.{Member}
use Rattle.reg_terms.specs.declared.kinds.Member.TheVariants.{Person, Group}
use Rattle.reg_terms.specs.declared.rows.MemberRow.{MemberRow}
use Rattle.reg_reasons.specs.Ways.{Way, by_rows, onward, ways}
use Rattle.reg_reasons.specs.Counts.{capped}
use Rattle.reg_reasons.specs.Picks.{Picks}

pub get_left : {X : Type 0} (xs ys : List X) (k : ℕ) → k < length xs → slice_get (xs ++ ys) k ≡ slice_get xs k
get_left [] ys k l = absurd (omega (arith, l))
get_left (x ∷ xs) ys zero l = refl
get_left (x ∷ xs) ys (suc k) l = get_left xs ys k (omega (arith, l))

pub get_right : {X : Type 0} (xs ys : List X) (k j : ℕ) → k ≡ length xs + j → slice_get (xs ++ ys) k ≡ slice_get ys j
get_right [] ys k j e = ap (λ n. slice_get ys n) (omega (arith, e))
get_right (x ∷ xs) ys zero j e = absurd (omega (arith, e))
get_right (x ∷ xs) ys (suc k) j e = get_right xs ys k j (omega (arith, e))

-- what the k-th way is among those of the rows that are left
abbrev pub IsLeft : (ℕ → List Way) → Bool → ℕ → List MemberRow → ℕ → ℕ → ℕ → ℕ → Type 0
IsLeft W last s rows g k place now = slice_get (by_rows W last s rows g) k ≡ slice_get (by_rows W last s (drop place rows) g) now

module _ (W : ℕ → List Way) (last : Bool) (s : ℕ) (rows : List MemberRow) (g k place now : ℕ) (row : MemberRow) (h : place < length rows) (is : row ≡ get_or rows place row) (left : IsLeft W last s rows g k place now) where
  pub at_row : slice_get (by_rows W last s rows g) k ≡ slice_get (by_rows W last s (row ∷ drop (place + 1) rows) g) now
  at_row =
      let e : slice_get (by_rows W last s (drop place rows) g) now ≡ slice_get (by_rows W last s (get_or rows place row ∷ drop (place + 1) rows) g) now = at_drop_more (λ rs. slice_get (by_rows W last s rs g) now) rows place row h in
      left ∙ (e ∙ sym (ap (λ (r : MemberRow). slice_get (by_rows W last s (r ∷ drop (place + 1) rows) g) now) is))

  pub passed_other : (row.group ≡ g → ⊥) → IsLeft W last s rows g k (place + 1) now
  passed_other n = let f : (row.group == g) ≡ false = ne_eqb row.group g n in rw f at at_row

  pub ways_of_row : row.group ≡ g → slice_get (by_rows W last s rows g) k ≡ slice_get (map (λ (way : Way). row ∷ way) (onward W last s row.member) ++ by_rows W last s (drop (place + 1) rows) g) now
  ways_of_row e = let t : (row.group == g) ≡ true = eq-eqb row.group g e in rw t at at_row

  pub passed_row : (count : ℕ) → row.group ≡ g → count ≡ capped (length (onward W last s row.member)) → count ≤ now → now < 18446744073709551615 → IsLeft W last s rows g k (place + 1) (now - count)
  passed_row count e c l m =
      let f : Way → Way = λ (way : Way). row ∷ way in
      let n : length (map f (onward W last s row.member)) ≡ length (onward W last s row.member) = length-map (onward W last s row.member) f in
      let sum : now ≡ length (map f (onward W last s row.member)) + (now - count) = omega (arith, c, l, m, n) in
      ways_of_row e ∙ get_right (map f (onward W last s row.member)) (by_rows W last s (drop (place + 1) rows) g) now (now - count) sum

  pub picked : (count : ℕ) → row.group ≡ g → count ≡ capped (length (onward W last s row.member)) → now < count → now ≤ k → Picks W last s rows (by_rows W last s rows g) k place now
  picked count e c l m =
      let f : Way → Way = λ (way : Way). row ∷ way in
      let n : length (map f (onward W last s row.member)) ≡ length (onward W last s row.member) = length-map (onward W last s row.member) f in
      let low : now < length (map f (onward W last s row.member)) = omega (arith, c, l, n) in
      record {
        row = row;
        stands = slice_get-get_or rows place row h ∙ ap Some (sym is);
        way = ways_of_row e ∙ (get_left (map f (onward W last s row.member)) (by_rows W last s (drop (place + 1) rows) g) now low ∙ slice_get-map f (onward W last s row.member) now);
        earlier = m;
      }

pub none_picked : (W : ℕ → List Way) (last : Bool) (s : ℕ) (rows : List MemberRow) (g k place now : ℕ) → IsLeft W last s rows g k place now → length rows ≤ place → slice_get (by_rows W last s rows g) k ≡ None
none_picked W last s rows g k place now left l =
    left ∙ at_drop_all (λ rs. slice_get (by_rows W last s rs g) now) rows place l

-- ---- row by row
-- the ways on from a member with m rows
abbrev pub from : List MemberRow → (ℕ → Bool) → ℕ → ℕ → Member → List Way
from rows E s m member = onward (ways m rows E s) (m == 0) s member

-- the way is these rows, and the k-th of the ways on
abbrev pub GoesOn : List MemberRow → (ℕ → Bool) → ℕ → Option Way → List MemberRow → ℕ → Member → ℕ → Type 0
GoesOn rows E s whole way m member k = whole ≡ option_map (λ (rest : Way). way ++ rest) (slice_get (from rows E s m member) k)

pub goes_first : (rows : List MemberRow) (E : ℕ → Bool) (s n m g k : ℕ) → m ≡ n → GoesOn rows E s (slice_get (ways n rows E s g) k) [] m (Group g) k
goes_first rows E s n m g k e = rw e (same (slice_get (ways n rows E s g) k))
  where
    same : (o : Option Way) → o ≡ option_map (λ (rest : Way). [] ++ rest) o
    same None = refl
    same (Some way) = refl

pub goes_none : (rows : List MemberRow) (E : ℕ → Bool) (s : ℕ) (whole : Option Way) (way : List MemberRow) (m left g k : ℕ) → m ≡ suc left → GoesOn rows E s whole way m (Group g) k
    → slice_get (by_rows (ways left rows E s) (left == 0) s rows g) k ≡ None → whole ≡ None
goes_none rows E s whole way m left g k e on none =
    let was : GoesOn rows E s whole way (suc left) (Group g) k = subst (λ n. GoesOn rows E s whole way n (Group g) k) e on in
    was ∙ ap (option_map (λ (rest : Way). way ++ rest)) none

pub goes_person : (rows : List MemberRow) (E : ℕ → Bool) (s : ℕ) (whole : Option Way) (way : List MemberRow) (m left p k : ℕ) → m ≡ suc left → GoesOn rows E s whole way m (Person p) k → whole ≡ None
goes_person rows E s whole way m left p k e on =
    let was : GoesOn rows E s whole way (suc left) (Person p) k = subst (λ n. GoesOn rows E s whole way n (Person p) k) e on in
    let z : (suc left == 0) ≡ false = ne_eqb (suc left) 0 (λ a. absurd (omega (arith, a))) in
    rw z at was

pub goes_more : (rows : List MemberRow) (E : ℕ → Bool) (s : ℕ) (whole : Option Way) (way : List MemberRow) (m left g k place j : ℕ) (row : MemberRow) (after : ℕ) → after ≡ left → m ≡ suc left → GoesOn rows E s whole way m (Group g) k
    → Picks (ways left rows E s) (left == 0) s rows (by_rows (ways left rows E s) (left == 0) s rows g) k place j
    → place < length rows → row ≡ get_or rows place row
    → GoesOn rows E s whole (way ++ row ∷ []) after row.member j
goes_more rows E s whole way m left g k place j row after a e on picks h is =
    rw a (let was : GoesOn rows E s whole way (suc left) (Group g) k = subst (λ n. GoesOn rows E s whole way n (Group g) k) e on in
    let this : Some picks.row ≡ Some row = sym picks.stands ∙ (slice_get-get_or rows place row h ∙ ap Some (sym is)) in
    let same : picks.row ≡ row = some picks.row row this in
    let o : Option Way = slice_get (from rows E s left row.member) j in
    let next : slice_get (by_rows (ways left rows E s) (left == 0) s rows g) k ≡ option_map (λ (rest : Way). row ∷ rest) o =
    subst (λ (r : MemberRow). slice_get (by_rows (ways left rows E s) (left == 0) s rows g) k ≡ option_map (λ (rest : Way). r ∷ rest) (slice_get (from rows E s left r.member) j)) same picks.way in
    was ∙ (ap (option_map (λ (rest : Way). way ++ rest)) next ∙ joined o))
  where
    some : (x y : MemberRow) → Some x ≡ Some y → x ≡ y
    some x y e = cc

    joined : (o : Option Way) → option_map (λ (rest : Way). way ++ rest) (option_map (λ (rest : Way). row ∷ rest) o) ≡ option_map (λ (rest : Way). (way ++ row ∷ []) ++ rest) o
    joined None = refl
    joined (Some rest) = ap Some (sym (append_assoc way (row ∷ []) rest))

-- behind the last row there is no row more
abbrev just_empty : List Way
just_empty = [] ∷ []

one_empty : (b : Bool) (k : ℕ) → k < length (if b then just_empty else []) → slice_get {X = Way} (if b then just_empty else []) k ≡ Some []
one_empty true zero l = refl
one_empty true (suc k) l = absurd (omega (arith, l))
one_empty false k l = absurd (omega (arith, l))

pub last_way : (rows : List MemberRow) (E : ℕ → Bool) (s : ℕ) (member : Member) (k : ℕ) → k < length (from rows E s 0 member) → slice_get (from rows E s 0 member) k ≡ Some []
last_way rows E s (Person p) k l = one_empty (p == s) k l
last_way rows E s (Group h) k l = one_empty (E h) k l

pub goes_whole : (rows : List MemberRow) (E : ℕ → Bool) (s : ℕ) (whole : Option Way) (way : List MemberRow) (m : ℕ) (member : Member) (k count : ℕ) → m ≡ 0 → GoesOn rows E s whole way m member k
    → count ≡ capped (length (onward (ways 0 rows E s) true s member)) → k < count → Some way ≡ whole
goes_whole rows E s whole way m member k count e on c l =
    let was : GoesOn rows E s whole way 0 member k = subst (λ n. GoesOn rows E s whole way n member k) e on in
    let end : slice_get (from rows E s 0 member) k ≡ Some [] = last_way rows E s member k (omega (arith, c, l)) in
    sym (was ∙ (ap (option_map (λ (rest : Way). way ++ rest)) end ∙ ap Some (append-nil way)))

pub goes_nowhere : (rows : List MemberRow) (E : ℕ → Bool) (s : ℕ) (whole : Option Way) (way : List MemberRow) (m : ℕ) (member : Member) (k count : ℕ) → m ≡ 0 → GoesOn rows E s whole way m member k
    → count ≡ capped (length (onward (ways 0 rows E s) true s member)) → count ≤ k → k < 18446744073709551615 → None ≡ whole
goes_nowhere rows E s whole way m member k count e on c l b =
    let was : GoesOn rows E s whole way 0 member k = subst (λ n. GoesOn rows E s whole way n member k) e on in
    let end : slice_get (from rows E s 0 member) k ≡ None = slice_get_past (from rows E s 0 member) k (omega (arith, c, l, b)) in
    sym (was ∙ ap (option_map (λ (rest : Way). way ++ rest)) end)
