-- The keys that are on, gathered from key to key.
use Rattle.std.proofs.Common.{◌≡◌, ◌<◌, ◌≤◌, ◌+◌, ◌&&◌, ◌||◌, ◌++◌, ℕ, List, [], ◌∷◌, Bool, true, false, map, filter, length, Option, Some, None, arith, refl, sym, ◌∙◌, ap, inl, inr}
use Rattle.std.proofs.lemmas.Bool.{cases_Bool, and_parts}
use Rattle.std.proofs.lemmas.List.{length-map}
use Rattle.std.proofs.lemmas.Cmp.{alike_right}
use Rattle.std.proofs.lemmas.List.Folds.{list_any-append}
use Rattle.std.specs.Prelude.{⊤, IfSome, IfNone}
use Rattle.std.specs.Cmp.{IsTotalOrder}
use Rattle.std.specs.List.{list_any, AllByRecursion}
use Rattle.std.specs.List.Sorted.{IsStrictlySortedBy}
use Rattle.std.specs.Ordering.{is_le, is_lt, is_gt, eq_by_cmp}
use Rattle.std.specs.declared.cmp.Ordering.{Ordering}
use Rattle.std.specs.declared.cmp.Ordering.TheVariants.{Less, Equal, Greater}
use Rattle.reg_pit.specs.Spans.{covers}
use Rattle.reg_pit.specs.Runs.{span_of, runs_of, spans_of, is_between, is_behind, IsFirstKey}
use Rattle.reg_pit.proofs.Orders.{less, equal, greater, answer}
use Rattle.reg_pit.proofs.Places.{alike_runs}

-- whether a key is before another one, if there is one
abbrev pub is_before : {K : Type 0} → (K → K → Ordering) → K → Option K → Bool
is_before R k None = true
is_before R k (Some n) = is_lt (R k n)

-- the key to be looked at, if there is one, has intervals and is behind those that were gathered
abbrev pub Stands : {K : Type 0} → (K → K → Ordering) → K → K → List ((K × ℕ) × ℕ) → List K → Option K → Type 0
Stands R from to es keys None = ⊤
Stands {K} R from to es keys (Some n) = (is_between R from to n ≡ true) × (0 < length (spans_of R es n)) × AllByRecursion (λ (k : K). R k n ≡ Less) keys

-- the keys that are on before the key to be looked at were gathered
pub record Walked {K : Type 0} (R : K → K → Ordering) (from to : K) (es : List ((K × ℕ) × ℕ)) (t : ℕ) (next : Option K) (keys : List K) : Type 0 where
  pub sorted : IsStrictlySortedBy R keys
  pub stands : Stands R from to es keys next
  pub each : (k : K) → list_any (eq_by_cmp R k) keys ≡ (is_between R from to k && (is_before R k next && covers (spans_of R es k) t))

-- how many intervals there are from the key to be looked at on
abbrev pub left : {K : Type 0} → (K → K → Ordering) → List ((K × ℕ) × ℕ) → Option K → ℕ
left R es None = 0
left {K} R es (Some n) = length (filter (λ (e : (K × ℕ) × ℕ). is_le (R n e.0.0)) es)

-- ---- tests

none_of : (a b c : Bool) → (a ≡ true → b ≡ true → c ≡ false) → false ≡ (a && (b && c))
none_of true true c h = sym (h refl refl)
none_of true false c h = refl
none_of false b c h = refl

less_of : (r : Ordering) → is_lt r ≡ true → r ≡ Less
less_of Less h = refl
less_of Equal h = cc
less_of Greater h = cc

upward : (r : Ordering) → is_le r ≡ true → is_gt r ≡ false
upward Less h = refl
upward Equal h = refl
upward Greater h = cc

off_of : (spans : List (ℕ × Option ℕ)) (t : ℕ) → spans ≡ [] → covers spans t ≡ false
off_of spans t e = rw e refl

module _ {K : Type 0} (R : K → K → Ordering) (o : IsTotalOrder R) where
  turned : (a b : K) → R a b ≡ Less → R b a ≡ Greater
  turned a b h = o.antisymm b a ∙ rw h refl

  turned_back : (a b : K) → R a b ≡ Greater → R b a ≡ Less
  turned_back a b h = o.antisymm b a ∙ rw h refl

  -- a key that lies between is no later than the last
  pub before_last : (from to n : K) → is_between R from to n ≡ true → is_gt (R n to) ≡ false
  before_last from to n h = upward (R n to) (and_parts (is_le (R from n)) (is_le (R n to)) h).1

  -- a key behind one that lies between lies between
  between_behind : (from to n m : K) → is_between R from to n ≡ true → is_behind R n to m ≡ true → is_between R from to m ≡ true
  between_behind from to n m h b =
      let p = and_parts (is_le (R from n)) (is_le (R n to)) h in
      let q = and_parts (is_lt (R n m)) (is_le (R m to)) b in
      let l : R n m ≡ Less = less_of (R n m) q.0 in
      let f : is_le (R from m) ≡ true = elim (answer (R from n)) [
        | less a ↦ let w : R from m ≡ Less = o.trans from n m a l in rw w refl
        | equal a ↦ let w : R from m ≡ Less = o.congr from n m a ∙ l in rw w refl
        | greater a ↦ let w : false ≡ true = rw a at p.0 in cc
      ] in
      rw (f, q.1) refl

  -- ---- it ends

  from_least : (n : K) (es : List ((K × ℕ) × ℕ)) → length (runs_of R n es) ≤ length (filter (λ (e : (K × ℕ) × ℕ). is_le (R n e.0.0)) es)
  from_least n [] = omega arith
  from_least n (x ∷ es) =
      let rest = from_least n es in
      elim (answer (R n x.0.0)) [
        | less a ↦ rw a (omega (arith, rest))
        | equal a ↦ rw a (omega (arith, rest))
        | greater a ↦ rw a rest
      ]

  from_later : (n m : K) (es : List ((K × ℕ) × ℕ)) → R n m ≡ Less
      → length (runs_of R n es) + length (filter (λ (e : (K × ℕ) × ℕ). is_le (R m e.0.0)) es) ≤ length (filter (λ (e : (K × ℕ) × ℕ). is_le (R n e.0.0)) es)
  from_later n m [] l = omega arith
  from_later n m (x ∷ es) l =
      let rest = from_later n m es l in
      elim (answer (R n x.0.0)) [
        | less a ↦ elim (cases_Bool (is_le (R m x.0.0))) [
          | inl y ↦ rw (a, y) (omega (arith, rest))
          | inr y ↦ rw (a, y) (omega (arith, rest))
        ]
        | equal a ↦
            let y : R m x.0.0 ≡ Greater = sym (alike_right o n x.0.0 m a) ∙ turned n m l in
            rw (a, y) (omega (arith, rest))
        | greater a ↦
            let y : R m x.0.0 ≡ Greater = turned x.0.0 m (o.trans x.0.0 n m (turned_back n x.0.0 a) l) in
            rw (a, y) rest
      ]

  count_spans : (n : K) (es : List ((K × ℕ) × ℕ)) → length (spans_of R es n) ≡ length (runs_of R n es)
  count_spans n es = simp length-map

  pub falls : (from to n : K) (es : List ((K × ℕ) × ℕ)) (keys : List K) (next : Option K) → Stands R from to es keys (Some n) → IfSome next (IsFirstKey R es (is_behind R n to)) → left R es next < left R es (Some n)
  falls from to n es keys None s f = omega (arith, s.1, count_spans n es, from_least n es)
  falls from to n es keys (Some m) s f =
      let q = and_parts (is_lt (R n m)) (is_le (R m to)) f.passes in
      omega (arith, s.1, count_spans n es, from_later n m es (less_of (R n m) q.0))

  -- ---- the first key

  pub begun : (from to : K) (es : List ((K × ℕ) × ℕ)) (t : ℕ) (next : Option K) → IfSome next (IsFirstKey R es (is_between R from to)) → IfNone next ((k : K) → is_between R from to k ≡ true → spans_of R es k ≡ []) → Walked R from to es t next []
  unfolding IsStrictlySortedBy
  begun from to es t None f g = record {
    sorted = tt;
    stands = tt;
    each = λ k. none_of (is_between R from to k) true (covers (spans_of R es k) t) (λ b _. off_of (spans_of R es k) t (g k b));
  }
  begun from to es t (Some n) f g = record {
    sorted = tt;
    stands = (f.passes, f.has, tt);
    each = λ k. none_of (is_between R from to k) (is_lt (R k n)) (covers (spans_of R es k) t) (λ b l. off_of (spans_of R es k) t (f.first k b (less_of (R k n) l)));
  }

  -- ---- one more

  module _ (from to n : K) (es : List ((K × ℕ) × ℕ)) (t : ℕ) (next : Option K) (b : is_between R from to n ≡ true) (f : IfSome next (IsFirstKey R es (is_behind R n to))) (g : IfNone next ((k : K) → is_behind R n to k ≡ true → spans_of R es k ≡ [])) where
    -- what is gathered up to a key and at it is what is gathered before the next
    all_gathered : (k : K)
        → ((is_between R from to k && (is_lt (R k n) && covers (spans_of R es k) t)) || (eq_by_cmp R k n && covers (spans_of R es n) t))
        ≡ (is_between R from to k && (is_before R k next && covers (spans_of R es k) t))
    all_gathered k = elim (answer (R k n)) [
      | less a ↦ rw (a, before next f a) (or_none (is_between R from to k) (covers (spans_of R es k) t))
      | equal a ↦
          let same : is_between R from to k ≡ true = rw (alike_right o k n from a, o.congr k n to a) b in
          let runs : spans_of R es k ≡ spans_of R es n = ap (λ x. map span_of x) (alike_runs R o k n es a) in
          tied (is_between R from to k) (is_lt (R k n)) (is_before R k next) (eq_by_cmp R k n) (covers (spans_of R es k) t) (covers (spans_of R es n) t) same (rw a refl) (tied_before next f a) (rw a refl) (rw runs refl)
      | greater a ↦ rw a (and_none (is_between R from to k) ∙ none_of (is_between R from to k) (is_before R k next) (covers (spans_of R es k) t) (λ p q. off_of (spans_of R es k) t (later next f g a p q)))
    ]
      where
        or_none : (x y : Bool) → ((x && y) || false) ≡ (x && y)
        or_none true true = refl
        or_none true false = refl
        or_none false y = refl

        and_none : (x : Bool) → ((x && false) || false) ≡ false
        and_none true = refl
        and_none false = refl

        tied : (x u v w y z : Bool) → x ≡ true → u ≡ false → v ≡ true → w ≡ true → y ≡ z → ((x && (u && y)) || (w && z)) ≡ (x && (v && y))
        tied x u v w y z p q r s e = rw (p, q, r, s, e) refl

        before : (next : Option K) → IfSome next (IsFirstKey R es (is_behind R n to)) → R k n ≡ Less → is_before R k next ≡ true
        before None f a = refl
        before (Some m) f a =
            let q = and_parts (is_lt (R n m)) (is_le (R m to)) f.passes in
            let w : R k m ≡ Less = o.trans k n m a (less_of (R n m) q.0) in
            rw w refl

        tied_before : (next : Option K) → IfSome next (IsFirstKey R es (is_behind R n to)) → R k n ≡ Equal → is_before R k next ≡ true
        tied_before None f a = refl
        tied_before (Some m) f a =
            let q = and_parts (is_lt (R n m)) (is_le (R m to)) f.passes in
            let w : R k m ≡ Less = o.congr k n m a ∙ less_of (R n m) q.0 in
            rw w refl

        later : (next : Option K) → IfSome next (IsFirstKey R es (is_behind R n to)) → IfNone next ((k : K) → is_behind R n to k ≡ true → spans_of R es k ≡ []) → R k n ≡ Greater
            → is_between R from to k ≡ true → is_before R k next ≡ true → spans_of R es k ≡ []
        later next f g a p q = of_next next f g q
          where
            is_there : is_behind R n to k ≡ true
            is_there =
                let w : R n k ≡ Less = turned_back k n a in
                let z = and_parts (is_le (R from k)) (is_le (R k to)) p in
                rw (w, z.1) refl

            of_next : (next : Option K) → IfSome next (IsFirstKey R es (is_behind R n to)) → IfNone next ((k : K) → is_behind R n to k ≡ true → spans_of R es k ≡ []) → is_before R k next ≡ true → spans_of R es k ≡ []
            of_next None f g q = g k is_there
            of_next (Some m) f g q = f.first k is_there (less_of (R k m) q)

  all_before : (n m : K) (keys : List K) → R n m ≡ Less → AllByRecursion (λ (k : K). R k n ≡ Less) keys → AllByRecursion (λ (k : K). R k m ≡ Less) keys
  all_before n m [] l a = tt
  all_before n m (x ∷ keys) l a = (o.trans x n m a.0 l, all_before n m keys l a.1)

  all_then : (x n : K) (keys : List K) → AllByRecursion (λ q. R x q ≡ Less) keys → R x n ≡ Less → AllByRecursion (λ q. R x q ≡ Less) (keys ++ n ∷ [])
  all_then x n [] a l = (l, tt)
  all_then x n (y ∷ keys) a l = (a.0, all_then x n keys a.1 l)

  before_then : (n m : K) (keys : List K) → AllByRecursion (λ (k : K). R k m ≡ Less) keys → R n m ≡ Less → AllByRecursion (λ (k : K). R k m ≡ Less) (keys ++ n ∷ [])
  before_then n m [] a l = (l, tt)
  before_then n m (y ∷ keys) a l = (a.0, before_then n m keys a.1 l)

  sorted_then : (n : K) (keys : List K) → IsStrictlySortedBy R keys → AllByRecursion (λ (k : K). R k n ≡ Less) keys → IsStrictlySortedBy R (keys ++ n ∷ [])
  unfolding IsStrictlySortedBy
  sorted_then n [] s a = (tt, tt)
  sorted_then n (x ∷ keys) s a = (all_then x n keys s.0 a.0, sorted_then n keys s.1 a.1)

  module _ (from to n : K) (es : List ((K × ℕ) × ℕ)) (t : ℕ) (keys : List K) (w : Walked R from to es t (Some n) keys) where
    stands_on : (next : Option K) → IfSome next (IsFirstKey R es (is_behind R n to)) → Stands R from to es (keys ++ n ∷ []) next
    stands_on None f = tt
    stands_on (Some m) f =
        let q = and_parts (is_lt (R n m)) (is_le (R m to)) f.passes in
        let l : R n m ≡ Less = less_of (R n m) q.0 in
        (between_behind from to n m w.stands.0 f.passes, f.has, before_then n m keys (all_before n m keys l w.stands.2) l)

    stands_off : (next : Option K) → IfSome next (IsFirstKey R es (is_behind R n to)) → Stands R from to es keys next
    stands_off None f = tt
    stands_off (Some m) f =
        let q = and_parts (is_lt (R n m)) (is_le (R m to)) f.passes in
        let l : R n m ≡ Less = less_of (R n m) q.0 in
        (between_behind from to n m w.stands.0 f.passes, f.has, all_before n m keys l w.stands.2)

    module _ (next : Option K) (f : IfSome next (IsFirstKey R es (is_behind R n to))) (g : IfNone next ((k : K) → is_behind R n to k ≡ true → spans_of R es k ≡ [])) where
      pub on_more : covers (spans_of R es n) t ≡ true → Walked R from to es t next (keys ++ n ∷ [])
      on_more c = record {
        sorted = sorted_then n keys w.sorted w.stands.2;
        stands = stands_on next f;
        each = λ k. list_any-append (eq_by_cmp R k) keys (n ∷ []) ∙ (joined _ _ (eq_by_cmp R k n) _ (w.each k) c ∙ all_gathered from to n es t next w.stands.0 f g k);
      }
        where
          joined : (any before tied on : Bool) → any ≡ before → on ≡ true → (any || (tied || false)) ≡ (before || (tied && on))
          joined any before true on e c = rw (e, c) refl
          joined any before false on e c = rw e refl

      pub off_more : covers (spans_of R es n) t ≡ false → Walked R from to es t next keys
      off_more c = record {
        sorted = w.sorted;
        stands = stands_off next f;
        each = λ k. same _ _ (eq_by_cmp R k n) _ (w.each k) c ∙ all_gathered from to n es t next w.stands.0 f g k;
      }
        where
          same : (any before tied on : Bool) → any ≡ before → on ≡ false → any ≡ (before || (tied && on))
          same any true tied on e c = e
          same any false true on e c = e ∙ sym c
          same any false false on e c = e
