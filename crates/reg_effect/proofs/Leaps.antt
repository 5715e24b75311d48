-- Two sequences of ids that are passed in turn, each from where the other stands.
use Rattle.std.proofs.Common.{◌≡◌, ◌<◌, ◌≤◌, ◌+◌, ◌==◌, ◌&&◌, ◌||◌, ℕ, List, [], ◌∷◌, Bool, true, false, cond, filter, length, arith, refl, sym, ◌∙◌, ap, inl, inr}
use Rattle.std.specs.Prelude.{nat_le}
use Rattle.std.proofs.lemmas.Bool.{cases_Bool, cases_lt, eqb-true, eq-eqb, le-leb, leb-true, both_ways, false_from_ne_true, or_cases, or_left, or_right, or_from}
use Rattle.std.specs.List.{list_any}
use Rattle.reg_terms.specs.declared.kinds.Member.{Member}
use Rattle.reg_terms.specs.declared.kinds.Member.TheVariants.{Person, Group}
use Rattle.reg_graph.specs.Edges.{among}
use Rattle.reg_effect.specs.Order.{has_live_row, nested}

-- ---- how many ids are left
abbrev pub left : ℕ → List ℕ → ℕ
left from hs = length (filter (nat_le from) hs)

pub left_all : (from : ℕ) (hs : List ℕ) → left from hs ≤ length hs
left_all from [] = omega arith
left_all from (h ∷ hs) =
    let r = left_all from hs in
    elim (cases_Bool (nat_le from h)) [ inl t ↦ rw t (omega (arith, r)) | inr f ↦ rw f (omega (arith, r)) ]

left_fewer : (from k : ℕ) (hs : List ℕ) → from ≤ k → left k hs ≤ left from hs
left_fewer from k [] l = omega arith
left_fewer from k (h ∷ hs) l =
    let r = left_fewer from k hs l in
    elim (cases_Bool (nat_le k h)) [
      | inl t ↦ rw (t, le-leb from h (omega (arith, l, leb-true k h t))) (omega (arith, r))
      | inr f ↦ rw f (elim (cases_Bool (nat_le from h)) [ inl u ↦ rw u (omega (arith, r)) | inr v ↦ rw v r ])
    ]

-- behind an id of the list fewer are left
pub left_less : (from h k : ℕ) (hs : List ℕ) → from ≤ h → h < k → among h hs ≡ true → left k hs + 1 ≤ left from hs
left_less from h k [] l m a = cc
left_less from h k (x ∷ xs) l m a = elim (or_cases (x == h) (among h xs) a) [
  | inl here ↦
      let e : x ≡ h = eqb-true x h here in
      let behind : nat_le k x ≡ false = false_from_ne_true (nat_le k x) (λ t. absurd (omega (arith, m, e, leb-true k x t))) in
      rw (behind, le-leb from x (omega (arith, l, e))) (omega (arith, left_fewer from k xs (omega (arith, l, m))))
  | inr later ↦
      let r = left_less from h k xs l m later in
      elim (cases_Bool (nat_le k x)) [
        | inl t ↦ rw (t, le-leb from x (omega (arith, l, m, leb-true k x t))) (omega (arith, r))
        | inr f ↦ rw f (elim (cases_Bool (nat_le from x)) [ inl u ↦ rw u (omega (arith, r)) | inr v ↦ rw v r ])
      ]
]

-- ---- what is known of the ids so far
abbrev pub NoneBelow : (ℕ → Bool) → (ℕ → Bool) → ℕ → Type 0
NoneBelow N M from = (x : ℕ) → x < from → N x ≡ true → M x ≡ false

module _ (N M : ℕ → Bool) (from : ℕ) (inv : NoneBelow N M from) where
  pub none_named : ((x : ℕ) → from ≤ x → N x ≡ false) → (x : ℕ) → N x ≡ true → M x ≡ false
  none_named none x t = elim (cases_lt x from) [
    | inl before ↦ inv x before t
    | inr behind ↦ absurd (both_ways (N x) (none x behind) t)
  ]

  module _ (h : ℕ) (first : (x : ℕ) → from ≤ x → x < h → N x ≡ false) where
    none_before : NoneBelow N M h
    none_before x l t = elim (cases_lt x from) [
      | inl before ↦ inv x before t
      | inr behind ↦ absurd (both_ways (N x) (first x behind l) t)
    ]

    pub none_having : ((x : ℕ) → h ≤ x → M x ≡ false) → (x : ℕ) → N x ≡ true → M x ≡ false
    none_having none x t = elim (cases_lt x h) [ inl before ↦ none_before x before t | inr behind ↦ none x behind ]

    pub none_between : (k : ℕ) → ((x : ℕ) → h ≤ x → x < k → M x ≡ false) → NoneBelow N M k
    none_between k none x l t = elim (cases_lt x h) [ inl before ↦ none_before x before t | inr behind ↦ none x behind l ]

-- ---- the groups that a group's rows name
pub nested_has : (g h : ℕ) (rows : List (ℕ × Member)) → among h (nested g rows) ≡ has_live_row g (Group h) rows
nested_has g h [] = refl
nested_has g h ((x, Person p) ∷ rows) = nested_has g h rows ∙ none (x == g) (has_live_row g (Group h) rows)
  where
    none : (a b : Bool) → b ≡ ((a && false) || b)
    none true b = refl
    none false b = refl
nested_has g h ((x, Group k) ∷ rows) = elim (x == g) as (λ b. among h (cond b (k ∷ nested g rows) (nested g rows)) ≡ ((b && (k == h)) || has_live_row g (Group h) rows))
    [ true ↦ ap (λ b. (k == h) || b) (nested_has g h rows) | false ↦ nested_has g h rows ]

any_none : (M : ℕ → Bool) (hs : List ℕ) → ((x : ℕ) → among x hs ≡ true → M x ≡ false) → list_any M hs ≡ false
any_none M [] n = refl
any_none M (h ∷ hs) n = or_from (M h) (list_any M hs) (n h (or_left (h == h) (among h hs) (eq-eqb h h refl))) (any_none M hs (λ x a. n x (or_right (h == x) (among x hs) a)))

any_at : (M : ℕ → Bool) (h : ℕ) (hs : List ℕ) → among h hs ≡ true → M h ≡ true → list_any M hs ≡ true
any_at M h [] a t = cc
any_at M h (x ∷ xs) a t = elim (or_cases (x == h) (among h xs) a) [
  | inl here ↦ or_left (M x) (list_any M xs) (rw (eqb-true x h here) t)
  | inr later ↦ or_right (M x) (list_any M xs) (any_at M h xs later t)
]

-- the answer by the rows
pub none_nested : (M : ℕ → Bool) (g : ℕ) (rows : List (ℕ × Member)) → ((x : ℕ) → has_live_row g (Group x) rows ≡ true → M x ≡ false) → list_any M (nested g rows) ≡ false
none_nested M g rows n = any_none M (nested g rows) (λ x a. n x (sym (nested_has g x rows) ∙ a))

pub some_nested : (M : ℕ → Bool) (g h : ℕ) (rows : List (ℕ × Member)) → has_live_row g (Group h) rows ≡ true → M h ≡ true → list_any M (nested g rows) ≡ true
some_nested M g h rows a t = any_at M h (nested g rows) (nested_has g h rows ∙ a) t

-- ---- one turn
pub behind : (h k : ℕ) → h ≤ k → (k == h) ≡ false → h < k
behind h k l f = elim (cases_lt h k) [ inl m ↦ m | inr m ↦ absurd (both_ways (k == h) f (eq-eqb k h (omega (arith, l, m)))) ]

pub fewer_left : (g from h k : ℕ) (rows : List (ℕ × Member)) → from ≤ h → h < k → has_live_row g (Group h) rows ≡ true → left k (nested g rows) < left from (nested g rows)
fewer_left g from h k rows l m t = let r = left_less from h k (nested g rows) l m (nested_has g h rows ∙ t) in omega (arith, r)

pub cost_on : (g from h k before after most : ℕ) (rows : List (ℕ × Member)) → from ≤ h → h < k → has_live_row g (Group h) rows ≡ true → before + left from (nested g rows) ≤ most → after ≡ before + 1 → after + left k (nested g rows) ≤ most
cost_on g from h k before after most rows l m t c e = let r = fewer_left g from h k rows l m t in omega (arith, r, c, e)

pub cost_here : (g from h before after most : ℕ) (rows : List (ℕ × Member)) → from ≤ h → has_live_row g (Group h) rows ≡ true → before + left from (nested g rows) ≤ most → after ≡ before + 1 → after ≤ most
cost_here g from h before after most rows l t c e = let r = cost_on g from h (h + 1) before after most rows l (omega arith) t c e in omega (arith, r)
