-- What statements say.
use Rattle.std.proofs.Common.{◌≡◌, ◌<◌, ◌≤◌, ◌+◌, ℕ, suc, ◌==◌, List, [], ◌∷◌, ◌++◌, true, false, arith, refl, inl, inr, sym, ◌∙◌, ap, length, take, drop, get_or, filter}
use Rattle.std.specs.Prelude.{if◌then◌else◌, None, Some}
use Rattle.std.specs.List.{All, find}
use Rattle.std.proofs.lemmas.Bool.{cases_Bool, eqb-true, eqb-false, ne_eqb, eq-eqb, or_left, or_right}
use Rattle.std.proofs.lemmas.List.{append_assoc, append-nil, length-append, take-append-le, at_drop_more, take_all, take_more, map_push}
use Rattle.std.proofs.lemmas.List.Elements.{All-push, All-weaker, All-nil, All-cons, All-head, All-tail}
use Rattle.std.proofs.lemmas.List.Folds.{list_any-append, list_any_at}
use Rattle.reg_terms.specs.declared.rows.MemberRow.{MemberRow}
use Rattle.reg_terms.specs.declared.rows.CompositeRow.{CompositeRow}
use Rattle.reg_terms.specs.Rows.{is_composite}
use Rattle.reg_graph.specs.Edges.{among}
use Rattle.reg_effect.specs.declared.live.Live.{Live}
use Rattle.reg_reasons.specs.declared.statement.Statement.{Statement}
use Rattle.reg_reasons.specs.Ways.{shorter, ways}
use Rattle.reg_reasons.specs.Reasons.{is_end, leads, reasons}
use Rattle.reg_reasons.specs.Counts.{AreAll}
use Rattle.reg_reasons.specs.Stated.{AreClosed, AreLed, AreOnce, IsExplained, IsRight, listed_by, named_by, stated, with_new}
use Rattle.reg_reasons.proofs.Numbers.{all_shorter}

pub found_group : (g : ℕ) (cs : List CompositeRow) (c : CompositeRow) → find (λ (c : CompositeRow). c.group == g) cs ≡ Some c → c.group ≡ g
found_group g [] c e = cc
found_group g (d ∷ ds) c e = elim (cases_Bool (d.group == g)) [
  | inl t ↦ let same : d ≡ c = some d c (rw t at e) in ap (λ (c : CompositeRow). c.group) (sym same) ∙ eqb-true d.group g t
  | inr f ↦ found_group g ds c (rw f at e)
]
  where
    some : (x y : CompositeRow) → Some x ≡ Some y → x ≡ y
    some x y e = cc

pub not_found : (g : ℕ) (cs : List CompositeRow) → find (λ (c : CompositeRow). c.group == g) cs ≡ None → is_composite g cs ≡ false
not_found g [] e = refl
not_found g (d ∷ ds) e = elim (cases_Bool (d.group == g)) [
  | inl t ↦ let w : Some d ≡ None = rw t at e in cc
  | inr f ↦ rw f (not_found g ds (rw f at e))
]

pub are_reasons : (L : Live) (all rows : List MemberRow) (s g : ℕ) (levels : List (List (ℕ × ℕ))) → rows ≡ filter (leads L s) all → AreAll rows (is_end L s) s levels
    → shorter (length levels) (λ n. ways n rows (is_end L s) s g) ≡ reasons L all s g
unfolding reasons
are_reasons L all rows s g levels e a =
    all_shorter rows (is_end L s) s g levels a
    ∙ ap (λ (rs : List MemberRow). shorter (suc (length rs)) (λ n. ways n rs (is_end L s) s g)) e

-- ---- the list of groups
pub among_last : (x : ℕ) (groups : List ℕ) → among x (groups ++ x ∷ []) ≡ true
among_last x groups = list_any-append (λ y. y == x) groups (x ∷ []) ∙ or_right (among x groups) _ (or_left _ _ (eq-eqb x x refl))

pub among_more : (x : ℕ) (groups more : List ℕ) → among x groups ≡ true → among x (groups ++ more) ≡ true
among_more x groups more h = list_any-append (λ y. y == x) groups more ∙ or_left _ _ h

pub among_behind : (x : ℕ) (groups more : List ℕ) → among x more ≡ true → among x (groups ++ more) ≡ true
among_behind x groups more h = list_any-append (λ y. y == x) groups more ∙ or_right (among x groups) _ h

-- what is added stands behind the groups
pub behind : (groups xs : List ℕ) → (more : List ℕ) × (with_new groups xs ≡ groups ++ more)
behind groups [] = ([], sym (append-nil groups))
behind groups (x ∷ xs) = elim (cases_Bool (among x groups)) [
  | inl t ↦ rw t (behind groups xs)
  | inr f ↦ rw f (let b = behind (groups ++ x ∷ []) xs in (x ∷ b.0, b.1 ∙ append_assoc groups (x ∷ []) b.0))
]

pub still : (groups xs : List ℕ) (x : ℕ) → among x groups ≡ true → among x (with_new groups xs) ≡ true
still groups xs x h = let b = behind groups xs in rw b.1 (among_more x groups b.0 h)

-- one more of the listed groups
module _ (groups named whole : List ℕ) (i x : ℕ) (l : i < length named) (is : x ≡ get_or named i x) (so_far : with_new groups (drop i named) ≡ whole) where
  next_new : with_new (if among x groups then groups else groups ++ x ∷ []) (drop (i + 1) named) ≡ whole
  next_new =
      let e : with_new groups (drop i named) ≡ with_new groups (get_or named i x ∷ drop (i + 1) named) = at_drop_more (with_new groups) named i x l in
      ap (λ y. with_new groups (y ∷ drop (i + 1) named)) is ∙ (sym e ∙ so_far)

  pub put_new : (now : List ℕ) → among x groups ≡ false → now ≡ groups ++ x ∷ [] → with_new now (drop (i + 1) named) ≡ whole
  put_new now f e = rw e (rw f at next_new)

  pub put_known : among x groups ≡ true → with_new groups (drop (i + 1) named) ≡ whole
  put_known t = rw t at next_new

pub found_row : (g : ℕ) (cs : List CompositeRow) (c : CompositeRow) → find (λ (c : CompositeRow). c.group == g) cs ≡ Some c
    → find (λ (c : CompositeRow). c.group == g) cs ≡ Some (record { group = g; op = c.op; left = c.left; right = c.right })
found_row g cs c e = e ∙ ap (λ x. Some (record { group = x; op = c.op; left = c.left; right = c.right })) (found_group g cs c e)

pub all_added : (groups xs : List ℕ) → All (λ x. among x (with_new groups xs) ≡ true) xs
all_added groups [] = All-nil (λ x. among x groups ≡ true)
all_added groups (x ∷ xs) = elim (cases_Bool (among x groups)) [
  | inl t ↦ rw t (All-cons (λ y. among y (with_new groups xs) ≡ true) x xs (still groups xs x t) (all_added groups xs))
  | inr f ↦ rw f (All-cons (λ y. among y (with_new (groups ++ x ∷ []) xs) ≡ true) x xs (still (groups ++ x ∷ []) xs x (among_last x groups)) (all_added (groups ++ x ∷ []) xs))
]

pub once_more : (groups : List ℕ) (x : ℕ) → AreOnce groups → among x groups ≡ false → AreOnce (groups ++ x ∷ [])
once_more [] x o f = (refl, tt)
once_more (g ∷ gs) x o f = elim (cases_Bool (g == x)) [
  | inl t ↦ let w : true ≡ false = rw t at f in cc
  | inr n ↦
      let rest : among x gs ≡ false = rw n at f in
      let turned : (x == g) ≡ false = ne_eqb x g (λ e. eqb-false g x n (sym e)) in
      (list_any-append (λ y. y == g) gs (x ∷ []) ∙ rw (o.0, turned) refl, once_more gs x o.1 rest)
]

pub still_once : (groups xs : List ℕ) → AreOnce groups → AreOnce (with_new groups xs)
still_once groups [] o = o
still_once groups (x ∷ xs) o = elim (cases_Bool (among x groups)) [
  | inl t ↦ rw t (still_once groups xs o)
  | inr f ↦ rw f (still_once (groups ++ x ∷ []) xs (once_more groups x o f))
]

-- each of the groups stands among named ones, and so do those that are added
pub all_named : (named groups xs : List ℕ) → All (λ x. among x named ≡ true) groups → All (λ x. among x named ≡ true) xs → All (λ x. among x named ≡ true) (with_new groups xs)
all_named named groups [] h k = h
all_named named groups (x ∷ xs) h k =
    let P : ℕ → Type 0 = λ x. among x named ≡ true in
    elim (cases_Bool (among x groups)) [
      | inl t ↦ rw t (all_named named groups xs h (All-tail P x xs k))
      | inr f ↦ rw f (all_named named (groups ++ x ∷ []) xs (All-push P groups x h (All-head P x xs k)) (All-tail P x xs k))
    ]

pub all_among : (xs : List ℕ) → All (λ x. among x xs ≡ true) xs
all_among xs k d l = list_any_at (λ y. y == get_or xs k d) xs k d l (eq-eqb (get_or xs k d) (get_or xs k d) refl)

-- ---- one statement after another
-- the groups that are named, and those that statements name
abbrev pub named_all : List ℕ → List Statement → List ℕ
named_all named [] = named
named_all named (st ∷ sts) = named_all (named ++ named_by st.grounds) sts

pub named_more : (named : List ℕ) (sts : List Statement) (st : Statement) → named_all named (sts ++ st ∷ []) ≡ named_all named sts ++ named_by st.grounds
named_more named [] st = refl
named_more named (t ∷ ts) st = named_more (named ++ named_by t.grounds) ts st

pub led_more : (named : List ℕ) (sts : List Statement) (st : Statement) → AreLed named sts → among st.group (named_all named sts) ≡ true → AreLed named (sts ++ st ∷ [])
led_more named [] st l h = (h, tt)
led_more named (t ∷ ts) st l h = (l.0, led_more (named ++ named_by t.grounds) ts st l.1 h)

listed_more : (groups : List ℕ) (sts : List Statement) (st : Statement) → listed_by groups (sts ++ st ∷ []) ≡ with_new (listed_by groups sts) (named_by st.grounds)
listed_more groups [] st = refl
listed_more groups (t ∷ ts) st = listed_more (with_new groups (named_by t.grounds)) ts st

-- some groups have statements, and those are named
pub record Explains (L : Live) (rows : List MemberRow) (s most g : ℕ) (groups : List ℕ) (i : ℕ) (sts : List Statement) : Type 0 where
  pub stated : stated sts ≡ take i groups
  pub within : i ≤ length groups
  pub first : take 1 groups ≡ g ∷ []
  pub right : All (IsRight L rows s most) sts
  pub once : AreOnce groups
  pub closed : AreClosed groups sts
  pub led : AreLed (g ∷ []) sts
  pub named : All (λ x. among x (named_all (g ∷ []) sts) ≡ true) groups
  pub listed : groups ≡ listed_by (g ∷ []) sts

pub explains_first : (L : Live) (rows : List MemberRow) (s most g : ℕ) → Explains L rows s most g (g ∷ []) 0 []
explains_first L rows s most g = record {
  stated = refl;
  within = omega arith;
  first = refl;
  right = All-nil (IsRight L rows s most);
  once = (refl, tt);
  closed = All-nil (λ (st : Statement). All (λ h. among h (g ∷ []) ≡ true) (named_by st.grounds));
  led = tt;
  named = all_among (g ∷ []);
  listed = refl;
}

pub explains_more : (L : Live) (rows : List MemberRow) (s most g : ℕ) (groups : List ℕ) (i : ℕ) (sts : List Statement) (st : Statement) → Explains L rows s most g groups i sts
    → i < length groups → st.group ≡ get_or groups i st.group → IsRight L rows s most st
    → Explains L rows s most g (with_new groups (named_by st.grounds)) (i + 1) (sts ++ st ∷ [])
explains_more L rows s most g groups i sts st e l is right = record {
  stated =
      map_push (λ (st : Statement). st.group) sts st
      ∙ (ap (λ gs. gs ++ st.group ∷ []) e.stated
      ∙ (ap (λ x. take i groups ++ x ∷ []) is
      ∙ (sym (take_more groups i st.group l) ∙ sym front)));
  within = rw b.1 (omega (arith, l, length-append groups b.0));
  first = rw b.1 (take-append-le 1 groups b.0 (omega (arith, l)) ∙ e.first);
  right = All-push (IsRight L rows s most) sts st e.right right;
  once = still_once groups new e.once;
  closed = All-push (λ (st : Statement). All (λ h. among h after ≡ true) (named_by st.grounds)) sts st
      (All-weaker (λ (st : Statement). All (λ h. among h groups ≡ true) (named_by st.grounds)) (λ (st : Statement). All (λ h. among h after ≡ true) (named_by st.grounds))
      (λ t w. All-weaker (λ h. among h groups ≡ true) (λ h. among h after ≡ true) (λ h a. still groups new h a) (named_by t.grounds) w) sts e.closed)
      (all_added groups new);
  led = led_more (g ∷ []) sts st e.led here;
  named = rw (named_more (g ∷ []) sts st) (all_named (names ++ new) groups new
      (All-weaker (λ x. among x names ≡ true) (λ x. among x (names ++ new) ≡ true) (λ x a. among_more x names new a) groups e.named)
      (All-weaker (λ x. among x new ≡ true) (λ x. among x (names ++ new) ≡ true) (λ x a. among_behind x names new a) new (all_among new)));
  listed = ap (λ (gs : List ℕ). with_new gs new) e.listed ∙ sym (listed_more (g ∷ []) sts st);
}
  where
    new : List ℕ
    new = named_by st.grounds

    names : List ℕ
    names = named_all (g ∷ []) sts

    after : List ℕ
    after = with_new groups new

    b : (more : List ℕ) × (after ≡ groups ++ more)
    b = behind groups new

    front : take (i + 1) after ≡ take (i + 1) groups
    front = rw b.1 (take-append-le (i + 1) groups b.0 (omega (arith, l)))

    here : among st.group names ≡ true
    here = rw is (e.named i st.group l)

pub explains_all : (L : Live) (rows : List MemberRow) (s most g : ℕ) (groups : List ℕ) (i : ℕ) (sts : List Statement) → Explains L rows s most g groups i sts → length groups ≤ i → IsExplained L rows s most g sts
explains_all L rows s most g groups i sts e l =
    let same : stated sts ≡ groups = e.stated ∙ take_all i groups l in
    record {
      first = rw same e.first;
      right = e.right;
      once = rw same e.once;
      closed = rw same e.closed;
      led = e.led;
      order = same ∙ e.listed;
    }
