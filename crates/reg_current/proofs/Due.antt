-- The least date of rows and grants after one moment and up to another: what it tells of each of them, and from and up to which other moments it is the same.
use Rattle.std.proofs.Common.{◌≡◌, ◌<◌, ◌≤◌, ◌⊎◌, ◌==◌, ◌&&◌, ◌||◌, ℕ, suc, List, [], ◌∷◌, Bool, true, false, Option, Some, None, IfSome, min, nat_lt, nat_le, arith, refl, ◌∙◌, ap, inl, inr, eq-eqb, ne_eqb}
use Rattle.std.proofs.lemmas.Bool.{cases_Bool, cases_lt, or_parts, or_from, or_left, or_right, and_parts, and_from, both_ways, ltb-true, leb-true, lt-ltb, le-leb}
use Rattle.std.specs.List.{list_any, AllByRecursion}
use Rattle.reg_terms.specs.declared.rows.GrantRow.{GrantRow}
use Rattle.reg_terms.specs.declared.rows.MemberRow.{MemberRow}
use Rattle.reg_facts.specs.Lists.{Lists}
use Rattle.reg_current.specs.Dates.{begins_at, ends_at, earlier, earliest, with_date, with_end, due_row, due_grant, due, is_dated, is_grant_dated, has_date, IsFree, IsLeast}

-- what is found of dates: none, or the least
abbrev pub Finds : ℕ → ℕ → (ℕ → Bool) → Option ℕ → Type 0
Finds a b has None = IsFree a b has
Finds a b has (Some d) = IsLeast a b has d

-- a date more
abbrev pub with_one : ℕ → (ℕ → Bool) → ℕ → Bool
with_one d has e = (d == e) || has e

-- a date that lies between the moments
inside : (a b d : ℕ) (has : ℕ → Bool) (found : Option ℕ) → a < d → d ≤ b → Finds a b has found → Finds a b (with_one d has) (earlier d found)
inside a b d has None l w h = record {
  later = l;
  within = w;
  dated = or_left (d == d) (has d) (eq-eqb d d refl);
  none_before = λ e p q. or_from (d == e) (has e) (ne_eqb d e (λ (s : d ≡ e). omega arith)) (h e p (omega arith));
}
inside a b d has (Some c) l w h = elim (cases_lt c d) [
  | inl s ↦
      let e : min d c ≡ c = omega arith in
      rw e (record {
        later = h.later;
        within = h.within;
        dated = or_right (d == c) (has c) h.dated;
        none_before = λ x p q. or_from (d == x) (has x) (ne_eqb d x (λ (t : d ≡ x). omega arith)) (h.none_before x p q);
      })
  | inr s ↦
      let e : min d c ≡ d = omega arith in
      rw e (record {
        later = l;
        within = w;
        dated = or_left (d == d) (has d) (eq-eqb d d refl);
        none_before = λ x p q. or_from (d == x) (has x) (ne_eqb d x (λ (t : d ≡ x). omega arith)) (h.none_before x p (omega arith));
      })
]

-- a date that lies elsewhere
outside : (a b d : ℕ) (has : ℕ → Bool) (found : Option ℕ) → ((a < d) → (d ≤ b) → ⊥) → Finds a b has found → Finds a b (with_one d has) found
outside a b d has None o h = λ e p q. or_from (d == e) (has e) (ne_eqb d e (λ (t : d ≡ e). o (omega arith) (omega arith))) (h e p q)
outside a b d has (Some c) o h = record {
  later = h.later;
  within = h.within;
  dated = or_right (d == c) (has c) h.dated;
  none_before = λ e p q. or_from (d == e) (has e) (ne_eqb d e (λ (t : d ≡ e). let w = h.within in o (omega arith) (omega arith))) (h.none_before e p q);
}

one_more : (a b d : ℕ) (has : ℕ → Bool) (found : Option ℕ) → Finds a b has found → Finds a b (with_one d has) (with_date a b d found)
one_more a b d has found h = elim (cases_Bool (nat_lt a d && nat_le d b)) [
  | inl y ↦ let p = and_parts (nat_lt a d) (nat_le d b) y in rw y (inside a b d has found (ltb-true a d p.0) (leb-true d b p.1) h)
  | inr n ↦ rw n (outside a b d has found (λ p q. both_ways (nat_lt a d && nat_le d b) n (and_from (nat_lt a d) (nat_le d b) (lt-ltb a d p) (le-leb d b q))) h)
]

-- what is found goes by the dates alone
finds_same : (a b : ℕ) (has other : ℕ → Bool) (found : Option ℕ) → ((d : ℕ) → other d ≡ has d) → Finds a b has found → Finds a b other found
finds_same a b has other None s h = λ d p q. s d ∙ h d p q
finds_same a b has other (Some c) s h = record { later = h.later; within = h.within; dated = s c ∙ h.dated; none_before = λ e p q. s e ∙ h.none_before e p q }

-- a beginning or an end more, if there is one
abbrev dated_by : Option ℕ → ℕ → Bool
dated_by o d = elim o [ None ↦ false | Some u ↦ u == d ]

end_more : (a b : ℕ) (o : Option ℕ) (has : ℕ → Bool) (found : Option ℕ) → Finds a b has found → Finds a b (λ d. dated_by o d || has d) (with_end a b o found)
end_more a b None has found h = finds_same a b has _ found (λ d. refl) h
end_more a b (Some u) has found h = one_more a b u has found h

over : (x y z : Bool) → ((x || y) || z) ≡ (x || (y || z))
over true y z = refl
over false y z = refl

-- the dates of a row more
row_more : (a b : ℕ) (row : MemberRow) (has : ℕ → Bool) (found : Option ℕ) → Finds a b has found → Finds a b (λ d. is_dated d row || has d) (with_date a b row.from (with_end a b row.until found))
row_more a b row has found h =
    finds_same a b (with_one row.from (λ d. dated_by row.until d || has d)) (λ d. is_dated d row || has d) (with_date a b row.from (with_end a b row.until found)) (λ d. over (row.from == d) (dated_by row.until d) (has d))
    (one_more a b row.from (λ d. dated_by row.until d || has d) (with_end a b row.until found) (end_more a b row.until has found h))

-- and of a grant
grant_more : (a b : ℕ) (row : GrantRow) (has : ℕ → Bool) (found : Option ℕ) → Finds a b has found → Finds a b (λ d. is_grant_dated d row || has d) (with_end a b row.from (with_end a b row.until found))
grant_more a b row has found h =
    finds_same a b (λ d. dated_by row.from d || (dated_by row.until d || has d)) (λ d. is_grant_dated d row || has d) (with_end a b row.from (with_end a b row.until found)) (λ d. over (dated_by row.from d) (dated_by row.until d) (has d))
    (end_more a b row.from (λ d. dated_by row.until d || has d) (with_end a b row.until found) (end_more a b row.until has found h))

-- of what is found of two kinds of dates the earlier is found of both
both_found : (a b : ℕ) (has other : ℕ → Bool) (x y : Option ℕ) → Finds a b has x → Finds a b other y → Finds a b (λ d. has d || other d) (earliest x y)
both_found a b has other None None h k = λ d p q. or_from (has d) (other d) (h d p q) (k d p q)
both_found a b has other None (Some e) h k = record {
  later = k.later;
  within = k.within;
  dated = or_right (has e) (other e) k.dated;
  none_before = λ x p q. or_from (has x) (other x) (h x p (let w = k.within in omega arith)) (k.none_before x p q);
}
both_found a b has other (Some c) None h k = record {
  later = h.later;
  within = h.within;
  dated = or_left (has c) (other c) h.dated;
  none_before = λ x p q. or_from (has x) (other x) (h.none_before x p q) (k x p (let w = h.within in omega arith));
}
both_found a b has other (Some c) (Some e) h k = elim (cases_lt e c) [
  | inl s ↦
      let m : min c e ≡ e = omega arith in
      rw m (record {
        later = k.later;
        within = k.within;
        dated = or_right (has e) (other e) k.dated;
        none_before = λ x p q. or_from (has x) (other x) (h.none_before x p (omega arith)) (k.none_before x p q);
      })
  | inr s ↦
      let m : min c e ≡ c = omega arith in
      rw m (record {
        later = h.later;
        within = h.within;
        dated = or_left (has c) (other c) h.dated;
        none_before = λ x p q. or_from (has x) (other x) (h.none_before x p q) (k.none_before x p (omega arith));
      })
]

-- what is due of rows is none, or their least date
pub due_row_finds : (a b : ℕ) (rows : List MemberRow) → Finds a b (λ d. list_any (is_dated d) rows) (due_row a b rows)
due_row_finds a b [] = λ d p q. refl
due_row_finds a b (row ∷ rows) = row_more a b row (λ d. list_any (is_dated d) rows) (due_row a b rows) (due_row_finds a b rows)

-- and so is what is due of grants
pub due_grant_finds : (a b : ℕ) (rows : List GrantRow) → Finds a b (λ d. list_any (is_grant_dated d) rows) (due_grant a b rows)
due_grant_finds a b [] = λ d p q. refl
due_grant_finds a b (row ∷ rows) = grant_more a b row (λ d. list_any (is_grant_dated d) rows) (due_grant a b rows) (due_grant_finds a b rows)

-- what is due is none, or the least date of the facts
pub due_finds : (a b : ℕ) (f : Lists) → Finds a b (has_date f) (due a b f)
due_finds a b f =
    both_found a b (λ d. list_any (is_dated d) f.rows) (λ d. list_any (is_grant_dated d) f.grants) (due_row a b f.rows) (due_grant a b f.grants) (due_row_finds a b f.rows) (due_grant_finds a b f.grants)

pub due_none : (a b : ℕ) (f : Lists) → due a b f ≡ None → IsFree a b (has_date f)
due_none a b f e = rw e at (due_finds a b f)

pub due_some : (a b d : ℕ) (f : Lists) → due a b f ≡ Some d → IsLeast a b (has_date f) d
due_some a b d f e = rw e at (due_finds a b f)

-- no two are found
found_one : (a b : ℕ) (has : ℕ → Bool) (x y : Option ℕ) → Finds a b has x → Finds a b has y → x ≡ y
found_one a b has None None h k = refl
found_one a b has None (Some d) h k = absurd (both_ways (has d) (h d k.later k.within) k.dated)
found_one a b has (Some c) None h k = absurd (both_ways (has c) (k c h.later h.within) h.dated)
found_one a b has (Some c) (Some d) h k = elim (cases_lt c d) [
  | inl s ↦ absurd (both_ways (has c) (k.none_before c h.later s) h.dated)
  | inr s ↦ elim (cases_lt d c) [
    | inl t ↦ absurd (both_ways (has d) (h.none_before d k.later t) k.dated)
    | inr t ↦ let e : c ≡ d = omega arith in ap (λ n. Some n) e
  ]
]

-- and so what is none or the least is due
pub due_none_from : (a b : ℕ) (f : Lists) → IsFree a b (has_date f) → due a b f ≡ None
due_none_from a b f h = found_one a b (has_date f) (due a b f) None (due_finds a b f) h

pub due_some_from : (a b d : ℕ) (f : Lists) → IsLeast a b (has_date f) d → due a b f ≡ Some d
due_some_from a b d f h = found_one a b (has_date f) (due a b f) (Some d) (due_finds a b f) h

-- ---- other moments

pub due_nowhere : (a : ℕ) (f : Lists) → due a a f ≡ None
due_nowhere a f = due_none_from a a f (λ d p q. absurd (omega arith))

-- the least stays the least up to any other moment that it doesn't come after
pub due_up_to : (a b c d : ℕ) (f : Lists) → due a b f ≡ Some d → d ≤ c → due a c f ≡ Some d
due_up_to a b c d f e w = let h = due_some a b d f e in due_some_from a c d f (record { later = h.later; within = w; dated = h.dated; none_before = h.none_before })

-- where none is due up to a moment, it is the same to begin there
pub due_from : (a b c : ℕ) (f : Lists) → due a b f ≡ None → a ≤ b → due b c f ≡ due a c f
due_from a b c f e p = found_one a c (has_date f) (due b c f) (due a c f) (go (due b c f) (due_finds b c f)) (due_finds a c f)
  where
    free : IsFree a b (has_date f)
    free = due_none a b f e

    go : (found : Option ℕ) → Finds b c (has_date f) found → Finds a c (has_date f) found
    go None h = λ d l w. elim (cases_lt b d) [ inl s ↦ h d s w | inr s ↦ free d l s ]
    go (Some d) h = let l = h.later in record {
      later = omega arith;
      within = h.within;
      dated = h.dated;
      none_before = λ x k w. elim (cases_lt b x) [ inl s ↦ h.none_before x s w | inr s ↦ free x k s ];
    }

-- ---- row by row

-- a date doesn't lie between two moments
abbrev pub IsApart : ℕ → ℕ → ℕ → Type 0
IsApart a b d = (d ≤ a) ⊎ (b ≤ d)

-- a row neither begins nor ends between two moments
pub record IsStill (a b : ℕ) (row : MemberRow) : Type 0 where
  pub begins : IsApart a b row.from
  pub ends : IfSome row.until (IsApart a b)

apart_from : (a b d : ℕ) → (a < d → d < b → ⊥) → IsApart a b d
apart_from a b d never = elim (cases_lt a d) [
  | inl p ↦ elim (cases_lt d b) [ inl q ↦ absurd (never p q) | inr q ↦ inr q ]
  | inr p ↦ inl p
]

still_row : (a b : ℕ) (row : MemberRow) → ((d : ℕ) → a < d → d < b → is_dated d row ≡ false) → IsStill a b row
still_row a b row none = record {
  begins = apart_from a b row.from (λ p q. both_ways (row.from == row.from) (or_parts (row.from == row.from) (ends_at row.from row) (none row.from p q)).0 (eq-eqb row.from row.from refl));
  ends = ending row.until (λ d p q. (or_parts (row.from == d) (ends_at d row) (none d p q)).1);
}
  where
    ending : (until : Option ℕ) → ((d : ℕ) → a < d → d < b → elim until [ None ↦ false | Some u ↦ u == d ] ≡ false) → IfSome until (IsApart a b)
    ending None h = tt
    ending (Some u) h = apart_from a b u (λ p q. both_ways (u == u) (h u p q) (eq-eqb u u refl))

-- such a date is one of no row, and conversely
pub still_rows : (a b : ℕ) (rows : List MemberRow) → ((d : ℕ) → a < d → d < b → list_any (is_dated d) rows ≡ false) → AllByRecursion (IsStill a b) rows
still_rows a b [] none = tt
still_rows a b (row ∷ rows) none = (still_row a b row (λ d p q. (or_parts (is_dated d row) (list_any (is_dated d) rows) (none d p q)).0), still_rows a b rows (λ d p q. (or_parts (is_dated d row) (list_any (is_dated d) rows) (none d p q)).1))

-- a grant neither begins nor ends between two moments
pub record IsGrantStill (a b : ℕ) (row : GrantRow) : Type 0 where
  pub begins : IfSome row.from (IsApart a b)
  pub ends : IfSome row.until (IsApart a b)

still_date : (a b : ℕ) (o : Option ℕ) → ((d : ℕ) → a < d → d < b → dated_by o d ≡ false) → IfSome o (IsApart a b)
still_date a b None h = tt
still_date a b (Some u) h = apart_from a b u (λ p q. both_ways (u == u) (h u p q) (eq-eqb u u refl))

pub still_grants : (a b : ℕ) (rows : List GrantRow) → ((d : ℕ) → a < d → d < b → list_any (is_grant_dated d) rows ≡ false) → AllByRecursion (IsGrantStill a b) rows
still_grants a b [] none = tt
still_grants a b (row ∷ rows) none = (
  record {
    begins = still_date a b row.from (λ d p q. (or_parts (dated_by row.from d) (dated_by row.until d) (here d p q)).0);
    ends = still_date a b row.until (λ d p q. (or_parts (dated_by row.from d) (dated_by row.until d) (here d p q)).1);
  },
  still_grants a b rows (λ d p q. (or_parts (is_grant_dated d row) (list_any (is_grant_dated d) rows) (none d p q)).1),
)
  where
    here : (d : ℕ) → a < d → d < b → is_grant_dated d row ≡ false
    here d p q = (or_parts (is_grant_dated d row) (list_any (is_grant_dated d) rows) (none d p q)).0

-- ---- of the facts

-- a date that the facts don't have is one of no row, and of no grant
pub no_row_dated : (f : Lists) (d : ℕ) → has_date f d ≡ false → list_any (is_dated d) f.rows ≡ false
no_row_dated f d h = (or_parts (list_any (is_dated d) f.rows) (list_any (is_grant_dated d) f.grants) h).0

pub no_grant_dated : (f : Lists) (d : ℕ) → has_date f d ≡ false → list_any (is_grant_dated d) f.grants ≡ false
no_grant_dated f d h = (or_parts (list_any (is_dated d) f.rows) (list_any (is_grant_dated d) f.grants) h).1

-- where none is due no row begins or ends, and no grant
pub none_still : (a b : ℕ) (f : Lists) → due a b f ≡ None → AllByRecursion (IsStill a (suc b)) f.rows
none_still a b f e = let h = due_none a b f e in still_rows a (suc b) f.rows (λ d p q. no_row_dated f d (h d p (omega arith)))

pub none_still_grants : (a b : ℕ) (f : Lists) → due a b f ≡ None → AllByRecursion (IsGrantStill a (suc b)) f.grants
none_still_grants a b f e = let h = due_none a b f e in still_grants a (suc b) f.grants (λ d p q. no_grant_dated f d (h d p (omega arith)))

-- nor before what is due
pub some_still : (a b d : ℕ) (f : Lists) → due a b f ≡ Some d → AllByRecursion (IsStill a d) f.rows
some_still a b d f e = let h = due_some a b d f e in still_rows a d f.rows (λ x p q. no_row_dated f x (h.none_before x p q))

pub some_still_grants : (a b d : ℕ) (f : Lists) → due a b f ≡ Some d → AllByRecursion (IsGrantStill a d) f.grants
some_still_grants a b d f e = let h = due_some a b d f e in still_grants a d f.grants (λ x p q. no_grant_dated f x (h.none_before x p q))
