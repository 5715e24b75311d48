-- The first of the sets' dates is due, if it isn't too late.
use Rattle.std.proofs.Common.{◌≡◌, ◌≤◌, ◌<◌, ◌&&◌, ◌||◌, ℕ, List, [], ◌∷◌, Bool, true, false, Option, Some, None, arith, refl, sym, ◌∙◌, inl, inr, ◌⊎◌, nat_lt, nat_le, min}
use Rattle.std.specs.Prelude.{MatchOption}
use Rattle.std.specs.List.{list_any}
use Rattle.std.proofs.lemmas.Bool.{cases_Bool, cases_lt, ltb-true, leb-true, lt-ltb, le-leb, or_left, or_right, or_cases, or_from, and_parts, and_from, both_ways, false_from_ne_true}
use Rattle.reg_terms.specs.declared.kinds.Member.{Member}
use Rattle.reg_terms.specs.declared.rows.GrantRow.{GrantRow}
use Rattle.reg_terms.specs.declared.rows.MemberRow.{MemberRow}
use Rattle.reg_terms.specs.Rows.{is_row}
use Rattle.reg_facts.specs.Lists.{Lists}
use Rattle.reg_effect.proofs.LiveOf.{row_self}
use Rattle.reg_current.specs.declared.dated_grants.DatedGrants.{DatedGrants}
use Rattle.reg_current.specs.declared.dated_rows.DatedRows.{DatedRows}
use Rattle.reg_current.specs.declared.dates.Dates.{Dates}
use Rattle.reg_current.specs.Dates.{begins_at, ends_at, is_dated, grant_begins_at, grant_ends_at, is_grant_dated, has_date, earliest, due, GrantKey}
use Rattle.reg_current.specs.Coming.{has_dated, has_dated_grant, key_of, is_grant, IsFirst, IsFirstGrant, IsFirstOf, FindsAfter, FindsGrants, FindsDates, up_to}
use Rattle.reg_current.proofs.Due.{due_none_from, due_some_from}
use Rattle.reg_current.proofs.KeyOrder.{key_self}

-- the least of the numbers that a test finds after one
abbrev pub IsLeastAfter : ℕ → (ℕ → Bool) → Option ℕ → Type 0
IsLeastAfter a has found = MatchOption found ((d : ℕ) → a < d → has d ≡ false) (λ e. (a < e) × (has e ≡ true) × ((d : ℕ) → a < d → has d ≡ true → e ≤ d))

-- ---- the first dates of sets
some_row : (test : MemberRow → Bool) (rows : List MemberRow) → list_any test rows ≡ true → (g : ℕ) × (m : Member) × (list_any (λ (row : MemberRow). test row && is_row g m row) rows ≡ true)
some_row test [] h = absurd (let clash : ⊥ = cc in clash)
some_row test (row ∷ rows) h = elim (cases_Bool (test row)) [
  | inl t ↦ (row.group, row.member, or_left (test row && is_row row.group row.member row) (list_any (λ (r : MemberRow). test r && is_row row.group row.member r) rows) (and_from (test row) (is_row row.group row.member row) t (row_self row.group row.member)))
  | inr f ↦ let rest = some_row test rows (rw f at h) in (rest.0, rest.1, or_right (test row && is_row rest.0 rest.1 row) (list_any (λ (r : MemberRow). test r && is_row rest.0 rest.1 r) rows) rest.2)
]

pub any_row : (test : MemberRow → Bool) (g : ℕ) (m : Member) (rows : List MemberRow) → list_any (λ (row : MemberRow). test row && is_row g m row) rows ≡ true → list_any test rows ≡ true
any_row test g m [] h = h
any_row test g m (row ∷ rows) h = elim (or_cases (test row && is_row g m row) (list_any (λ (r : MemberRow). test r && is_row g m r) rows) h) [
  | inl t ↦ or_left (test row) (list_any test rows) (and_parts (test row) (is_row g m row) t).0
  | inr t ↦ or_right (test row) (list_any test rows) (any_row test g m rows t)
]

pub first_told : (set : DatedRows) (test : ℕ → MemberRow → Bool) (clock : ℕ) (rows : List MemberRow) (o : Option ℕ) → FindsAfter set test clock rows → IsFirst set o → IsLeastAfter clock (λ d. list_any (test d) rows) o
first_told set test clock rows None finds first = λ d k. false_from_ne_true (list_any (test d) rows) (λ t. let w = some_row (test d) rows t in both_ways (has_dated set d w.0 w.1) (first d w.0 w.1) (finds d w.0 w.1 ∙ and_from (nat_lt clock d) (list_any (λ (row : MemberRow). test d row && is_row w.0 w.1 row) rows) (lt-ltb clock d k) w.2))
first_told set test clock rows (Some e) finds first =
    let g = first.0.0 in
    let m = first.0.1 in
    let has = and_parts (nat_lt clock e) (list_any (λ (row : MemberRow). test e row && is_row g m row) rows) (sym (finds e g m) ∙ first.0.2) in
    (ltb-true clock e has.0, any_row (test e) g m rows has.1, λ d k t. let w = some_row (test d) rows t in first.1 d w.0 w.1 (finds d w.0 w.1 ∙ and_from (nat_lt clock d) (list_any (λ (row : MemberRow). test d row && is_row w.0 w.1 row) rows) (lt-ltb clock d k) w.2))

-- ---- and of sets of grants
some_grant : (test : GrantRow → Bool) (rows : List GrantRow) → list_any test rows ≡ true → (k : GrantKey) × (list_any (λ (row : GrantRow). test row && is_grant k row) rows ≡ true)
some_grant test [] h = absurd (let clash : ⊥ = cc in clash)
some_grant test (row ∷ rows) h = elim (cases_Bool (test row)) [
  | inl t ↦ (key_of row, or_left (test row && is_grant (key_of row) row) (list_any (λ (r : GrantRow). test r && is_grant (key_of row) r) rows) (and_from (test row) (is_grant (key_of row) row) t (key_self (key_of row))))
  | inr f ↦ let rest = some_grant test rows (rw f at h) in (rest.0, or_right (test row && is_grant rest.0 row) (list_any (λ (r : GrantRow). test r && is_grant rest.0 r) rows) rest.1)
]

pub any_grant : (test : GrantRow → Bool) (k : GrantKey) (rows : List GrantRow) → list_any (λ (row : GrantRow). test row && is_grant k row) rows ≡ true → list_any test rows ≡ true
any_grant test k [] h = h
any_grant test k (row ∷ rows) h = elim (or_cases (test row && is_grant k row) (list_any (λ (r : GrantRow). test r && is_grant k r) rows) h) [
  | inl t ↦ or_left (test row) (list_any test rows) (and_parts (test row) (is_grant k row) t).0
  | inr t ↦ or_right (test row) (list_any test rows) (any_grant test k rows t)
]

first_grant : (set : DatedGrants) (test : ℕ → GrantRow → Bool) (clock : ℕ) (rows : List GrantRow) (o : Option ℕ) → FindsGrants set test clock rows → IsFirstGrant set o → IsLeastAfter clock (λ d. list_any (test d) rows) o
first_grant set test clock rows None finds first = λ d k. false_from_ne_true (list_any (test d) rows) (λ t. let w = some_grant (test d) rows t in both_ways (has_dated_grant set d w.0) (first d w.0) (finds d w.0 ∙ and_from (nat_lt clock d) (list_any (λ (row : GrantRow). test d row && is_grant w.0 row) rows) (lt-ltb clock d k) w.1))
first_grant set test clock rows (Some e) finds first =
    let l = first.0.0 in
    let has = and_parts (nat_lt clock e) (list_any (λ (row : GrantRow). test e row && is_grant l row) rows) (sym (finds e l) ∙ first.0.1) in
    (ltb-true clock e has.0, any_grant (test e) l rows has.1, λ d k t. let w = some_grant (test d) rows t in first.1 d w.0 (finds d w.0 ∙ and_from (nat_lt clock d) (list_any (λ (row : GrantRow). test d row && is_grant w.0 row) rows) (lt-ltb clock d k) w.1))

-- ---- the earlier of two
both_least : (a : ℕ) (one other has : ℕ → Bool) (o p : Option ℕ) → ((x : ℕ) → has x ≡ (one x || other x)) → IsLeastAfter a one o → IsLeastAfter a other p → IsLeastAfter a has (earliest o p)
both_least a one other has None None same h i = λ x k. same x ∙ or_from (one x) (other x) (h x k) (i x k)
both_least a one other has None (Some e) same h i = (i.0, same e ∙ or_right (one e) (other e) i.1, λ x k t. low x k (or_cases (one x) (other x) (sym (same x) ∙ t)))
  where
    low : (x : ℕ) → a < x → (one x ≡ true) ⊎ (other x ≡ true) → e ≤ x
    low x k (inl t) = absurd (both_ways (one x) (h x k) t)
    low x k (inr t) = i.2 x k t
both_least a one other has (Some d) None same h i = (h.0, same d ∙ or_left (one d) (other d) h.1, λ x k t. low x k (or_cases (one x) (other x) (sym (same x) ∙ t)))
  where
    low : (x : ℕ) → a < x → (one x ≡ true) ⊎ (other x ≡ true) → d ≤ x
    low x k (inl t) = h.2 x k t
    low x k (inr t) = absurd (both_ways (other x) (i x k) t)
both_least a one other has (Some d) (Some e) same h i = (omega (arith, h.0, i.0), found (cases_lt d e), λ x k t. low x k (or_cases (one x) (other x) (sym (same x) ∙ t)))
  where
    found : (d < e) ⊎ (e ≤ d) → has (min d e) ≡ true
    found (inl k) = let is : min d e ≡ d = omega arith in rw is (same d ∙ or_left (one d) (other d) h.1)
    found (inr k) = let is : min d e ≡ e = omega arith in rw is (same e ∙ or_right (one e) (other e) i.1)

    low : (x : ℕ) → a < x → (one x ≡ true) ⊎ (other x ≡ true) → min d e ≤ x
    low x k (inl t) = let up = h.2 x k t in omega (arith, up)
    low x k (inr t) = let up = i.2 x k t in omega (arith, up)

least_due : (a b : ℕ) (f : Lists) (o : Option ℕ) → IsLeastAfter a (has_date f) o → up_to b o ≡ due a b f
least_due a b f None h = sym (due_none_from a b f (λ x k up. h x k))
least_due a b f (Some e) h = elim (cases_Bool (nat_le e b)) [
  | inl t ↦ rw t (sym (due_some_from a b e f (record {
    later = h.0;
    within = leb-true e b t;
    dated = h.1;
    none_before = λ x k l. false_from_ne_true (has_date f x) (λ y. let low = h.2 x k y in omega (arith, low, l));
  })))
  | inr n ↦ rw n (sym (due_none_from a b f (λ x k up. false_from_ne_true (has_date f x) (λ t. let low = h.2 x k t in both_ways (nat_le e b) n (le-leb e b (omega (arith, low)))))))
]

pub any_either : {X : Type 0} (one other : X → Bool) (rows : List X) → list_any (λ (row : X). one row || other row) rows ≡ (list_any one rows || list_any other rows)
any_either one other [] = refl
any_either one other (row ∷ rows) = rw (any_either one other rows) (crossed (one row) (other row) (list_any one rows) (list_any other rows))
  where
    crossed : (a b c d : Bool) → ((a || b) || (c || d)) ≡ ((a || c) || (b || d))
    crossed true b c d = refl
    crossed false true true d = refl
    crossed false true false d = refl
    crossed false false c d = refl

row_first : (dates : Dates) (clock : ℕ) (f : Lists) (o : Option ℕ) → FindsDates dates clock f → IsFirstOf (IsFirst dates.begins) (IsFirst dates.ends) o → IsLeastAfter clock (λ d. list_any (is_dated d) f.rows) o
row_first dates clock f o finds first =
    rw first.is (both_least clock (λ d. list_any (begins_at d) f.rows) (λ d. list_any (ends_at d) f.rows) (λ d. list_any (is_dated d) f.rows) first.left first.right (λ d. any_either (begins_at d) (ends_at d) f.rows)
    (first_told dates.begins begins_at clock f.rows first.left finds.begins first.by_one) (first_told dates.ends ends_at clock f.rows first.right finds.ends first.by_other))

grant_first : (dates : Dates) (clock : ℕ) (f : Lists) (o : Option ℕ) → FindsDates dates clock f → IsFirstOf (IsFirstGrant dates.grant_begins) (IsFirstGrant dates.grant_ends) o → IsLeastAfter clock (λ d. list_any (is_grant_dated d) f.grants) o
grant_first dates clock f o finds first =
    rw first.is (both_least clock (λ d. list_any (grant_begins_at d) f.grants) (λ d. list_any (grant_ends_at d) f.grants) (λ d. list_any (is_grant_dated d) f.grants) first.left first.right (λ d. any_either (grant_begins_at d) (grant_ends_at d) f.grants)
    (first_grant dates.grant_begins grant_begins_at clock f.grants first.left finds.grant_begins first.by_one) (first_grant dates.grant_ends grant_ends_at clock f.grants first.right finds.grant_ends first.by_other))

-- the earlier of the sets' first dates is due, if it isn't too late
pub next_due : (dates : Dates) (to : ℕ) (o p : Option ℕ) → IsFirstOf (IsFirst dates.begins) (IsFirst dates.ends) o → IsFirstOf (IsFirstGrant dates.grant_begins) (IsFirstGrant dates.grant_ends) p → (clock : ℕ) (f : Lists) → FindsDates dates clock f → up_to to (earliest o p) ≡ due clock to f
next_due dates to o p rows grants clock f finds =
    least_due clock to f (earliest o p) (both_least clock (λ d. list_any (is_dated d) f.rows) (λ d. list_any (is_grant_dated d) f.grants) (has_date f) o p (λ d. refl) (row_first dates clock f o finds rows) (grant_first dates clock f p finds grants))
