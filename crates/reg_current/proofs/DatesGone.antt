-- The dates to come are found after a date has passed, and where none comes.
use Rattle.std.proofs.Common.{◌≡◌, ◌≤◌, ◌<◌, ◌==◌, ◌&&◌, ◌||◌, ℕ, List, [], ◌∷◌, Bool, true, false, not, Option, Some, None, arith, refl, sym, ◌∙◌, inl, inr}
use Rattle.std.specs.List.{list_any}
use Rattle.std.proofs.lemmas.Bool.{cases_lt, cases_order, eq-eqb, ne_eqb, lt-ltb, le-ltb, or_parts, both_ways, false_from_ne_true}
use Rattle.reg_terms.specs.declared.kinds.Member.{Member}
use Rattle.reg_terms.specs.declared.rows.GrantRow.{GrantRow}
use Rattle.reg_terms.specs.declared.rows.MemberRow.{MemberRow}
use Rattle.reg_terms.specs.Rows.{is_row}
use Rattle.reg_facts.specs.Lists.{Lists}
use Rattle.reg_effect.specs.Order.{row_cmp}
use Rattle.reg_effect.specs.Changes.{rows_where}
use Rattle.reg_effect.proofs.LiveOf.{one_rows, where_sorted, where_has, empty_sorted}
use Rattle.reg_current.specs.declared.dated_grants.DatedGrants.{DatedGrants}
use Rattle.reg_current.specs.declared.dated_rows.DatedRows.{DatedRows}
use Rattle.reg_current.specs.declared.dates.Dates.{Dates}
use Rattle.reg_current.specs.Dates.{begins_at, ends_at, grant_begins_at, grant_ends_at, due, IsNext, GrantKey, grants_where}
use Rattle.reg_current.specs.Coming.{has_dated, is_grant, AreDated, AreDatedGrants, FindsAfter, FindsGrants, FindsDates}
use Rattle.reg_current.proofs.Due.{due_none, no_row_dated, no_grant_dated}
use Rattle.reg_current.proofs.FirstDates.{any_row, any_grant, any_either}
use Rattle.reg_current.proofs.KeyOrder.{one_keys, keys_sorted, keys_has}

-- ---- where no date comes
no_row : (test : MemberRow → Bool) (g : ℕ) (m : Member) (rows : List MemberRow) → list_any test rows ≡ false → list_any (λ (row : MemberRow). test row && is_row g m row) rows ≡ false
no_row test g m rows h = false_from_ne_true (list_any (λ (row : MemberRow). test row && is_row g m row) rows) (λ t. both_ways (list_any test rows) h (any_row test g m rows t))

later_after : (set : DatedRows) (test : ℕ → MemberRow → Bool) (clock later : ℕ) (rows : List MemberRow) → FindsAfter set test clock rows → clock ≤ later → ((d : ℕ) → clock < d → d ≤ later → list_any (test d) rows ≡ false) → FindsAfter set test later rows
later_after set test clock later rows finds up none d g m =
    let found : Bool = list_any (λ (row : MemberRow). test d row && is_row g m row) rows in
    finds d g m
    ∙ elim (cases_lt later d) [
      | inl over ↦ rw (lt-ltb clock d (omega (arith, over, up)), lt-ltb later d over) refl
      | inr low ↦ elim (cases_lt clock d) [
        | inl k ↦ rw (lt-ltb clock d k, le-ltb later d low) (no_row (test d) g m rows (none d k low))
        | inr n ↦ rw (le-ltb clock d n, le-ltb later d low) refl
      ]
    ]

no_key : (test : GrantRow → Bool) (k : GrantKey) (rows : List GrantRow) → list_any test rows ≡ false → list_any (λ (row : GrantRow). test row && is_grant k row) rows ≡ false
no_key test k rows h = false_from_ne_true (list_any (λ (row : GrantRow). test row && is_grant k row) rows) (λ t. both_ways (list_any test rows) h (any_grant test k rows t))

later_grants : (set : DatedGrants) (test : ℕ → GrantRow → Bool) (clock later : ℕ) (rows : List GrantRow) → FindsGrants set test clock rows → clock ≤ later → ((d : ℕ) → clock < d → d ≤ later → list_any (test d) rows ≡ false) → FindsGrants set test later rows
later_grants set test clock later rows finds up none d l =
    let found : Bool = list_any (λ (row : GrantRow). test d row && is_grant l row) rows in
    finds d l
    ∙ elim (cases_lt later d) [
      | inl over ↦ rw (lt-ltb clock d (omega (arith, over, up)), lt-ltb later d over) refl
      | inr low ↦ elim (cases_lt clock d) [
        | inl k ↦ rw (lt-ltb clock d k, le-ltb later d low) (no_key (test d) l rows (none d k low))
        | inr n ↦ rw (le-ltb clock d n, le-ltb later d low) refl
      ]
    ]

-- what has neither date
neither : {X : Type 0} (one other : X → Bool) (rows : List X) → list_any (λ (row : X). one row || other row) rows ≡ false → (list_any one rows ≡ false) × (list_any other rows ≡ false)
neither one other rows h = or_parts (list_any one rows) (list_any other rows) (sym (any_either one other rows) ∙ h)

-- a later clock up to which no date comes finds the same
pub later_finds : (dates : Dates) (clock later : ℕ) (f : Lists) → FindsDates dates clock f → due clock later f ≡ None → clock ≤ later → FindsDates dates later f
later_finds dates clock later f finds none up =
    let out = due_none clock later f none in
    record {
      begins = later_after dates.begins begins_at clock later f.rows finds.begins up (λ d k l. (neither (begins_at d) (ends_at d) f.rows (no_row_dated f d (out d k l))).0);
      ends = later_after dates.ends ends_at clock later f.rows finds.ends up (λ d k l. (neither (begins_at d) (ends_at d) f.rows (no_row_dated f d (out d k l))).1);
      grant_begins = later_grants dates.grant_begins grant_begins_at clock later f.grants finds.grant_begins up (λ d k l. (neither (grant_begins_at d) (grant_ends_at d) f.grants (no_grant_dated f d (out d k l))).0);
      grant_ends = later_grants dates.grant_ends grant_ends_at clock later f.grants finds.grant_ends up (λ d k l. (neither (grant_begins_at d) (grant_ends_at d) f.grants (no_grant_dated f d (out d k l))).1);
    }

-- ---- a date that passes
passed_after : (old new : DatedRows) (test : ℕ → MemberRow → Bool) (clock date : ℕ) (rows left : List MemberRow) → FindsAfter old test clock rows → ((d g : ℕ) (m : Member) → has_dated new d g m ≡ (not (date == d) && has_dated old d g m)) → clock < date
    → ((d : ℕ) → clock < d → d < date → list_any (test d) rows ≡ false)
    → ((d g : ℕ) (m : Member) → date < d → list_any (λ (row : MemberRow). test d row && is_row g m row) left ≡ list_any (λ (row : MemberRow). test d row && is_row g m row) rows)
    → FindsAfter new test date left
passed_after old new test clock date rows left finds gone up none same d g m =
    gone d g m
    ∙ elim (cases_order date d) [
      | inl e ↦ rw (eq-eqb date d e, le-ltb date d (omega (arith, e))) refl
      | inr (inl over) ↦ rw (ne_eqb date d (λ e. omega (arith, e, over)), finds d g m, lt-ltb clock d (omega (arith, up, over)), lt-ltb date d over, same d g m over) refl
      | inr (inr under) ↦ rw (ne_eqb date d (λ e. omega (arith, e, under)), finds d g m, le-ltb date d (omega (arith, under))) (elim (cases_lt clock d) [
        | inl k ↦ rw (lt-ltb clock d k) (no_row (test d) g m rows (none d k under))
        | inr n ↦ rw (le-ltb clock d n) refl
      ])
    ]

pub pass_finds : (old new : Dates) (date : ℕ) → ((d g : ℕ) (m : Member) → has_dated new.begins d g m ≡ (not (date == d) && has_dated old.begins d g m)) → ((d g : ℕ) (m : Member) → has_dated new.ends d g m ≡ (not (date == d) && has_dated old.ends d g m)) → new.grant_begins ≡ old.grant_begins → new.grant_ends ≡ old.grant_ends → (clock : ℕ) (f : Lists)
    → FindsDates old clock f → IsNext clock date f → FindsDates new date f
pass_finds old new date begun ended same like clock f finds next =
    let up : clock ≤ date = omega (arith, next.later) in
    record {
      begins = passed_after old.begins new.begins begins_at clock date f.rows f.rows finds.begins begun next.later next.none_begins (λ d g m k. refl);
      ends = passed_after old.ends new.ends ends_at clock date f.rows f.rows finds.ends ended next.later (λ d k l. next.none_ends d k (omega (arith, l))) (λ d g m k. refl);
      grant_begins = rw same (later_grants old.grant_begins grant_begins_at clock date f.grants finds.grant_begins up (λ d k l. (neither (grant_begins_at d) (grant_ends_at d) f.grants (next.no_grant d k l)).0));
      grant_ends = rw like (later_grants old.grant_ends grant_ends_at clock date f.grants finds.grant_ends up (λ d k l. (neither (grant_begins_at d) (grant_ends_at d) f.grants (next.no_grant d k l)).1));
    }

-- ---- the rows of a date
pub dated_are : (set : DatedRows) (test : ℕ → MemberRow → Bool) (clock date : ℕ) (rows : List MemberRow) (found : List (ℕ × Member)) → FindsAfter set test clock rows → AreDated set date found → clock < date → found ≡ rows_where (test date) rows []
dated_are set test clock date rows found finds are up =
    one_rows found (rows_where (test date) rows []) are.ordered (where_sorted (test date) rows [] (empty_sorted row_cmp)) (λ g m. are.same g m ∙ (finds date g m ∙ (rw (lt-ltb clock date up) (sym (where_has (test date) g m rows [] ∙ none_more (list_any (λ (row : MemberRow). test date row && is_row g m row) rows))))))
  where
    none_more : (b : Bool) → (b || false) ≡ b
    none_more true = refl
    none_more false = refl

-- ---- the grants of a date
pub dated_grants_are : (set : DatedGrants) (test : ℕ → GrantRow → Bool) (clock date : ℕ) (rows : List GrantRow) (found : List GrantKey) → FindsGrants set test clock rows → AreDatedGrants set date found → clock < date → found ≡ grants_where (test date) rows []
dated_grants_are set test clock date rows found finds are up =
    one_keys found (grants_where (test date) rows []) are.ordered (keys_sorted (test date) rows) (λ k. are.same k ∙ (finds date k ∙ rw (lt-ltb clock date up) (sym (keys_has (test date) k rows))))
