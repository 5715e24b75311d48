-- No rows and no grants have no dates to come.
use Rattle.std.proofs.Common.{◌≡◌, ◌∙◌, sym, ℕ, List, [], Bool, true, false, refl, ◌&&◌, nat_lt}
use Rattle.std.specs.List.{list_any}
use Rattle.reg_terms.specs.Rows.{is_row}
use Rattle.reg_terms.specs.declared.kinds.Member.{Member}
use Rattle.reg_terms.specs.declared.rows.GrantRow.{GrantRow}
use Rattle.reg_terms.specs.declared.rows.MemberRow.{MemberRow}
use Rattle.reg_facts.specs.Lists.{Lists}
use Rattle.reg_current.specs.Dates.{GrantKey}
use Rattle.reg_current.specs.declared.dates.Dates.{Dates}
use Rattle.reg_current.specs.Coming.{has_dated, has_dated_grant, is_grant, FindsAfter, FindsGrants, FindsDates}
use Rattle.reg_current.specs.declared.dated_rows.DatedRows.{DatedRows}
use Rattle.reg_current.specs.declared.dated_grants.DatedGrants.{DatedGrants}

none : (b : Bool) → (b && false) ≡ false
none true = refl
none false = refl

no_rows : (set : DatedRows) (test : ℕ → MemberRow → Bool) (clock : ℕ) (rows : List MemberRow) → rows ≡ [] → ((d g : ℕ) (m : Member) → has_dated set d g m ≡ false) → FindsAfter set test clock rows
no_rows set test clock rows e h d g m = rw e (h d g m ∙ sym (none (nat_lt clock d)))

no_grants : (set : DatedGrants) (test : ℕ → GrantRow → Bool) (clock : ℕ) (grants : List GrantRow) → grants ≡ [] → ((d : ℕ) (k : GrantKey) → has_dated_grant set d k ≡ false) → FindsGrants set test clock grants
no_grants set test clock grants e h d k = rw e (h d k ∙ sym (none (nat_lt clock d)))

pub finds_none : (dates : Dates) → ((d g : ℕ) (m : Member) → has_dated dates.begins d g m ≡ false) → ((d g : ℕ) (m : Member) → has_dated dates.ends d g m ≡ false) → ((d : ℕ) (k : GrantKey) → has_dated_grant dates.grant_begins d k ≡ false) → ((d : ℕ) (k : GrantKey) → has_dated_grant dates.grant_ends d k ≡ false)
    → (clock : ℕ) (f : Lists) → f.rows ≡ [] → f.grants ≡ [] → FindsDates dates clock f
finds_none dates begins ends grant_begins grant_ends clock f a b = record {
  begins = no_rows dates.begins _ clock f.rows a begins;
  ends = no_rows dates.ends _ clock f.rows a ends;
  grant_begins = no_grants dates.grant_begins _ clock f.grants b grant_begins;
  grant_ends = no_grants dates.grant_ends _ clock f.grants b grant_ends;
}
