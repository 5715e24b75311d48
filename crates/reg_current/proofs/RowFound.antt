-- A membership that stands is found, and so is a grant.
use Rattle.std.proofs.Common.{◌≡◌, ℕ, List, [], ◌∷◌, Bool, true, Some, None, not, filter, inl, inr}
use Rattle.std.proofs.lemmas.Bool.{cases_Bool}
use Rattle.std.specs.Prelude.{Result, Ok, Err, OnOk}
use Rattle.std.specs.List.{find, list_any}
use Rattle.reg_terms.specs.declared.kinds.Member.{Member}
use Rattle.reg_terms.specs.declared.rows.GrantRow.{GrantRow}
use Rattle.reg_terms.specs.declared.rows.MemberRow.{MemberRow}
use Rattle.reg_terms.specs.Rows.{has_row, is_row}
use Rattle.reg_facts.specs.Grants.{same_grant, has_grant}
use Rattle.reg_current.specs.declared.dates.Dates.{Dates}
use Rattle.reg_current.specs.Coming.{AreFound}

none_found : {X : Type 0} (test : X → Bool) (xs : List X) → find test xs ≡ None → list_any test xs ≡ true → ⊥
none_found test [] e h = cc
none_found test (x ∷ xs) e h = elim (cases_Bool (test x)) [
  | inl t ↦ let found : Some x ≡ None = rw t at e in cc
  | inr t ↦ none_found test xs (rw t at e) (rw t at h)
]

-- where the search found none, none stands
pub row_dropped : (dates : Dates) (clock g : ℕ) (m : Member) (rows : List MemberRow) (grants : List GrantRow) → find (is_row g m) rows ≡ None → has_row g m rows ≡ true → AreFound dates clock (filter (λ (row : MemberRow). not (is_row g m row)) rows) grants
row_dropped dates clock g m rows grants e h = absurd (none_found (is_row g m) rows e h)

pub grant_dropped : (dates : Dates) (clock : ℕ) (row : GrantRow) (rows : List MemberRow) (grants : List GrantRow) → find (same_grant row) grants ≡ None → has_grant row grants ≡ true → AreFound dates clock rows (filter (λ (other : GrantRow). not (same_grant row other)) grants)
grant_dropped dates clock row rows grants e h = absurd (none_found (same_grant row) grants e h)

-- what holds where a call went well
pub on_ok : {T E : Type 0} {A B : Type 0} (r : Result T E) → OnOk r A → (A → B) → OnOk r B
on_ok (Ok x) a f = f a
on_ok (Err e) a f = a
