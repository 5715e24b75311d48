-- Each action spends what rows have left: two for a row without an end, one for a row with one. So rounds end.
use Rattle.std.proofs.Common.{◌≡◌, ◌≤◌, ◌<◌, ◌+◌, ◌*◌, ◌==◌, ◌⊎◌, ℕ, zero, suc, List, [], ◌∷◌, ◌++◌, Bool, not, map, filter, length, Option, Some, None, nat_le, arith, refl, sym, ◌∙◌, ap, inl, inr}
use Rattle.std.proofs.lemmas.Bool.{cases_Bool}
use Rattle.std.proofs.lemmas.List.{length-append}
use Rattle.std.specs.List.{find}
use Rattle.reg_terms.specs.declared.kinds.Member.TheVariants.{Person}
use Rattle.reg_terms.specs.declared.kinds.RuleForm.{RuleForm}
use Rattle.reg_terms.specs.declared.kinds.RuleForm.TheVariants.{RemoveLost, EndLost, Veto, OnCreate}
use Rattle.reg_terms.specs.declared.rows.MemberRow.{MemberRow}
use Rattle.reg_terms.specs.declared.rows.RuleRow.{RuleRow}
use Rattle.reg_terms.specs.Rows.{is_row}
use Rattle.reg_facts.specs.Lists.{Lists}
use Rattle.reg_effect.specs.Deltas.{ended}
use Rattle.reg_rules.specs.declared.actions.Action.{Action}
use Rattle.reg_rules.specs.Actions.{days_later, removal, ending, action_of, with_end, all_done}
use Rattle.reg_rules.specs.Live.{live, begun, row_on}
use Rattle.reg_rules.specs.Settling.{listed, acting, rule_actions, round_actions, settling_in}
use Rattle.reg_rules.proofs.Alive.{all_done_append}

-- ---- what is left of rows
abbrev pub left : Option ℕ → ℕ
left None = 2
left (Some u) = 1

abbrev pub weight : List MemberRow → ℕ
weight [] = 0
weight (row ∷ rows) = left row.until + weight rows

left_most : (until : Option ℕ) → left until ≤ 2
left_most None = omega arith
left_most (Some u) = omega arith

left_some : (until : Option ℕ) → 1 ≤ left until
left_some None = omega arith
left_some (Some u) = omega arith

pub weight_most : (rows : List MemberRow) → weight rows ≤ 2 * length rows
weight_most [] = omega arith
weight_most (row ∷ rows) = omega (arith, left_most row.until, weight_most rows)

filter_spends : (test : MemberRow → Bool) (rows : List MemberRow) → weight (filter test rows) ≤ weight rows
filter_spends test [] = omega arith
filter_spends test (row ∷ rows) = elim (cases_Bool (test row)) [
  | inl y ↦ rw y (omega (arith, filter_spends test rows))
  | inr n ↦ rw n (omega (arith, filter_spends test rows))
]

removed_spends : (g s : ℕ) (rows : List MemberRow) (row : MemberRow) → find (is_row g (Person s)) rows ≡ Some row → weight (filter (λ (row : MemberRow). not (is_row g (Person s) row)) rows) + 1 ≤ weight rows
removed_spends g s [] row h = cc
removed_spends g s (x ∷ rows) row h = elim (cases_Bool (is_row g (Person s) x)) [
  | inl y ↦ rw y (omega (arith, filter_spends (λ (row : MemberRow). not (is_row g (Person s) row)) rows, left_some x.until))
  | inr n ↦ let rest = removed_spends g s rows row (rw n at h) in rw n (omega (arith, rest))
]

-- a row with an end has no more left than before
ended_one : (g s until : ℕ) (row : MemberRow) → left (with_end g s until row).until ≤ left row.until
ended_one g s until row = elim (cases_Bool (is_row g (Person s) row)) [
  | inl y ↦ rw y (left_some row.until)
  | inr n ↦ rw n (omega arith)
]

ended_most : (g s until : ℕ) (rows : List MemberRow) → weight (map (with_end g s until) rows) ≤ weight rows
ended_most g s until [] = omega arith
ended_most g s until (row ∷ rows) = omega (arith, ended_one g s until row, ended_most g s until rows)

ended_spends : (g s until : ℕ) (rows : List MemberRow) (row : MemberRow) → find (is_row g (Person s)) rows ≡ Some row → row.until ≡ None → weight (map (with_end g s until) rows) + 1 ≤ weight rows
ended_spends g s until [] row h e = cc
ended_spends g s until (x ∷ rows) row h e = elim (cases_Bool (is_row g (Person s) x)) [
  | inl y ↦
      let same : Some x ≡ Some row = rw y at h in
      let two : left x.until ≡ 2 = ap left (ends same ∙ e) in
      rw y (omega (arith, ended_most g s until rows, two))
  | inr n ↦ let rest = ended_spends g s until rows row (rw n at h) e in rw n (omega (arith, rest))
]
  where
    ends : Some x ≡ Some row → x.until ≡ row.until
    ends k = cc

-- ---- what a rule spends

-- a row that is on is found
pub found_on : (at : ℕ) (found : Option MemberRow) (row : MemberRow) → begun at found ≡ Some row → found ≡ Some row
found_on at None row h = cc
found_on at (Some x) row h = elim (cases_Bool (nat_le x.from at)) [
  | inl y ↦ rw y at h
  | inr n ↦ absurd (none (rw n at h))
]
  where
    none : None ≡ Some row → ⊥
    none k = cc

pub cases_row : (o : Option MemberRow) → (o ≡ None) ⊎ ((row : MemberRow) × (o ≡ Some row))
cases_row None = inl refl
cases_row (Some row) = inr (row, refl)

pub cases_moment : (o : Option ℕ) → (o ≡ None) ⊎ ((u : ℕ) × (o ≡ Some u))
cases_moment None = inl refl
cases_moment (Some u) = inr (u, refl)

-- actions spend what they take
abbrev pub Spend : List Action → Lists → Type 0
Spend actions f = weight (all_done actions f).rows + length actions ≤ weight f.rows

removal_spends : (at rule g s : ℕ) (f : Lists) → Spend (listed (removal rule g s (row_on at g s f))) f
removal_spends at rule g s f = elim (cases_row (row_on at g s f)) [
  | inl none ↦ rw none (omega arith)
  | inr one ↦ rw one.1 (removed_spends g s f.rows one.0 (found_on at (find (is_row g (Person s)) f.rows) one.0 one.1))
]

ending_spends : (at rule g s : ℕ) (until : Option ℕ) (f : Lists) → Spend (listed (ending rule g s until (row_on at g s f))) f
ending_spends at rule g s until f = elim (cases_row (row_on at g s f)) [
  | inl none ↦ rw none (omega arith)
  | inr one ↦ rw one.1 (elim (cases_moment one.0.until) [
    | inr u ↦ rw u.1 (omega arith)
    | inl free ↦ rw free (elim (cases_moment until) [
      | inl past ↦ rw past (omega arith)
      | inr u ↦ rw u.1 (ended_spends g s u.0 f.rows one.0 (found_on at (find (is_row g (Person s)) f.rows) one.0 one.1) free)
    ])
  ])
]

acting_spends : (at rule : ℕ) (form : RuleForm) (g s : ℕ) (f : Lists) → Spend (listed (action_of at rule form g s f)) f
acting_spends at rule (RemoveLost check owner) g s f = elim (cases_Bool (check == g)) [
  | inl y ↦ rw y (removal_spends at rule owner s f)
  | inr n ↦ rw n (omega arith)
]
acting_spends at rule (EndLost check owner days) g s f = elim (cases_Bool (check == g)) [
  | inl y ↦ rw y (ending_spends at rule owner s (days_later at days) f)
  | inr n ↦ rw n (omega arith)
]
acting_spends at rule (Veto owner condition) g s f = omega arith
acting_spends at rule (OnCreate folder scope privilege holder) g s f = omega arith

joined_spends : (first second : List Action) (f : Lists) → Spend first f → Spend second (all_done first f) → Spend (first ++ second) f
joined_spends first second f h k = rw (all_done_append first second f, length-append first second) (omega (arith, h, k))

rules_spend : (at : ℕ) (rules : List RuleRow) (g s : ℕ) (f : Lists) → Spend (rule_actions at rules g s f) f
rules_spend at [] g s f = omega arith
rules_spend at (rule ∷ rules) g s f =
    let next : Lists = all_done (acting at rule g s f) f in
    joined_spends (acting at rule g s f) (rule_actions at rules g s next) f (acting_spends at rule.id rule.form g s f) (rules_spend at rules g s next)

pub round_spends : (at : ℕ) (rules : List RuleRow) (pairs : List (ℕ × ℕ)) (f : Lists) → Spend (round_actions at rules pairs f) f
round_spends at rules [] f = omega arith
round_spends at rules (pair ∷ pairs) f =
    let next : Lists = all_done (rule_actions at rules pair.0 pair.1 f) f in
    joined_spends (rule_actions at rules pair.0 pair.1 f) (round_actions at rules pairs next) f (rules_spend at rules pair.0 pair.1 f) (round_spends at rules pairs next)

-- ---- rounds
pub cases_actions : (actions : List Action) → (actions ≡ []) ⊎ ((first : Action) × (rest : List Action) × (actions ≡ first ∷ rest))
cases_actions [] = inl refl
cases_actions (first ∷ rest) = inr (first, rest, refl)

pub settling_none : (n at : ℕ) (pairs : List (ℕ × ℕ)) (f : Lists) → round_actions at f.rules pairs f ≡ [] → settling_in (suc n) at pairs f ≡ []
settling_none n at pairs f e = rw (e, settling_in)

pub settling_some : (n at : ℕ) (pairs : List (ℕ × ℕ)) (f : Lists) (first : Action) (rest : List Action) → round_actions at f.rules pairs f ≡ first ∷ rest
    → settling_in (suc n) at pairs f ≡ (first ∷ rest) ++ settling_in n at (ended (live at f) (live at (all_done (first ∷ rest) f))) (all_done (first ∷ rest) f)
settling_some n at pairs f first rest e = rw (e, settling_in)

-- as many rounds as are needed, and no more
pub enough_rounds : (n m at : ℕ) (pairs : List (ℕ × ℕ)) (f : Lists) → weight f.rows < n → weight f.rows < m → settling_in n at pairs f ≡ settling_in m at pairs f
enough_rounds zero m at pairs f a b = absurd (omega (arith, a))
enough_rounds (suc n) zero at pairs f a b = absurd (omega (arith, b))
enough_rounds (suc n) (suc m) at pairs f a b = elim (cases_actions (round_actions at f.rules pairs f)) [
  | inl none ↦ settling_none n at pairs f none ∙ sym (settling_none m at pairs f none)
  | inr some ↦
      let spent = rw some.2 at (round_spends at f.rules pairs f) in
      let next : Lists = all_done (some.0 ∷ some.1) f in
      settling_some n at pairs f some.0 some.1 some.2
      ∙ (ap (λ more. (some.0 ∷ some.1) ++ more) (enough_rounds n m at (ended (live at f) (live at next)) next (omega (arith, spent, a)) (omega (arith, spent, b)))
      ∙ sym (settling_some m at pairs f some.0 some.1 some.2))
]
