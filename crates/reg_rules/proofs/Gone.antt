-- Who stopped being a member of a group has no row that is on in the owner of a rule that takes it away.
use Rattle.std.proofs.Common.{◌≡◌, ◌<◌, ◌==◌, ◌&&◌, ◌⊎◌, ℕ, zero, suc, List, [], ◌∷◌, true, false, not, map, filter, Some, None, nat_le, arith, refl, ◌∙◌, ap, inl, inr}
use Rattle.std.proofs.lemmas.Bool.{cases_Bool, or_cases, and_parts, eqb-true}
use Rattle.std.specs.List.{find}
use Rattle.reg_terms.specs.declared.kinds.Member.{Member}
use Rattle.reg_terms.specs.declared.kinds.Member.TheVariants.{Person}
use Rattle.reg_terms.specs.declared.kinds.RuleForm.{RuleForm}
use Rattle.reg_terms.specs.declared.kinds.RuleForm.TheVariants.{RemoveLost, EndLost, Veto, OnCreate}
use Rattle.reg_terms.specs.declared.rows.MemberRow.{MemberRow}
use Rattle.reg_terms.specs.declared.rows.RuleRow.{RuleRow}
use Rattle.reg_terms.specs.Rows.{is_row}
use Rattle.reg_facts.specs.Lists.{Lists}
use Rattle.reg_graph.specs.Sets.{holds}
use Rattle.reg_effect.specs.declared.live.Live.{Live}
use Rattle.reg_effect.specs.Deltas.{ended}
use Rattle.reg_effect.specs.Member.{member}
use Rattle.reg_effect.specs.Order.{is_live_row}
use Rattle.reg_effect.proofs.Edits.{row_is}
use Rattle.reg_effect.proofs.Remembering.{holds_ended}
use Rattle.reg_rules.specs.declared.actions.Action.{Action}
use Rattle.reg_rules.specs.declared.actions.Action.TheVariants.{Removed, Ended}
use Rattle.reg_rules.specs.Actions.{removal, action_of, with_end, done, all_done}
use Rattle.reg_rules.specs.Live.{live, begun, row_on}
use Rattle.reg_rules.specs.Lost.{removes_lost, has_removal}
use Rattle.reg_rules.specs.Settling.{listed, acting, rule_actions, round_actions, settling, settle}
use Rattle.reg_rules.proofs.Alive.{all_done_append, rules_stay}
use Rattle.reg_rules.proofs.Rounds.{none_settle, facts_more}
use Rattle.reg_rules.proofs.Spending.{weight, round_spends, cases_actions, cases_row}

-- ---- a row that isn't on stays so

-- the row that is taken away is gone
own_gone : (g : ℕ) (m : Member) (rows : List MemberRow) → find (is_row g m) (filter (λ (row : MemberRow). not (is_row g m row)) rows) ≡ None
own_gone g m [] = refl
own_gone g m (row ∷ rows) = elim (cases_Bool (is_row g m row)) [
  | inl y ↦ rw y (own_gone g m rows)
  | inr n ↦ rw (n, n) (own_gone g m rows)
]

-- and others stay
other_found : (g x : ℕ) (m n : Member) (rows : List MemberRow) → is_live_row g m (x, n) ≡ false → find (is_row g m) (filter (λ (row : MemberRow). not (is_row x n row)) rows) ≡ find (is_row g m) rows
other_found g x m n [] apart = refl
other_found g x m n (row ∷ rows) apart = elim (cases_Bool (is_row x n row)) [
  | inl y ↦
      let w = row_is x n row.group row.member y in
      let past : is_row g m row ≡ false = rw (w.0, w.1) apart in
      rw (y, past) (other_found g x m n rows apart)
  | inr off ↦ rw off (elim (cases_Bool (is_row g m row)) [
    | inl here ↦ rw here refl
    | inr there ↦ rw there (other_found g x m n rows apart)
  ])
]

removed_stays : (at g x : ℕ) (m n : Member) (rows : List MemberRow) → begun at (find (is_row g m) rows) ≡ None → begun at (find (is_row g m) (filter (λ (row : MemberRow). not (is_row x n row)) rows)) ≡ None
removed_stays at g x m n rows h = elim (cases_Bool (is_live_row g m (x, n))) [
  | inl same ↦
      let w = row_is g m x n same in
      rw (w.0, w.1) (ap (begun at) (own_gone g m rows))
  | inr apart ↦ ap (begun at) (other_found g x m n rows apart) ∙ h
]

-- a row that gets an end begins when it began
same_begin : (at x t until : ℕ) (row : MemberRow) → begun at (Some row) ≡ None → begun at (Some (with_end x t until row)) ≡ None
same_begin at x t until row h = elim (cases_Bool (is_row x (Person t) row)) [
  | inl y ↦ rw y (elim (cases_Bool (nat_le row.from at)) [
    | inl on ↦ absurd (some (rw on at h))
    | inr off ↦ rw off refl
  ])
  | inr n ↦ rw n h
]
  where
    some : Some row ≡ None → ⊥
    some k = cc

same_row : (g x s t until : ℕ) (row : MemberRow) → is_row g (Person s) (with_end x t until row) ≡ is_row g (Person s) row
same_row g x s t until row = elim (cases_Bool (is_row x (Person t) row)) [
  | inl y ↦ rw y refl
  | inr n ↦ rw n refl
]

ended_stays : (at g x s t until : ℕ) (rows : List MemberRow) → begun at (find (is_row g (Person s)) rows) ≡ None → begun at (find (is_row g (Person s)) (map (with_end x t until) rows)) ≡ None
ended_stays at g x s t until [] h = refl
ended_stays at g x s t until (row ∷ rows) h = elim (cases_Bool (is_row g (Person s) row)) [
  | inl y ↦ rw (same_row g x s t until row ∙ y) (same_begin at x t until row (rw y at h))
  | inr n ↦ rw (same_row g x s t until row ∙ n) (ended_stays at g x s t until rows (rw n at h))
]

off_stays : (at g s : ℕ) (action : Action) (f : Lists) → row_on at g s f ≡ None → row_on at g s (done action f) ≡ None
off_stays at g s (Removed rule x t) f h = removed_stays at g x (Person s) (Person t) f.rows h
off_stays at g s (Ended rule x t until) f h = ended_stays at g x s t until f.rows h

all_off_stay : (at g s : ℕ) (actions : List Action) (f : Lists) → row_on at g s f ≡ None → row_on at g s (all_done actions f) ≡ None
all_off_stay at g s [] f h = h
all_off_stay at g s (action ∷ actions) f h = all_off_stay at g s actions (done action f) (off_stays at g s action f h)

-- ---- after a rule, the rules, and a round
removal_off : (at rule g s : ℕ) (f : Lists) → row_on at g s (all_done (listed (removal rule g s (row_on at g s f))) f) ≡ None
removal_off at rule g s f = elim (cases_row (row_on at g s f)) [
  | inl none ↦ rw none none
  | inr one ↦ rw one.1 (ap (begun at) (own_gone g (Person s) f.rows))
]

rule_off : (at rule : ℕ) (form : RuleForm) (g owner s : ℕ) (f : Lists) → removes_lost g owner form ≡ true → row_on at owner s (all_done (listed (action_of at rule form g s f)) f) ≡ None
rule_off at rule (RemoveLost check other) g owner s f h =
    let w = and_parts (check == g) (other == owner) h in
    let same = eqb-true other owner w.1 in
    rw (w.0, same) (removal_off at rule owner s f)
rule_off at rule (EndLost check other days) g owner s f h = let clash : ⊥ = cc in absurd clash
rule_off at rule (Veto other condition) g owner s f h = let clash : ⊥ = cc in absurd clash
rule_off at rule (OnCreate folder scope privilege holder) g owner s f h = let clash : ⊥ = cc in absurd clash

rules_off : (at : ℕ) (rules : List RuleRow) (g owner s : ℕ) (f : Lists) → has_removal g owner rules ≡ true → row_on at owner s (all_done (rule_actions at rules g s f) f) ≡ None
rules_off at [] g owner s f h = let clash : ⊥ = cc in absurd clash
rules_off at (rule ∷ rules) g owner s f h =
    let acts : List Action = acting at rule g s f in
    let next : Lists = all_done acts f in
    rw (all_done_append acts (rule_actions at rules g s next) f) (elim (or_cases (removes_lost g owner rule.form) (has_removal g owner rules) h) [
      | inl here ↦ all_off_stay at owner s (rule_actions at rules g s next) next (rule_off at rule.id rule.form g owner s f here)
      | inr there ↦ rules_off at rules g owner s next there
    ])

round_off : (at : ℕ) (rules : List RuleRow) (pairs : List (ℕ × ℕ)) (g owner s : ℕ) (f : Lists) → has_removal g owner rules ≡ true → holds g s pairs ≡ true → row_on at owner s (all_done (round_actions at rules pairs f) f) ≡ None
round_off at rules [] g owner s f h k = let clash : ⊥ = cc in absurd clash
round_off at rules (pair ∷ pairs) g owner s f h k =
    let acts : List Action = rule_actions at rules pair.0 pair.1 f in
    let next : Lists = all_done acts f in
    rw (all_done_append acts (round_actions at rules pairs next) f) (elim (or_cases ((pair.0 == g) && (pair.1 == s)) (holds g s pairs) k) [
      | inl here ↦
          let w = and_parts (pair.0 == g) (pair.1 == s) here in
          let off : row_on at owner s next ≡ None = rw (eqb-true pair.0 g w.0, eqb-true pair.1 s w.1) (rules_off at rules g owner s f h) in
          all_off_stay at owner s (round_actions at rules pairs next) next off
      | inr there ↦ round_off at rules pairs g owner s next h there
    ])

-- ---- after all rounds
ended_holds : (L N : Live) (g s : ℕ) → member L g s ≡ true → member N g s ≡ false → holds g s (ended L N) ≡ true
ended_holds L N g s was is = holds_ended L N g s ∙ rw (was, is) refl

in_rounds : (n at : ℕ) (pairs : List (ℕ × ℕ)) (g owner s : ℕ) (f : Lists) → weight f.rows < n → has_removal g owner f.rules ≡ true
    → (holds g s pairs ≡ true) ⊎ ((member (live at f) g s ≡ true) × (member (live at (settle pairs at f)) g s ≡ false)) → row_on at owner s (settle pairs at f) ≡ None
in_rounds zero at pairs g owner s f less h k = absurd (omega (arith, less))
in_rounds (suc n) at pairs g owner s f less h k =
    let acts : List Action = round_actions at f.rules pairs f in
    let next : Lists = all_done acts f in
    let lost : List (ℕ × ℕ) = ended (live at f) (live at next) in
    let rules : has_removal g owner next.rules ≡ true = ap (has_removal g owner) (rules_stay acts f) ∙ h in
    elim k [
      | inl pair ↦ rw (facts_more at pairs f) (all_off_stay at owner s (settling lost at next) next (round_off at f.rules pairs g owner s f h pair))
      | inr turned ↦ elim (cases_actions acts) [
        | inl none ↦
            let still : settle pairs at f ≡ f = ap (λ actions. all_done actions f) (none_settle at pairs f none) in
            absurd (clash turned.0 (rw still at turned.1))
        | inr some ↦
            let spent = rw some.2 at (round_spends at f.rules pairs f) in
            let fewer : weight next.rows < n = rw some.2 (omega (arith, spent, less)) in
            rw (facts_more at pairs f) (in_rounds n at lost g owner s next fewer rules (elim (cases_Bool (member (live at next) g s)) [
              | inl stays ↦ inr (stays, rw (facts_more at pairs f) at turned.1)
              | inr goes ↦ inl (ended_holds (live at f) (live at next) g s turned.0 goes)
            ]))
      ]
    ]
  where
    clash : member (live at f) g s ≡ true → member (live at f) g s ≡ false → ⊥
    clash a b = cc

pub lost_off : (at : ℕ) (pairs : List (ℕ × ℕ)) (g owner s : ℕ) (f : Lists) → has_removal g owner f.rules ≡ true → holds g s pairs ≡ true → row_on at owner s (settle pairs at f) ≡ None
lost_off at pairs g owner s f h pair = in_rounds (suc (weight f.rows)) at pairs g owner s f (omega arith) h (inl pair)

pub step_off : (at : ℕ) (L : Live) (g owner s : ℕ) (f : Lists) → has_removal g owner f.rules ≡ true → member L g s ≡ true → member (live at (settle (ended L (live at f)) at f)) g s ≡ false → row_on at owner s (settle (ended L (live at f)) at f) ≡ None
step_off at L g owner s f h was is = in_rounds (suc (weight f.rows)) at (ended L (live at f)) g owner s f (omega arith) h (elim (cases_Bool (member (live at f) g s)) [
  | inl stays ↦ inr (stays, is)
  | inr goes ↦ inl (ended_holds L (live at f) g s was goes)
])
