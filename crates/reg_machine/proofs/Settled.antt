-- What rules leave of the facts: rows of persons go, or get an end, and nothing else changes.
use Rattle.std.proofs.Common.{◌≡◌, ◌<◌, ◌≤◌, ◌+◌, ◌*◌, ◌==◌, ◌&&◌, ◌⊎◌, ℕ, zero, suc, List, [], ◌∷◌, ◌++◌, Bool, true, false, not, map, filter, length, Option, Some, None, nat_le, nat_lt, arith, refl, sym, ◌∙◌, ap, subst, inl, inr, if◌then◌else◌}
use Rattle.std.proofs.lemmas.Bool.{cases_Bool, and_parts, or_parts, eqb-true, eq-eqb, both_ways, ltb-true, leb-true}
use Rattle.std.specs.Prelude.{⊤}
use Rattle.std.specs.List.{find, AllByRecursion}
use Rattle.reg_base.specs.Calendar.{day_micros}
use Rattle.reg_base.specs.declared.moment.TheConstants.{GREATEST_MOMENT}
use Rattle.reg_terms.specs.declared.kinds.Member.{Member}
use Rattle.reg_terms.specs.declared.kinds.Member.TheVariants.{Person, Group}
use Rattle.reg_terms.specs.declared.kinds.RuleForm.{RuleForm}
use Rattle.reg_terms.specs.declared.kinds.RuleForm.TheVariants.{RemoveLost, EndLost, Veto, OnCreate}
use Rattle.reg_terms.specs.declared.rows.MemberRow.{MemberRow}
use Rattle.reg_terms.specs.declared.rows.RuleRow.{RuleRow}
use Rattle.reg_terms.specs.Kinds.{same_member}
use Rattle.reg_terms.specs.Rows.{is_row, has_row}
use Rattle.reg_facts.specs.Lists.{Lists}
use Rattle.reg_facts.specs.Sound.{AreRowsOnce}
use Rattle.reg_facts.proofs.Joined.{rows_once_filter}
use Rattle.reg_effect.specs.Deltas.{ended}
use Rattle.reg_effect.proofs.Edits.{row_is}
use Rattle.reg_rules.specs.declared.actions.Action.{Action}
use Rattle.reg_rules.specs.declared.actions.Action.TheVariants.{Removed, Ended}
use Rattle.reg_rules.specs.Actions.{days_later, removal, ending, action_of, with_end, done, all_done}
use Rattle.reg_rules.specs.Live.{live, begun, row_on}
use Rattle.reg_rules.specs.Settling.{listed, acting, rule_actions, round_actions, settling_in, settling, settle}
use Rattle.reg_current.specs.Invariant.{IsOpen}
use Rattle.reg_machine.specs.Owners.{owns, may_lose}

-- ---- nothing changes but rows

pub all_done_is : (actions : List Action) (f : Lists) → all_done actions f ≡ record f { rows = (all_done actions f).rows }
all_done_is [] f = refl
all_done_is (Removed rule g s ∷ actions) f = all_done_is actions (done (Removed rule g s) f)
all_done_is (Ended rule g s until ∷ actions) f = all_done_is actions (done (Ended rule g s until) f)

pub settle_is : (pairs : List (ℕ × ℕ)) (at : ℕ) (f : Lists) → settle pairs at f ≡ record f { rows = (settle pairs at f).rows }
settle_is pairs at f = all_done_is (settling pairs at f) f

pub all_done_append : (first second : List Action) (f : Lists) → all_done (first ++ second) f ≡ all_done second (all_done first f)
all_done_append [] second f = refl
all_done_append (action ∷ first) second f = all_done_append first second (done action f)

-- ---- what each rule keeps for each person is kept by all that follows

cases_actions : (actions : List Action) → (actions ≡ []) ⊎ ((first : Action) × (rest : List Action) × (actions ≡ first ∷ rest))
cases_actions [] = inl refl
cases_actions (first ∷ rest) = inr (first, rest, refl)

none_acts : (n at : ℕ) (pairs : List (ℕ × ℕ)) (f : Lists) → round_actions at f.rules pairs f ≡ [] → settling_in (suc n) at pairs f ≡ []
none_acts n at pairs f e = rw (e, settling_in)

some_act : (n at : ℕ) (pairs : List (ℕ × ℕ)) (f : Lists) (first : Action) (rest : List Action) → round_actions at f.rules pairs f ≡ first ∷ rest
    → settling_in (suc n) at pairs f ≡ (first ∷ rest) ++ settling_in n at (ended (live at f) (live at (all_done (first ∷ rest) f))) (all_done (first ∷ rest) f)
some_act n at pairs f first rest e = rw (e, settling_in)

module _ (at : ℕ) (P : Lists → Type 0) (R : RuleRow → Type 0) (have : (f : Lists) → P f → AllByRecursion R f.rules) (one : (rule : RuleRow) (g s : ℕ) (f : Lists) → R rule → P f → P (all_done (acting at rule g s f) f)) where
  rules_keep : (rules : List RuleRow) (g s : ℕ) (f : Lists) → AllByRecursion R rules → P f → P (all_done (rule_actions at rules g s f) f)
  rules_keep [] g s f r h = h
  rules_keep (rule ∷ rules) g s f r h =
      let next : Lists = all_done (acting at rule g s f) f in
      subst P (sym (all_done_append (acting at rule g s f) (rule_actions at rules g s next) f)) (rules_keep rules g s next r.1 (one rule g s f r.0 h))

  round_keeps : (rules : List RuleRow) (pairs : List (ℕ × ℕ)) (f : Lists) → AllByRecursion R rules → P f → P (all_done (round_actions at rules pairs f) f)
  round_keeps rules [] f r h = h
  round_keeps rules (pair ∷ pairs) f r h =
      let next : Lists = all_done (rule_actions at rules pair.0 pair.1 f) f in
      subst P (sym (all_done_append (rule_actions at rules pair.0 pair.1 f) (round_actions at rules pairs next) f)) (round_keeps rules pairs next r (rules_keep rules pair.0 pair.1 f r h))

  rounds_keep : (n : ℕ) (pairs : List (ℕ × ℕ)) (f : Lists) → P f → P (all_done (settling_in n at pairs f) f)
  rounds_keep zero pairs f h = h
  rounds_keep (suc n) pairs f h = elim (cases_actions (round_actions at f.rules pairs f)) [
    | inl none ↦ subst (λ (actions : List Action). P (all_done actions f)) (sym (none_acts n at pairs f none)) h
    | inr some ↦
        let next : Lists = all_done (some.0 ∷ some.1) f in
        let lost = ended (live at f) (live at next) in
        let here : P next = subst (λ (actions : List Action). P (all_done actions f)) some.2 (round_keeps f.rules pairs f (have f h) h) in
        let there : P (all_done ((some.0 ∷ some.1) ++ settling_in n at lost next) f) = subst P (sym (all_done_append (some.0 ∷ some.1) (settling_in n at lost next) f)) (rounds_keep n lost next here) in
        subst (λ (actions : List Action). P (all_done actions f)) (sym (some_act n at pairs f some.0 some.1 some.2)) there
  ]

  pub settle_keeps : (pairs : List (ℕ × ℕ)) (f : Lists) → P f → P (settle pairs at f)
  unfolding settling
  settle_keeps pairs f h = rounds_keep (suc (2 * length f.rows)) pairs f h

-- ---- what one rule does

cases_row : (o : Option MemberRow) → (o ≡ None) ⊎ ((row : MemberRow) × (o ≡ Some row))
cases_row None = inl refl
cases_row (Some row) = inr (row, refl)

cases_moment : (o : Option ℕ) → (o ≡ None) ⊎ ((u : ℕ) × (o ≡ Some u))
cases_moment None = inl refl
cases_moment (Some u) = inr (u, refl)

-- a row that is on and has no end may get a later one
pub record MayEnd (at g s until : ℕ) (f : Lists) : Type 0 where
  pub row : MemberRow
  pub found : find (is_row g (Person s)) f.rows ≡ Some row
  pub since : row.from ≤ at
  pub free : row.until ≡ None
  pub later : at < until

found_begun : (at : ℕ) (found : Option MemberRow) (row : MemberRow) → begun at found ≡ Some row → (found ≡ Some row) × (row.from ≤ at)
found_begun at None row h = let clash : ⊥ = cc in absurd clash
found_begun at (Some x) row h = elim (cases_Bool (nat_le x.from at)) [
  | inl y ↦
      let e : Some x ≡ Some row = rw y at h in
      let from : x.from ≡ row.from = same_from e in
      let within : x.from ≤ at = leb-true x.from at y in
      (e, omega (arith, from, within))
  | inr n ↦ absurd (none (rw n at h))
]
  where
    same_from : Some x ≡ Some row → x.from ≡ row.from
    same_from k = cc

    none : None ≡ Some row → ⊥
    none k = cc

later_by : (at end until : ℕ) → (if nat_lt at end && nat_le end GREATEST_MOMENT then Some end else None) ≡ Some until → at < until
later_by at end until h = elim (cases_Bool (nat_lt at end && nat_le end GREATEST_MOMENT)) [
  | inl y ↦
      let same : end ≡ until = same_moment (rw y at h) in
      let w = and_parts (nat_lt at end) (nat_le end GREATEST_MOMENT) y in
      subst (λ (x : ℕ). at < x) same (ltb-true at end w.0)
  | inr n ↦ absurd (none (rw n at h))
]
  where
    same_moment : Some end ≡ Some until → end ≡ until
    same_moment k = cc

    none : None ≡ Some until → ⊥
    none k = cc

module _ (at : ℕ) (P : Lists → Type 0) where
  removal_keeps : (rule g s : ℕ) (f : Lists) → P (done (Removed rule g s) f) → P f → P (all_done (listed (removal rule g s (row_on at g s f))) f)
  removal_keeps rule g s f removed h = elim (cases_row (row_on at g s f)) [
    | inl none ↦ rw none h
    | inr row ↦ rw row.1 removed
  ]

  ending_keeps : (rule g s : ℕ) (later : Option ℕ) (f : Lists) → ((until : ℕ) → later ≡ Some until → at < until) → ((until : ℕ) → MayEnd at g s until f → P (done (Ended rule g s until) f)) → P f → P (all_done (listed (ending rule g s later (row_on at g s f))) f)
  ending_keeps rule g s later f past ends h = elim (cases_row (row_on at g s f)) [
    | inl none ↦ rw none h
    | inr row ↦ rw row.1 (elim (cases_moment row.0.until) [
      | inr u ↦ rw u.1 h
      | inl free ↦ rw free (elim (cases_moment later) [
        | inl none ↦ rw none h
        | inr until ↦
            let w = found_begun at (find (is_row g (Person s)) f.rows) row.0 row.1 in
            rw until.1 (ends until.0 (record { row = row.0; found = w.0; since = w.1; free = free; later = past until.0 until.1 }))
      ])
    ])
  ]

  -- what is so after the owner's row has gone and after it has got an end is so after what a rule does
  pub acting_keeps : (rule : ℕ) (form : RuleForm) (g s : ℕ) (f : Lists) → ((owner : ℕ) → owns owner form ≡ true → P (done (Removed rule owner s) f)) → ((owner until : ℕ) → owns owner form ≡ true → MayEnd at owner s until f → P (done (Ended rule owner s until) f))
      → P f → P (all_done (listed (action_of at rule form g s f)) f)
  acting_keeps rule (RemoveLost check owner) g s f removed ends h = elim (cases_Bool (check == g)) [
    | inl y ↦ rw y (removal_keeps rule owner s f (removed owner (eq-eqb owner owner refl)) h)
    | inr n ↦ rw n h
  ]
  acting_keeps rule (EndLost check owner days) g s f removed ends h = elim (cases_Bool (check == g)) [
    | inl y ↦ rw y (ending_keeps rule owner s (days_later at days) f (λ until e. later_by at (at + days * day_micros) until e) (λ until may. ends owner until (eq-eqb owner owner refl) may) h)
    | inr n ↦ rw n h
  ]
  acting_keeps rule (Veto owner condition) g s f removed ends h = h
  acting_keeps rule (OnCreate folder scope privilege holder) g s f removed ends h = h

-- ---- no row stands twice, and rows stay open

has_same : (g s until x : ℕ) (m : Member) (rows : List MemberRow) → has_row x m (map (with_end g s until) rows) ≡ has_row x m rows
has_same g s until x m [] = refl
has_same g s until x m (row ∷ rows) = elim (cases_Bool (is_row g (Person s) row)) [
  | inl y ↦ rw (y, has_same g s until x m rows) refl
  | inr n ↦ rw (n, has_same g s until x m rows) refl
]

once_ended : (g s until : ℕ) (rows : List MemberRow) → AreRowsOnce rows → AreRowsOnce (map (with_end g s until) rows)
once_ended g s until [] h = tt
once_ended g s until (row ∷ rows) h = elim (cases_Bool (is_row g (Person s) row)) [
  | inl y ↦ rw y (has_same g s until row.group row.member rows ∙ h.0, once_ended g s until rows h.1)
  | inr n ↦ rw n (has_same g s until row.group row.member rows ∙ h.0, once_ended g s until rows h.1)
]

open_filter : (at : ℕ) (test : MemberRow → Bool) (rows : List MemberRow) → AllByRecursion (IsOpen at) rows → AllByRecursion (IsOpen at) (filter test rows)
open_filter at test [] h = tt
open_filter at test (row ∷ rows) h = elim (cases_Bool (test row)) [
  | inl y ↦ rw y (h.0, open_filter at test rows h.1)
  | inr n ↦ rw n (open_filter at test rows h.1)
]

-- where no row is to get the end
open_rest : (at g s until : ℕ) (rows : List MemberRow) → has_row g (Person s) rows ≡ false → AllByRecursion (IsOpen at) rows → AllByRecursion (IsOpen at) (map (with_end g s until) rows)
open_rest at g s until [] none h = tt
open_rest at g s until (row ∷ rows) none h =
    let w = or_parts (is_row g (Person s) row) (has_row g (Person s) rows) none in
    rw w.0 (h.0, open_rest at g s until rows w.1 h.1)

open_ended : (at g s until : ℕ) (rows : List MemberRow) (row : MemberRow) → AreRowsOnce rows → find (is_row g (Person s)) rows ≡ Some row → row.from < until → at < until → AllByRecursion (IsOpen at) rows → AllByRecursion (IsOpen at) (map (with_end g s until) rows)
open_ended at g s until [] row once found from later h = tt
open_ended at g s until (x ∷ rows) row once found from later h = elim (cases_Bool (is_row g (Person s) x)) [
  | inl y ↦
      let w = row_is g (Person s) x.group x.member y in
      let begins : x.from ≡ row.from = same_from (rw y at found) in
      let gone : has_row g (Person s) rows ≡ false = rw (w.0, w.1) at once.0 in
      let before : x.from < until = omega (arith, begins, from) in
      rw y ((later, before), open_rest at g s until rows gone h.1)
  | inr n ↦ rw n (h.0, open_ended at g s until rows row once.1 (rw n at found) from later h.1)
]
  where
    same_from : Some x ≡ Some row → x.from ≡ row.from
    same_from k = cc

-- no row stands twice, and each ends later, if it ends, and after it begins
abbrev AreOpen : ℕ → Lists → Type 0
AreOpen at f = AreRowsOnce f.rows × AllByRecursion (IsOpen at) f.rows

no_condition : (rules : List RuleRow) → AllByRecursion (λ (rule : RuleRow). ⊤) rules
no_condition [] = tt
no_condition (rule ∷ rules) = (tt, no_condition rules)

removed_open : (at rule g s : ℕ) (f : Lists) → AreOpen at f → AreOpen at (done (Removed rule g s) f)
removed_open at rule g s f h =
    let stay = λ (row : MemberRow). not (is_row g (Person s) row) in
    (rows_once_filter stay f.rows h.0, open_filter at stay f.rows h.1)

ended_open : (at rule g s until : ℕ) (f : Lists) → MayEnd at g s until f → AreOpen at f → AreOpen at (done (Ended rule g s until) f)
ended_open at rule g s until f may h =
    let since = may.since in
    let later = may.later in
    (once_ended g s until f.rows h.0, open_ended at g s until f.rows may.row h.0 may.found (omega (arith, since, later)) may.later h.1)

act_open : (at : ℕ) (rule : RuleRow) (g s : ℕ) (f : Lists) → AreOpen at f → AreOpen at (all_done (acting at rule g s f) f)
act_open at rule g s f h = acting_keeps at (AreOpen at) rule.id rule.form g s f (λ owner owned. removed_open at rule.id owner s f h) (λ owner until owned may. ended_open at rule.id owner s until f may h) h

pub settle_open : (at : ℕ) (pairs : List (ℕ × ℕ)) (f : Lists) → AreRowsOnce f.rows → AllByRecursion (IsOpen at) f.rows → AllByRecursion (IsOpen at) (settle pairs at f).rows
settle_open at pairs f once opens = (settle_keeps at (AreOpen at) (λ (rule : RuleRow). ⊤) (λ x h. no_condition x.rules) (λ rule g s x r h. act_open at rule g s x h) pairs f (once, opens)).1

-- ---- rows on which no rule acts

-- the rows of a group and a member
abbrev pub only : ℕ → Member → List MemberRow → List MemberRow
only g m rows = filter (is_row g m) rows

-- rows of a group and a person are none of another group and member
abbrev AreApart : ℕ → Member → ℕ → ℕ → Type 0
AreApart g m owner s = (row : MemberRow) → is_row g m row ≡ true → is_row owner (Person s) row ≡ false

only_left : (g : ℕ) (m : Member) (owner s : ℕ) (rows : List MemberRow) → AreApart g m owner s → only g m (filter (λ (row : MemberRow). not (is_row owner (Person s) row)) rows) ≡ only g m rows
only_left g m owner s [] apart = refl
only_left g m owner s (row ∷ rows) apart = elim (cases_Bool (is_row g m row)) [
  | inl y ↦ rw (apart row y, y) (ap (λ rest. row ∷ rest) (only_left g m owner s rows apart))
  | inr n ↦ elim (cases_Bool (is_row owner (Person s) row)) [
    | inl t ↦ rw (t, n) (only_left g m owner s rows apart)
    | inr o ↦ rw (o, n) (only_left g m owner s rows apart)
  ]
]

only_ended : (g : ℕ) (m : Member) (owner s until : ℕ) (rows : List MemberRow) → AreApart g m owner s → only g m (map (with_end owner s until) rows) ≡ only g m rows
only_ended g m owner s until [] apart = refl
only_ended g m owner s until (row ∷ rows) apart = elim (cases_Bool (is_row g m row)) [
  | inl y ↦ rw (apart row y, y) (ap (λ rest. row ∷ rest) (only_ended g m owner s until rows apart))
  | inr n ↦ elim (cases_Bool (is_row owner (Person s) row)) [
    | inl t ↦ rw (t, n) (only_ended g m owner s until rows apart)
    | inr o ↦ rw (o, n) (only_ended g m owner s until rows apart)
  ]
]

-- a rule acts on none of the rows of a group and a member
abbrev IsElsewhere : ℕ → Member → RuleRow → Type 0
IsElsewhere g m rule = (owner s : ℕ) → owns owner rule.form ≡ true → AreApart g m owner s

other_kind : (x : Member) (h s : ℕ) → same_member x (Group h) ≡ true → same_member x (Person s) ≡ false
other_kind (Person p) h s e = let clash : ⊥ = cc in absurd clash
other_kind (Group k) h s e = refl

nested_apart : (g h owner s : ℕ) → AreApart g (Group h) owner s
nested_apart g h owner s row e =
    let w = and_parts (row.group == g) (same_member row.member (Group h)) e in
    rw (other_kind row.member h s w.1) (never (row.group == owner))
  where
    never : (b : Bool) → (b && false) ≡ false
    never true = refl
    never false = refl

group_apart : (g : ℕ) (m : Member) (owner s : ℕ) (form : RuleForm) → owns g form ≡ false → owns owner form ≡ true → AreApart g m owner s
group_apart g m owner s form free owned row e = elim (cases_Bool (is_row owner (Person s) row)) [
  | inr n ↦ n
  | inl y ↦
      let here = eqb-true row.group g (and_parts (row.group == g) (same_member row.member m) e).0 in
      let there = eqb-true row.group owner (and_parts (row.group == owner) (same_member row.member (Person s)) y).0 in
      let same : owner ≡ g = sym there ∙ here in
      absurd (both_ways (owns g form) free (subst (λ (x : ℕ). owns x form ≡ true) same owned))
]

rules_elsewhere : (g : ℕ) (m : Member) (rules : List RuleRow) → may_lose g m rules ≡ false → AllByRecursion (IsElsewhere g m) rules
rules_elsewhere g m [] h = tt
rules_elsewhere g (Group x) (rule ∷ rules) h = (λ owner s owned. nested_apart g x owner s, rules_elsewhere g (Group x) rules refl)
rules_elsewhere g (Person p) (rule ∷ rules) h =
    let w = or_parts (owns g rule.form) (may_lose g (Person p) rules) h in
    (λ owner s owned. group_apart g (Person p) owner s rule.form w.0 owned, rules_elsewhere g (Person p) rules w.1)

-- the rows of a group and a member are these, and no rule acts on them
abbrev AreOnly : ℕ → Member → List MemberRow → Lists → Type 0
AreOnly g m rows f = (only g m f.rows ≡ rows) × (may_lose g m f.rules ≡ false)

act_only : (at g : ℕ) (m : Member) (rows : List MemberRow) (rule : RuleRow) (x s : ℕ) (f : Lists) → IsElsewhere g m rule → AreOnly g m rows f → AreOnly g m rows (all_done (acting at rule x s f) f)
act_only at g m rows rule x s f elsewhere h = acting_keeps at (AreOnly g m rows) rule.id rule.form x s f
    (λ owner owned. (only_left g m owner s f.rows (elsewhere owner s owned) ∙ h.0, h.1))
    (λ owner until owned may. (only_ended g m owner s until f.rows (elsewhere owner s owned) ∙ h.0, h.1))
    h

pub settle_only : (at g : ℕ) (m : Member) (pairs : List (ℕ × ℕ)) (f : Lists) → may_lose g m f.rules ≡ false → only g m (settle pairs at f).rows ≡ only g m f.rows
settle_only at g m pairs f free = (settle_keeps at (AreOnly g m (only g m f.rows)) (IsElsewhere g m) (λ x h. rules_elsewhere g m x.rules h.1) (λ rule x s k elsewhere h. act_only at g m (only g m f.rows) rule x s k elsewhere h) pairs f (refl, free)).0
