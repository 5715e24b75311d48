-- Rules by the keys of their table, and in words.
use Rattle.std.proofs.Common.{◌≡◌, ◌==◌, ◌||◌, ◌+◌, ◌++◌, ◌∙◌, ℕ, List, [], ◌∷◌, Bool, true, false, not, Some, None, inl, inr, refl, sym, ap, subst, map, filter, arith}
use Rattle.std.specs.Prelude.{◌&&◌}
use Rattle.std.specs.List.{AllByRecursion, list_any}
use Rattle.std.specs.List.Sorted.{IsStrictlySortedBy}
use Rattle.std.specs.Ordering.{nat_cmp}
use Rattle.std.specs.declared.cmp.Ordering.TheVariants.{Less}
use Rattle.std.proofs.lemmas.Bool.{cases_Bool, eqb-true, eq-eqb}
use Rattle.std.proofs.lemmas.Bool.Decides.{nat_tests}
use Rattle.std.proofs.lemmas.Grind.{common_steps}
use Rattle.std.proofs.lemmas.Map.Keys.{sorted_tail, sorted_head}
use Rattle.reg_terms.specs.Kinds.{same_holder, same_scope}
use Rattle.reg_terms.specs.Privileges.{code}
use Rattle.reg_terms.specs.Rules.{key_of, other_of, same_form, same_key}
use Rattle.reg_terms.specs.contracts.kinds.HolderPartialEq.TheImpl as holder_eq
use Rattle.reg_terms.specs.contracts.rules.RuleKeyPartialEq.TheImpl as key_eq
use Rattle.reg_terms.specs.declared.kinds.Holder.{Holder}
use Rattle.reg_terms.specs.declared.kinds.Holder.TheVariants as holder
use Rattle.reg_terms.specs.declared.kinds.RuleForm.{RuleForm}
use Rattle.reg_terms.specs.declared.kinds.RuleForm.TheVariants.{RemoveLost, EndLost, Veto, OnCreate}
use Rattle.reg_terms.specs.declared.kinds.Scope.TheVariants.{One, Sub}
use Rattle.reg_terms.specs.declared.rows.RuleRow.{RuleRow}
use Rattle.reg_terms.specs.declared.rules.RuleKey.{RuleKey}
use Rattle.reg_terms.specs.declared.rules.RuleKey.TheVariants.{Check, Owner, Folder}
use Rattle.reg_facts.specs.Ascending.{RulesAscend}
use Rattle.reg_facts.specs.Rules.{rule_by, has_rule, is_ruled}
use Rattle.reg_facts.specs.Ruling.{says_of, by_form}
use Rattle.reg_facts.specs.contracts.rule_forms.MannerPartialEq.TheImpl as manner_eq
use Rattle.reg_facts.specs.declared.rule_forms.ByForm.{ByForm}
use Rattle.reg_facts.specs.declared.rule_forms.Manner.{Manner}
use Rattle.reg_facts.proofs.GrantKeys.{holder_is, scope_is}
use Rattle.reg_facts.proofs.RowsById.{any_seen, filter_seen}

-- what is derived says what the words say
abbrev pub is_said : Manner × RuleKey × Holder → Manner × RuleKey × Holder → Bool
is_said says other = (manner_eq.ghosts.eq other.0 says.0 && key_eq.ghosts.eq other.1 says.1) && holder_eq.ghosts.eq other.2 says.2

self_holder : (h : Holder) → holder_eq.ghosts.eq h h ≡ true
self_holder holder.Everyone = refl
self_holder (holder.Person a) = eq-eqb a a refl
self_holder (holder.Group a) = eq-eqb a a refl

said_is : (form other : RuleForm) → is_said (says_of form) (says_of other) ≡ same_form other form
said_is (RemoveLost a b) (RemoveLost c d) = refl
said_is (RemoveLost a b) (EndLost c d n) = refl
said_is (RemoveLost a b) (Veto c d) = refl
said_is (RemoveLost a b) (OnCreate c t q k) = refl
said_is (EndLost a b m) (RemoveLost c d) = refl
said_is (EndLost a b m) (EndLost c d n) = regrouped (n == m) (c == a) (d == b)
  where
    regrouped : (x y z : Bool) → ((x && y) && z) ≡ (y && (z && x))
    regrouped true true true = refl
    regrouped true true false = refl
    regrouped true false z = refl
    regrouped false true true = refl
    regrouped false true false = refl
    regrouped false false z = refl
said_is (EndLost a b m) (Veto c d) = refl
said_is (EndLost a b m) (OnCreate c t q k) = refl
said_is (Veto a b) (RemoveLost c d) = refl
said_is (Veto a b) (EndLost c d n) = refl
said_is (Veto a b) (Veto c d) = refl
said_is (Veto a b) (OnCreate c t q k) = refl
said_is (OnCreate a s p h) (RemoveLost c d) = refl
said_is (OnCreate a s p h) (EndLost c d n) = refl
said_is (OnCreate a s p h) (Veto c d) = refl
said_is (OnCreate a s p h) (OnCreate c t q k) = rw (scope_is t s, holder_is k h) (regrouped (same_scope t s) (code q == code p) (c == a) (same_holder k h))
  where
    regrouped : (w x y z : Bool) → (((w && x) && y) && z) ≡ (y && (w && (x && z)))
    regrouped true true true z = refl
    regrouped true true false z = refl
    regrouped true false true z = refl
    regrouped true false false z = refl
    regrouped false x true z = refl
    regrouped false x false z = refl

pub said_any : (form : RuleForm) (rows : List RuleRow) → list_any (λ (rule : ByForm). is_said (says_of form) rule.says) (map by_form rows) ≡ has_rule form rows
said_any form rows = any_seen by_form (λ (rule : ByForm). is_said (says_of form) rule.says) rows ∙ ap (λ (test : RuleRow → Bool). list_any test rows) (λ i row. said_is form row.form i)

-- a rule's key in the table is another's
abbrev pub is_rule_key : RuleRow → RuleRow → Bool
is_rule_key row other = key_eq.ghosts.eq (key_of other.form) (key_of row.form) && ((other.id == row.id) && holder_eq.ghosts.eq (other_of other.form) (other_of row.form))

-- and among the forms
abbrev pub is_form_key : ByForm → ByForm → Bool
is_form_key rule other = is_said rule.says other.says && (other.id == rule.id)

-- where the id differs, so does the key
rule_apart : (row other : RuleRow) → (other.id == row.id) ≡ false → is_rule_key row other ≡ false
rule_apart row other h = apart (key_eq.ghosts.eq (key_of other.form) (key_of row.form)) (other.id == row.id) (holder_eq.ghosts.eq (other_of other.form) (other_of row.form)) h
  where
    apart : (a b c : Bool) → b ≡ false → (a && (b && c)) ≡ false
    apart true false c h = refl
    apart true true c h = cc
    apart false b c h = refl

form_apart : (row other : RuleRow) → (other.id == row.id) ≡ false → is_form_key (by_form row) (by_form other) ≡ false
form_apart row other h = apart (is_said (says_of row.form) (says_of other.form)) (other.id == row.id) h
  where
    apart : (a b : Bool) → b ≡ false → (a && b) ≡ false
    apart true b h = h
    apart false b h = refl

-- one of the next id isn't there yet
behind : (rows : List RuleRow) (row : RuleRow) → IsStrictlySortedBy nat_cmp (map (λ (r : RuleRow). r.id) (rows ++ row ∷ [])) → AllByRecursion (λ (r : RuleRow). (r.id == row.id) ≡ false) rows
behind [] row up = tt
behind (r ∷ rows) row up = (apart rows (sorted_head nat_cmp r.id (map (λ (x : RuleRow). x.id) (rows ++ row ∷ [])) up), behind rows row (sorted_tail nat_cmp r.id (map (λ (x : RuleRow). x.id) (rows ++ row ∷ [])) up))
  where
    below : (a b : ℕ) → nat_cmp a b ≡ Less → (a == b) ≡ false
    below a b h = grind (arith, nat_tests, common_steps)

    apart : (xs : List RuleRow) → AllByRecursion (λ n. nat_cmp r.id n ≡ Less) (map (λ (x : RuleRow). x.id) (xs ++ row ∷ [])) → (r.id == row.id) ≡ false
    apart [] h = below r.id row.id h.0
    apart (x ∷ xs) h = apart xs h.1

none_among : (test : RuleRow → Bool) (rows : List RuleRow) (row : RuleRow) → ((other : RuleRow) → (other.id == row.id) ≡ false → test other ≡ false) → RulesAscend (rows ++ row ∷ []) → list_any test rows ≡ false
none_among test rows row miss up = go rows (behind rows row up)
  where
    go : (xs : List RuleRow) → AllByRecursion (λ (r : RuleRow). (r.id == row.id) ≡ false) xs → list_any test xs ≡ false
    go [] h = refl
    go (x ∷ xs) h = rw (miss x h.0) (go xs h.1)

pub none_like : (rows : List RuleRow) (row : RuleRow) → RulesAscend (rows ++ row ∷ []) → list_any (is_rule_key row) rows ≡ false
none_like rows row up = none_among (is_rule_key row) rows row (rule_apart row) up

pub none_formed : (rows : List RuleRow) (row : RuleRow) → RulesAscend (rows ++ row ∷ []) → list_any (is_form_key (by_form row)) (map by_form rows) ≡ false
none_formed rows row up = any_seen by_form (is_form_key (by_form row)) rows ∙ none_among (λ (other : RuleRow). is_form_key (by_form row) (by_form other)) rows row (form_apart row) up

-- whether one of three tests passes somewhere
any_three : (p q r : RuleRow → Bool) (rows : List RuleRow) → list_any (λ row. p row || (q row || r row)) rows ≡ (list_any p rows || (list_any q rows || list_any r rows))
any_three p q r [] = refl
any_three p q r (row ∷ rows) = ap (λ b. (p row || (q row || r row)) || b) (any_three p q r rows) ∙ regroup (p row) (q row) (r row) (list_any p rows) (list_any q rows) (list_any r rows)
  where
    regroup : (a b c d e f : Bool) → ((a || (b || c)) || (d || (e || f))) ≡ ((a || d) || ((b || e) || (c || f)))
    regroup true b c d e f = refl
    regroup false true c true e f = refl
    regroup false true c false e f = refl
    regroup false false true true e f = refl
    regroup false false true false true f = refl
    regroup false false true false false f = refl
    regroup false false false true e f = refl
    regroup false false false false e f = refl

grouped : (a b c : Bool) → (a || (b || c)) ≡ ((a || b) || c)
grouped true b c = refl
grouped false b c = refl

pub ruled_is : (g : ℕ) (rows : List RuleRow) → is_ruled g rows ≡ ((list_any (λ (row : RuleRow). same_key (key_of row.form) (Check g)) rows || list_any (λ (row : RuleRow). same_key (key_of row.form) (Owner g)) rows) || list_any (λ (row : RuleRow). same_holder (other_of row.form) (holder.Group g)) rows)
ruled_is g rows =
    any_three (λ (row : RuleRow). same_key (key_of row.form) (Check g)) (λ (row : RuleRow). same_key (key_of row.form) (Owner g)) (λ (row : RuleRow). same_holder (other_of row.form) (holder.Group g)) rows
    ∙ grouped (list_any (λ (row : RuleRow). same_key (key_of row.form) (Check g)) rows) (list_any (λ (row : RuleRow). same_key (key_of row.form) (Owner g)) rows) (list_any (λ (row : RuleRow). same_holder (other_of row.form) (holder.Group g)) rows)

-- ---- a rule less

-- the row of this id, where it stands, is the only one that passes a test
less_by : (test : RuleRow → Bool) (rows : List RuleRow) (row : RuleRow) → test row ≡ true → ((other : RuleRow) → (other.id == row.id) ≡ false → test other ≡ false) → RulesAscend rows → rule_by row.id rows ≡ Some row → filter (λ (other : RuleRow). not (test other)) rows ≡ filter (λ (other : RuleRow). not (other.id == row.id)) rows
less_by test [] row hit miss up found = refl
less_by test (r ∷ rows) row hit miss up found = elim (cases_Bool (r.id == row.id)) [
  | inl t ↦
      let same : r ≡ row = (let at : Some r ≡ Some row = rw t at found in cc) in
      rw (ap test same ∙ hit, t) (others rows (subst (λ n. AllByRecursion (λ k. nat_cmp n k ≡ Less) (map (λ (x : RuleRow). x.id) rows)) (eqb-true r.id row.id t) (sorted_head nat_cmp r.id (map (λ (x : RuleRow). x.id) rows) up)))
  | inr t ↦ rw (miss r t, t) (ap (λ xs. r ∷ xs) (less_by test rows row hit miss (sorted_tail nat_cmp r.id (map (λ (x : RuleRow). x.id) rows) up) (rw t at found)))
]
  where
    above : (n k : ℕ) → nat_cmp n k ≡ Less → (k == n) ≡ false
    above n k h = grind (arith, nat_tests, common_steps)

    others : (xs : List RuleRow) → AllByRecursion (λ n. nat_cmp row.id n ≡ Less) (map (λ (x : RuleRow). x.id) xs) → filter (λ (other : RuleRow). not (test other)) xs ≡ filter (λ (other : RuleRow). not (other.id == row.id)) xs
    others [] h = refl
    others (x ∷ xs) h = rw (miss x (above row.id x.id h.0), above row.id x.id h.0) (ap (λ ys. x ∷ ys) (others xs h.1))

rule_there : (row : RuleRow) → is_rule_key row row ≡ true
rule_there row = rw (self_key (key_of row.form), eq-eqb row.id row.id refl, self_holder (other_of row.form)) refl
  where
    self_key : (k : RuleKey) → key_eq.ghosts.eq k k ≡ true
    self_key (Check a) = eq-eqb a a refl
    self_key (Owner a) = eq-eqb a a refl
    self_key (Folder a) = eq-eqb a a refl

form_there : (row : RuleRow) → is_form_key (by_form row) (by_form row) ≡ true
form_there row = rw (said_is row.form row.form ∙ self_form row.form, eq-eqb row.id row.id refl) refl
  where
    self_form : (form : RuleForm) → same_form form form ≡ true
    self_form (RemoveLost a b) = rw (eq-eqb a a refl, eq-eqb b b refl) refl
    self_form (EndLost a b n) = rw (eq-eqb a a refl, eq-eqb b b refl, eq-eqb n n refl) refl
    self_form (Veto a b) = rw (eq-eqb a a refl, eq-eqb b b refl) refl
    self_form (OnCreate d One p h) = rw (eq-eqb d d refl, eq-eqb (code p) (code p) refl, sym (holder_is h h) ∙ self_holder h) refl
    self_form (OnCreate d Sub p h) = rw (eq-eqb d d refl, eq-eqb (code p) (code p) refl, sym (holder_is h h) ∙ self_holder h) refl

pub found_id : (rows : List RuleRow) (row : RuleRow) (id : ℕ) → rule_by id rows ≡ Some row → row.id ≡ id
found_id [] row id h = cc
found_id (x ∷ xs) row id h = elim (cases_Bool (x.id == id)) [
  | inl t ↦ (let at : Some x ≡ Some row = rw t at h in let same : x ≡ row = cc in ap (λ (r : RuleRow). r.id) (sym same) ∙ eqb-true x.id id t)
  | inr t ↦ found_id xs row id (rw t at h)
]

taken_by : (test : RuleRow → Bool) (rows : List RuleRow) (row : RuleRow) (id : ℕ) → test row ≡ true → ((other : RuleRow) → (other.id == row.id) ≡ false → test other ≡ false) → RulesAscend rows → rule_by id rows ≡ Some row → filter (λ (other : RuleRow). not (test other)) rows ≡ filter (λ (other : RuleRow). not (other.id == id)) rows
taken_by test rows row id hit miss up found =
    let same = found_id rows row id found in
    less_by test rows row hit miss up (subst (λ n. rule_by n rows ≡ Some row) (sym same) found) ∙ ap (λ n. filter (λ (other : RuleRow). not (other.id == n)) rows) same

pub taken_by_key : (rows : List RuleRow) (row : RuleRow) (id : ℕ) → RulesAscend rows → rule_by id rows ≡ Some row → filter (λ (other : RuleRow). not (is_rule_key row other)) rows ≡ filter (λ (other : RuleRow). not (other.id == id)) rows
taken_by_key rows row id up found = taken_by (is_rule_key row) rows row id (rule_there row) (rule_apart row) up found

pub taken_by_form : (rows : List RuleRow) (row : RuleRow) (id : ℕ) → RulesAscend rows → rule_by id rows ≡ Some row → filter (λ (other : ByForm). not (is_form_key (by_form row) other)) (map by_form rows) ≡ map by_form (filter (λ (other : RuleRow). not (other.id == id)) rows)
taken_by_form rows row id up found =
    filter_seen by_form (λ (other : ByForm). not (is_form_key (by_form row) other)) rows
    ∙ ap (λ (xs : List RuleRow). map by_form xs) (taken_by (λ (other : RuleRow). is_form_key (by_form row) (by_form other)) rows row id (form_there row) (form_apart row) up found)

pub none_taken : (rows : List RuleRow) (id : ℕ) → rule_by id rows ≡ None → filter (λ (other : RuleRow). not (other.id == id)) rows ≡ rows
none_taken [] id h = refl
none_taken (x ∷ xs) id h = elim (cases_Bool (x.id == id)) [
  | inl t ↦ absurd (let at : Some x ≡ None = rw t at h in let clash : ⊥ = cc in clash)
  | inr t ↦ rw t (ap (λ ys. x ∷ ys) (none_taken xs id (rw t at h)))
]

-- some rules less ascend still
pub less_ascends : (test : RuleRow → Bool) (rows : List RuleRow) → RulesAscend rows → RulesAscend (filter test rows)
unfolding IsStrictlySortedBy
less_ascends test [] h = h
less_ascends test (r ∷ rows) h = elim (cases_Bool (test r)) [
  | inl t ↦ rw t (all_less rows h.0, less_ascends test rows h.1)
  | inr t ↦ rw t (less_ascends test rows h.1)
]
  where
    all_less : (xs : List RuleRow) → AllByRecursion (λ n. nat_cmp r.id n ≡ Less) (map (λ (x : RuleRow). x.id) xs) → AllByRecursion (λ n. nat_cmp r.id n ≡ Less) (map (λ (x : RuleRow). x.id) (filter test xs))
    all_less [] a = tt
    all_less (x ∷ xs) a = elim (cases_Bool (test x)) [
      | inl t ↦ rw t (a.0, all_less xs a.1)
      | inr t ↦ rw t (all_less xs a.1)
    ]
