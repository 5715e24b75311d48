-- Rules by their ids and by their keys.
use Rattle.std.proofs.Common.{◌≡◌, ◌≤◌, ◌<◌, ◌+◌, ◌++◌, ◌∙◌, ℕ, List, [], ◌∷◌, Bool, true, None, inl, inr, refl, ap, map, filter, arith}
use Rattle.std.specs.BTreeSet.{insert_key}
use Rattle.std.specs.List.{AllByRecursion}
use Rattle.std.specs.Ordering.{nat_cmp, ordering_then}
use Rattle.std.specs.declared.cmp.Ordering.{Ordering}
use Rattle.std.specs.declared.cmp.Ordering.TheVariants.{Less, Equal, Greater}
use Rattle.std.proofs.lemmas.Bool.{cases_Bool, eqb-true, ne_eqb}
use Rattle.std.proofs.lemmas.Bool.Decides.{nat_tests}
use Rattle.std.proofs.lemmas.Grind.{common_steps}
use Rattle.std.proofs.lemmas.Map.Keys.{sorted_tail, sorted_head}
use Rattle.reg_table.specs.Keyed.{in_order, put_into}
use Rattle.reg_terms.specs.Rules.{key_of, other_of, same_key}
use Rattle.reg_terms.specs.contracts.kinds.HolderOrd.TheImpl as holder_ord
use Rattle.reg_terms.specs.contracts.rules.RuleKeyOrd.TheImpl as key_ord
use Rattle.reg_terms.specs.contracts.rules.RuleKeyPartialEq.TheImpl as key_eq
use Rattle.reg_terms.specs.declared.rows.RuleRow.{RuleRow}
use Rattle.reg_terms.specs.declared.rules.RuleKey.{RuleKey}
use Rattle.reg_terms.specs.declared.rules.RuleKey.TheVariants.{Check, Owner, Folder}
use Rattle.reg_facts.specs.Ascending.{RulesAscend}
use Rattle.reg_facts.specs.Lists.{Lists}
use Rattle.reg_facts.specs.Ruled.{AreRuled}
use Rattle.reg_facts.specs.Rules.{rule_by, rules_at}
use Rattle.reg_facts.specs.Sound.{AscendFrom}
use Rattle.reg_facts.proofs.Edited.{ascend_push}
use Rattle.reg_facts.proofs.Noted.{ascend_top}
use Rattle.reg_facts.proofs.Searched.{ascending}

-- the ids of rules ascend, also with one of the next id
pub rules_ascend : (f : Lists) → AreRuled f → RulesAscend f.rules
rules_ascend f h = ascending 0 f.made.rules (map (λ (row : RuleRow). row.id) f.rules) h.ascend

pub next_ascends : (f : Lists) (row : RuleRow) → AreRuled f → row.id ≡ f.made.rules + 1 → RulesAscend (f.rules ++ row ∷ [])
next_ascends f row h next = ascending 0 (f.made.rules + 1) (map (λ (r : RuleRow). r.id) (f.rules ++ row ∷ [])) (ascend_push (λ (r : RuleRow). r.id) 0 f.made.rules f.rules row h.ascend next)

-- none has a later id than the last that was made
none_from : (floor top id : ℕ) (rows : List RuleRow) → AscendFrom floor top (map (λ (row : RuleRow). row.id) rows) → top < id → None ≡ rule_by id rows
none_from floor top id [] h past = refl
none_from floor top id (row ∷ rows) h past =
    let low = ascend_top row.id top (map (λ (r : RuleRow). r.id) rows) h.1 in
    rw (ne_eqb row.id id (λ e. absurd (omega (arith, e, low, past)))) (none_from row.id top id rows h.1 past)

pub none_past : (f : Lists) (id : ℕ) → AreRuled f → f.made.rules < id → None ≡ rule_by id f.rules
none_past f id h past = none_from 0 f.made.rules id f.rules h.ascend past

-- what is derived says what the words say
pub key_is : (a b : RuleKey) → key_eq.ghosts.eq a b ≡ same_key a b
key_is (Check a) (Check b) = refl
key_is (Check a) (Owner b) = refl
key_is (Check a) (Folder b) = refl
key_is (Owner a) (Check b) = refl
key_is (Owner a) (Owner b) = refl
key_is (Owner a) (Folder b) = refl
key_is (Folder a) (Check b) = refl
key_is (Folder a) (Owner b) = refl
key_is (Folder a) (Folder b) = refl

-- the order of the index: by key, and then by id
abbrev pub rule_order : RuleRow → RuleRow → Ordering
rule_order a b = ordering_then (key_ord.ghosts.cmp (key_of a.form) (key_of b.form)) (ordering_then (nat_cmp a.id b.id) (holder_ord.ghosts.cmp (other_of a.form) (other_of b.form)))

-- ---- rows that are in order stay as they are where they are put in order

abbrev pub Rising : {R : Type 0} → (R → R → Ordering) → List R → Type 0
Rising order [] = Unit {0}
Rising order (x ∷ xs) = AllByRecursion (λ y. order y x ≡ Greater) xs × Rising order xs

put_behind : {R : Type 0} (order : R → R → Ordering) (x : R) (found ys : List R) → AllByRecursion (λ y. order y x ≡ Greater) ys → put_into order (x ∷ found) ys ≡ x ∷ put_into order found ys
put_behind order x found [] h = refl
put_behind order x found (y ∷ ys) h = rw h.0 (put_behind order x (insert_key order found y) ys h.1)

pub rising_stays : {R : Type 0} (order : R → R → Ordering) (xs : List R) → Rising order xs → in_order order xs ≡ xs
rising_stays order [] h = refl
rising_stays order (x ∷ xs) h = put_behind order x [] xs h.0 ∙ ap (λ ys. x ∷ ys) (rising_stays order xs h.1)

-- ---- the rules of a key are in order

pub same_number : (n : ℕ) → nat_cmp n n ≡ Equal
same_number n = grind (arith, nat_tests, common_steps)

pub later : (a b : ℕ) → nat_cmp a b ≡ Less → nat_cmp b a ≡ Greater
later a b h = grind (arith, nat_tests, common_steps)

self_order : (k : RuleKey) → key_ord.ghosts.cmp k k ≡ Equal
self_order (Check a) = same_number a
self_order (Owner a) = same_number a
self_order (Folder a) = same_number a

key_same : (a b : RuleKey) → same_key a b ≡ true → a ≡ b
key_same (Check a) (Check b) h = ap (λ n. Check n) (eqb-true a b h)
key_same (Owner a) (Owner b) h = ap (λ n. Owner n) (eqb-true a b h)
key_same (Folder a) (Folder b) h = ap (λ n. Folder n) (eqb-true a b h)
key_same _ _ h = cc

-- two rules of one key, of which one has a later id
order_later : (k : RuleKey) (x y : RuleRow) → key_of x.form ≡ k → key_of y.form ≡ k → nat_cmp x.id y.id ≡ Less → rule_order y x ≡ Greater
order_later k x y a b h = rw (a, b, self_order k, later x.id y.id h) refl

all_later : (k : RuleKey) (x : RuleRow) (ys : List RuleRow) → key_of x.form ≡ k → AllByRecursion (λ n. nat_cmp x.id n ≡ Less) (map (λ (row : RuleRow). row.id) ys) → AllByRecursion (λ y. rule_order y x ≡ Greater) (rules_at k ys)
all_later k x [] a h = tt
all_later k x (y ∷ ys) a h = elim (cases_Bool (same_key (key_of y.form) k)) [
  | inl t ↦ rw t (order_later k x y a (key_same (key_of y.form) k t) h.0, all_later k x ys a h.1)
  | inr t ↦ rw t (all_later k x ys a h.1)
]

rules_rise : (k : RuleKey) (rows : List RuleRow) → RulesAscend rows → Rising rule_order (rules_at k rows)
rules_rise k [] h = tt
rules_rise k (row ∷ rows) h =
    let rest = rules_rise k rows (sorted_tail nat_cmp row.id (map (λ (r : RuleRow). r.id) rows) h) in
    elim (cases_Bool (same_key (key_of row.form) k)) [
      | inl t ↦ rw t (all_later k row rows (key_same (key_of row.form) k t) (sorted_head nat_cmp row.id (map (λ (r : RuleRow). r.id) rows) h), rest)
      | inr t ↦ rw t rest
    ]

-- the index lists them by id
keyed : (k : RuleKey) (rows : List RuleRow) → filter (λ (row : RuleRow). key_eq.ghosts.eq (key_of row.form) k) rows ≡ rules_at k rows
keyed k rows = ap (λ (test : RuleRow → Bool). filter test rows) (λ i row. key_is (key_of row.form) k i)

pub listed_by_id : (k : RuleKey) (rows : List RuleRow) → RulesAscend rows → in_order rule_order (filter (λ (row : RuleRow). key_eq.ghosts.eq (key_of row.form) k) rows) ≡ rules_at k rows
listed_by_id k rows h = ap (λ (xs : List RuleRow). in_order rule_order xs) (keyed k rows) ∙ rising_stays rule_order (rules_at k rows) (rules_rise k rows h)
