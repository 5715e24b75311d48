-- The grants that rules make on a new group, gathered folder by folder, are those of all rules by id.
use Rattle.std.proofs.Common.{◌≡◌, ◌==◌, ◌+◌, ◌++◌, ◌∙◌, ℕ, zero, suc, List, [], ◌∷◌, Bool, true, false, Option, Some, None, refl, sym, ap, map, length, append_assoc, inl, inr, arith}
use Rattle.std.specs.Prelude.{◌&&◌, ◌||◌, if◌then◌else◌, option_map, filter_map}
use Rattle.std.specs.BTreeMap.{insert_entry}
use Rattle.std.specs.List.{AllByRecursion, cons_option}
use Rattle.std.specs.Map.{values_of}
use Rattle.std.specs.Ordering.{nat_cmp}
use Rattle.std.specs.declared.cmp.Ordering.TheVariants.{Less, Equal, Greater}
use Rattle.std.proofs.lemmas.Bool.{cases_Bool}
use Rattle.std.proofs.lemmas.Bool.Decides.{nat_tests}
use Rattle.std.proofs.lemmas.Grind.{common_steps}
use Rattle.std.proofs.lemmas.List.{append-nil}
use Rattle.std.proofs.lemmas.Map.Keys.{sorted_tail, sorted_head}
use Rattle.reg_terms.specs.Kinds.{same_scope}
use Rattle.reg_terms.specs.Rules.{key_of, same_key}
use Rattle.reg_terms.specs.declared.kinds.RuleForm.{RuleForm}
use Rattle.reg_terms.specs.declared.kinds.RuleForm.TheVariants.{RemoveLost, EndLost, Veto, OnCreate}
use Rattle.reg_terms.specs.declared.kinds.Scope.TheVariants.{One, Sub}
use Rattle.reg_terms.specs.declared.rows.FolderRow.{FolderRow}
use Rattle.reg_terms.specs.declared.rows.GrantRow.{GrantRow}
use Rattle.reg_terms.specs.declared.rows.RuleRow.{RuleRow}
use Rattle.reg_terms.specs.declared.rules.RuleKey.TheVariants.{Folder}
use Rattle.reg_facts.specs.Ascending.{RulesAscend}
use Rattle.reg_facts.specs.Grants.{has_grant}
use Rattle.reg_facts.specs.Naming.{parent_of, lies_in, most_levels}
use Rattle.reg_facts.specs.Rules.{rules_at, in_scope, creation_grant, creation_grants, not_yet}
use Rattle.reg_facts.specs.Ruling.{grant_made, entry_made, put_all}
use Rattle.reg_facts.proofs.RulesStand.{number_turned}

-- ---- the grants of the rules that pass a test, beside their ids

abbrev picked : ℕ → (RuleForm → Bool) → RuleRow → Option (ℕ × GrantRow)
picked g test row = option_map (λ grant. (row.id, grant)) (if test row.form then grant_made g true row.form else None)

abbrev made : ℕ → (RuleForm → Bool) → List RuleRow → List (ℕ × GrantRow)
made g test rules = filter_map (picked g test) rules

-- ids above a floor
abbrev Above : ℕ → List (ℕ × GrantRow) → Type 0
Above n es = AllByRecursion (λ (e : ℕ × GrantRow). nat_cmp n e.0 ≡ Less) es

one_above : (n id : ℕ) (o : Option GrantRow) (es : List (ℕ × GrantRow)) → nat_cmp n id ≡ Less → Above n es → Above n (cons_option (option_map (λ grant. (id, grant)) o) es)
one_above n id None es here h = h
one_above n id (Some grant) es here h = (here, h)

made_above : (g n : ℕ) (test : RuleForm → Bool) (rules : List RuleRow) → AllByRecursion (λ k. nat_cmp n k ≡ Less) (map (λ (row : RuleRow). row.id) rules) → Above n (made g test rules)
made_above g n test [] h = tt
made_above g n test (row ∷ rules) h = one_above n row.id (if test row.form then grant_made g true row.form else None) (made g test rules) h.0 (made_above g n test rules h.1)

-- ---- two such lists put together

later : (a b : ℕ) → nat_cmp a b ≡ Less → nat_cmp b a ≡ Greater
later a b h = grind (arith, nat_tests, common_steps)

same_number : (n : ℕ) → nat_cmp n n ≡ Equal
same_number n = grind (arith, nat_tests, common_steps)

put_front : (n : ℕ) (x : GrantRow) (es : List (ℕ × GrantRow)) → Above n es → insert_entry nat_cmp es n x ≡ (n, x) ∷ es
put_front n x [] h = refl
put_front n x (e ∷ es) h = rw h.0 refl

put_behind : (n : ℕ) (x : GrantRow) (found es : List (ℕ × GrantRow)) → Above n es → put_all ((n, x) ∷ found) es ≡ (n, x) ∷ put_all found es
put_behind n x found [] h = refl
put_behind n x found (e ∷ es) h = rw (later n e.0 h.0) (put_behind n x (insert_entry nat_cmp found e.0 e.1) es h.1)

put_same : (n : ℕ) (x : GrantRow) (es : List (ℕ × GrantRow)) → insert_entry nat_cmp ((n, x) ∷ es) n x ≡ (n, x) ∷ es
put_same n x es = rw (same_number n) refl

joined : (n : ℕ) (a b : Bool) (o : Option GrantRow) (xs ys zs : List (ℕ × GrantRow)) → Above n xs → Above n ys → put_all xs ys ≡ zs
    → put_all (cons_option (option_map (λ grant. (n, grant)) (if a then o else None)) xs) (cons_option (option_map (λ grant. (n, grant)) (if b then o else None)) ys)
    ≡ cons_option (option_map (λ grant. (n, grant)) (if a || b then o else None)) zs
joined n true true None xs ys zs x y h = h
joined n true false None xs ys zs x y h = h
joined n false true None xs ys zs x y h = h
joined n false false None xs ys zs x y h = h
joined n true true (Some grant) xs ys zs x y h = ap (λ es. put_all es ys) (put_same n grant xs) ∙ (put_behind n grant xs ys y ∙ ap (λ es. (n, grant) ∷ es) h)
joined n true false (Some grant) xs ys zs x y h = put_behind n grant xs ys y ∙ ap (λ es. (n, grant) ∷ es) h
joined n false true (Some grant) xs ys zs x y h = ap (λ es. put_all es ys) (put_front n grant xs x) ∙ (put_behind n grant xs ys y ∙ ap (λ es. (n, grant) ∷ es) h)
joined n false false (Some grant) xs ys zs x y h = h

put_made : (g : ℕ) (p q : RuleForm → Bool) (rules : List RuleRow) → RulesAscend rules → put_all (made g p rules) (made g q rules) ≡ made g (λ form. p form || q form) rules
put_made g p q [] up = refl
put_made g p q (row ∷ rules) up =
    let head = sorted_head nat_cmp row.id (map (λ (r : RuleRow). r.id) rules) up in
    joined row.id (p row.form) (q row.form) (grant_made g true row.form) (made g p rules) (made g q rules) (made g (λ form. p form || q form) rules)
    (made_above g row.id p rules head) (made_above g row.id q rules head) (put_made g p q rules (sorted_tail nat_cmp row.id (map (λ (r : RuleRow). r.id) rules) up))

none_made : (g : ℕ) (rules : List RuleRow) → [] ≡ made g (λ form. false) rules
none_made g [] = refl
none_made g (row ∷ rules) = none_made g rules

-- tests that agree pick the same
made_alike : (g : ℕ) (p q : RuleForm → Bool) (rules : List RuleRow) → ((form : RuleForm) → p form ≡ q form) → made g p rules ≡ made g q rules
made_alike g p q rules same = ap (λ (test : RuleForm → Bool). made g test rules) (λ i form. same form i)

-- ---- the rules on one folder

abbrev stands_at : ℕ → Bool → RuleForm → Bool
stands_at d home (OnCreate x s p h) = (x == d) && (home || same_scope s Sub)
stands_at d home (RemoveLost check owner) = false
stands_at d home (EndLost check owner days) = false
stands_at d home (Veto owner condition) = false

here : (g d : ℕ) (home : Bool) (form : RuleForm) → same_key (key_of form) (Folder d) ≡ true → grant_made g home form ≡ (if stands_at d home form then grant_made g true form else None)
here g d home (OnCreate x s p h) t = rw t refl
here g d home (RemoveLost check owner) t = refl
here g d home (EndLost check owner days) t = refl
here g d home (Veto owner condition) t = refl

elsewhere : (g d : ℕ) (home : Bool) (form : RuleForm) → same_key (key_of form) (Folder d) ≡ false → None ≡ (if stands_at d home form then grant_made g true form else None)
elsewhere g d home (OnCreate x s p h) t = rw t refl
elsewhere g d home (RemoveLost check owner) t = refl
elsewhere g d home (EndLost check owner days) t = refl
elsewhere g d home (Veto owner condition) t = refl

on_folder : (g d : ℕ) (home : Bool) (rules : List RuleRow) → filter_map (entry_made g home) (rules_at (Folder d) rules) ≡ made g (stands_at d home) rules
on_folder g d home [] = refl
on_folder g d home (row ∷ rules) = elim (cases_Bool (same_key (key_of row.form) (Folder d))) [
  | inl t ↦ rw t (ap (λ o. cons_option (option_map (λ grant. (row.id, grant)) o) (filter_map (entry_made g home) (rules_at (Folder d) rules))) (here g d home row.form t)
      ∙ ap (λ es. cons_option (picked g (stands_at d home) row) es) (on_folder g d home rules))
  | inr t ↦ rw t (on_folder g d home rules
      ∙ ap (λ o. cons_option (option_map (λ grant. (row.id, grant)) o) (made g (stands_at d home) rules)) (elsewhere g d home row.form t))
]

-- ---- folder by folder

-- whether a folder is one of those from a folder on upwards, by so many levels at most
abbrev climbs : ℕ → Option ℕ → ℕ → List FolderRow → Bool
climbs zero at d fs = false
climbs (suc n) None d fs = false
climbs (suc n) (Some x) d fs = (x == d) || climbs n (parent_of x fs) d fs

lies_or : (n home d : ℕ) (fs : List FolderRow) → lies_in n home d fs ≡ ((home == d) || climbs n (parent_of home fs) d fs)
unfolding lies_in
lies_or zero home d fs = sym (or_false (home == d))
  where
    or_false : (b : Bool) → (b || false) ≡ b
    or_false true = refl
    or_false false = refl
lies_or (suc n) home d fs = ap (λ b. (home == d) || b) (go (λ p. lies_or n p d fs) (parent_of home fs))
  where
    go : ((p : ℕ) → lies_in n p d fs ≡ ((p == d) || climbs n (parent_of p fs) d fs)) → (up : Option ℕ) → (elim up [ None ↦ false | Some p ↦ lies_in n p d fs ]) ≡ climbs (suc n) up d fs
    go below None = refl
    go below (Some p) = below p

-- whether a rule counts for a new group in a folder, and for those on the folders that are left
abbrev counts : ℕ → List FolderRow → RuleForm → Bool
counts home fs (OnCreate d s p h) = in_scope home d s fs
counts home fs (RemoveLost check owner) = false
counts home fs (EndLost check owner days) = false
counts home fs (Veto owner condition) = false

abbrev reaches : ℕ → Option ℕ → List FolderRow → RuleForm → Bool
reaches n above fs (OnCreate d s p h) = same_scope s Sub && climbs n above d fs
reaches n above fs (RemoveLost check owner) = false
reaches n above fs (EndLost check owner days) = false
reaches n above fs (Veto owner condition) = false

-- what was gathered so far, and with the folders that are left all rules that count
pub record Gathered (g home : ℕ) (fs : List FolderRow) (rules : List RuleRow) (left : ℕ) (above : Option ℕ) (found : List (ℕ × GrantRow)) : Type 0 where
  pub taken : RuleForm → Bool
  pub found_is : found ≡ made g taken rules
  pub rest : (form : RuleForm) → (taken form || reaches left above fs form) ≡ counts home fs form

-- the folder itself is first
first_counts : (home : ℕ) (fs : List FolderRow) (form : RuleForm) → ((false || stands_at home true form) || reaches most_levels (parent_of home fs) fs form) ≡ counts home fs form
first_counts home fs (OnCreate d One p h) = one (d == home) ∙ number_turned d home
  where
    one : (b : Bool) → ((b && true) || false) ≡ b
    one true = refl
    one false = refl
first_counts home fs (OnCreate d Sub p h) = sub (d == home) (climbs most_levels (parent_of home fs) d fs) ∙ (ap (λ b. b || climbs most_levels (parent_of home fs) d fs) (number_turned d home) ∙ sym (lies_or most_levels home d fs))
  where
    sub : (a b : Bool) → ((a && true) || b) ≡ (a || b)
    sub true b = refl
    sub false b = refl
first_counts home fs (RemoveLost check owner) = refl
first_counts home fs (EndLost check owner days) = refl
first_counts home fs (Veto owner condition) = refl

pub gathered_first : (g home : ℕ) (fs : List FolderRow) (rules : List RuleRow) (found new : List (ℕ × GrantRow)) → RulesAscend rules → found ≡ [] → new ≡ put_all found (filter_map (entry_made g true) (rules_at (Folder home) rules)) → Gathered g home fs rules most_levels (parent_of home fs) new
gathered_first g home fs rules found new up none is = record {
  taken = λ form. false || stands_at home true form;
  found_is = is ∙ (ap (λ es. put_all es (filter_map (entry_made g true) (rules_at (Folder home) rules))) (none ∙ none_made g rules)
      ∙ (ap (put_all (made g (λ form. false) rules)) (on_folder g home true rules) ∙ put_made g (λ form. false) (stands_at home true) rules up));
  rest = first_counts home fs;
}

-- one folder further
next_counts : (n x : ℕ) (fs : List FolderRow) (a : Bool) (form : RuleForm) → ((a || stands_at x false form) || reaches n (parent_of x fs) fs form) ≡ (a || reaches (suc n) (Some x) fs form)
next_counts n x fs a (OnCreate d s p h) = ap (λ b. (a || (b && same_scope s Sub)) || (same_scope s Sub && climbs n (parent_of x fs) d fs)) (number_turned d x) ∙ turn a (x == d) (same_scope s Sub) (climbs n (parent_of x fs) d fs)
  where
    turn : (a b c d : Bool) → ((a || (b && c)) || (c && d)) ≡ (a || (c && (b || d)))
    turn true b c d = refl
    turn false true true d = refl
    turn false true false d = refl
    turn false false true d = refl
    turn false false false d = refl
next_counts n x fs a (RemoveLost check owner) = or_left a
  where
    or_left : (a : Bool) → ((a || false) || false) ≡ (a || false)
    or_left true = refl
    or_left false = refl
next_counts n x fs a (EndLost check owner days) = or_left a
  where
    or_left : (a : Bool) → ((a || false) || false) ≡ (a || false)
    or_left true = refl
    or_left false = refl
next_counts n x fs a (Veto owner condition) = or_left a
  where
    or_left : (a : Bool) → ((a || false) || false) ≡ (a || false)
    or_left true = refl
    or_left false = refl

pub gathered_next : (g home : ℕ) (fs : List FolderRow) (rules : List RuleRow) (n m x : ℕ) (above up : Option ℕ) (found new : List (ℕ × GrantRow)) → RulesAscend rules → suc n ≡ m → above ≡ Some x → up ≡ parent_of x fs
    → new ≡ put_all found (filter_map (entry_made g false) (rules_at (Folder x) rules)) → Gathered g home fs rules m above found → Gathered g home fs rules n up new
gathered_next g home fs rules n m x above up found new ascend levels is at put h = record {
  taken = λ form. h.taken form || stands_at x false form;
  found_is = put ∙ (ap (λ es. put_all es (filter_map (entry_made g false) (rules_at (Folder x) rules))) h.found_is
      ∙ (ap (put_all (made g h.taken rules)) (on_folder g x false rules) ∙ put_made g h.taken (stands_at x false) rules ascend));
  rest = λ form. ap (λ (o : Option ℕ). (h.taken form || stands_at x false form) || reaches n o fs form) at
      ∙ (next_counts n x fs (h.taken form) form
      ∙ (ap (λ k. h.taken form || reaches k (Some x) fs form) levels
      ∙ (ap (λ (o : Option ℕ). h.taken form || reaches m o fs form) (sym is) ∙ h.rest form)));
}

-- where no folder is left, all that count are there
no_more : (fs : List FolderRow) (n : ℕ) (above : Option ℕ) (form : RuleForm) → ((d : ℕ) → climbs n above d fs ≡ false) → reaches n above fs form ≡ false
no_more fs n above (OnCreate d s p h) none = rw (none d) (and_false (same_scope s Sub))
  where
    and_false : (b : Bool) → (b && false) ≡ false
    and_false true = refl
    and_false false = refl
no_more fs n above (RemoveLost check owner) none = refl
no_more fs n above (EndLost check owner days) none = refl
no_more fs n above (Veto owner condition) none = refl

or_nothing : (b : Bool) → (b || false) ≡ b
or_nothing true = refl
or_nothing false = refl

value_of : (id : ℕ) (a b : Option GrantRow) (es : List (ℕ × GrantRow)) (rows : List GrantRow) → a ≡ b → values_of es ≡ rows → values_of (cons_option (option_map (λ grant. (id, grant)) a) es) ≡ cons_option b rows
value_of id None b es rows same h = ap (λ o. cons_option o (values_of es)) same ∙ ap (cons_option b) h
value_of id (Some grant) b es rows same h = ap (λ o. cons_option o (values_of es)) same ∙ ap (cons_option b) h

values_made : (g home : ℕ) (fs : List FolderRow) (rules : List RuleRow) → values_of (made g (counts home fs) rules) ≡ creation_grants g home fs rules
values_made g home fs [] = refl
values_made g home fs (row ∷ rules) = value_of row.id (if counts home fs row.form then grant_made g true row.form else None) (creation_grant g home fs row.form) (made g (counts home fs) rules) (creation_grants g home fs rules) (same row.form) (values_made g home fs rules)
  where
    same : (form : RuleForm) → (if counts home fs form then grant_made g true form else None) ≡ creation_grant g home fs form
    same (OnCreate d s p h) = refl
    same (RemoveLost check owner) = refl
    same (EndLost check owner days) = refl
    same (Veto owner condition) = refl

gathered_end : (g home : ℕ) (fs : List FolderRow) (rules : List RuleRow) (n : ℕ) (above : Option ℕ) (found : List (ℕ × GrantRow)) → ((d : ℕ) → climbs n above d fs ≡ false) → Gathered g home fs rules n above found → values_of found ≡ creation_grants g home fs rules
gathered_end g home fs rules n above found none h =
    ap values_of (h.found_is ∙ made_alike g h.taken (counts home fs) rules (λ form. sym (or_nothing (h.taken form)) ∙ (ap (λ b. h.taken form || b) (sym (no_more fs n above form none)) ∙ h.rest form)))
    ∙ values_made g home fs rules

-- above the root
pub gathered_top : (g home : ℕ) (fs : List FolderRow) (rules : List RuleRow) (n : ℕ) (above : Option ℕ) (found : List (ℕ × GrantRow)) → above ≡ None → Gathered g home fs rules n above found → values_of found ≡ creation_grants g home fs rules
gathered_top g home fs rules n above found is h = gathered_end g home fs rules n above found (λ d. ap (λ o. climbs n o d fs) is ∙ none n d) h
  where
    none : (n d : ℕ) → climbs n None d fs ≡ false
    none zero d = refl
    none (suc n) d = refl

-- or after all levels
pub gathered_last : (g home : ℕ) (fs : List FolderRow) (rules : List RuleRow) (n : ℕ) (above : Option ℕ) (found : List (ℕ × GrantRow)) → n ≡ 0 → Gathered g home fs rules n above found → values_of found ≡ creation_grants g home fs rules
gathered_last g home fs rules n above found is h = gathered_end g home fs rules n above found (λ d. ap (λ k. climbs k above d fs) is) h

-- where there is no rule, none makes a grant
pub gathered_none : (g home : ℕ) (fs : List FolderRow) (rules : List RuleRow) (found : List (ℕ × GrantRow)) → rules ≡ [] → found ≡ [] → values_of found ≡ creation_grants g home fs rules
gathered_none g home fs rules found none empty = ap values_of empty ∙ ap (creation_grants g home fs) (sym none)

-- ---- each grant once

once_there : (stand left rest all : List GrantRow) (row : GrantRow) → stand ++ not_yet stand left ≡ all → left ≡ row ∷ rest → has_grant row stand ≡ true → stand ++ not_yet stand rest ≡ all
once_there stand left rest all row h is there = sym (ap (λ rows. stand ++ not_yet stand rows) is ∙ rw there refl) ∙ h

once_new : (stand left rest all : List GrantRow) (row : GrantRow) → stand ++ not_yet stand left ≡ all → left ≡ row ∷ rest → has_grant row stand ≡ false → (stand ++ row ∷ []) ++ not_yet (stand ++ row ∷ []) rest ≡ all
once_new stand left rest all row h is other =
    append_assoc stand (row ∷ []) (not_yet (stand ++ row ∷ []) rest)
    ∙ (sym (ap (λ rows. stand ++ not_yet stand rows) is ∙ rw other refl) ∙ h)

pub once_next : (stand new left rest all : List GrantRow) (row : GrantRow) → stand ++ not_yet stand left ≡ all → left ≡ row ∷ rest → new ≡ (if has_grant row stand then stand else stand ++ row ∷ []) → new ++ not_yet new rest ≡ all
once_next stand new left rest all row h is put = elim (cases_Bool (has_grant row stand)) [
  | inl t ↦ ap (λ rows. rows ++ not_yet rows rest) (rw t at put) ∙ once_there stand left rest all row h is t
  | inr t ↦ ap (λ rows. rows ++ not_yet rows rest) (rw t at put) ∙ once_new stand left rest all row h is t
]

pub once_end : (stand left all : List GrantRow) → stand ++ not_yet stand left ≡ all → left ≡ [] → stand ≡ all
once_end stand left all h is = sym (ap (λ rows. stand ++ not_yet stand rows) is ∙ append-nil stand) ∙ h

-- where rules make none, the first is alone
pub alone_all : (first : List GrantRow) (found : List (ℕ × GrantRow)) → length found ≡ 0 → first ≡ first ++ not_yet first (values_of found)
alone_all first [] h = sym (append-nil first)
alone_all first (e ∷ es) h = absurd (omega (arith, h))
