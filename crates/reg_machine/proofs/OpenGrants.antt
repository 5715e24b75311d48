-- Grants that come begin and end later, if they have such dates: those that a new object brings, and that of a command whose end isn't early.
use Rattle.std.proofs.Common.{◌≡◌, ◌<◌, ℕ, List, [], ◌∷◌, ◌++◌, Bool, true, false, Option, Some, None, nat_lt, ◌+◌, inl, inr}
use Rattle.std.specs.Prelude.{IfSome, if◌then◌else◌}
use Rattle.std.specs.List.{AllByRecursion, cons_option}
use Rattle.std.proofs.lemmas.Bool.{cases_Bool, ltb-true}
use Rattle.reg_base.specs.declared.entity.Entity.{Entity}
use Rattle.reg_base.specs.declared.entity.Entity.TheVariants as entity
use Rattle.reg_base.specs.declared.privilege.Privilege.{Privilege}
use Rattle.reg_terms.specs.declared.kinds.Holder.{Holder}
use Rattle.reg_terms.specs.declared.kinds.Object.{Object}
use Rattle.reg_terms.specs.declared.kinds.Object.TheVariants.{Group}
use Rattle.reg_terms.specs.declared.kinds.RuleForm.{RuleForm}
use Rattle.reg_terms.specs.declared.kinds.RuleForm.TheVariants.{RemoveLost, EndLost, Veto, OnCreate}
use Rattle.reg_terms.specs.declared.rows.FolderRow.{FolderRow}
use Rattle.reg_terms.specs.declared.rows.GrantRow.{GrantRow}
use Rattle.reg_terms.specs.declared.rows.RuleRow.{RuleRow}
use Rattle.reg_facts.specs.Edits.{from_or, subject_id, the_id}
use Rattle.reg_facts.specs.Events.{new_groups_grants}
use Rattle.reg_facts.specs.Grants.{has_grant, grant_to, makers_grant, to_come}
use Rattle.reg_facts.specs.Lists.{Lists}
use Rattle.reg_facts.specs.Naming.{home_id}
use Rattle.reg_facts.specs.Rules.{in_scope, creation_grant, creation_grants, not_yet}
use Rattle.reg_current.specs.Invariant.{IsGrantOpen}
use Rattle.reg_base.specs.declared.privilege.Privilege.TheVariants.{Admin}

-- ---- grants with no dates

abbrev AllOpen : ℕ → List GrantRow → Type 0
AllOpen at rows = AllByRecursion (IsGrantOpen at) rows

boundless : (at : ℕ) (o : Object) (p : Privilege) (h : Holder) → IsGrantOpen at (record { object = o; privilege = p; holder = h; from = None; until = None })
boundless at o p h = record { begins = tt; ends = tt; after = tt }

pub grant_to_open : (at : ℕ) (o : Object) (p : Privilege) (found : Option ℕ) → AllOpen at (grant_to o p found)
grant_to_open at o p None = tt
grant_to_open at o p (Some s) = (record { begins = tt; ends = tt; after = tt }, tt)

makers_open : (at : ℕ) (by : Entity) (o : Object) (p : Privilege) (f : Lists) → AllOpen at (makers_grant by o p f)
makers_open at (entity.Person text) o p f = grant_to_open at o p (subject_id text f.subjects)
makers_open at (entity.Group name) o p f = tt
makers_open at entity.System o p f = tt
makers_open at entity.Everyone o p f = tt

-- ---- those of rules on a new group

abbrev OfOption : (GrantRow → Type 0) → Option GrantRow → Type 0
OfOption P None = Unit {0}
OfOption P (Some row) = P row

all_cons : (P : GrantRow → Type 0) (o : Option GrantRow) (rows : List GrantRow) → OfOption P o → AllByRecursion P rows → AllByRecursion P (cons_option o rows)
all_cons P None rows here h = h
all_cons P (Some row) rows here h = (here, h)

chosen : (P : GrantRow → Type 0) (b : Bool) (row : GrantRow) → P row → OfOption P (if b then Some row else None)
chosen P true row h = h
chosen P false row h = tt

created_open : (at g home : ℕ) (fs : List FolderRow) (rules : List RuleRow) → AllOpen at (creation_grants g home fs rules)
created_open at g home fs [] = tt
created_open at g home fs (rule ∷ rules) = all_cons (IsGrantOpen at) (creation_grant g home fs rule.form) (creation_grants g home fs rules) (one rule.form) (created_open at g home fs rules)
  where
    one : (form : RuleForm) → OfOption (IsGrantOpen at) (creation_grant g home fs form)
    one (RemoveLost check owner) = tt
    one (EndLost check owner days) = tt
    one (Veto owner condition) = tt
    one (OnCreate d scope p h) = chosen (IsGrantOpen at) (in_scope home d scope fs) (record { object = Group g; privilege = p; holder = h; from = None; until = None }) (boundless at (Group g) p h)

not_yet_open : (at : ℕ) (stand rows : List GrantRow) → AllOpen at rows → AllOpen at (not_yet stand rows)
not_yet_open at stand [] h = tt
not_yet_open at stand (row ∷ rows) h = elim (cases_Bool (has_grant row stand)) [
  | inl t ↦ rw t (not_yet_open at stand rows h.1)
  | inr t ↦ rw t (h.0, not_yet_open at (stand ++ row ∷ []) rows h.1)
]

both_open : (at : ℕ) (xs ys : List GrantRow) → AllOpen at xs → AllOpen at ys → AllOpen at (xs ++ ys)
both_open at [] ys a b = b
both_open at (x ∷ xs) ys a b = (a.0, both_open at xs ys a.1 b)

pub new_groups_open : (at : ℕ) (by : Entity) (group : List ℕ) (f : Lists) → AllByRecursion (IsGrantOpen at) (new_groups_grants by group f)
new_groups_open at by group f =
    let id = f.made.groups + 1 in
    let makers = makers_grant by (Group id) Admin f in
    let rules = creation_grants id (the_id (home_id group f)) f.folders f.rules in
    both_open at makers (not_yet makers rules) (makers_open at by (Group id) Admin f) (not_yet_open at makers rules (created_open at id (the_id (home_id group f)) f.folders f.rules))

-- ---- that of a command

-- of a beginning what is to come is later, and before an end that is after the beginning
pub comes_later : (at : ℕ) (from : Option ℕ) → IfSome (to_come at from) (λ d. at < d)
comes_later at None = tt
comes_later at (Some d) = elim (cases_Bool (nat_lt at d)) [
  | inl y ↦ rw y (ltb-true at d y)
  | inr n ↦ rw n tt
]

pub comes_before : (at : ℕ) (from until : Option ℕ) → IfSome until (λ u. (at < u) × (from_or at from < u)) → IfSome (to_come at from) (λ d. IfSome until (λ u. d < u))
comes_before at None until h = tt
comes_before at (Some d) None h = elim (cases_Bool (nat_lt at d)) [
  | inl y ↦ rw y tt
  | inr n ↦ rw n tt
]
comes_before at (Some d) (Some u) h = elim (cases_Bool (nat_lt at d)) [
  | inl y ↦ rw y h.1
  | inr n ↦ rw n tt
]

ends : (at : ℕ) (from until : Option ℕ) → IfSome until (λ u. (at < u) × (from_or at from < u)) → IfSome until (λ u. at < u)
ends at from None h = tt
ends at from (Some u) h = h.0

pub window_grant : (at : ℕ) (from until : Option ℕ) (o : Object) (p : Privilege) (h : Holder) → IfSome until (λ u. (at < u) × (from_or at from < u)) → IsGrantOpen at (record { object = o; privilege = p; holder = h; from = to_come at from; until = until })
window_grant at from until o p h window = record { begins = comes_later at from; ends = ends at from until window; after = comes_before at from until window }
