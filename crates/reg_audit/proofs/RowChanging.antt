-- An event that adds, begins or takes away one row leaves all privileges of all holders but that of the row as they were, a
-- grant's on each other object too; and one that is of neither grants nor objects leaves all.
use Rattle.std.proofs.Common.{◌≡◌, ◌==◌, ◌&&◌, ◌||◌, ◌++◌, List, [], ◌∷◌, Bool, true, false, not, map, filter, if◌then◌else◌, Option, None, Some, refl, sym, ap, subst, ◌∙◌, inl, inr}
use Rattle.std.specs.List.{list_any}
use Rattle.std.proofs.lemmas.Bool.{cases_Bool, and_parts}
use Rattle.reg_terms.specs.Kinds.{same_object, same_kind, same_scope, is_of_kind}
use Rattle.reg_terms.specs.declared.event.Event.{Event}
use Rattle.reg_terms.specs.declared.event.Event.TheVariants.{GrantAdded, GrantBegan, GrantRemoved, InheritAdded, InheritRemoved}
use Rattle.reg_terms.specs.declared.event.Event.TheVariants.{SubjectMade, RowAdded, RowRemoved, RowRedated, Composed, Decomposed, AssignMade, AssignGone, ValueAdded, ValueRemoved, RuleMade, RuleGone, JobMade, JobGone, ConsumerAdded, ConsumerAcked}
use Rattle.reg_terms.specs.declared.kinds.Object.{Object}
use Rattle.reg_terms.specs.declared.rows.GrantRow.{GrantRow}
use Rattle.reg_terms.specs.declared.rows.InheritRow.{InheritRow}
use Rattle.reg_facts.specs.Events.{happened}
use Rattle.reg_facts.specs.Grants as tables
use Rattle.reg_facts.specs.Lists.{Lists}
use Rattle.reg_facts.specs.Naming.{placed, placed_folders, placed_group}
use Rattle.reg_audit.specs.Changed.{changed_grant, changes_others, is_changed}
use Rattle.reg_audit.specs.declared.grant_change.GrantChange.{GrantChange}
use Rattle.reg_priv.specs.Filling.{same_grant, is_among}
use Rattle.reg_priv.specs.Grants.{Grant, written, gives_one, given, reaches, grants}
use Rattle.reg_priv.proofs.Anys.{any_filter, any_same}
use Rattle.reg_audit.proofs.Looking.{one_grant, one_object, same_pair}
use Rattle.reg_priv.proofs.Scoped.{any_grant}
use Rattle.reg_priv.proofs.Homes.{home_in, same_home}
use Rattle.reg_priv.proofs.Untouched.{home_in_scope, by_home}
use Rattle.reg_priv.specs.Touched.{is_listed}

-- ---- lists

-- one more that doesn't pass
any_more : {X : Type 0} (t : X → Bool) (xs : List X) (x : X) → t x ≡ false → list_any t (xs ++ x ∷ []) ≡ list_any t xs
any_more t [] x h = rw h refl
any_more t (y ∷ ys) x h = ap (λ b. t y || b) (any_more t ys x h)

-- some fewer that don't pass
any_fewer : {X : Type 0} (t q : X → Bool) (xs : List X) → ((x : X) → q x ≡ false → t x ≡ false) → list_any t (filter q xs) ≡ list_any t xs
any_fewer t q [] h = refl
any_fewer t q (x ∷ xs) h = elim (cases_Bool (q x)) [
  | inl y ↦ rw y (ap (λ b. t x || b) (any_fewer t q xs h))
  | inr n ↦ rw (n, h x n) (any_fewer t q xs h)
]

-- one that doesn't pass in the place of some that don't
any_put : {X : Type 0} (t q : X → Bool) (put : X) (xs : List X) → t put ≡ false → ((x : X) → q x ≡ true → t x ≡ false) → list_any t (map (λ x. if q x then put else x) xs) ≡ list_any t xs
any_put t q put [] none h = refl
any_put t q put (x ∷ xs) none h = elim (cases_Bool (q x)) [
  | inl y ↦ rw (y, none, h x y) (any_put t q put xs none h)
  | inr n ↦ rw n (ap (λ b. t x || b) (any_put t q put xs none h))
]

and_off : (a b : Bool) → b ≡ false → (a && b) ≡ false
and_off true b h = h
and_off false b h = refl

-- ---- one privilege of one holder on an object

abbrev writes : Grant → Object → GrantRow → Bool
writes x o row = same_object row.object o && gives_one (same_grant x) row

abbrev gives : Grant → Object → Lists → InheritRow → Bool
gives x o f row = reaches o f row && same_grant x (given row)

among_is : (o : Object) (f : Lists) (x : Grant) → is_among x (grants o f) ≡ (list_any (writes x o) f.grants || list_any (gives x o f) f.inherits)
among_is o f x =
    any_grant o f (same_grant x)
    ∙ ap (λ b. b || list_any (gives x o f) f.inherits) (any_filter (gives_one (same_grant x)) (λ (row : GrantRow). same_object row.object o) f.grants)

-- what no row is of leaves where all stands
record SameFolders (f g : Lists) : Type 0 where
  folders : g.folders ≡ f.folders
  groups : g.groups ≡ f.groups
  definitions : g.definitions ≡ f.definitions
  attributes : g.attributes ≡ f.attributes

reaches_alike : (o : Object) (f g : Lists) → SameFolders f g → (row : InheritRow) → reaches o g row ≡ reaches o f row
reaches_alike o f g h row =
    let home : home_in o (placed g) ≡ home_in o (placed f) = same_home o f g (ap (λ rows. home_in o (placed_folders rows)) h.folders) (ap (λ rows. home_in o (map placed_group rows)) h.groups) h.definitions h.attributes in
    ap (λ b. is_of_kind row.kind o && b) (
    by_home row.folder row.scope o g
    ∙ (ap (λ d. home_in_scope row.folder row.scope d g.folders) home
    ∙ (ap (λ rows. home_in_scope row.folder row.scope (home_in o (placed f)) rows) h.folders
    ∙ sym (by_home row.folder row.scope o f))))

alike : (o : Object) (f g : Lists) (x : Grant) → SameFolders f g → list_any (writes x o) g.grants ≡ list_any (writes x o) f.grants → list_any (gives x o f) g.inherits ≡ list_any (gives x o f) f.inherits → is_among x (grants o g) ≡ is_among x (grants o f)
alike o f g x same direct inherited =
    let reached : list_any (gives x o g) g.inherits ≡ list_any (gives x o f) g.inherits = any_same (gives x o g) (gives x o f) g.inherits (λ row. ap (λ b. b && same_grant x (given row)) (reaches_alike o f g same row)) in
    among_is o g x
    ∙ (ap (λ b. b || list_any (gives x o g) g.inherits) direct
    ∙ (ap (λ b. list_any (writes x o) f.grants || b) (reached ∙ inherited)
    ∙ sym (among_is o f x)))

not_not : (b : Bool) → not b ≡ false → b ≡ true
not_not true h = refl
not_not false h = cc

-- ---- events

off_between : (a b c : Bool) → (a && c) ≡ false → (a && (b && c)) ≡ false
off_between true true c h = h
off_between true false c h = refl
off_between false b c h = refl

-- whether a grant is of this privilege and holder on this object
abbrev is_of : Grant → Object → GrantRow → Bool
is_of x o row = same_object row.object o && same_grant x (written row)

-- a grant of another holder, of another privilege, or on another object
written_off : (x : Grant) (o : Object) (row : GrantRow) → is_of x o row ≡ false → writes x o row ≡ false
written_off x o row h = off_between (same_object row.object o) (tables.has_begun row) (same_grant x (written row)) h

-- and one that is the same
same_off : (x : Grant) (o : Object) (row other : GrantRow) → is_of x o row ≡ false → tables.same_grant row other ≡ true → writes x o other ≡ false
same_off x o row other h e =
    let both = and_parts (same_object other.object row.object) _ e in
    let place : row.object ≡ other.object = sym (one_object other.object row.object both.0) in
    let is : written row ≡ written other = one_grant (written row) (written other) (same_pair row.privilege other.privilege row.holder other.holder ∙ both.1) in
    let there : (same_object other.object o && same_grant x (written row)) ≡ false = subst (λ (a : Object). (same_object a o && same_grant x (written row)) ≡ false) place h in
    written_off x o other (subst (λ (g : Grant). (same_object other.object o && same_grant x g) ≡ false) is there)

grant_added : (row : GrantRow) (f : Lists) (o : Object) (x : Grant) → is_of x o row ≡ false → is_among x (grants o (happened (GrantAdded row) f)) ≡ is_among x (grants o f)
grant_added row f o x h = alike o f (happened (GrantAdded row) f) x (record { folders = refl; groups = refl; definitions = refl; attributes = refl }) (any_more (writes x o) f.grants row (written_off x o row h)) refl

grant_began : (row : GrantRow) (f : Lists) (o : Object) (x : Grant) → is_of x o row ≡ false → is_among x (grants o (happened (GrantBegan row) f)) ≡ is_among x (grants o f)
grant_began row f o x h = alike o f (happened (GrantBegan row) f) x (record { folders = refl; groups = refl; definitions = refl; attributes = refl }) (any_put (writes x o) (tables.same_grant row) row f.grants (written_off x o row h) (λ r e. same_off x o row r h e)) refl

grant_removed : (row : GrantRow) (f : Lists) (o : Object) (x : Grant) → is_of x o row ≡ false → is_among x (grants o (happened (GrantRemoved row) f)) ≡ is_among x (grants o f)
grant_removed row f o x h = alike o f (happened (GrantRemoved row) f) x (record { folders = refl; groups = refl; definitions = refl; attributes = refl }) (any_fewer (writes x o) (λ (r : GrantRow). not (tables.same_grant row r)) f.grants (λ r e. same_off x o row r h (not_not (tables.same_grant row r) e))) refl

inherit_added : (row : InheritRow) (f : Lists) (o : Object) (x : Grant) → same_grant x (given row) ≡ false → is_among x (grants o (happened (InheritAdded row) f)) ≡ is_among x (grants o f)
inherit_added row f o x h = alike o f (happened (InheritAdded row) f) x (record { folders = refl; groups = refl; definitions = refl; attributes = refl }) refl (any_more (gives x o f) f.inherits row (and_off (reaches o f row) (same_grant x (given row)) h))

inherit_removed : (row : InheritRow) (f : Lists) (o : Object) (x : Grant) → same_grant x (given row) ≡ false → is_among x (grants o (happened (InheritRemoved row) f)) ≡ is_among x (grants o f)
inherit_removed row f o x h = alike o f (happened (InheritRemoved row) f) x (record { folders = refl; groups = refl; definitions = refl; attributes = refl }) refl (any_fewer (gives x o f) (λ (r : InheritRow). not (tables.same_inherit row r)) f.inherits other)
  where
    other : (r : InheritRow) → not (tables.same_inherit row r) ≡ false → gives x o f r ≡ false
    other r e =
        let first = and_parts (r.folder == row.folder) _ (not_not (tables.same_inherit row r) e) in
        let second = and_parts (same_kind r.kind row.kind) _ first.1 in
        let third = and_parts (same_scope r.scope row.scope) _ second.1 in
        let is : given row ≡ given r = one_grant (given row) (given r) (same_pair row.privilege r.privilege row.holder r.holder ∙ third.1) in
        and_off (reaches o f r) (same_grant x (given r)) (subst (λ (g : Grant). same_grant x g ≡ false) is h)

-- where neither grants nor inherits change, nor what these reach
kept : (o : Object) (f g : Lists) (x : Grant) → g.folders ≡ f.folders → g.groups ≡ f.groups → g.definitions ≡ f.definitions → g.attributes ≡ f.attributes → g.grants ≡ f.grants → g.inherits ≡ f.inherits → is_among x (grants o g) ≡ is_among x (grants o f)
kept o f g x folders groups definitions attributes direct inherited = alike o f g x (record { folders = folders; groups = groups; definitions = definitions; attributes = attributes }) (ap (list_any (writes x o)) direct) (ap (list_any (gives x o f)) inherited)

abbrev pub if_any : (GrantChange → Bool) → Option GrantChange → Bool
if_any t None = false
if_any t (Some c) = t c

-- an event that doesn't change others changes what its row tells of alone
pub changed : (touched : List Object) (e : Event) (f : Lists) (o : Object) (x : Grant) → is_listed o touched ≡ true → changes_others e ≡ false → if_any (is_changed touched o x) (changed_grant e) ≡ false → is_among x (grants o (happened e f)) ≡ is_among x (grants o f)
changed touched (GrantAdded row) f o x l k h = grant_added row f o x h
changed touched (GrantBegan row) f o x l k h = grant_began row f o x h
changed touched (GrantRemoved row) f o x l k h = grant_removed row f o x h
changed touched (InheritAdded row) f o x l k h = inherit_added row f o x (rw l at h)
changed touched (InheritRemoved row) f o x l k h = inherit_removed row f o x (rw l at h)
changed touched (SubjectMade row) f o x l k h = kept o f (happened (SubjectMade row) f) x refl refl refl refl refl refl
changed touched (RowAdded row) f o x l k h = kept o f (happened (RowAdded row) f) x refl refl refl refl refl refl
changed touched (RowRemoved g m) f o x l k h = kept o f (happened (RowRemoved g m) f) x refl refl refl refl refl refl
changed touched (RowRedated g m from until) f o x l k h = kept o f (happened (RowRedated g m from until) f) x refl refl refl refl refl refl
changed touched (Composed row) f o x l k h = kept o f (happened (Composed row) f) x refl refl refl refl refl refl
changed touched (Decomposed g) f o x l k h = kept o f (happened (Decomposed g) f) x refl refl refl refl refl refl
changed touched (AssignMade row) f o x l k h = kept o f (happened (AssignMade row) f) x refl refl refl refl refl refl
changed touched (AssignGone id) f o x l k h = kept o f (happened (AssignGone id) f) x refl refl refl refl refl refl
changed touched (ValueAdded id v) f o x l k h = kept o f (happened (ValueAdded id v) f) x refl refl refl refl refl refl
changed touched (ValueRemoved id v) f o x l k h = kept o f (happened (ValueRemoved id v) f) x refl refl refl refl refl refl
changed touched (RuleMade row) f o x l k h = kept o f (happened (RuleMade row) f) x refl refl refl refl refl refl
changed touched (RuleGone id) f o x l k h = kept o f (happened (RuleGone id) f) x refl refl refl refl refl refl
changed touched (JobMade row) f o x l k h = kept o f (happened (JobMade row) f) x refl refl refl refl refl refl
changed touched (JobGone id) f o x l k h = kept o f (happened (JobGone id) f) x refl refl refl refl refl refl
changed touched (ConsumerAdded row) f o x l k h = kept o f (happened (ConsumerAdded row) f) x refl refl refl refl refl refl
changed touched (ConsumerAcked name seq) f o x l k h = kept o f (happened (ConsumerAcked name seq) f) x refl refl refl refl refl refl
changed touched _ f o x l k h = cc
