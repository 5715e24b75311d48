-- The inherits that reach an object, found on the folders above it.
use Rattle.std.proofs.Common.{◌≡◌, ◌==◌, ◌&&◌, ◌||◌, ℕ, zero, suc, List, Bool, true, false, Option, Some, None, refl, sym, ap, ◌∙◌, map, filter, option_map, arith}
use Rattle.std.specs.List.{list_any}
use Rattle.std.proofs.lemmas.Bool.Decides.{nat_tests}
use Rattle.std.proofs.lemmas.List.Folds.{list_any-append}
use Rattle.reg_terms.specs.declared.kinds.Object.{Object}
use Rattle.reg_terms.specs.declared.kinds.Scope.{Scope}
use Rattle.reg_terms.specs.declared.kinds.Scope.TheVariants.{One, Sub}
use Rattle.reg_terms.specs.declared.rows.FolderRow.{FolderRow}
use Rattle.reg_terms.specs.declared.rows.GrantRow.{GrantRow}
use Rattle.reg_terms.specs.declared.rows.InheritRow.{InheritRow}
use Rattle.reg_terms.specs.Kinds.{is_of_kind, same_scope}
use Rattle.reg_facts.specs.Lists.{Lists}
use Rattle.reg_facts.specs.Naming.{Placed, placed, place_of, parent_of, lies_in, most_levels}
use Rattle.reg_facts.specs.Grants.{grants_on, has_begun, inherits_on}
use Rattle.reg_names.specs.Scopes.{place_in_scope, stands_in}
use Rattle.reg_priv.specs.Grants.{Grant, written, gives_one, given, reaches, grants}
use Rattle.reg_priv.proofs.Anys.{any_filter, any_map, any_or, any_same, any_none}

turned : (a b : ℕ) → (a == b) ≡ (b == a)
turned a b = grind (arith, nat_tests)

-- an inherit on the folder that passes
abbrev pub here : ℕ → (InheritRow → Bool) → InheritRow → Bool
here d t row = (row.folder == d) && t row

-- an inherit on the folder or above it that passes
abbrev pub over : ℕ → ℕ → List FolderRow → (InheritRow → Bool) → InheritRow → Bool
over n d fs t row = lies_in n d row.folder fs && t row

-- what those on a folder tell, told of all
pub on_folder : (d : ℕ) (t : InheritRow → Bool) (rows : List InheritRow) → list_any t (inherits_on d rows) ≡ list_any (here d t) rows
on_folder d t rows = any_filter t (λ (row : InheritRow). row.folder == d) rows

both_or : (a b t : Bool) → ((a || b) && t) ≡ ((a && t) || (b && t))
both_or true b true = refl
both_or true true false = refl
both_or true false false = refl
both_or false b t = refl

pub over_last : (d : ℕ) (fs : List FolderRow) (t : InheritRow → Bool) (rows : List InheritRow) → list_any (over 0 d fs t) rows ≡ list_any (here d t) rows
unfolding lies_in
over_last d fs t rows = any_same (over 0 d fs t) (here d t) rows (λ row. ap (λ b. b && t row) (turned d row.folder))

pub over_up : (n d p : ℕ) (fs : List FolderRow) (t : InheritRow → Bool) (rows : List InheritRow) → parent_of d fs ≡ Some p → list_any (over (suc n) d fs t) rows ≡ (list_any (here d t) rows || list_any (over n p fs t) rows)
unfolding lies_in
over_up n d p fs t rows up =
    any_same (over (suc n) d fs t) (λ row. here d t row || over n p fs t row) rows (λ row. rw up (rw (turned d row.folder) (both_or (row.folder == d) (lies_in n p row.folder fs) (t row))))
    ∙ any_or (here d t) (over n p fs t) rows

pub over_top : (n d : ℕ) (fs : List FolderRow) (t : InheritRow → Bool) (rows : List InheritRow) → parent_of d fs ≡ None → list_any (over (suc n) d fs t) rows ≡ list_any (here d t) rows
unfolding lies_in
over_top n d fs t rows up = any_same (over (suc n) d fs t) (here d t) rows (λ row. rw up (rw (turned d row.folder) (alone (row.folder == d) (t row))))
  where
    alone : (a b : Bool) → ((a || false) && b) ≡ (a && b)
    alone true b = refl
    alone false b = refl

-- one on the folder itself is enough
pub over_hit : (n d : ℕ) (fs : List FolderRow) (t : InheritRow → Bool) (rows : List InheritRow) → list_any (here d t) rows ≡ true → list_any (over n d fs t) rows ≡ true
over_hit zero d fs t rows h = over_last d fs t rows ∙ h
over_hit (suc n) d fs t rows h = go (parent_of d fs) refl
  where
    go : (p : Option ℕ) → parent_of d fs ≡ p → list_any (over (suc n) d fs t) rows ≡ true
    go None e = over_top n d fs t rows e ∙ h
    go (Some p) e = over_up n d p fs t rows e ∙ rw h refl

-- none on the folder, so it is one further up
pub over_on : (n m d p : ℕ) (fs : List FolderRow) (t : InheritRow → Bool) (rows : List InheritRow) → suc n ≡ m → parent_of d fs ≡ Some p → list_any (here d t) rows ≡ false → list_any (over n p fs t) rows ≡ list_any (over m d fs t) rows
over_on n m d p fs t rows e up h = rw (← e) (sym (over_up n d p fs t rows up ∙ rw h refl))

-- none on the folder, and nothing above it
pub over_none : (n m d : ℕ) (fs : List FolderRow) (t : InheritRow → Bool) (rows : List InheritRow) → suc n ≡ m → parent_of d fs ≡ None → list_any (here d t) rows ≡ false → list_any (over m d fs t) rows ≡ false
over_none n m d fs t rows e up h = rw (← e) (over_top n d fs t rows up ∙ h)

-- an inherit of one level, or of all below
by_scope : (s : Scope) (k t : Bool) (d x : ℕ) (f : Lists) → ((k && stands_in x s d f) && t) ≡ (((x == d) && (same_scope s One && (k && t))) || (lies_in most_levels d x f.folders && (same_scope s Sub && (k && t))))
by_scope One k t d x f = rw (turned d x) (one k t (x == d) (lies_in most_levels d x f.folders))
  where
    one : (k t a b : Bool) → ((k && a) && t) ≡ ((a && (true && (k && t))) || (b && (false && (k && t))))
    one true true true b = refl
    one true true false true = refl
    one true true false false = refl
    one true false true true = refl
    one true false true false = refl
    one true false false true = refl
    one true false false false = refl
    one false t true true = refl
    one false t true false = refl
    one false t false true = refl
    one false t false false = refl
by_scope Sub k t d x f = sub k t (x == d) (lies_in most_levels d x f.folders)
  where
    sub : (k t a b : Bool) → ((k && b) && t) ≡ ((a && (false && (k && t))) || (b && (true && (k && t))))
    sub true true true true = refl
    sub true true true false = refl
    sub true true false true = refl
    sub true true false false = refl
    sub true false true true = refl
    sub true false true false = refl
    sub true false false true = refl
    sub true false false false = refl
    sub false t true true = refl
    sub false t true false = refl
    sub false t false true = refl
    sub false t false false = refl

-- the inherits that reach what stands in a folder
pub reached : (o : Object) (f : Lists) (d : ℕ) (t : InheritRow → Bool) (rows : List InheritRow) → option_map (λ (p : Placed). p.folder) (place_of o (placed f)) ≡ Some d
    → list_any (λ row. reaches o f row && t row) rows
    ≡ (list_any (here d (λ row. same_scope row.scope One && (is_of_kind row.kind o && t row))) rows || list_any (over most_levels d f.folders (λ row. same_scope row.scope Sub && (is_of_kind row.kind o && t row))) rows)
reached o f d t rows home =
    any_same (λ row. reaches o f row && t row) (λ row. here d (λ row. same_scope row.scope One && (is_of_kind row.kind o && t row)) row || over most_levels d f.folders (λ row. same_scope row.scope Sub && (is_of_kind row.kind o && t row)) row) rows (λ row. go row (place_of o (placed f)) home)
    ∙ any_or (here d (λ row. same_scope row.scope One && (is_of_kind row.kind o && t row))) (over most_levels d f.folders (λ row. same_scope row.scope Sub && (is_of_kind row.kind o && t row))) rows
  where
    go : (row : InheritRow) (place : Option Placed) → option_map (λ (p : Placed). p.folder) place ≡ Some d
        → ((is_of_kind row.kind o && place_in_scope row.folder row.scope place f) && t row)
        ≡ (((row.folder == d) && (same_scope row.scope One && (is_of_kind row.kind o && t row))) || (lies_in most_levels d row.folder f.folders && (same_scope row.scope Sub && (is_of_kind row.kind o && t row))))
    go row None h = cc
    go row (Some p) h = let e : p.folder ≡ d = cc in rw e (by_scope row.scope (is_of_kind row.kind o) (t row) d row.folder f)

-- nothing reaches what stands nowhere
pub unreached : (o : Object) (f : Lists) (t : InheritRow → Bool) (rows : List InheritRow) → option_map (λ (p : Placed). p.folder) (place_of o (placed f)) ≡ None → list_any (λ row. reaches o f row && t row) rows ≡ false
unreached o f t rows home = any_none (λ row. reaches o f row && t row) rows (λ row. go row (place_of o (placed f)) home)
  where
    off : (k t : Bool) → ((k && false) && t) ≡ false
    off true t = refl
    off false t = refl

    go : (row : InheritRow) (place : Option Placed) → option_map (λ (p : Placed). p.folder) place ≡ None → ((is_of_kind row.kind o && place_in_scope row.folder row.scope place f) && t row) ≡ false
    go row None h = off (is_of_kind row.kind o) (t row)
    go row (Some p) h = cc

-- the grants on an object are those written on it that are on, and those that inherits give
pub any_grant : (o : Object) (f : Lists) (t : Grant → Bool) → list_any t (grants o f) ≡ (list_any (gives_one t) (grants_on o f.grants) || list_any (λ (row : InheritRow). reaches o f row && t (given row)) f.inherits)
any_grant o f t =
    list_any-append t (map written (filter has_begun (grants_on o f.grants))) (map given (filter (reaches o f) f.inherits))
    ∙ ap (λ b. b || list_any t (map given (filter (reaches o f) f.inherits))) (any_map t written (filter has_begun (grants_on o f.grants)) ∙ any_filter (λ (row : GrantRow). t (written row)) has_begun (grants_on o f.grants))
    ∙ ap (λ b. list_any (gives_one t) (grants_on o f.grants) || b) (any_map t given (filter (reaches o f) f.inherits) ∙ any_filter (λ (row : InheritRow). t (given row)) (reaches o f) f.inherits)

-- the inherits on a folder with nothing above it are all on the way
pub at_top : (n m d : ℕ) (fs : List FolderRow) (t : InheritRow → Bool) (rows : List InheritRow) → suc n ≡ m → parent_of d fs ≡ None → list_any (here d t) rows ≡ list_any (over m d fs t) rows
at_top n m d fs t rows e up = rw (← e) (sym (over_top n d fs t rows up))

-- those on a folder, and those further up, are all on the way
pub at_level : (n m d p : ℕ) (fs : List FolderRow) (t : InheritRow → Bool) (rows : List InheritRow) → suc n ≡ m → parent_of d fs ≡ Some p → (list_any (here d t) rows || list_any (over n p fs t) rows) ≡ list_any (over m d fs t) rows
at_level n m d p fs t rows e up = rw (← e) (sym (over_up n d p fs t rows up))

-- on the last level those on the folder are all
pub at_last : (n d : ℕ) (fs : List FolderRow) (t : InheritRow → Bool) (rows : List InheritRow) → n ≡ 0 → list_any (here d t) rows ≡ list_any (over n d fs t) rows
at_last n d fs t rows e = rw e (sym (over_last d fs t rows))
