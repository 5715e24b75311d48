-- One privilege of one holder, and whether it is on an object, told by look-ups of rows.
use Rattle.std.proofs.Common.{◌≡◌, ◌==◌, ◌&&◌, ◌||◌, ℕ, List, [], ◌∷◌, Bool, true, false, Option, None, Some, arith, refl, sym, ap, ◌∙◌, inl, inr}
use Rattle.std.proofs.lemmas.Bool.{cases_Bool, and_parts, eqb-true, or_parts}
use Rattle.std.proofs.lemmas.Bool.Decides.{nat_tests}
use Rattle.std.proofs.lemmas.Grind.{common_steps}
use Rattle.std.specs.List.{find, list_any}
use Rattle.std.specs.Ordering.{nat_cmp, ordering_then, is_eq}
use Rattle.std.specs.declared.cmp.Ordering.{Ordering}
use Rattle.std.specs.declared.cmp.Ordering.TheVariants.{Less, Equal, Greater}
use Rattle.reg_base.specs.declared.privilege.Privilege.{Privilege}
use Rattle.reg_terms.specs.Kinds.{same_object, same_holder, same_kind, same_scope, is_of_kind}
use Rattle.reg_terms.specs.Privileges.{code, same_privilege}
use Rattle.reg_terms.specs.declared.kinds.Holder.{Holder}
use Rattle.reg_terms.specs.declared.kinds.Holder.TheVariants.{Everyone, Person, Group}
use Rattle.reg_terms.specs.declared.kinds.InheritKind.{InheritKind}
use Rattle.reg_terms.specs.declared.kinds.Object.{Object}
use Rattle.reg_terms.specs.declared.kinds.Object.TheVariants as object
use Rattle.reg_terms.specs.declared.kinds.Scope.{Scope}
use Rattle.reg_terms.specs.declared.rows.GrantRow.{GrantRow}
use Rattle.reg_terms.specs.declared.rows.InheritRow.{InheritRow}
use Rattle.reg_facts.specs.Grants as tables
use Rattle.reg_facts.specs.Sound.{AreGrantsOnce}
use Rattle.reg_priv.specs.Filling.{same_grant, brings}
use Rattle.reg_priv.specs.Grants.{Grant, gives_one, written}
use Rattle.reg_priv.specs.Holders.{kind_of, id_of, grant_cmp}
use Rattle.reg_priv.proofs.Anys.{any_filter, any_none, any_same}
use Rattle.reg_priv.proofs.Placed.{one_place}
use Rattle.reg_priv.proofs.Scoped.{here}

-- ---- one privilege of one holder

cmp_is : (x y : ℕ) → is_eq (nat_cmp x y) ≡ (y == x)
cmp_is x y = grind (arith, nat_tests, common_steps)

all_equal : (a b c : Ordering) → is_eq (ordering_then (ordering_then a b) c) ≡ (is_eq a && (is_eq b && is_eq c))
all_equal Less b c = refl
all_equal Greater b c = refl
all_equal Equal Less c = refl
all_equal Equal Greater c = refl
all_equal Equal Equal c = refl

holder_is : (h j : Holder) → (is_eq (nat_cmp (kind_of h) (kind_of j)) && is_eq (nat_cmp (id_of h) (id_of j))) ≡ same_holder j h
holder_is Everyone Everyone = refl
holder_is Everyone (Person s) = refl
holder_is Everyone (Group g) = refl
holder_is (Person x) Everyone = refl
holder_is (Person x) (Person s) = cmp_is x s
holder_is (Person x) (Group g) = refl
holder_is (Group x) Everyone = refl
holder_is (Group x) (Person s) = refl
holder_is (Group x) (Group g) = cmp_is x g

pub same_pair : (p q : Privilege) (h j : Holder) → same_grant (p, h) (q, j) ≡ (same_privilege q p && same_holder j h)
same_pair p q h j =
    all_equal (nat_cmp (code p) (code q)) (nat_cmp (kind_of h) (kind_of j)) (nat_cmp (id_of h) (id_of j))
    ∙ (ap (λ b. b && (is_eq (nat_cmp (kind_of h) (kind_of j)) && is_eq (nat_cmp (id_of h) (id_of j)))) (cmp_is (code p) (code q))
    ∙ ap (λ b. same_privilege q p && b) (holder_is h j))

is_equal : (o : Ordering) → is_eq o ≡ true → o ≡ Equal
is_equal Less h = cc
is_equal Equal h = refl
is_equal Greater h = cc

pub one_grant : (g x : Grant) → same_grant g x ≡ true → g ≡ x
one_grant g x h = one_place g x (is_equal (grant_cmp g x) h)

-- ---- look-ups

pub one_object : (a b : Object) → same_object a b ≡ true → a ≡ b
one_object (object.Folder a) (object.Folder b) h = ap object.Folder (eqb-true a b h)
one_object (object.Group a) (object.Group b) h = ap object.Group (eqb-true a b h)
one_object (object.Def a) (object.Def b) h = ap object.Def (eqb-true a b h)
one_object (object.Attr a) (object.Attr b) h = ap object.Attr (eqb-true a b h)
one_object (object.Subject a) (object.Subject b) h = ap object.Subject (eqb-true a b h)
one_object _ _ h = cc

-- to two grants that are one each other grant is the same or isn't
same_alike : (a b x : GrantRow) → tables.same_grant a b ≡ true → tables.same_grant a x ≡ tables.same_grant b x
same_alike a b x h =
    let both = and_parts (same_object b.object a.object) (same_privilege b.privilege a.privilege && same_holder b.holder a.holder) h in
    let place : a.object ≡ b.object = sym (one_object b.object a.object both.0) in
    let is : written a ≡ written b = one_grant (written a) (written b) (same_pair a.privilege b.privilege a.holder b.holder ∙ both.1) in
    ap (λ y. same_object x.object a.object && y) (sym (same_pair a.privilege x.privilege a.holder x.holder))
    ∙ (ap (λ (o : Object). same_object x.object o && same_grant (written a) (written x)) place
    ∙ (ap (λ (g : Grant). same_object x.object b.object && same_grant g (written x)) is
    ∙ ap (λ y. same_object x.object b.object && y) (same_pair b.privilege x.privilege b.holder x.holder)))

-- whether the grant that was found is on
abbrev pub begun_of : Option GrantRow → Bool
begun_of None = false
begun_of (Some row) = tables.has_begun row

none_both : (t b : GrantRow → Bool) (rows : List GrantRow) → list_any t rows ≡ false → list_any (λ r. t r && b r) rows ≡ false
none_both t b [] h = refl
none_both t b (r ∷ rows) h = let parts = or_parts (t r) (list_any t rows) h in rw (parts.0, none_both t b rows parts.1) refl

or_off : (b : Bool) → (b || false) ≡ b
or_off true = refl
or_off false = refl

-- of grants that stand once the one that is found decides
one_found : (t : GrantRow → Bool) (rows : List GrantRow) → ((a x : GrantRow) → t a ≡ true → t x ≡ tables.same_grant a x) → AreGrantsOnce rows → list_any (λ r. t r && tables.has_begun r) rows ≡ begun_of (find t rows)
one_found t [] like once = refl
one_found t (r ∷ rows) like once = elim (cases_Bool (t r)) [
  | inl y ↦
      let others : list_any t rows ≡ false = any_same t (tables.same_grant r) rows (λ x. like r x y) ∙ once.0 in
      let rest : list_any (λ x. t x && tables.has_begun x) rows ≡ false = none_both t tables.has_begun rows others in
      rw (y, rest) (or_off (tables.has_begun r))
  | inr n ↦ rw n (one_found t rows like once.1)
]

turned : (a b c : Bool) → (a && (b && c)) ≡ ((a && c) && b)
turned true true true = refl
turned true true false = refl
turned true false true = refl
turned true false false = refl
turned false b c = refl

pub written_one : (o : Object) (p : Privilege) (h : Holder) (rows : List GrantRow) → AreGrantsOnce rows
    → list_any (gives_one (same_grant (p, h))) (tables.grants_on o rows) ≡ begun_of (find (tables.same_grant (record { object = o; privilege = p; holder = h; from = None; until = None })) rows)
written_one o p h rows once =
    let this : GrantRow = record { object = o; privilege = p; holder = h; from = None; until = None } in
    any_filter (gives_one (same_grant (p, h))) (λ (row : GrantRow). same_object row.object o) rows
    ∙ (any_same (λ (row : GrantRow). same_object row.object o && gives_one (same_grant (p, h)) row) (λ (row : GrantRow). tables.same_grant this row && tables.has_begun row) rows (λ row.
    turned (same_object row.object o) (tables.has_begun row) (same_grant (p, h) (written row))
    ∙ ap (λ b. (same_object row.object o && b) && tables.has_begun row) (same_pair p row.privilege h row.holder))
    ∙ one_found (tables.same_grant this) rows (λ a x e. same_alike this a x e) once)

moved : (a b c d : Bool) → (a && (b && (c && d))) ≡ (a && (c && (b && d)))
moved false b c d = refl
moved true true true d = refl
moved true true false d = refl
moved true false true d = refl
moved true false false d = refl

pub given_one : (o : Object) (d : ℕ) (k : InheritKind) (s : Scope) (p : Privilege) (h : Holder) (rows : List InheritRow) → ((j : InheritKind) → is_of_kind j o ≡ same_kind j k)
    → tables.has_inherit (record { folder = d; kind = k; scope = s; privilege = p; holder = h }) rows ≡ list_any (here d (brings o s (p, h))) rows
given_one o d k s p h rows is =
    let this : InheritRow = record { folder = d; kind = k; scope = s; privilege = p; holder = h } in
    any_same (tables.same_inherit this) (here d (brings o s (p, h))) rows (λ row.
    moved (row.folder == d) (same_kind row.kind k) (same_scope row.scope s) (same_privilege row.privilege p && same_holder row.holder h)
    ∙ (ap (λ b. (row.folder == d) && (same_scope row.scope s && (b && (same_privilege row.privilege p && same_holder row.holder h)))) (sym (is row.kind))
    ∙ ap (λ b. (row.folder == d) && (same_scope row.scope s && (is_of_kind row.kind o && b))) (sym (same_pair p row.privilege h row.holder))))

off : (a b : Bool) → (a && (b && false)) ≡ false
off true true = refl
off true false = refl
off false b = refl

pub given_none : (o : Object) (d : ℕ) (s : Scope) (p : Privilege) (h : Holder) (rows : List InheritRow) → ((j : InheritKind) → is_of_kind j o ≡ false) → list_any (here d (brings o s (p, h))) rows ≡ false
given_none o d s p h rows is = any_none (here d (brings o s (p, h))) rows (λ row. rw (is row.kind) (off (row.folder == d) (same_scope row.scope s)))
