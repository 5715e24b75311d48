-- The kinds, scopes and privileges of inherits and grants are read exactly as they are written.
use Rattle.std.proofs.Common.{◌≡◌, ℕ, zero, suc, true, eqb, List, [], ◌∷◌, ◌++◌, Some, refl, sym, ap, subst, ◌∙◌, inl, inr}
use Rattle.std.specs.List.{find}
use Rattle.std.proofs.lemmas.Bool.{eqb-true}
use Rattle.std.proofs.lemmas.Option.{same_Some}
use Rattle.reg_base.specs.declared.privilege.Privilege.{Privilege}
use Rattle.reg_base.specs.declared.privilege.Privilege.TheVariants.{Admin, Update, Read, View, Optin, Optout, GroupAttrRead, GroupAttrUpdate, StemAdmin, Create, StemAttrRead, StemAttrUpdate, AttrAdmin, AttrUpdate, AttrRead, AttrView}
use Rattle.reg_terms.specs.declared.kinds.InheritKind.{InheritKind}
use Rattle.reg_terms.specs.declared.kinds.InheritKind.TheVariants.{Folder, Group, Definition}
use Rattle.reg_terms.specs.declared.kinds.Scope.{Scope}
use Rattle.reg_terms.specs.declared.kinds.Scope.TheVariants.{One, Sub}
use Rattle.reg_terms.specs.Privileges.{code, all_privileges, privilege_coded}
use Rattle.reg_ops.specs.Parts.{◌>>=◌}
use Rattle.reg_wire.specs.Fields.{inherit_kind_bytes, scope_bytes, privilege_bytes}
use Rattle.reg_wire.specs.Reading.{byte_at, inherit_kind_at, scope_at, privilege_at}
use Rattle.reg_wire.proofs.Exact.{IsExact, always, bind_some}
use Rattle.reg_wire.proofs.Entities.{chosen}

-- ---- the kind of objects

abbrev IsInheritKindRead : List ℕ → InheritKind × List ℕ → Type 0
IsInheritKindRead bytes x = (bytes ≡ inherit_kind_bytes x.0 ++ x.1) × (always x.0 ≡ true)

inherit_kind_takes : (bytes : List ℕ) (x : InheritKind × List ℕ) → inherit_kind_at bytes ≡ Some x → IsInheritKindRead bytes x
unfolding inherit_kind_at
inherit_kind_takes [] x e = absurd cc
inherit_kind_takes (zero ∷ rest) x e = absurd cc
inherit_kind_takes (suc zero ∷ rest) x e = subst (IsInheritKindRead (1 ∷ rest)) (same_Some (Folder, rest) x e) (refl, refl)
inherit_kind_takes (suc (suc zero) ∷ rest) x e = subst (IsInheritKindRead (2 ∷ rest)) (same_Some (Group, rest) x e) (refl, refl)
inherit_kind_takes (suc (suc (suc zero)) ∷ rest) x e = subst (IsInheritKindRead (3 ∷ rest)) (same_Some (Definition, rest) x e) (refl, refl)
inherit_kind_takes (suc (suc (suc (suc b))) ∷ rest) x e = absurd cc

inherit_kind_again : (kind : InheritKind) (rest : List ℕ) → always kind ≡ true → inherit_kind_at (inherit_kind_bytes kind ++ rest) ≡ Some (kind, rest)
unfolding inherit_kind_at
inherit_kind_again Folder rest good = refl
inherit_kind_again Group rest good = refl
inherit_kind_again Definition rest good = refl

pub inherit_kind_exact : IsExact inherit_kind_bytes always inherit_kind_at
inherit_kind_exact = record { takes = inherit_kind_takes; again = inherit_kind_again }

-- ---- scopes

abbrev IsScopeRead : List ℕ → Scope × List ℕ → Type 0
IsScopeRead bytes x = (bytes ≡ scope_bytes x.0 ++ x.1) × (always x.0 ≡ true)

scope_takes : (bytes : List ℕ) (x : Scope × List ℕ) → scope_at bytes ≡ Some x → IsScopeRead bytes x
unfolding scope_at
scope_takes [] x e = absurd cc
scope_takes (zero ∷ rest) x e = absurd cc
scope_takes (suc zero ∷ rest) x e = subst (IsScopeRead (1 ∷ rest)) (same_Some (One, rest) x e) (refl, refl)
scope_takes (suc (suc zero) ∷ rest) x e = subst (IsScopeRead (2 ∷ rest)) (same_Some (Sub, rest) x e) (refl, refl)
scope_takes (suc (suc (suc b)) ∷ rest) x e = absurd cc

scope_again : (scope : Scope) (rest : List ℕ) → always scope ≡ true → scope_at (scope_bytes scope ++ rest) ≡ Some (scope, rest)
unfolding scope_at
scope_again One rest good = refl
scope_again Sub rest good = refl

pub scope_exact : IsExact scope_bytes always scope_at
scope_exact = record { takes = scope_takes; again = scope_again }

-- ---- privileges

-- one that is found by a code has it
found_has : (n : ℕ) (ps : List Privilege) (p : Privilege) → find (λ q. eqb (code q) n) ps ≡ Some p → code p ≡ n
found_has n [] p e = absurd cc
found_has n (q ∷ ps) p e = elim (chosen (eqb (code q) n) (Some q) (find (λ q. eqb (code q) n) ps) (Some p) e) [
  | inl here ↦ ap code (sym (same_Some q p here.1)) ∙ eqb-true _ _ here.0
  | inr later ↦ found_has n ps p later.1
]

coded_has : (n : ℕ) (p : Privilege) → privilege_coded n ≡ Some p → code p ≡ n
unfolding privilege_coded
coded_has n p e = found_has n all_privileges p e

coded_again : (p : Privilege) → privilege_coded (code p) ≡ Some p
unfolding privilege_coded
coded_again Admin = refl
coded_again Update = refl
coded_again Read = refl
coded_again View = refl
coded_again Optin = refl
coded_again Optout = refl
coded_again GroupAttrRead = refl
coded_again GroupAttrUpdate = refl
coded_again StemAdmin = refl
coded_again Create = refl
coded_again StemAttrRead = refl
coded_again StemAttrUpdate = refl
coded_again AttrAdmin = refl
coded_again AttrUpdate = refl
coded_again AttrRead = refl
coded_again AttrView = refl

abbrev IsPrivilegeRead : List ℕ → Privilege × List ℕ → Type 0
IsPrivilegeRead bytes x = (bytes ≡ privilege_bytes x.0 ++ x.1) × (always x.0 ≡ true)

pub byte_takes : (bytes : List ℕ) (x : ℕ × List ℕ) → byte_at bytes ≡ Some x → bytes ≡ x.0 ∷ x.1
byte_takes [] x e = absurd cc
byte_takes (b ∷ rest) x e = ap (λ (y : ℕ × List ℕ). y.0 ∷ y.1) (same_Some (b, rest) x e)

privilege_takes : (bytes : List ℕ) (x : Privilege × List ℕ) → privilege_at bytes ≡ Some x → IsPrivilegeRead bytes x
unfolding privilege_at
privilege_takes bytes x e =
    let a = bind_some (byte_at bytes) (λ code. privilege_coded code.0 >>= λ privilege. Some (privilege, code.1)) x e in
    let b = bind_some (privilege_coded a.0.0) (λ privilege. Some (privilege, a.0.1)) x a.2 in
    let has = coded_has a.0.0 b.0 b.1 in
    subst (IsPrivilegeRead bytes) (same_Some (b.0, a.0.1) x b.2) (byte_takes bytes a.0 a.1 ∙ ap (λ (n : ℕ). n ∷ a.0.1) (sym has), refl)

privilege_again : (privilege : Privilege) (rest : List ℕ) → always privilege ≡ true → privilege_at (privilege_bytes privilege ++ rest) ≡ Some (privilege, rest)
unfolding privilege_at
privilege_again privilege rest good = rw (coded_again privilege) refl

pub privilege_exact : IsExact privilege_bytes always privilege_at
privilege_exact = record { takes = privilege_takes; again = privilege_again }
