-- No grant stands twice: with a grant more, with fewer, and with one in the place of the same.
use Rattle.std.proofs.Common.{◌≡◌, ◌==◌, ◌&&◌, ◌||◌, ◌∙◌, ℕ, List, [], ◌∷◌, ◌++◌, Bool, true, false, map, filter, inl, inr, refl, sym, ap}
use Rattle.std.specs.List.{AllByRecursion, list_any}
use Rattle.std.proofs.lemmas.Bool.{cases_Bool, and_parts, or_parts, true≢false, false_from_ne_true, eqb-true, eq-eqb}
use Rattle.reg_terms.specs.declared.kinds.Holder.{Holder}
use Rattle.reg_terms.specs.declared.kinds.Holder.TheVariants as holder
use Rattle.reg_terms.specs.declared.rows.GrantRow.{GrantRow}
use Rattle.reg_terms.specs.Kinds.{same_object, same_holder}
use Rattle.reg_terms.specs.Privileges.{code, same_privilege}
use Rattle.reg_facts.specs.Grants.{same_grant, has_grant, replaced}
use Rattle.reg_facts.specs.Sound.{AreGrantsOnce}
use Rattle.reg_facts.proofs.Joined.{none_push, none_filter}
use Rattle.reg_facts.proofs.Places.{same_is, same_self}

holder_is : (a b : Holder) → same_holder a b ≡ true → a ≡ b
holder_is holder.Everyone holder.Everyone h = refl
holder_is holder.Everyone (holder.Person b) h = cc
holder_is holder.Everyone (holder.Group b) h = cc
holder_is (holder.Person a) holder.Everyone h = cc
holder_is (holder.Person a) (holder.Group b) h = cc
holder_is (holder.Group a) holder.Everyone h = cc
holder_is (holder.Group a) (holder.Person b) h = cc
holder_is (holder.Person a) (holder.Person b) h = ap (λ n. holder.Person n) (eqb-true a b h)
holder_is (holder.Group a) (holder.Group b) h = ap (λ n. holder.Group n) (eqb-true a b h)

holder_self : (a : Holder) → same_holder a a ≡ true
holder_self holder.Everyone = refl
holder_self (holder.Person a) = eq-eqb a a refl
holder_self (holder.Group a) = eq-eqb a a refl

-- what two grants that are one have in common
pub record AreOne (a b : GrantRow) : Type 0 where
  pub object : b.object ≡ a.object
  pub privilege : code b.privilege ≡ code a.privilege
  pub holder : b.holder ≡ a.holder

pub are_one : (a b : GrantRow) → same_grant a b ≡ true → AreOne a b
are_one a b h =
    let first = and_parts (same_object b.object a.object) (same_privilege b.privilege a.privilege && same_holder b.holder a.holder) h in
    let then = and_parts (same_privilege b.privilege a.privilege) (same_holder b.holder a.holder) first.1 in
    record {
      object = same_is b.object a.object first.0;
      privilege = eqb-true (code b.privilege) (code a.privilege) then.0;
      holder = holder_is b.holder a.holder then.1;
    }

-- to both of them each other grant is the same or isn't
pub alike : (a b x : GrantRow) → same_grant a b ≡ true → same_grant x a ≡ same_grant x b
alike a b x h = let one = are_one a b h in rw (one.object, one.privilege, one.holder) refl

pub alike_first : (a b x : GrantRow) → same_grant a b ≡ true → same_grant a x ≡ same_grant b x
alike_first a b x h = let one = are_one a b h in rw (one.object, one.privilege, one.holder) refl

pub grant_self : (a : GrantRow) → same_grant a a ≡ true
grant_self a = rw (same_self a.object, eq-eqb (code a.privilege) (code a.privilege) refl, holder_self a.holder) refl

grant_other : (a b : GrantRow) → same_grant b a ≡ false → same_grant a b ≡ false
grant_other a b h = false_from_ne_true (same_grant a b) (λ t. true≢false (sym (alike a b b t ∙ grant_self b) ∙ h))

-- with a grant more
pub once_push : (rows : List GrantRow) (row : GrantRow) → AreGrantsOnce rows → has_grant row rows ≡ false → AreGrantsOnce (rows ++ row ∷ [])
once_push [] row h new = (refl, tt)
once_push (r ∷ rows) row h new =
    let parts = or_parts (same_grant row r) (has_grant row rows) new in
    (none_push (same_grant r) rows row h.0 (grant_other r row parts.0), once_push rows row h.1 parts.1)

-- with fewer
pub once_filter : (test : GrantRow → Bool) (rows : List GrantRow) → AreGrantsOnce rows → AreGrantsOnce (filter test rows)
once_filter test [] h = tt
once_filter test (r ∷ rows) h = elim (cases_Bool (test r)) [
  | inl t ↦ rw t (none_filter (same_grant r) test rows h.0, once_filter test rows h.1)
  | inr t ↦ rw t (once_filter test rows h.1)
]

-- with one in the place of the same
pub has_replaced : (x row : GrantRow) (rows : List GrantRow) → has_grant x (map (replaced row) rows) ≡ has_grant x rows
has_replaced x row [] = refl
has_replaced x row (r ∷ rows) = elim (cases_Bool (same_grant row r)) [
  | inl t ↦ rw (t, has_replaced x row rows) (ap (λ b. b || has_grant x rows) (alike row r x t))
  | inr t ↦ rw (t, has_replaced x row rows) refl
]

has_alike : (a b : GrantRow) (rows : List GrantRow) → same_grant a b ≡ true → has_grant a rows ≡ has_grant b rows
has_alike a b rows h = ap (λ (test : GrantRow → Bool). list_any test rows) (λ i x. alike_first a b x h i)

pub once_replaced : (row : GrantRow) (rows : List GrantRow) → AreGrantsOnce rows → AreGrantsOnce (map (replaced row) rows)
once_replaced row [] h = tt
once_replaced row (r ∷ rows) h = elim (cases_Bool (same_grant row r)) [
  | inl t ↦ rw t (has_replaced row row rows ∙ (has_alike row r rows t ∙ h.0), once_replaced row rows h.1)
  | inr t ↦ rw t (has_replaced r row rows ∙ h.0, once_replaced row rows h.1)
]

pub all_replaced : (P : GrantRow → Type 0) (row : GrantRow) (rows : List GrantRow) → P row → AllByRecursion P rows → AllByRecursion P (map (replaced row) rows)
all_replaced P row [] p h = tt
all_replaced P row (r ∷ rows) p h = elim (cases_Bool (same_grant row r)) [
  | inl t ↦ rw t (p, all_replaced P row rows p h.1)
  | inr t ↦ rw t (h.0, all_replaced P row rows p h.1)
]
