-- A name is found among what is shown of rows exactly where the object that it names passes the test.
use Rattle.std.proofs.Common.{◌≡◌, ◌∷◌, ℕ, List, [], Bool, true, false, Option, Some, None, inl, inr, refl, sym, ap, ◌∙◌, option_map, bytes_eq}
use Rattle.std.specs.Prelude.{if◌then◌else◌}
use Rattle.std.specs.List.{AllByRecursion, find}
use Rattle.std.proofs.lemmas.Bool.{cases_Bool, both_ways, false_from_ne_true}
use Rattle.reg_terms.specs.declared.kinds.Object.{Object}
use Rattle.reg_terms.specs.Kinds.{same_object}
use Rattle.reg_facts.specs.Lists.{Lists}
use Rattle.reg_facts.specs.Named.{AreNamed}
use Rattle.reg_facts.specs.Naming.{resolve, name_of}
use Rattle.reg_facts.specs.Sound.{is_named}
use Rattle.reg_view.specs.Show.{named}
use Rattle.reg_view.specs.View.{shown_where}
use Rattle.reg_view.proofs.Same.{same_self, same_is, bytes_same, bytes_self}

-- the row whose object this is, as it is shown, if the object passes
abbrev pub chosen : {R A : Type 0} → (R → Object) → (Object → Bool) → (R → A) → List R → Option Object → Option A
chosen object test show rows None = None
chosen object test show rows (Some o) = if test o then option_map show (find (λ r. same_object (object r) o) rows) else None

module _ (f : Lists) (are : AreNamed f) (text : List ℕ) where
  -- an object has this text as its name exactly where the text names it
  pub tells : (o x : Object) → resolve text f ≡ Some o → is_named x f ≡ true → bytes_eq (name_of x f) text ≡ same_object x o
  tells o x at h = elim (cases_Bool (same_object x o)) [
    | inl t ↦
        let is : x ≡ o = same_is x o t in
        let name : name_of x f ≡ text = ap (λ y. name_of y f) is ∙ (are.found text o at).0 in
        ap (λ n. bytes_eq n text) name ∙ bytes_self text ∙ sym t
    | inr t ↦ false_from_ne_true (bytes_eq (name_of x f) text) (λ u.
        let one : Some x ≡ Some o = sym (are.finds x h) ∙ ap (λ n. resolve n f) (bytes_same (name_of x f) text u) ∙ at in
        let is : x ≡ o = cc in
        both_ways (same_object x o) t (ap (λ y. same_object y o) is ∙ same_self o)) ∙ sym t
  ]

  pub tells_none : (x : Object) → resolve text f ≡ None → is_named x f ≡ true → bytes_eq (name_of x f) text ≡ false
  tells_none x at h = false_from_ne_true (bytes_eq (name_of x f) text) (λ u.
      let clash : Some x ≡ None = sym (are.finds x h) ∙ ap (λ n. resolve n f) (bytes_same (name_of x f) text u) ∙ at in
      absurd (let never : ⊥ = cc in never))

  module _ {R A : Type 0} (object : R → Object) (test : Object → Bool) (show : R → A) (name : A → List ℕ) (names : (r : R) → name (show r) ≡ name_of (object r) f) where
    none_found : (rows : List R) → AllByRecursion (λ (r : R). is_named (object r) f ≡ true) rows → resolve text f ≡ None → named name (shown_where object test show rows) text ≡ None
    none_found [] all at = refl
    none_found (r ∷ rows) all at = elim (cases_Bool (test (object r))) [
      | inl t ↦
          let off : bytes_eq (name (show r)) text ≡ false = ap (λ n. bytes_eq n text) (names r) ∙ tells_none (object r) at all.0 in
          rw (t, off) (none_found rows all.1 at)
      | inr t ↦ rw t (none_found rows all.1 at)
    ]

    none_passes : (rows : List R) (o : Object) → AllByRecursion (λ (r : R). is_named (object r) f ≡ true) rows → resolve text f ≡ Some o → test o ≡ false → named name (shown_where object test show rows) text ≡ None
    none_passes [] o all at fails = refl
    none_passes (r ∷ rows) o all at fails = elim (cases_Bool (test (object r))) [
      | inl t ↦
          let off : same_object (object r) o ≡ false = false_from_ne_true (same_object (object r) o) (λ u. both_ways (test o) fails (ap test (sym (same_is (object r) o u)) ∙ t)) in
          let other : bytes_eq (name (show r)) text ≡ false = ap (λ n. bytes_eq n text) (names r) ∙ tells o (object r) at all.0 ∙ off in
          rw (t, other) (none_passes rows o all.1 at fails)
      | inr t ↦ rw t (none_passes rows o all.1 at fails)
    ]

    one_passes : (rows : List R) (o : Object) → AllByRecursion (λ (r : R). is_named (object r) f ≡ true) rows → resolve text f ≡ Some o → test o ≡ true → named name (shown_where object test show rows) text ≡ option_map show (find (λ (r : R). same_object (object r) o) rows)
    one_passes [] o all at passes = refl
    one_passes (r ∷ rows) o all at passes = elim (cases_Bool (same_object (object r) o)) [
      | inl t ↦
          let pass : test (object r) ≡ true = ap test (same_is (object r) o t) ∙ passes in
          let this : bytes_eq (name (show r)) text ≡ true = ap (λ n. bytes_eq n text) (names r) ∙ tells o (object r) at all.0 ∙ t in
          rw (pass, this, t) refl
      | inr t ↦
          let other : bytes_eq (name (show r)) text ≡ false = ap (λ n. bytes_eq n text) (names r) ∙ tells o (object r) at all.0 ∙ t in
          elim (cases_Bool (test (object r))) [
            | inl p ↦ rw (p, other, t) (one_passes rows o all.1 at passes)
            | inr p ↦ rw (p, t) (one_passes rows o all.1 at passes)
          ]
    ]

    -- what is found by the name
    pub found_by : (rows : List R) (o : Option Object) → AllByRecursion (λ (r : R). is_named (object r) f ≡ true) rows → resolve text f ≡ o → named name (shown_where object test show rows) text ≡ chosen object test show rows o
    found_by rows None all at = none_found rows all at
    found_by rows (Some o) all at = elim (cases_Bool (test o)) [
      | inl t ↦ one_passes rows o all at t ∙ rw t refl
      | inr t ↦ none_passes rows o all at t ∙ rw t refl
    ]
