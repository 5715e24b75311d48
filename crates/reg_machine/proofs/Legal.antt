-- A legal history stays legal with a command more that isn't refused, whose key its caller hasn't used.
use Rattle.std.proofs.Common.{◌≡◌, ◌∙◌, ℕ, List, Option, [], ◌∷◌, ◌++◌, true, None, ap, ap₂, inl, inr, refl, sym}
use Rattle.std.specs.Prelude.{◌⊎◌}
use Rattle.std.specs.List.{AllByRecursion}
use Rattle.reg_terms.specs.declared.command.Stamped.{Stamped}
use Rattle.reg_ops.specs.Forms.{key_fits, takes_key}
use Rattle.reg_machine.specs.Refusals.{refusal}
use Rattle.reg_machine.specs.Invariant.{IsBy, IsLegal}
use Rattle.reg_machine.specs.Keys.{KeysOnce, is_free}
use Rattle.reg_machine.proofs.Keying.{free_unused}

-- a list is not empty where something stands in it
pub not_empty : {A : Type 0} (ys zs : List A) (y : A) → [] ≡ ys ++ y ∷ zs → ⊥
not_empty [] zs y e = cc
not_empty (w ∷ ys) zs y e = cc

-- what stands in a list with one more at its end is that one, or stood in the list
pub last_or_before : {A : Type 0} (xs ys zs : List A) (x y : A) → xs ++ x ∷ [] ≡ ys ++ y ∷ zs → ((ys ≡ xs) × (y ≡ x)) ⊎ ((ws : List A) × (xs ≡ ys ++ y ∷ ws))
last_or_before [] [] zs x y e = let same : y ≡ x = cc in inl (refl, same)
last_or_before [] (w ∷ ys) zs x y e = let rest : [] ≡ ys ++ y ∷ zs = cc in absurd (not_empty ys zs y rest)
last_or_before (w ∷ xs) [] zs x y e = let same : w ≡ y = cc in inr (xs, ap (λ v. v ∷ xs) same)
last_or_before (w ∷ xs) (v ∷ ys) zs x y e =
    let same : w ≡ v = cc in
    let rest : xs ++ x ∷ [] ≡ ys ++ y ∷ zs = cc in
    elim (last_or_before xs ys zs x y rest) [
      | inl here ↦ inl (ap (λ us. v ∷ us) here.0 ∙ ap (λ u. u ∷ xs) (sym same), here.1)
      | inr before ↦ inr (before.0, ap (λ u. u ∷ xs) same ∙ ap (λ us. v ∷ us) before.1)
    ]

-- a command under a key that its caller hasn't used
keys_push : (history : List Stamped) (s : Stamped) → KeysOnce history → is_free history s.by s.key ≡ true → KeysOnce (history ++ s ∷ [])
keys_push history s once free before after x key e is = elim (last_or_before history before after s x e) [
  | inl here ↦
      let now : is_free before x.by x.key ≡ true = ap₂ (λ (h : List Stamped) (y : Stamped). is_free h y.by y.key) here.0 here.1 ∙ free in
      free_unused before x.by key (ap (λ (k : Option (List ℕ)). is_free before x.by k) (sym is) ∙ now)
  | inr there ↦ once before there.0 x key there.1 is
]

pub legal_push : (history : List Stamped) (s : Stamped) → IsLegal history → refusal history s.at s.by s.command ≡ None → AllByRecursion (IsBy s.at) history → is_free history s.by s.key ≡ true → key_fits (takes_key s.command) s.key ≡ true → IsLegal (history ++ s ∷ [])
legal_push history s h allowed by free fits = record {
  allowed = λ before after x e. elim (last_or_before history before after s x e) [
    | inl here ↦ rw (here.0, here.1) allowed
    | inr there ↦ h.allowed before there.0 x there.1
  ];
  ascending = λ before after x e. elim (last_or_before history before after s x e) [
    | inl here ↦ rw (here.0, here.1) by
    | inr there ↦ h.ascending before there.0 x there.1
  ];
  keys = keys_push history s h.keys free;
  fits = λ before after x e. elim (last_or_before history before after s x e) [
    | inl here ↦ ap (λ (y : Stamped). key_fits (takes_key y.command) y.key) here.1 ∙ fits
    | inr there ↦ h.fits before there.0 x there.1
  ];
}
