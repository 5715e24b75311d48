-- The moments among some values, with one value more.
use Rattle.std.proofs.Common.{◌≡◌, ◌+◌, ◌<◌, ℕ, List, [], ◌∷◌, ◌++◌, Option, Some, None, Bor, length, get_or, map, take, sym, ◌∙◌, ap, append_assoc, append-nil}
use Rattle.std.specs.List.{cons_option, filter_map}
use Rattle.std.specs.Map.Iter.{deref}
use Rattle.std.proofs.lemmas.List.{map-append, take_more}
use Rattle.std.proofs.lemmas.List.Elements.{filter_map-append}
use Rattle.reg_terms.specs.declared.kinds.AttrValue.{AttrValue}
use Rattle.reg_access.specs.Assigned.{moment_given}

-- the moments among the first of some values
abbrev pub found : ℕ → List (Bor AttrValue) → List ℕ
found i values = filter_map moment_given (map deref (take i values))

module _ (values : List (Bor AttrValue)) (i : ℕ) (v : Bor AttrValue) (inside : i < length values) (is : v ≡ get_or values i v) where
  one_more : found (i + 1) values ≡ found i values ++ cons_option (moment_given v.now) []
  one_more =
      ap (λ (l : List (Bor AttrValue)). filter_map moment_given (map deref l)) (take_more values i v inside)
      ∙ ap (filter_map moment_given) (map-append deref (take i values) (get_or values i v ∷ []))
      ∙ filter_map-append moment_given (map deref (take i values)) (deref (get_or values i v) ∷ [])
      ∙ ap (λ (x : Bor AttrValue). found i values ++ cons_option (moment_given x.now) []) (sym is)

  pub added : (first old new : List ℕ) (m : ℕ) → old ≡ first ++ found i values → moment_given v.now ≡ Some m → new ≡ old ++ m ∷ [] → new ≡ first ++ found (i + 1) values
  added first old new m so_far given pushed =
      pushed ∙ ap (λ (l : List ℕ). l ++ m ∷ []) so_far ∙ append_assoc first (found i values) (m ∷ [])
      ∙ ap (λ (o : Option ℕ). first ++ (found i values ++ cons_option o [])) (sym given)
      ∙ ap (λ (l : List ℕ). first ++ l) (sym one_more)

  pub passed : (first old : List ℕ) → old ≡ first ++ found i values → moment_given v.now ≡ None → old ≡ first ++ found (i + 1) values
  passed first old so_far given =
      so_far ∙ ap (λ (l : List ℕ). first ++ l)
      (sym (append-nil (found i values))
      ∙ ap (λ (o : Option ℕ). found i values ++ cons_option o []) (sym given) ∙ sym one_more)
