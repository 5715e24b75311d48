-- A map by names: what a change at one name leaves at any name.
use Rattle.std.proofs.Common.{◌≡◌, ℕ, List, Bool, true, false, Option, None, Some, IsSome, Vec, option_map, if◌then◌else◌, refl, sym, subst, ◌∙◌, inl, inr}
use Rattle.std.proofs.lemmas.Bool.{cases_Bool}
use Rattle.std.proofs.lemmas.Cmp.{eq_by_cmp_equiv, nat_list_cmp_total, nat_list_eq_equiv}
use Rattle.std.proofs.lemmas.Slice.Eq.{bytes_eq-Decides}
use Rattle.std.proofs.lemmas.Map.Text.{is_eq-slice_cmp}
use Rattle.std.specs.Ordering.{nat_cmp, is_eq}
use Rattle.std.specs.Cmp.Lexicographic.{slice_cmp}
use Rattle.std.specs.Str.{bytes_eq}
use Rattle.std.specs.BTreeMap.{BTreeMap, UpdatesBy, get_by}
use Rattle.std.specs.Map.{lookup, KeepsOthers, IsKeyTest, AreApart}

-- what the map has under a name
abbrev pub under : {Z : Type 0} → BTreeMap (Vec ℕ Z) ℕ → List ℕ → Option ℕ
under m name = get_by (λ k. slice_cmp nat_cmp name k.items) m

other_entries : {K X : Type 0} (eq : K → K → Bool) (test : K → Bool) (old new : List (K × X)) → KeepsOthers eq test old new → (other : K → Bool) → IsKeyTest eq other → AreApart test other → lookup other new ≡ lookup other old
unfolding KeepsOthers
other_entries eq test old new h = h

apart : (a b k : List ℕ) → bytes_eq a b ≡ false → is_eq (slice_cmp nat_cmp a k) ≡ true → is_eq (slice_cmp nat_cmp b k) ≡ false
apart a b k n y = is_eq-slice_cmp b k ∙ (nat_list_eq_equiv.symm b k ∙ (sym (nat_list_eq_equiv.congr a k b (sym (is_eq-slice_cmp a k) ∙ y)) ∙ n))

-- the name has what was put there, and each other name what it had
pub under_after : {Z : Type 0} (name : List ℕ) (m n : BTreeMap (Vec ℕ Z) ℕ) (w : Option ℕ) → UpdatesBy (λ (a b : Vec ℕ Z). slice_cmp nat_cmp a.items b.items) (λ k. slice_cmp nat_cmp name k.items) m n w → (other : List ℕ) → under n other ≡ (if bytes_eq name other then w else under m other)
under_after name m n w h other = elim (cases_Bool (bytes_eq name other)) [
  | inl y ↦ let same : name ≡ other = (bytes_eq-Decides name other).0 y in rw (y, ← same) h.1
  | inr f ↦ rw f (other_entries _ _ _ _ h.3 _ (λ x y. (eq_by_cmp_equiv nat_list_cmp_total).congr other x.items y.items) (λ k. apart name other k.items f))
]

moved_one : (w : ℕ) (place : Option ℕ) → IsSome place → Some w ≡ option_map (λ (p : ℕ). w) place
moved_one w None h = cc
moved_one w (Some p) h = refl

-- a place that is there is moved
pub moved : (name other : List ℕ) (w : ℕ) (place : List ℕ → Option ℕ) (new : Option ℕ) → IsSome (place name) → new ≡ (if bytes_eq name other then Some w else place other) → new ≡ (if bytes_eq name other then option_map (λ (p : ℕ). w) (place other) else place other)
moved name other w place new h e = elim (cases_Bool (bytes_eq name other)) [
  | inl y ↦ let same : name ≡ other = (bytes_eq-Decides name other).0 y in e ∙ rw y (moved_one w (place other) (subst (λ k. IsSome (place k)) same h))
  | inr f ↦ e ∙ rw f refl
]
