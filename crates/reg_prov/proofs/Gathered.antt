-- What is known of all groups up to a number, one group after another.
use Rattle.std.proofs.Common.{◌≡◌, ◌+◌, ◌≤◌, ◌<◌, ◌==◌, ℕ, List, [], ◌∷◌, ◌++◌, Bool, true, false, Some, None, arith, refl, sym, ◌∙◌, ap, subst, inl, inr, if◌then◌else◌}
use Rattle.std.proofs.lemmas.Bool.{cases_Bool, cases_lt, eq-eqb, ne_eqb}
use Rattle.std.specs.List.{AllByRecursion}
use Rattle.reg_prov.specs.declared.past.GroupPast.{GroupPast}
use Rattle.reg_prov.specs.Pasts.{AreByGroup, Tell, TellsOf, want_in}
use Rattle.reg_prov.specs.Spans.{ByPerson, spans_in, wished}

abbrev pub AreBelow : ℕ → List GroupPast → Type 0
AreBelow n pasts = AllByRecursion (λ (past : GroupPast). past.group < n) pasts

-- ---- one group more, at the end

below_more : (n m : ℕ) (pasts : List GroupPast) → n ≤ m → AreBelow n pasts → AreBelow m pasts
below_more n m [] w h = tt
below_more n m (p ∷ pasts) w h = (omega (arith, w, h.0), below_more n m pasts w h.1)

below_pushed : (n : ℕ) (pasts : List GroupPast) (past : GroupPast) → AreBelow n pasts → past.group < n → AreBelow n (pasts ++ past ∷ [])
below_pushed n [] past h w = (w, tt)
below_pushed n (p ∷ pasts) past h w = (h.0, below_pushed n pasts past h.1 w)

ordered_pushed : (pasts : List GroupPast) (past : GroupPast) → AreByGroup pasts → AreBelow past.group pasts → ByPerson past.members.items → AreByGroup (pasts ++ past ∷ [])
ordered_pushed [] past h low up = (tt, up, tt)
ordered_pushed (p ∷ pasts) past h low up = (later pasts h.0, h.1, ordered_pushed pasts past h.2 low.1 up)
  where
    later : (rest : List GroupPast) → AllByRecursion (λ (x : GroupPast). p.group < x.group) rest → AllByRecursion (λ (x : GroupPast). p.group < x.group) (rest ++ past ∷ [])
    later [] k = (low.0, tt)
    later (x ∷ rest) k = (k.0, later rest k.1)

want_below : (n : ℕ) (pasts : List GroupPast) (t g s : ℕ) → AreBelow n pasts → n ≤ g → want_in pasts t g s ≡ false
want_below n [] t g s h w = refl
want_below n (p ∷ pasts) t g s h w =
    let low : p.group < n = h.0 in
    let other : (p.group == g) ≡ false = ne_eqb p.group g (λ e. absurd (omega (arith, e, low, w))) in
    rw other (want_below n pasts t g s h.1 w)

want_other : (pasts : List GroupPast) (past : GroupPast) (t g s : ℕ) → (past.group ≡ g → ⊥) → want_in (pasts ++ past ∷ []) t g s ≡ want_in pasts t g s
want_other [] past t g s ne = rw (ne_eqb past.group g ne) refl
want_other (p ∷ pasts) past t g s ne =
    ap (λ (b : Bool). if p.group == g then wished p.grants.items (spans_in s p.members.items) t else b) (want_other pasts past t g s ne)

want_last : (pasts : List GroupPast) (past : GroupPast) (t g s : ℕ) → past.group ≡ g → AreBelow g pasts → want_in (pasts ++ past ∷ []) t g s ≡ wished past.grants.items (spans_in s past.members.items) t
want_last [] past t g s e low = rw (eq-eqb past.group g e) refl
want_last (p ∷ pasts) past t g s e low =
    let other : (p.group == g) ≡ false = ne_eqb p.group g (λ same. absurd (omega (arith, same, low.0))) in
    rw other (want_last pasts past t g s e low.1)

-- ---- all groups up to a number

pub record Gathered (want : ℕ → ℕ → ℕ → Bool) (clock count : ℕ) (pasts : List GroupPast) : Type 0 where
  pub ordered : AreByGroup pasts
  pub below : AreBelow count pasts
  pub each : (t g s : ℕ) → t ≤ clock → g < count → want_in pasts t g s ≡ want t g s

module _ (want : ℕ → ℕ → ℕ → Bool) (clock : ℕ) where
  pub none_gathered : Gathered want clock 0 []
  none_gathered = record { ordered = tt; below = tt; each = λ t g s w v. absurd (omega (arith, v)) }

  module _ (count : ℕ) (pasts : List GroupPast) (h : Gathered want clock count pasts) where
    -- a group of which nothing has to be known
    pub group_passed : TellsOf want clock count None → Gathered want clock (count + 1) pasts
    group_passed none = record { ordered = h.ordered; below = below_more count (count + 1) pasts (omega arith) h.below; each = each }
      where
        each : (t g s : ℕ) → t ≤ clock → g < count + 1 → want_in pasts t g s ≡ want t g s
        each t g s w v = elim (cases_lt g count) [
          | inl low ↦ h.each t g s w low
          | inr high ↦
              let same : count ≡ g = omega (arith, v, high) in
              want_below count pasts t g s h.below high ∙ sym (subst (λ (x : ℕ). want t x s ≡ false) same (none t s w))
        ]

    pub group_gathered : (past : GroupPast) → TellsOf want clock count (Some past) → Gathered want clock (count + 1) (pasts ++ past ∷ [])
    group_gathered past told = record {
      ordered = ordered_pushed pasts past h.ordered (subst (λ (x : ℕ). AreBelow x pasts) (sym told.0) h.below) told.1;
      below = below_pushed (count + 1) pasts past (below_more count (count + 1) pasts (omega arith) h.below) (omega (arith, told.0));
      each = each;
    }
      where
        each : (t g s : ℕ) → t ≤ clock → g < count + 1 → want_in (pasts ++ past ∷ []) t g s ≡ want t g s
        each t g s w v = elim (cases_lt g count) [
          | inl low ↦ want_other pasts past t g s (λ e. absurd (omega (arith, e, low, told.0))) ∙ h.each t g s w low
          | inr high ↦
              let same : count ≡ g = omega (arith, v, high) in
              want_last pasts past t g s (told.0 ∙ same) (subst (λ (x : ℕ). AreBelow x pasts) same h.below)
              ∙ (told.2 t s w ∙ ap (λ (x : ℕ). want t x s) same)
        ]

    -- of later groups nobody is wanted
    pub all_gathered : ((t g s : ℕ) → t ≤ clock → want t g s ≡ true → g < count) → Tell want clock pasts
    all_gathered made = record { ordered = h.ordered; each = each }
      where
        each : (t g s : ℕ) → t ≤ clock → want_in pasts t g s ≡ want t g s
        each t g s w = elim (cases_lt g count) [
          | inl low ↦ h.each t g s w low
          | inr high ↦ elim (cases_Bool (want t g s)) [
            | inl y ↦ absurd (let low : g < count = made t g s w y in let never : ⊥ = omega (arith, low, high) in never)
            | inr f ↦ want_below count pasts t g s h.below high ∙ sym f
          ]
        ]
