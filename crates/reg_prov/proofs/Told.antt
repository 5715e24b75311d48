-- What a machine tells of a group's past says who is wanted in it when.
use Rattle.std.proofs.Common.{◌≡◌, ◌+◌, ◌≤◌, ◌<◌, ◌==◌, ◌&&◌, ℕ, suc, List, [], ◌∷◌, ◌++◌, Bool, true, false, Option, Some, None, length, map, arith, refl, sym, ◌∙◌, ap, subst, inl, inr}
use Rattle.std.proofs.lemmas.Bool.{and_parts, cases_Bool, eqb-true}
use Rattle.std.specs.List.{list_any}
use Rattle.std.specs.List.Sorted.{IsStrictlySortedBy}
use Rattle.std.specs.Ordering.{nat_cmp}
use Rattle.reg_base.specs.declared.privilege.Privilege.TheVariants.{Read}
use Rattle.reg_terms.specs.declared.command.Stamped.{Stamped}
use Rattle.reg_terms.specs.declared.kinds.Holder.TheVariants.{Person}
use Rattle.reg_terms.specs.declared.kinds.Object.TheVariants.{Group}
use Rattle.reg_terms.specs.declared.rows.SubjectRow.{SubjectRow}
use Rattle.reg_facts.specs.Sound.{has_subject}
use Rattle.reg_machine.specs.Past.{all_spans, grant_spans, spans, was_granted, was_member}
use Rattle.reg_pit.specs.Spans.{covers, spans_until}
use Rattle.reg_pit.proofs.Until.{until}
use Rattle.reg_prov.specs.declared.past.GroupPast.{GroupPast}
use Rattle.reg_prov.specs.Pasts.{TellsOf}
use Rattle.reg_prov.specs.Spans.{ByPerson, spans_in, wished}
use Rattle.reg_prov.specs.Wanted.{wants}
use Rattle.reg_prov.proofs.Numbered.{numbers, numbers_ascend, numbers_have, rows_cover, rows_of, rows_ordered}
use Rattle.reg_prov.proofs.Rows.{Row}

until_has : (test : ℕ → Bool) (now t : ℕ) → t ≤ now → covers (spans_until test now) t ≡ test t
until_has test now t w = (until test now).covers t w

-- a number above the ids of some persons
abbrev above : List SubjectRow → ℕ
above [] = 0
above (row ∷ rows) = suc (row.id + above rows)

is_below : (s : ℕ) (rows : List SubjectRow) → has_subject s rows ≡ true → s < above rows
is_below s [] y = absurd (cc)
is_below s (row ∷ rows) y = elim (cases_Bool (row.id == s)) [
  | inl e ↦ let same : row.id ≡ s = eqb-true row.id s e in omega (arith, same)
  | inr f ↦ let rest : s < above rows = is_below s rows (rw f at y) in omega (arith, rest)
]

pub no_spans : (spans : List (ℕ × Option ℕ)) → length spans ≡ 0 → spans ≡ []
no_spans [] e = refl
no_spans (span ∷ rest) e = absurd (omega (arith, e))

module _ (history : List Stamped) (clock g : ℕ) where
  member_has : (s t : ℕ) → t ≤ clock → covers (spans history clock g s) t ≡ was_member history t g s
  unfolding spans
  member_has s t w = until_has (λ u. was_member history u g s) clock t w

  all_are : (ids : List ℕ) → all_spans history clock g ids ≡ rows_of (spans history clock g) ids
  all_are [] = refl
  all_are (s ∷ ss) = ap (λ (rest : List Row). map (λ (span : ℕ × Option ℕ). (s, span.0, span.1)) (spans history clock g s) ++ rest) (all_are ss)

  module _ (p : ℕ) (grants : List (ℕ × Option ℕ)) (are : grants ≡ grant_spans history clock (Group g) Read (Person p)) where
    grant_has : (t : ℕ) → t ≤ clock → covers (grant_spans history clock (Group g) Read (Person p)) t ≡ was_granted history t (Group g) Read (Person p)
    unfolding grant_spans
    grant_has t w = until_has (λ u. was_granted history u (Group g) Read (Person p)) clock t w

    granted : (t : ℕ) → t ≤ clock → covers grants t ≡ was_granted history t (Group g) Read (Person p)
    granted t w = ap (λ (l : List (ℕ × Option ℕ)). covers l t) are ∙ grant_has t w

    -- where the group was never granted, nobody is wanted in it
    pub none_wanted : grants ≡ [] → TellsOf (wants history p) clock g None
    none_wanted empty t s w =
        let never : was_granted history t (Group g) Read (Person p) ≡ false = sym (granted t w) ∙ ap (λ (l : List (ℕ × Option ℕ)). covers l t) empty in
        ap (λ (b : Bool). b && was_member history t g s) never

    module _ (rows : List Row) (subjects : List SubjectRow) (told : (ids : List ℕ) → IsStrictlySortedBy nat_cmp ids → ((t s : ℕ) → t ≤ clock → was_member history t g s ≡ true → list_any (λ x. x == s) ids ≡ true) → rows ≡ all_spans history clock g ids) (known : (t x s : ℕ) → t ≤ clock → was_member history t x s ≡ true → has_subject s subjects ≡ true) where
      persons : (t s : ℕ) → t ≤ clock → was_member history t g s ≡ true → s < above subjects
      persons t s w y = is_below s subjects (known t g s w y)

      rows_are : rows ≡ rows_of (spans history clock g) (numbers 0 (above subjects))
      rows_are = told (numbers 0 (above subjects)) (numbers_ascend 0 (above subjects)) (λ t s w y. numbers_have (above subjects) s (persons t s w y)) ∙ all_are (numbers 0 (above subjects))

      rows_by : ByPerson rows
      rows_by = subst (λ (l : List Row). ByPerson l) (sym rows_are) (rows_ordered (spans history clock g) 0 (above subjects))

      covered : (t s : ℕ) → t ≤ clock → covers (spans_in s rows) t ≡ was_member history t g s
      covered t s w = ap (λ (l : List Row). covers (spans_in s l) t) rows_are ∙ rows_cover (spans history clock g) (λ u x. was_member history u g x) clock (above subjects) member_has persons s t w

      -- else the intervals tell who is
      pub some_wanted : (past : GroupPast) → past.group ≡ g → past.grants.items ≡ grants → past.members.items ≡ rows → TellsOf (wants history p) clock g (Some past)
      some_wanted past same its own = (same, subst (λ (l : List Row). ByPerson l) (sym own) rows_by, each)
        where
          each : (t s : ℕ) → t ≤ clock → wished past.grants.items (spans_in s past.members.items) t ≡ wants history p t g s
          each t s w = rw (its, own, granted t w, covered t s w) refl

-- of groups that were never made nobody is wanted
pub wanted_made : (history : List Stamped) (p clock last count : ℕ) → last < count → ((t g s : ℕ) → t ≤ clock → was_member history t g s ≡ true → g ≤ last) → (t g s : ℕ) → t ≤ clock → wants history p t g s ≡ true → g < count
wanted_made history p clock last count after made t g s w y =
    let low : g ≤ last = made t g s w (and_parts (was_granted history t (Group g) Read (Person p)) (was_member history t g s) y).1 in
    omega (arith, low, after)
