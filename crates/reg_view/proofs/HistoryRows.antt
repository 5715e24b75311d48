-- The history of a group by the ids of all persons is the history that is shown.
use Rattle.std.proofs.Common.{◌≡◌, ◌==◌, ◌<◌, ◌≤◌, ◌∷◌, ◌++◌, ℕ, List, [], true, false, Option, Some, None, inl, inr, refl, ap, ◌∙◌, map, arith}
use Rattle.std.specs.List.{AllByRecursion, list_any}
use Rattle.std.specs.List.Sorted.{IsStrictlySortedBy}
use Rattle.std.specs.Ordering.{nat_cmp}
use Rattle.std.proofs.lemmas.Bool.{cases_Bool, eq-eqb, eqb-true}
use Rattle.reg_terms.specs.declared.command.Stamped.{Stamped}
use Rattle.reg_terms.specs.declared.kinds.Member.TheVariants.{Person}
use Rattle.reg_terms.specs.declared.rows.SubjectRow.{SubjectRow}
use Rattle.reg_facts.specs.Lists.{Lists}
use Rattle.reg_facts.specs.Rows.{subject_row}
use Rattle.reg_facts.specs.Sound.{AscendFrom, IsSound, has_subject}
use Rattle.reg_machine.specs.History.{facts}
use Rattle.reg_machine.specs.Past as machine
use Rattle.reg_view.specs.Answers.{row_span}
use Rattle.reg_view.specs.Past.{history_of, past, span_shown}
use Rattle.reg_view.specs.Texts.{member_text}
use Rattle.reg_view.proofs.Grouped.{ascending}
use Rattle.reg_view.proofs.Standing.{all_go}

abbrev ids : List SubjectRow → List ℕ
ids rows = map (λ (row : SubjectRow). row.id) rows

-- later ids are greater
later : (n top : ℕ) (rows : List SubjectRow) → AscendFrom n top (ids rows) → AllByRecursion (λ (row : SubjectRow). n < row.id) rows
later n top [] up = tt
later n top (row ∷ rows) up = (up.0, all_go (λ (r : SubjectRow). row.id < r.id) (λ (r : SubjectRow). n < r.id) (λ r h. omega (arith, h, up.0)) rows (later row.id top rows up.1))

apart : (a b : ℕ) → a < b → (a == b) ≡ false
apart a b h = elim (cases_Bool (a == b)) [
  | inl t ↦ absurd (let same : a ≡ b = eqb-true a b t in let never : ⊥ = omega (arith, h, same) in never)
  | inr t ↦ t
]

-- each row is the one of its id
own_rows : (n top : ℕ) (rows : List SubjectRow) → AscendFrom n top (ids rows) → AllByRecursion (λ (row : SubjectRow). subject_row row.id rows ≡ Some row) rows
own_rows n top [] up = tt
own_rows n top (row ∷ rows) up = (rw (eq-eqb row.id row.id refl) refl, others rows (later row.id top rows up.1) (own_rows row.id top rows up.1))
  where
    others : (few : List SubjectRow) → AllByRecursion (λ (r : SubjectRow). row.id < r.id) few → AllByRecursion (λ (r : SubjectRow). subject_row r.id rows ≡ Some r) few → AllByRecursion (λ (r : SubjectRow). subject_row r.id (row ∷ rows) ≡ Some r) few
    others [] more own = tt
    others (r ∷ few) more own = (rw (apart row.id r.id more.0) own.0, others few more.1 own.1)

-- a person that stands is among them
known : (s : ℕ) (rows : List SubjectRow) → list_any (λ x. x == s) (ids rows) ≡ has_subject s rows
known s [] = refl
known s (row ∷ rows) = rw (known s rows) refl

append_map : {A B : Type 0} (show : A → B) (xs ys : List A) → map show (xs ++ ys) ≡ map show xs ++ map show ys
append_map show [] ys = refl
append_map show (x ∷ xs) ys = ap (λ more. show x ∷ more) (append_map show xs ys)

module _ (f : Lists) where
  one_person : (s : ℕ) (text : List ℕ) → member_text (Person s) f ≡ text → (spans : List (ℕ × Option ℕ)) → map (row_span f) (map (λ (span : ℕ × Option ℕ). (s, span.0, span.1)) spans) ≡ map (span_shown text) spans
  one_person s text is [] = refl
  one_person s text is (span ∷ spans) =
      ap (λ name. span_shown name span ∷ map (row_span f) (map (λ (span : ℕ × Option ℕ). (s, span.0, span.1)) spans)) is
      ∙ ap (λ more. span_shown text span ∷ more) (one_person s text is spans)

  module _ (history : List Stamped) (now g : ℕ) where
    each_person : (rows : List SubjectRow) → AllByRecursion (λ (row : SubjectRow). subject_row row.id f.subjects ≡ Some row) rows → map (row_span f) (machine.all_spans history now g (ids rows)) ≡ history_of (past history now) g rows
    each_person [] own = refl
    each_person (row ∷ rows) own =
        let name : member_text (Person row.id) f ≡ row.text = ap (λ (found : Option SubjectRow). elim found [ None ↦ [] | Some r ↦ r.text ]) own.0 in
        append_map (row_span f) (map (λ (span : ℕ × Option ℕ). (row.id, span.0, span.1)) (machine.spans history now g row.id)) (machine.all_spans history now g (ids rows))
        ∙ ap (λ first. first ++ map (row_span f) (machine.all_spans history now g (ids rows))) (one_person row.id row.text name (machine.spans history now g row.id))
        ∙ ap (λ rest. map (span_shown row.text) (machine.spans history now g row.id) ++ rest) (each_person rows own.1)

-- the rows of the past of a group, with texts
pub rows_told : (history : List Stamped) (now g : ℕ) (f : Lists) (rows : List (ℕ × ℕ × Option ℕ)) → IsSound f → f ≡ facts history now
    → ((t g s : ℕ) → t ≤ now → machine.was_member history t g s ≡ true → has_subject s (facts history now).subjects ≡ true)
    → ((few : List ℕ) → IsStrictlySortedBy nat_cmp few → ((t s : ℕ) → t ≤ now → machine.was_member history t g s ≡ true → list_any (λ x. x == s) few ≡ true) → rows ≡ machine.all_spans history now g few)
    → map (row_span f) rows ≡ history_of (past history now) g f.subjects
rows_told history now g f rows sound is stands told =
    ap (map (row_span f)) (told (ids f.subjects) (ascending 0 f.made.subjects (ids f.subjects) sound.subjects) (λ t s early was. known s f.subjects ∙ ap (λ (l : Lists). has_subject s l.subjects) is ∙ stands t g s early was))
    ∙ each_person f history now g f.subjects (own_rows 0 f.made.subjects f.subjects sound.subjects)
