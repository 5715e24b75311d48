-- What was ever assigned to one owner, at a moment.
use Rattle.std.proofs.Common.{◌≡◌, ◌∙◌, ℕ, List, [], ◌∷◌, map, filter, ap, refl, inl, inr}
use Rattle.std.proofs.lemmas.Bool.{cases_Bool}
use Rattle.reg_terms.specs.Kinds.{same_object}
use Rattle.reg_terms.specs.declared.kinds.AttrValue.{AttrValue}
use Rattle.reg_terms.specs.declared.kinds.Object.{Object}
use Rattle.reg_terms.specs.declared.rows.AssignRow.{AssignRow}
use Rattle.reg_pit.specs.Assigns.{assigned_at}
use Rattle.reg_pit.specs.Lives.{had, on_owner, row_of, values_at}
use Rattle.reg_pit.specs.Owned.{with_values, rows_at}
use Rattle.reg_pit.specs.declared.assign_lives.AssignLife.{AssignLife}
use Rattle.reg_pit.specs.declared.value_lives.ValueLife.{ValueLife}
use Rattle.reg_pit.proofs.Ending.{rows_on}
use Rattle.reg_pit.proofs.Numbered.{stood_both}

rows_of_lives : (t : ℕ) (values : List ValueLife) (lives : List AssignLife) → rows_at (map (with_values values) lives) t ≡ map (row_of (λ a. values_at values a t)) (filter (had t) lives)
rows_of_lives t values [] = refl
rows_of_lives t values (life ∷ lives) =
    let rest = rows_of_lives t values lives in
    elim (cases_Bool (had t life)) [
      | inl h ↦
          rw h (ap (λ (vs : List AttrValue). (record { id = life.id; attribute = life.attribute; owner = life.owner; values = vs }) ∷ rows_at (map (with_values values) lives) t) (stood_both life.id t values)
          ∙ ap (λ rows. row_of (λ a. values_at values a t) life ∷ rows) rest)
      | inr h ↦ rw h rest
    ]

pub owned_rows : (o : Object) (t : ℕ) (assigns : List AssignLife × List ValueLife)
    → rows_at (map (with_values assigns.1) (on_owner o assigns.0)) t ≡ filter (λ (row : AssignRow). same_object row.owner o) (assigned_at assigns t)
owned_rows o t assigns = rows_of_lives t assigns.1 (on_owner o assigns.0) ∙ rows_on o (λ a. values_at assigns.1 a t) t assigns.0
