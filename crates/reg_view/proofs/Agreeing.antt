-- The answers over the facts are those that the view shows: one law for each query.
use Rattle.std.proofs.Common.{◌≡◌, ◌==◌, ℕ, List, [], Option, Some, None, Result, Ok, refl, sym, ap, ◌∙◌, map}
use Rattle.std.specs.List.{find}
use Rattle.reg_terms.specs.declared.kinds.Object.TheVariants.{Group}
use Rattle.reg_terms.specs.declared.refusal.Refusal.{Refusal}
use Rattle.reg_terms.specs.declared.rows.GroupRow.{GroupRow}
use Rattle.reg_terms.specs.declared.query.Answer.{Answer}
use Rattle.reg_terms.specs.declared.query.Answer.TheVariants as answer
use Rattle.reg_facts.specs.Lists.{Lists}
use Rattle.reg_facts.specs.Named.{AreNamed}
use Rattle.reg_facts.specs.Naming.{resolve, name_of}
use Rattle.reg_facts.specs.RowOrder.{rows_of}
use Rattle.reg_facts.specs.Sound.{IsSound}
use Rattle.reg_effect.specs.declared.live.Live.{Live}
use Rattle.reg_priv.specs.declared.who.Who.{Who}
use Rattle.reg_view.specs.Answers.{display_of, group_of, rows_of_group}
use Rattle.reg_view.specs.Past.{Past}
use Rattle.reg_view.specs.Show.{shown_group, shown_rows}
use Rattle.reg_view.specs.Texts.{row_shown, composite_shown}
use Rattle.reg_view.specs.View.{View, GroupSeen, GroupRead, seen_by}
use Rattle.reg_view.proofs.Seen.{by_seen, by_read}

module _ (past : Past) (moment : ℕ) (L : Live) (f : Lists) (sound : IsSound f) (are : AreNamed f) (c : Who) (now : ℕ) (by : List ℕ) where
  abbrev v : View
  v = seen_by past L f now moment by c

  abbrev got : Answer → Result Answer Refusal
  got a = Ok a

  display_is : (text : List ℕ) (row : GroupRow) → resolve text f ≡ Some (Group row.id) → find (λ (r : GroupRow). r.id == row.id) f.groups ≡ Some row → got (answer.GroupGet (display_of row.id f.groups) text) ≡ got (answer.GroupGet row.display (name_of (Group row.id) f))
  display_is text row at there =
      ap (λ (found : Option GroupRow). got (answer.GroupGet (elim found [ None ↦ [] | Some r ↦ r.display ]) text)) there
      ∙ ap (λ name. got (answer.GroupGet row.display name)) (sym (are.found text (Group row.id) at).0)

  pub group_agrees : (group : List ℕ) → group_of L f c group ≡ shown_group v group
  group_agrees group = by_seen past moment L f sound are c now by group (λ (g : GroupSeen). Ok (answer.GroupGet g.display g.name)) (λ id. Ok (answer.GroupGet (display_of id f.groups) group)) (display_is group)

  pub rows_agree : (group : List ℕ) → rows_of_group L f c group ≡ shown_rows v group
  rows_agree group = by_read past moment L f sound are c now by group (λ (g : GroupRead). Ok (answer.Rows g.composite g.rows)) (λ id. Ok (answer.Rows (composite_shown id f) (map (row_shown f) (rows_of id f.rows)))) (λ row. refl)
