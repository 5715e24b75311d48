use Rattle.std.proofs.Common.{◌≡◌, ◌==◌, ◌∙◌, Option, List, None, Some, sym, ap, false, true}
use Rattle.std.specs.Prelude.{◌&&◌, MatchOption, ℕ}
use Rattle.std.specs.List.{list_any}
use Rattle.reg_terms.specs.Kinds.{same_object}
use Rattle.reg_terms.specs.declared.kinds.Object.{Object}
use Rattle.reg_terms.specs.declared.rows.AssignRow.{AssignRow}
use Rattle.reg_facts.specs.Assigning.{AreKeyed}
use Rattle.reg_facts.specs.declared.assign_index.AssignKey.{AssignKey}
use Rattle.reg_facts.proofs.AssignedRows.{keys_ascend, first_among, owner_among}
use Rattle.reg_facts.proofs.assign_rows.AssignRows.first_on.Goals as goal

pub first_on-requires : goal.first_on-requires
first_on-requires c = rw c.self.invariant.same (keys_ascend c.self.inside.rows c.self.invariant.ascend)

told : (r : Option ℕ) (o : Object) (index : List AssignKey) (rows : List AssignRow) → AreKeyed index rows
    → MatchOption r (list_any (λ (key : AssignKey). same_object key.owner o) index ≡ false) (λ id. list_any (λ (key : AssignKey). (key.id == id) && same_object key.owner o) index ≡ true)
    → MatchOption r (list_any (λ (row : AssignRow). same_object row.owner o) rows ≡ false) (λ id. list_any (λ (row : AssignRow). (row.id == id) && same_object row.owner o) rows ≡ true)
told None o index rows keyed h = sym (owner_among o rows) ∙ (ap (list_any (λ (key : AssignKey). same_object key.owner o)) (sym keyed.same) ∙ h)
told (Some id) o index rows keyed h = sym (first_among id o rows) ∙ (ap (list_any (λ (key : AssignKey). (key.id == id) && same_object key.owner o)) (sym keyed.same) ∙ h)

pub returns : goal.returns
returns c = record {
  first = rw (← c.self.view_is) (told c.first_on.result c.args.owner.now c.self.inside.index c.self.inside.rows c.self.invariant c.first_on.ensures);
  ascend = rw (← c.self.view_is) c.self.invariant.ascend;
}
