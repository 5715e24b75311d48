use Rattle.std.proofs.Common.{◌≡◌, ◌∙◌, List, sym, ap, filter}
use Rattle.std.proofs.lemmas.List.{append-nil}
use Rattle.reg_terms.specs.Kinds.{same_object}
use Rattle.reg_facts.specs.declared.assign_index.AssignKey.{AssignKey}
use Rattle.reg_facts.proofs.AssignedRows.{keys_ascend, rows_for, rows_on}
use Rattle.reg_facts.proofs.assign_rows.AssignRows.on.Goals as goal

pub on-key-items-requires : goal.on-key-items-requires
on-key-items-requires c = rw c.self.invariant.same (keys_ascend c.self.inside.rows c.self.invariant.ascend)

pub returns : goal.returns
returns c =
    let keys : c.into_iter-key-iterator.result ≡ filter (λ (key : AssignKey). same_object key.owner c.args.owner.now) c.self.inside.index = c.into_iter-key-iterator.ensures.into_iter_gives ∙ c.on-key-items.ensures in
    sym (append-nil c.loop-key.found.items)
    ∙ ((rw c.in-None.ensures.steps.0 at c.loop-key.invariant)
    ∙ rw (← c.self.view_is) (ap (rows_for c.self.inside.rows) (keys ∙ ap (λ (ks : List AssignKey). filter (λ (key : AssignKey). same_object key.owner c.args.owner.now) ks) c.self.invariant.same)
    ∙ rows_on c.args.owner.now c.self.inside.rows c.self.invariant.ascend))
