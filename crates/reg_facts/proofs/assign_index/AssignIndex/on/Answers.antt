use Rattle.std.proofs.Common.{◌≡◌, ◌∙◌, List, sym, ap, subst, filter, rules}
use Rattle.reg_table.specs.Keyed.{in_order}
use Rattle.reg_terms.specs.Kinds.{same_object}
use Rattle.reg_terms.specs.contracts.kinds.ObjectPartialEq.TheImpl as object_eq
use Rattle.reg_facts.specs.Assigning.{KeysAscend}
use Rattle.reg_facts.specs.declared.assign_index.AssignKey.{AssignKey}
use Rattle.reg_facts.proofs.AssignKeys.{key_order, keys_by_id}
use Rattle.reg_facts.proofs.assign_index.AssignIndex.on.Goals as goal

-- the order of the table is that of the ids
pub returns : goal.returns
returns c =
    let rows : c.rows_of.result ≡ in_order key_order (filter (λ (key : AssignKey). object_eq.ghosts.eq key.owner c.args.owner.now) c.self.inside.keys) = search rules in
    rows
    ∙ (keys_by_id c.args.owner.now c.self.inside.keys (subst (λ (keys : List AssignKey). KeysAscend keys) (sym c.self.view_is) c.requires)
    ∙ ap (λ (keys : List AssignKey). filter (λ (key : AssignKey). same_object key.owner c.args.owner.now) keys) c.self.view_is)
