use Rattle.std.proofs.Common.{◌≡◌, ◌∙◌, List, sym, ap, filter, map, not, rules}
use Rattle.reg_facts.specs.Assigning.{by_pair}
use Rattle.reg_facts.specs.declared.assign_index.AssignKey.{AssignKey}
use Rattle.reg_facts.specs.declared.assign_index.ByPair.{ByPair}
use Rattle.reg_facts.proofs.AssignKeys.{is_owner_key, is_pair_key, key_others, pair_others}
use Rattle.reg_facts.proofs.assign_index.AssignIndex.remove.Goals as goal

-- both tables lose the same
pub invariant_of-self : goal.invariant_of-self
invariant_of-self c =
    let keys : c.remove.new.self ≡ filter (λ (other : AssignKey). not (is_owner_key c.args.key.now other)) c.self.inside.keys = search rules in
    let pairs : c.remove-2.new.self ≡ filter (λ (pair : ByPair). not (is_pair_key c.args.key.now pair)) c.self.inside.pairs = search rules in
    pairs
    ∙ (ap (λ (ps : List ByPair). filter (λ (pair : ByPair). not (is_pair_key c.args.key.now pair)) ps) c.self.invariant
    ∙ (pair_others c.args.key.now c.self.inside.keys ∙ ap (λ (ks : List AssignKey). map by_pair ks) (sym (keys ∙ key_others c.args.key.now c.self.inside.keys))))
