use Rattle.std.proofs.Common.{◌∙◌, ap}
use Rattle.std.specs.List.{list_any}
use Rattle.reg_facts.specs.Assigning.{same_key}
use Rattle.reg_facts.proofs.AssignKeys.{is_pair_key, pair_any}
use Rattle.reg_facts.proofs.assign_index.AssignIndex.with.Goals as goal

-- a key that isn't there is new to the pairs
pub push-requires : goal.push-requires
push-requires c = record {
  free = rw c.paired.ensures (
      ap (list_any (is_pair_key c.args.key)) c.self.invariant
      ∙ (pair_any c.args.key c.self.inside.keys ∙ (ap (list_any (same_key c.args.key)) c.self.view_is ∙ c.requires)));
}
