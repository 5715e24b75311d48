use Rattle.std.proofs.Common.{◌≡◌, drop}
use Rattle.serde_json.specs.View.{items_view}
use Rattle.reg_json.specs.Taking.{all_of, gone_from}
use Rattle.reg_json.proofs.Takings.{after}
use Rattle.reg_json.proofs.taken_admin.gones_of.Given as goal

-- what was taken, and the items to come, are the whole array
abbrev pub invariant-loop-item : goal.invariant-loop-item
invariant-loop-item l = all_of gone_from (items_view l.fn.items) ≡ after l.groups (all_of gone_from (items_view (drop l.item-index l.items)))
