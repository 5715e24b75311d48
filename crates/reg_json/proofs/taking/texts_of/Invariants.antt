use Rattle.std.proofs.Common.{◌≡◌, drop}
use Rattle.serde_json.specs.View.{items_view}
use Rattle.serde_json.specs.Find.{as_str}
use Rattle.reg_json.specs.Taking.{all_of}
use Rattle.reg_json.proofs.Takings.{after}
use Rattle.reg_json.proofs.taking.texts_of.Given as goal

-- what was taken, and the items to come, are the whole array
abbrev pub invariant-loop-item : goal.invariant-loop-item
invariant-loop-item l = all_of as_str (items_view l.fn.items) ≡ after l.texts (all_of as_str (items_view (drop l.item-index l.items)))
