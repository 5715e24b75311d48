use Rattle.std.proofs.Common.{◌≡◌, drop, option_and_then}
use Rattle.serde_json.specs.Find.{as_str}
use Rattle.serde_json.specs.View.{items_view}
use Rattle.reg_json.specs.Attributes.{owners_named}
use Rattle.reg_json.specs.Taking.{all_of}
use Rattle.reg_json.proofs.Owners.{coming}
use Rattle.reg_json.proofs.attributes.owners_named.Given as goal

-- the kinds that are there, and those that the texts to come name, are those of the whole array
abbrev pub invariant-loop-word : goal.invariant-loop-word
invariant-loop-word l = option_and_then owners_named (all_of as_str (items_view l.fn.items)) ≡ coming l.owners (all_of as_str (items_view (drop l.word-index l.items)))
