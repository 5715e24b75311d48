use Rattle.std.proofs.Common.{◌∷◌, [], codes, append_assoc}
use Rattle.json.specs.Token.{begin_array, key}
use Rattle.reg_json.proofs.shown_admin.put_consumers.Goals as goal

-- what stands before the first
pub loop-consumer-init : goal.loop-consumer-init
loop-consumer-init c = (c.in_ok-begin_items.ensures.before, rw c.in_ok-begin_items.ensures.ok (append_assoc c.args.out.now.tokens (key (codes "consumers") ∷ begin_array ∷ []) _))
