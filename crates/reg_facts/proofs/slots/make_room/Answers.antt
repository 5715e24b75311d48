use Rattle.std.proofs.Common.{◌∙◌, ap, refl, arith, rules}
use Rattle.reg_facts.specs.Slots.{present}
use Rattle.reg_facts.proofs.Slotted.{cut_at, more_at, more_rows}
use Rattle.reg_facts.proofs.slots.make_room.Goals as goal

pub loop-slots-init : goal.loop-slots-init
loop-slots-init g c =
    (rw c.truncate.ensures.items (cut_at g.R.Numbered.number_of 0 c.args.place c.args.slots.now.items c.requires), refl, let e = c.truncate.ensures.len in omega (arith, e))

-- an empty slot more
pub loop-slots-preserved : goal.loop-slots-preserved
loop-slots-preserved g c = (
  rw c.in_ok-push.ensures.items (more_at g.R.Numbered.number_of 0 c.loop-slots.slots.items c.loop-slots.invariant.0),
  ap present c.in_ok-push.ensures.items ∙ more_rows c.loop-slots.slots.items ∙ c.loop-slots.invariant.1,
  search (rules, arith),
)
