use Rattle.reg_effect.proofs.Remembering.{all_turned}
use Rattle.reg_effect.proofs.turned.Turned.list.Goals as goal

pub returns : goal.returns
returns g c L h = all_turned L (g.K.Kept.held c.args.kept.now) c.args.self.now c.list-pair-items.result.now c.loop-pair.turned.items c.loop-pair.pair-index h
    (rw c.list-pair-items.ensures c.in_ok-pairs.ensures.each) (rw c.list-pair-items.ensures c.in_ok-pairs.ensures.ordered) c.loop-pair-test.false c.loop-pair.invariant
