use Rattle.reg_prov.specs.Pasts.{want_in}
use Rattle.reg_prov.proofs.Due.{turns_are_on}
use Rattle.reg_prov.proofs.past.turns_of.Goals as goal

pub returns : goal.returns
returns c =
    turns_are_on c.list.result (want_in c.args.pasts.now) c.args.moments.now c.args.start c.args.last c.in_ok-boundaries.boundaries.items c.in_ok-turns.turns c.in_ok-boundaries.ensures (rw c.deref.ensures.value at c.in_ok-turns.ensures) c.list.ensures.value c.list.ensures.ordered
