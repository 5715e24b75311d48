use Rattle.reg_pit.proofs.Held.{one_set, held_more}
use Rattle.reg_pit.proofs.grants.Grants.set.Goals as goal

pub set-requires : goal.set-requires
set-requires c = rw (← c.self.view_is) at c.requires

pub invariant_of-result : goal.invariant_of-result
invariant_of-result c = held_more c.args.object c.args.privilege c.args.holder c.args.on c.args.at c.self.inside.granted c.set.new.self c.law_fits.ensures c.self.invariant (rw c.key_of.ensures at c.in_ok-set.ensures.set)

pub returns-clause-noted : goal.returns-clause-noted
returns-clause-noted c o p h t =
    let set = rw c.key_of.ensures at c.in_ok-set.ensures.set in
    rw (← c.self.view_is) (one_set c.args.object o c.args.privilege p c.args.holder h c.args.on c.args.at t _ _ (set (o, p, h) t))
