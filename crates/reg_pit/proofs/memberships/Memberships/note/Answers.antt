use Rattle.std.proofs.Common.{rules}
use Rattle.reg_pit.proofs.Pairs.{pair_noted, known_after}
use Rattle.reg_pit.proofs.memberships.Memberships.note.Goals as goal

pub set-requires : goal.set-requires
set-requires c = rw (← c.self.view_is) at c.requires

pub invariant_of-result : goal.invariant_of-result
invariant_of-result c =
    known_after c.args.g c.args.s c.args.at c.args.on c.self.inside.by_group c.set.new.self c.self.inside.by_person.keys c.know.new.by_person.keys c.self.invariant c.in_ok-set.ensures.set
    (search rules) (search rules) c.in_ok-know.ensures.known c.in_ok-know.ensures.others

pub returns-clause-noted : goal.returns-clause-noted
returns-clause-noted c x y t = rw (← c.self.view_is) (pair_noted c.args.g c.args.s x y c.args.at t c.args.on _ _ (c.in_ok-set.ensures.set (x, y) t))
