use Rattle.std.proofs.Common.{refl}
use Rattle.reg_pit.specs.Members.{are_on}
use Rattle.reg_pit.proofs.Pairs.{listed}
use Rattle.reg_pit.proofs.memberships.Memberships.persons.Goals as goal

pub returns : goal.returns
returns c = rw (← c.self.view_is, c.in_ok-persons.ensures, c.deref.ensures.value) (listed c.args.g c.new.result c.new-2.result c.args.t c.in_ok-pairs.pairs.items c.self.inside.by_group
    (λ s. are_on c.self.inside.by_group c.args.g s c.args.t) c.new.ensures c.new-2.ensures c.in_ok-pairs.ensures.ascending c.in_ok-pairs.ensures.each (λ s. refl) (λ s h. c.self.invariant.second c.args.g s c.args.t h))
