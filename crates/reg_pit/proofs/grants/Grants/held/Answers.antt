use Rattle.reg_pit.proofs.Held.{forward}
use Rattle.reg_pit.proofs.HeldOn.{held_in_order, held_each}
use Rattle.reg_pit.proofs.grants.Grants.held.Goals as goal

pub on_between-requires : goal.on_between-requires
on_between-requires c = forward c.args.object c.key_of-first.result c.key_of-last.result c.new.result c.key_of-first.ensures c.key_of-last.ensures

pub returns-clause-ascending : goal.returns-clause-ascending
returns-clause-ascending c =
    rw (c.in_ok-grants.ensures, c.deref.ensures.value) (held_in_order c.args.object c.key_of-first.result c.key_of-last.result c.new.result c.key_of-first.ensures c.key_of-last.ensures c.law_ties.ensures.same c.law_ties.ensures.turned
    c.new.ensures c.args.t c.in_ok-keys.keys.items c.self.inside.granted c.self.invariant c.in_ok-keys.ensures.each c.in_ok-keys.ensures.ascending)

pub returns-clause-each : goal.returns-clause-each
returns-clause-each c p h =
    rw (← c.self.view_is, c.in_ok-grants.ensures, c.deref.ensures.value) (held_each c.args.object c.key_of-first.result c.key_of-last.result c.new.result c.key_of-first.ensures c.key_of-last.ensures c.law_ties.ensures.same c.law_ties.ensures.turned
    c.new.ensures c.args.t c.in_ok-keys.keys.items c.self.inside.granted c.self.invariant c.in_ok-keys.ensures.each p h)
