use Rattle.reg_pit.proofs.Histories.{second_rows}
use Rattle.reg_pit.proofs.memberships.Memberships.history.Goals as goal

pub returns : goal.returns
returns c = rw (← c.self.view_is, c.in_ok-rows.ensures, c.deref.ensures.value) (λ ids ascending told. second_rows c.args.g c.self.inside.by_group c.self.invariant.second ids told c.new.result c.new-2.result c.in_ok-pairs.pairs.items
    c.new.ensures c.new-2.ensures ascending c.in_ok-pairs.ensures)
