use Rattle.reg_prov.proofs.Listing.{start_stands}
use Rattle.reg_prov.proofs.Placing.{start_before}
use Rattle.reg_prov.proofs.ops.batch_of.Goals as goal

pub turns_of-requires-clause-begins : goal.turns_of-requires-clause-begins
turns_of-requires-clause-begins c = rw c.start_of-start.ensures (start_stands c.args.moments.now c.args.place)

pub turns_of-requires-clause-inside : goal.turns_of-requires-clause-inside
turns_of-requires-clause-inside c = rw (c.start_of-start.ensures, c.batch_end-end.ensures) (start_before c.args.moments.now c.args.clock c.args.place c.args.most)

pub returns : goal.returns
returns c = record {
  ends = c.batch_end-end.ensures;
  turned = (c.in_ok-turns.turns.items, rw c.start_of-start.ensures at c.in_ok-turns.ensures, rw c.deref.ensures.value at c.in_ok-ops.ensures);
}
