use Rattle.reg_report.proofs.delivery.deliver.Goals as goal

pub returns-clause-ready : goal.returns-clause-ready
returns-clause-ready g c = record {
  form = c.in_ok-place.ensures.form;
  stands = rw c.facts.ensures at c.in_ok-place.ensures.stands;
  onward = c.law_one_batch.ensures.onward c.args.machine.now.history c.args.machine.now.clock c.in_ok-place.place c.in_ok-place.person c.args.asked.now.max c.in_ok-batch.batch.place c.in_ok-batch.batch.ops.items c.in_ok-batch.ensures;
  tells = c.in_ok-last.ensures;
}
