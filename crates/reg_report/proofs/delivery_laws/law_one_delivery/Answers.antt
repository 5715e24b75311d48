use Rattle.reg_report.proofs.OneDelivery.{one_delivery}
use Rattle.reg_report.proofs.delivery_laws.law_one_delivery.Goals as goal

pub returns : goal.returns
returns c = one_delivery c.law_one_batch.ensures.one
