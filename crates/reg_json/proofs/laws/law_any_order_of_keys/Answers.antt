use Rattle.reg_json.proofs.KeyOrders.{read_alike}
use Rattle.reg_json.proofs.laws.law_any_order_of_keys.Goals as goal

pub returns : goal.returns
returns c = read_alike
