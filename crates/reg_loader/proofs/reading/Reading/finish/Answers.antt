use Rattle.std.proofs.Common.{arith}
use Rattle.reg_loader.proofs.Takings.{all_read}
use Rattle.reg_loader.proofs.reading.Reading.finish.Goals as goal

pub returns : goal.returns
returns c = λ all at. all_read c.args.self.list all c.args.self (omega arith) (omega arith) at
