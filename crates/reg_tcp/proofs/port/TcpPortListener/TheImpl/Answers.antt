use Rattle.reg_outside.specs.Connections.{Connections}
use Rattle.reg_tcp.proofs.Untold.{on_err_untold, on_ok_untold}
use Rattle.reg_tcp.proofs.port.TcpPortListener.TheImpl.Goals as goal

pub give_back-tells : goal.give_back-tells
give_back-tells g x c = record {
  back = on_ok_untold Connections c.result;
  over = on_err_untold Connections c.result;
  port = c.ensures.port;
  cause = c.ensures.cause;
}
