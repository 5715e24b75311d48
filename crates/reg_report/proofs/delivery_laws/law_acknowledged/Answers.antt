use Rattle.std.proofs.Common.{ap, []}
use Rattle.reg_terms.specs.declared.command.Command.TheVariants.{ConsumerAck}
use Rattle.reg_machine.specs.History.{State}
use Rattle.reg_report.proofs.Acknowledging.{acknowledged_place}
use Rattle.reg_report.proofs.delivery_laws.law_acknowledged.Goals as goal

-- the moments of a legal history never fall, so no command is later than the acknowledgement
pub returns : goal.returns
returns g c s by key consumer place seq is stands =
    let by_clock = c.law_legal.ensures.ascending s.history [] (record { at = s.clock; by = by; key = key; command = ConsumerAck consumer seq }) (ap (λ (m : State). m.history) is) in
    rw is (acknowledged_place s by key consumer place seq by_clock stands)
