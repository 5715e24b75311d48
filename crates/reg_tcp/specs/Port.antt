-- What contracts see of a port.
use Rattle.std.specs.Prelude.{ℕ, Option}

-- A port: the one that it listens on, and how often a call has failed.
pub record PortState : Type 0 where
  pub port : Option ℕ
  pub faults : ℕ
