-- A question: who asks, and what.
use Rattle.std.specs.Prelude.{ℕ, List}
use Rattle.reg_terms.specs.declared.query.Query.{Query}

pub record Asked : Type 0 where
  pub by : List ℕ
  pub query : Query
