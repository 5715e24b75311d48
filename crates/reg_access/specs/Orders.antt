-- The order of statements is total.
use Rattle.std.specs.Cmp.{IsTotalOrder, back_total, bool_cmp_total, nat_cmp_total, on_total}
use Rattle.std.specs.Cmp.{then_total}
use Rattle.reg_access.specs.Statements.{statement_cmp}
use Rattle.reg_access.specs.declared.statement.Statement.{Statement}

pub statement_total : IsTotalOrder statement_cmp
statement_total =
    then_total (back_total (on_total (λ (s : Statement). s.source.length) nat_cmp_total))
    (then_total (back_total (on_total (λ (s : Statement). s.saying.named) bool_cmp_total))
    (then_total (on_total (λ (s : Statement). s.saying.allow) bool_cmp_total)
    (then_total (on_total (λ (s : Statement). s.source.assign) nat_cmp_total)
    (on_total (λ (s : Statement). s.place) nat_cmp_total))))
