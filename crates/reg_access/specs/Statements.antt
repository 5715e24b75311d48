-- Statements: what the values of assignments to groups say of an action, and their order.
use Rattle.std.specs.Prelude.{ℕ, suc, List, [], ◌∷◌, ◌++◌, Option, None, Some}
use Rattle.std.specs.Ordering.{bool_cmp, nat_cmp, ordering_then}
use Rattle.std.specs.declared.cmp.Ordering.{Ordering}
use Rattle.reg_terms.specs.declared.kinds.AttrValue.{AttrValue}
use Rattle.reg_access.specs.Sayings.{value_says}
use Rattle.reg_access.specs.declared.saying.Saying.{Saying}
use Rattle.reg_access.specs.declared.statement.Source.{Source}
use Rattle.reg_access.specs.declared.statement.Statement.{Statement}

-- which statement counts before which: that of the longer extension; one that names the action
-- before one of all actions; one that denies before one that allows; then by assignment and place
abbrev pub statement_cmp : Statement → Statement → Ordering
statement_cmp a b =
    ordering_then (nat_cmp b.source.length a.source.length)
    (ordering_then (bool_cmp b.saying.named a.saying.named)
    (ordering_then (bool_cmp a.saying.allow b.saying.allow)
    (ordering_then (nat_cmp a.source.assign b.source.assign) (nat_cmp a.place b.place))))

-- the statement of a value at a place of its assignment, if the value says something
abbrev pub stated : Source → ℕ → Option Saying → List Statement
stated source place None = []
stated source place (Some s) = (record { source = source; saying = s; place = place }) ∷ []

-- the statements of some values, the first of which is at this place
abbrev pub said : Source → List ℕ → ℕ → List AttrValue → List Statement
said source a place [] = []
said source a place (v ∷ vs) =
    stated source place (value_says a v) ++ said source a (suc place) vs
