-- What a caller may see after a history, at its clock.
use Rattle.std.specs.Prelude.{ℕ, List, Option, None, Result}
use Rattle.reg_terms.specs.declared.command.Stamped.{Stamped}
use Rattle.reg_terms.specs.declared.refusal.Refusal.{Refusal}
use Rattle.reg_terms.specs.declared.query.Query.{Query}
use Rattle.reg_terms.specs.declared.query.Query.TheVariants as query
use Rattle.reg_terms.specs.declared.query.Answer.{Answer}
use Rattle.reg_machine.specs.History.{facts}
use Rattle.reg_current.specs.Live.{live}
use Rattle.reg_view.specs.Past.{moment_of, past}
use Rattle.reg_view.specs.Show.{show}
use Rattle.reg_view.specs.View.{View, view_of}

-- what the caller of this text sees of what the history gives at the clock, of the past what was at
-- a moment
unfoldable pub view : List Stamped → ℕ → ℕ → List ℕ → View
view history now at by =
    view_of (past history now) (live now (facts history now)) (facts history now) now at by

-- the moment that a query names, if it names one
abbrev pub named_moment : Query → Option ℕ
named_moment (query.Members group at) = at
named_moment (query.Groups subject at) = at
named_moment (query.Grants object at) = at
named_moment (query.May object entity at) = at
named_moment (query.Attributes object at) = at
named_moment _ = None

-- the moment that a query asks of
abbrev pub asked_at : ℕ → Query → ℕ
asked_at now q = moment_of now (named_moment q)

-- what the caller of this text is answered after the history, at the clock
abbrev pub told : List Stamped → ℕ → List ℕ → Query → Result Answer Refusal
told history now by q = show (view history now (asked_at now q) by) q
