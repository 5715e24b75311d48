use Rattle.std.proofs.Common.{◌≡◌, ◌∙◌, List, ap, subst, sym, arith}
use Rattle.std.proofs.lemmas.Result.{IfOk-weaker}
use Rattle.reg_terms.specs.declared.event.Event.{Event}
use Rattle.reg_facts.specs.Events.{all_happened}
use Rattle.reg_facts.specs.Lists.{Lists}
use Rattle.reg_priv.specs.Touched.{KnowsTouched}
use Rattle.reg_current.specs.Dates.{at_date}
use Rattle.reg_current.specs.Invariant.{Now}
use Rattle.reg_current.proofs.Beginning.{date_cost}
use Rattle.reg_current.proofs.NextDate.{next_at}
use Rattle.reg_current.proofs.RowFound.{on_ok}
use Rattle.reg_current.proofs.Stepping.{removed_live}
use Rattle.reg_current.proofs.current.Current.pass_date.Goals as goal

-- the events of the date can happen, one after another
pub carry_all-requires : goal.carry_all-requires
carry_all-requires g c = rw c.requires.events c.law_date.ensures.hold

-- then nothing ends there
pub begin-requires : goal.begin-requires
begin-requires g c =
    let led : c.in_ok-current.current ≡ record { clock = c.args.self.clock; facts = at_date c.args.date c.args.self.facts } = c.in_ok-current.ensures.happened ∙ ap (λ (f : Lists). record { clock = c.args.self.clock; facts = f }) (ap (λ (es : List Event). all_happened es c.args.self.facts) c.requires.events ∙ c.law_date.ensures.gone) in
    rw led (next_at c.args.self.clock c.args.date c.args.self.facts c.requires.due)

pub returns-clause-moved : goal.returns-clause-moved
returns-clause-moved g c =
    let led : c.in_ok-current.current ≡ record { clock = c.args.self.clock; facts = at_date c.args.date c.args.self.facts } = c.in_ok-current.ensures.happened ∙ ap (λ (f : Lists). record { clock = c.args.self.clock; facts = f }) (ap (λ (es : List Event). all_happened es c.args.self.facts) c.requires.events ∙ c.law_date.ensures.gone) in
    rw led at c.begin.ensures.moved

pub returns-clause-told : goal.returns-clause-told
returns-clause-told g c = IfOk-weaker c.begin.result _ _ (λ k told M h. told M (c.in_ok-current.ensures.told M h)) c.begin.ensures.told

-- what begins there changes no facts
pub returns-clause-touches : goal.returns-clause-touches
returns-clause-touches g c = IfOk-weaker c.begin.result _ _ (λ k is f h. subst (λ (n : Now). KnowsTouched f n.facts c.carry_all.new.touched.items) (sym is) (c.in_ok-current.ensures.touches f h)) c.begin.ensures.moved

-- the steps of the date
pub returns-clause-cost : goal.returns-clause-cost
returns-clause-cost g c =
    let led : c.in_ok-current.current ≡ record { clock = c.args.self.clock; facts = at_date c.args.date c.args.self.facts } = c.in_ok-current.ensures.happened ∙ ap (λ (f : Lists). record { clock = c.args.self.clock; facts = f }) (ap (λ (es : List Event). all_happened es c.args.self.facts) c.requires.events ∙ c.law_date.ensures.gone) in
    let all = date_cost c.args.self.clock c.args.date c.args.self.facts c.law_rows_open.ensures c.law_date.ensures.gone (λ x m f. removed_live c.args.self.clock x m f) c.law_date.ensures.suit in
    let one = rw c.requires.events at c.in_ok-current.ensures.cost in
    on_ok c.begin.result (rw led at c.begin.ensures.cost) (λ le. omega (arith, all, one, le))
