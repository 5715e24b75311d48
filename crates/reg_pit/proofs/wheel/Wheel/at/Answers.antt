use Rattle.std.proofs.Common.{◌≡◌, rules}
use Rattle.std.specs.BTreeMap.Range.{entries_between}
use Rattle.std.specs.Ordering.{nat_cmp}
use Rattle.std.specs.declared.ops.Bound.TheVariants.{Included, Unbounded}
use Rattle.reg_pit.proofs.Notes.{last_tells, none_tells}
use Rattle.reg_pit.proofs.wheel.Wheel.at.Goals as goal

pub returns-in-Some : goal.returns-in-Some
returns-in-Some c =
    let part : c.range.result ≡ entries_between nat_cmp Unbounded (Included c.args.t) c.self.inside.notes.entries = search rules in
    rw (← c.self.view_is) (last_tells c.args.t c.self.inside.notes.entries c.range.result c.next_back.new.self (c.in-Some.field-0-0.now, c.in-Some.wheel.now) part c.in-Some.ensures.steps)

pub returns-in-None : goal.returns-in-None
returns-in-None c =
    let part : c.range.result ≡ entries_between nat_cmp Unbounded (Included c.args.t) c.self.inside.notes.entries = search rules in
    rw (← c.self.view_is) (none_tells c.args.t c.self.inside.notes.entries c.range.result part c.in-None.ensures.steps.0)
