use Rattle.std.proofs.Common.{map}
use Rattle.std.specs.Map.Iter.{deref}
use Rattle.reg_json.proofs.Values.{parts_closed}
use Rattle.reg_json.proofs.shown_attributes.put_values.Goals as goal

-- two parts in brackets
pub returns-clause-ok : goal.returns-clause-ok
returns-clause-ok c =
    let chained = rw (c.in_ok-put_many.ensures.ok, c.deref.ensures.value, c.in_ok-put_few.ensures.ok, c.in_ok-begin_array.ensures.ok) at c.end_array.ensures.ok in
    parts_closed c.end_array.result c.args.out.now.tokens c.end_array.new.self.tokens c.in_ok-few.few.now (map deref c.in_ok-few.many.items) c.args.values.now c.in_ok-few.ensures chained
