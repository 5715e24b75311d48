use Rattle.std.proofs.Common.{◌≡◌, true, rules, sym, ◌∙◌}
use Rattle.reg_asof.specs.Then.{is_by}
use Rattle.reg_asof.proofs.Past.{front_more}
use Rattle.reg_asof.proofs.records.front_to.Goals as goal

-- one record more
pub records-preserved : goal.records-preserved
records-preserved c =
    let acts : c.in_ok-acts_by.field-0 ≡ true = search rules in
    let by : is_by c.args.at (c.in-Some.place, c.in-Some.payload) ≡ true = rw c.bytes.ensures at (sym c.in_ok-acts_by.ensures ∙ acts) in
    front_more c.args.at c.args.records c.records.front c.records.records c.take_first.new.self c.push.new.self (c.in-Some.place, c.in-Some.payload) c.records.invariant c.in-Some.ensures.taken by c.in_ok-push.ensures.ok
