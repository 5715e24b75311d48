use Rattle.reg_prov.proofs.Ending.{ends_at_last, ends_at_first, ends_at_place}
use Rattle.reg_prov.proofs.ends.batch_end.Goals as goal

pub returns-in-Some : goal.returns-in-Some
returns-in-Some c = ends_at_last c.args.moments.now c.args.clock c.args.place c.args.most _ c.number_behind-greatest.ensures c.in-Some.end c.in-Some.ensures

pub returns-in-Some-first_end : goal.returns-in-Some-first_end
returns-in-Some-first_end c = ends_at_first c.args.moments.now c.args.clock c.args.place c.args.most _ c.number_behind-greatest.ensures c.in-Some-first_end.end c.in_default.ensures c.in-Some-first_end.ensures

pub returns-in-None : goal.returns-in-None
returns-in-None c = ends_at_place c.args.moments.now c.args.clock c.args.place c.args.most _ c.number_behind-greatest.ensures c.in_default.ensures c.in-None.ensures
