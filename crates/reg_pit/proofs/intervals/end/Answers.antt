use Rattle.std.proofs.Common.{◌<◌, ◌∙◌, arith, sym, rules, refl}
use Rattle.reg_pit.proofs.Places.{key_ends, key_stays_off, key_vanishes}
use Rattle.reg_pit.proofs.intervals.end.Goals as goal

-- nothing goes on
pub returns-in_default-clause-ok : goal.returns-in_default-clause-ok
returns-in_default-clause-ok g c =
    key_stays_off g.K.Ord.cmp g.met.K.Ord.total c.args.key c.args.at c.args.starts.now.entries c.requires.kept c.requires.last (search rules) c.never-never.result c.args.at c.never-never.ensures refl
    (sym c.get.ensures.value ∙ (sym c.copied.ensures ∙ c.in_default.is))

-- one that began earlier ends
pub returns-then-micros-clause-ok : goal.returns-then-micros-clause-ok
returns-then-micros-clause-ok g c =
    let earlier : c.in-Some.start < c.args.at = omega (arith, c.if-micros.true, c.micros.ensures, c.micros-2.ensures) in
    key_ends g.K.Ord.cmp g.met.K.Ord.total c.args.key c.args.at c.args.starts.now.entries c.requires.kept c.requires.last (search rules) c.never-never.result c.at-now.result c.never-never.ensures c.at-now.ensures
    c.in-Some.start c.insert.new.self.entries c.remove.new.self.entries (sym c.get.ensures.value ∙ (sym c.copied.ensures ∙ c.in-Some.is)) earlier
    c.in_ok-insert.ensures.entries c.remove.ensures.entries c.remove.ensures.ordered

-- one that began at the moment goes
pub returns-clause-ok : goal.returns-clause-ok
returns-clause-ok g c =
    key_vanishes g.K.Ord.cmp g.met.K.Ord.total c.args.key c.args.at c.args.starts.now.entries c.requires.kept c.requires.last (search rules) c.never-never.result c.args.at c.never-never.ensures refl
    c.remove-2.new.self.entries c.in-Some.start (sym c.get.ensures.value ∙ (sym c.copied.ensures ∙ c.in-Some.is)) (omega (arith, c.if-micros.false, c.micros.ensures, c.micros-2.ensures)) c.remove-2.ensures.entries c.remove-2.ensures.ordered
