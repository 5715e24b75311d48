use Rattle.std.proofs.Common.{◌≡◌, ◌<◌, ◌∙◌, None, Some, arith, sym, rules}
use Rattle.reg_pit.specs.Runs.{runs_of}
use Rattle.reg_pit.proofs.Turning.{start_at, nothing_ends}
use Rattle.reg_pit.proofs.Places.{key_begins, key_goes_on, key_stays_on, start_then}
use Rattle.reg_pit.proofs.intervals.begin.Goals as goal

-- one that goes on stays
pub returns-in-Some-clause-ok : goal.returns-in-Some-clause-ok
returns-in-Some-clause-ok g c =
    (key_stays_on g.K.Ord.cmp g.met.K.Ord.total c.args.key c.args.at c.args.starts.now.entries c.requires.kept c.requires.last (search rules) c.never-never.result c.at-now.result c.never-never.ensures c.at-now.ensures c.args.latest c.requires.ended
    c.in-Some.began c.insert.new.self.entries c.insert-in-Some.new.self.entries (sym c.in_ok-began.ensures.old ∙ c.in-Some.is) c.in_ok-began.ensures.entries c.insert.ensures.ordered c.in_ok-insert.ensures.entries c.insert-in-Some.ensures.ordered).0

pub returns-in-Some-clause-ended : goal.returns-in-Some-clause-ended
returns-in-Some-clause-ended g c =
    (key_stays_on g.K.Ord.cmp g.met.K.Ord.total c.args.key c.args.at c.args.starts.now.entries c.requires.kept c.requires.last (search rules) c.never-never.result c.at-now.result c.never-never.ensures c.at-now.ensures c.args.latest c.requires.ended
    c.in-Some.began c.insert.new.self.entries c.insert-in-Some.new.self.entries (sym c.in_ok-began.ensures.old ∙ c.in-Some.is) c.in_ok-began.ensures.entries c.insert.ensures.ordered c.in_ok-insert.ensures.entries c.insert-in-Some.ensures.ordered).1

-- one begins where none has ended since
pub returns-then-micros-clause-ok : goal.returns-then-micros-clause-ok
returns-then-micros-clause-ok g c =
    let later : c.args.latest < c.args.at = omega (arith, c.if-micros.true, c.micros.ensures, c.micros-2.ensures) in
    let none : start_at c.args.at (runs_of g.K.Ord.cmp c.args.key c.args.starts.now.entries) ≡ None = nothing_ends c.args.at c.args.latest _ later (search rules) (c.requires.ended c.args.key) in
    (key_begins g.K.Ord.cmp g.met.K.Ord.total c.args.key c.args.at c.args.starts.now.entries c.requires.kept c.requires.last (search rules) c.never-never.result c.at-now.result c.never-never.ensures c.at-now.ensures c.args.latest c.requires.ended
    c.insert.new.self.entries (sym c.in_ok-began.ensures.old ∙ c.in_default.is) none c.in_ok-began.ensures.entries c.insert.ensures.ordered).0

pub returns-then-micros-clause-ended : goal.returns-then-micros-clause-ended
returns-then-micros-clause-ended g c =
    let later : c.args.latest < c.args.at = omega (arith, c.if-micros.true, c.micros.ensures, c.micros-2.ensures) in
    let none : start_at c.args.at (runs_of g.K.Ord.cmp c.args.key c.args.starts.now.entries) ≡ None = nothing_ends c.args.at c.args.latest _ later (search rules) (c.requires.ended c.args.key) in
    (key_begins g.K.Ord.cmp g.met.K.Ord.total c.args.key c.args.at c.args.starts.now.entries c.requires.kept c.requires.last (search rules) c.never-never.result c.at-now.result c.never-never.ensures c.at-now.ensures c.args.latest c.requires.ended
    c.insert.new.self.entries (sym c.in_ok-began.ensures.old ∙ c.in_default.is) none c.in_ok-began.ensures.entries c.insert.ensures.ordered).1

-- one that ended at the moment goes on
pub returns-in_ok-insert-2-clause-ok : goal.returns-in_ok-insert-2-clause-ok
returns-in_ok-insert-2-clause-ok g c =
    let there : start_at c.args.at (runs_of g.K.Ord.cmp c.args.key c.args.starts.now.entries) ≡ Some c.in-Some-copied.start =
    start_then g.K.Ord.cmp g.met.K.Ord.total c.args.key c.args.at c.args.starts.now.entries c.requires.kept c.requires.last (search rules) c.never-never.result c.at-now.result c.never-never.ensures c.at-now.ensures c.args.latest c.requires.ended
    c.insert.new.self.entries (Some c.in-Some-copied.start) c.in_ok-began.ensures.entries (sym c.get.ensures.value ∙ (sym c.copied.ensures ∙ c.in-Some-copied.is)) in
    (key_goes_on g.K.Ord.cmp g.met.K.Ord.total c.args.key c.args.at c.args.starts.now.entries c.requires.kept c.requires.last (search rules) c.never-never.result c.at-now.result c.never-never.ensures c.at-now.ensures c.args.latest c.requires.ended
    c.in-Some-copied.start c.insert.new.self.entries c.insert-in-Some-copied.new.self.entries c.remove.new.self.entries (sym c.in_ok-began.ensures.old ∙ c.in_default.is) there
    c.in_ok-began.ensures.entries c.insert.ensures.ordered c.in_ok-insert-2.ensures.entries c.remove.ensures.entries c.remove.ensures.ordered).0

pub returns-in_ok-insert-2-clause-ended : goal.returns-in_ok-insert-2-clause-ended
returns-in_ok-insert-2-clause-ended g c =
    let there : start_at c.args.at (runs_of g.K.Ord.cmp c.args.key c.args.starts.now.entries) ≡ Some c.in-Some-copied.start =
    start_then g.K.Ord.cmp g.met.K.Ord.total c.args.key c.args.at c.args.starts.now.entries c.requires.kept c.requires.last (search rules) c.never-never.result c.at-now.result c.never-never.ensures c.at-now.ensures c.args.latest c.requires.ended
    c.insert.new.self.entries (Some c.in-Some-copied.start) c.in_ok-began.ensures.entries (sym c.get.ensures.value ∙ (sym c.copied.ensures ∙ c.in-Some-copied.is)) in
    (key_goes_on g.K.Ord.cmp g.met.K.Ord.total c.args.key c.args.at c.args.starts.now.entries c.requires.kept c.requires.last (search rules) c.never-never.result c.at-now.result c.never-never.ensures c.at-now.ensures c.args.latest c.requires.ended
    c.in-Some-copied.start c.insert.new.self.entries c.insert-in-Some-copied.new.self.entries c.remove.new.self.entries (sym c.in_ok-began.ensures.old ∙ c.in_default.is) there
    c.in_ok-began.ensures.entries c.insert.ensures.ordered c.in_ok-insert-2.ensures.entries c.remove.ensures.entries c.remove.ensures.ordered).1

-- one begins where none ended at the moment
pub returns-in_default-copied-clause-ok : goal.returns-in_default-copied-clause-ok
returns-in_default-copied-clause-ok g c =
    let none : start_at c.args.at (runs_of g.K.Ord.cmp c.args.key c.args.starts.now.entries) ≡ None =
    start_then g.K.Ord.cmp g.met.K.Ord.total c.args.key c.args.at c.args.starts.now.entries c.requires.kept c.requires.last (search rules) c.never-never.result c.at-now.result c.never-never.ensures c.at-now.ensures c.args.latest c.requires.ended
    c.insert.new.self.entries None c.in_ok-began.ensures.entries (sym c.get.ensures.value ∙ (sym c.copied.ensures ∙ c.in_default-copied.is)) in
    (key_begins g.K.Ord.cmp g.met.K.Ord.total c.args.key c.args.at c.args.starts.now.entries c.requires.kept c.requires.last (search rules) c.never-never.result c.at-now.result c.never-never.ensures c.at-now.ensures c.args.latest c.requires.ended
    c.insert.new.self.entries (sym c.in_ok-began.ensures.old ∙ c.in_default.is) none c.in_ok-began.ensures.entries c.insert.ensures.ordered).0

pub returns-in_default-copied-clause-ended : goal.returns-in_default-copied-clause-ended
returns-in_default-copied-clause-ended g c =
    let none : start_at c.args.at (runs_of g.K.Ord.cmp c.args.key c.args.starts.now.entries) ≡ None =
    start_then g.K.Ord.cmp g.met.K.Ord.total c.args.key c.args.at c.args.starts.now.entries c.requires.kept c.requires.last (search rules) c.never-never.result c.at-now.result c.never-never.ensures c.at-now.ensures c.args.latest c.requires.ended
    c.insert.new.self.entries None c.in_ok-began.ensures.entries (sym c.get.ensures.value ∙ (sym c.copied.ensures ∙ c.in_default-copied.is)) in
    (key_begins g.K.Ord.cmp g.met.K.Ord.total c.args.key c.args.at c.args.starts.now.entries c.requires.kept c.requires.last (search rules) c.never-never.result c.at-now.result c.never-never.ensures c.at-now.ensures c.args.latest c.requires.ended
    c.insert.new.self.entries (sym c.in_ok-began.ensures.old ∙ c.in_default.is) none c.in_ok-began.ensures.entries c.insert.ensures.ordered).1
