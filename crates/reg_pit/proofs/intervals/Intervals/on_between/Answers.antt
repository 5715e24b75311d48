use Rattle.std.proofs.Common.{◌∙◌, sym}
use Rattle.reg_pit.proofs.Walking.{begun, before_last, falls, on_more, off_more}
use Rattle.reg_pit.proofs.intervals.Intervals.on_between.Goals as goal

pub loop-next-init : goal.loop-next-init
loop-next-init g c = rw c.new-keys.ensures.items (begun g.K.Ord.cmp g.met.K.Ord.total c.args.from c.args.to c.args.self.now c.args.t c.first_key-next.result c.first_key-next.ensures.some c.first_key-next.ensures.none)

-- the key to be looked at is no later than the last
pub key_behind-next-requires : goal.key_behind-next-requires
key_behind-next-requires g c =
    let walked = rw c.in-Some.is at c.loop-next.invariant in
    before_last g.K.Ord.cmp g.met.K.Ord.total c.args.from c.args.to c.in-Some.key walked.stands.0

pub loop-next-smaller : goal.loop-next-smaller
loop-next-smaller g c =
    let walked = rw c.in-Some.is at c.loop-next.invariant in
    rw c.in-Some.is (falls g.K.Ord.cmp g.met.K.Ord.total c.args.from c.args.to c.in-Some.key c.args.self.now c.loop-next.keys.items c.key_behind-next.result walked.stands c.key_behind-next.ensures.some)

pub loop-next-smaller-in-Continue-1 : goal.loop-next-smaller-in-Continue-1
loop-next-smaller-in-Continue-1 g c =
    let walked = rw c.in-Some.is at c.loop-next.invariant in
    rw c.in-Some.is (falls g.K.Ord.cmp g.met.K.Ord.total c.args.from c.args.to c.in-Some.key c.args.self.now c.loop-next.keys.items c.key_behind-next.result walked.stands c.key_behind-next.ensures.some)

pub loop-next-preserved : goal.loop-next-preserved
loop-next-preserved g c =
    let walked = rw c.in-Some.is at c.loop-next.invariant in
    (off_more g.K.Ord.cmp g.met.K.Ord.total c.args.from c.args.to c.in-Some.key c.args.self.now c.args.t c.loop-next.keys.items walked c.key_behind-next.result c.key_behind-next.ensures.some c.key_behind-next.ensures.none (sym c.is_on.ensures ∙ c.if-is_on.false))

pub loop-next-preserved-in-Continue-1 : goal.loop-next-preserved-in-Continue-1
loop-next-preserved-in-Continue-1 g c =
    let walked = rw c.in-Some.is at c.loop-next.invariant in
    rw c.in_ok-push.ensures.items (on_more g.K.Ord.cmp g.met.K.Ord.total c.args.from c.args.to c.in-Some.key c.args.self.now c.args.t c.loop-next.keys.items walked c.key_behind-next.result c.key_behind-next.ensures.some c.key_behind-next.ensures.none (sym c.is_on.ensures ∙ c.if-is_on.true))

pub returns-clause-ascending : goal.returns-clause-ascending
returns-clause-ascending g c = c.loop-next.invariant.sorted

pub returns-clause-each : goal.returns-clause-each
returns-clause-each g c = (rw c.in_default.is at c.loop-next.invariant).each
