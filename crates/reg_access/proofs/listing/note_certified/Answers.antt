use Rattle.std.proofs.Common.{ℕ, ◌+◌, List, drop, subst}
use Rattle.reg_access.specs.Between.{AllBetween}
use Rattle.reg_access.proofs.Noting.{on_ok}
use Rattle.reg_access.proofs.Sweeping.{Adds, next_found, none_left, sweep_ends, sweep_on}
use Rattle.reg_access.proofs.listing.note_certified.Goals as goal

pub loop-c-preserved : goal.loop-c-preserved
loop-c-preserved c =
    let held = c.args.stretch.now in
    let more = drop (c.loop-c.c-index + 1) c.args.found.now in
    let left = subst (λ (l : List ℕ). AllBetween held.certified c.loop-c.from c.args.end l) (next_found c.args.found.now c.loop-c.c-index c.c-item.result c.loop-c-test.true c.c-item.is) c.loop-c.invariant.left in
    record {
      swept = sweep_on held.days held.certified held.from c.args.end c.loop-c.from c.c-item.result more c.loop-c.last c.args.states.now.items c.loop-c.states.items c.note_last.new.states.items c.loop-c.invariant.swept left (rw c.micros.ensures at c.in_ok-note_last.ensures);
      left = left.4;
    }

pub returns : goal.returns
returns c =
    let held = c.args.stretch.now in
    let left = subst (λ (l : List ℕ). AllBetween held.certified c.loop-c.from c.args.end l) (none_left c.args.found.now c.loop-c.c-index c.loop-c-test.false) c.loop-c.invariant.left in
    on_ok c.note_last-2.result
    (Adds held.days c.loop-c.last c.loop-c.from c.args.end c.loop-c.states.items c.note_last-2.new.states.items) _
    (λ adds. sweep_ends held.days held.certified held.from c.args.end c.loop-c.from c.loop-c.last c.args.states.now.items c.loop-c.states.items c.note_last-2.new.states.items c.loop-c.invariant.swept left adds)
    c.note_last-2.ensures
