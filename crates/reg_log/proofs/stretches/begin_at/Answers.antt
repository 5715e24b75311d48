use Rattle.std.proofs.Common.{◌≡◌, refl, arith, sym, ◌∙◌, length}
use Rattle.reg_log.specs.Stretches.{moment_at, begun, moment_begun}
use Rattle.reg_log.proofs.Runs.{moment_at_new, moment_at_before, moment_at_begun, all_begun, one_more_begins, end_later}
use Rattle.reg_log.proofs.stretches.begin_at.Goals as goal

-- a stretch begins there
pub returns-in_ok-push-clause-at : goal.returns-in_ok-push-clause-at
returns-in_ok-push-clause-at c = rw c.in_ok-push.ensures.items (moment_at_new c.args.first c.args.stretches.now.items _ (omega arith))

pub returns-in_ok-push-clause-earlier : goal.returns-in_ok-push-clause-earlier
returns-in_ok-push-clause-earlier c place w = rw c.in_ok-push.ensures.items (moment_at_before place c.args.stretches.now.items _ w)

pub returns-in_ok-push-clause-order : goal.returns-in_ok-push-clause-order
returns-in_ok-push-clause-order c = rw c.in_ok-push.ensures.items (one_more_begins 0 c.args.first c.args.stretches.now.items _ refl c.requires)

-- the last one goes on
pub returns-else-micros-clause-at : goal.returns-else-micros-clause-at
returns-else-micros-clause-at c =
    let all : begun c.args.first c.args.stretches.now.items ≡ length c.args.stretches.now.items = all_begun c.args.first 0 c.args.first c.args.stretches.now.items c.requires (omega arith) in
    let at : moment_at 0 c.args.first c.args.stretches.now.items ≡ moment_begun 0 (length c.args.stretches.now.items) c.args.stretches.now.items = rw all at (moment_at_begun 0 c.args.first 0 c.args.first c.args.stretches.now.items c.requires) in
    let count : c.len.result ≡ length c.args.stretches.now.items = c.len.ensures ∙ c.args.stretches.now.ok.0 in
    let seen : c.moment_begun.result ≡ moment_begun 0 (length c.args.stretches.now.items) c.args.stretches.now.items = rw (c.deref.ensures.value, count) at c.moment_begun.ensures in
    at ∙ (sym seen ∙ (sym c.micros.ensures ∙ (c.if-micros.false ∙ c.micros-2.ensures)))

pub returns-else-micros-clause-order : goal.returns-else-micros-clause-order
returns-else-micros-clause-order c = end_later 0 c.args.first c.args.stretches.now.items c.requires
