use Rattle.std.proofs.Common.{◌≡◌, ◌+◌, ◌∙◌, ap, length, arith}
use Rattle.reg_log.proofs.Runs.{length_lines, lines_one_more}
use Rattle.reg_log.proofs.log.ChangeLog.append.Goals as goal

pub returns-clause-number : goal.returns-clause-number
returns-clause-number c = rw length_lines (c.len-2.ensures ∙ c.push_reserved.new.self.ok.0)

pub returns-clause-added : goal.returns-clause-added
returns-clause-added c =
    let count : c.len.result ≡ 0 + length c.self.inside.lines.items = (let same : c.len.result ≡ length c.self.inside.lines.items = c.len.ensures ∙ (c.reserve.new.self.ok.0 ∙ ap length c.in_ok-reserve.ensures.items) in omega (arith, same)) in
    rw (← c.self.view_is, c.push_reserved.ensures.items, c.in_ok-reserve.ensures.items) (lines_one_more 0 c.len.result c.self.inside.stretches.items c.begin_at.new.stretches.items c.self.inside.lines.items c.new.result _ count (rw c.in_ok-begin_at.ensures.at (c.new.ensures c.args.at)) c.in_ok-begin_at.ensures.earlier)
