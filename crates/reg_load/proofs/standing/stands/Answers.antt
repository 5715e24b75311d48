use Rattle.std.proofs.Common.{rules, sym, ◌<◌}
use Rattle.reg_load.proofs.Found.{none_above}
use Rattle.reg_load.proofs.standing.stands.Goals as goal

pub returns-then-row-from : goal.returns-then-row-from
returns-then-row-from c =
    let above : c.args.facts.now.made.groups < c.args.row.now.group = search rules in
    sym (none_above c.args.facts.now c.args.row.now c.law_sound.ensures above)
