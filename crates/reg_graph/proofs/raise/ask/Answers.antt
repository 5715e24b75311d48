use Rattle.std.proofs.Common.{rules, ◌≡◌, ◌∙◌, ap, max}
use Rattle.reg_graph.specs.Levels.{wanted}
use Rattle.reg_graph.proofs.Asks.{asked_level, asked_known}
use Rattle.reg_graph.proofs.raise.ask.Goals as goal

pub returns-clause-level : goal.returns-clause-level
returns-clause-level c =
    let was : c.unwrap_or-wanted.result ≡ wanted c.args.pending.now.entries c.args.old c.args.group = search rules in
    asked_level _ _ c.args.old c.args.group c.args.level c.max.result c.in_ok-insert.ensures.updates.0 (c.max.ensures ∙ ap (λ w. max w c.args.level) was)

pub returns-clause-written : goal.returns-clause-written
returns-clause-written c = asked_known _ _ c.args.old c.args.group c.max.result c.in_ok-insert.ensures.updates.0
