use Rattle.std.proofs.Common.{◌∙◌, sym}
use Rattle.std.proofs.lemmas.List.{append-nil}
use Rattle.reg_rules.proofs.settling.rules_checking.Goals as goal

pub returns : goal.returns
returns c =
    sym (append-nil c.loop-rule.rules.items)
    ∙ ((rw c.in-None.ensures.steps.0 at c.loop-rule.invariant)
    ∙ (c.into_iter-rule-iterator.ensures.into_iter_gives ∙ c.rules_at-rule-items.ensures))
