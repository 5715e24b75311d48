use Rattle.std.proofs.Common.{◌≡◌, ◌-◌, ◌+◌, ℕ, Option, suc, sym, subst, arith, rules}
use Rattle.reg_facts.specs.Naming.{most_levels}
use Rattle.reg_edit.proofs.Creating.{Gathered, gathered_first, gathered_next, gathered_top, gathered_last}
use Rattle.reg_facts.proofs.RulesInOrder.{rules_ascend}
use Rattle.reg_edit.proofs.creation.creation_grants.Goals as goal

pub loop-level-init : goal.loop-level-init
loop-level-init c =
    subst (λ (up : Option ℕ). Gathered c.args.group c.args.home c.args.facts.now.folders c.args.facts.now.rules most_levels up c.gather.new.found.entries) (sym c.parent-above.ensures)
    (gathered_first c.args.group c.args.home c.args.facts.now.folders c.args.facts.now.rules c.new-found.result.entries c.gather.new.found.entries (rules_ascend c.args.facts.now c.law_rules.ensures) c.new-found.ensures.empty c.in_ok-gather.ensures)

pub loop-level-preserved : goal.loop-level-preserved
loop-level-preserved c =
    let e : suc (most_levels - (c.loop-level._level + 1)) ≡ most_levels - c.loop-level._level = omega arith in
    gathered_next c.args.group c.args.home c.args.facts.now.folders c.args.facts.now.rules _ _ c.in-Some.folder c.loop-level.above c.parent-above-in-loop-level.result c.loop-level.found.entries c.gather-in-loop-level.new.found.entries
    (rules_ascend c.args.facts.now c.law_rules.ensures) e c.in-Some.is c.parent-above-in-loop-level.ensures c.in_ok-gather-2.ensures c.loop-level.invariant

-- nothing is above the root
pub returns-in_default : goal.returns-in_default
returns-in_default c = gathered_top c.args.group c.args.home c.args.facts.now.folders c.args.facts.now.rules _ c.loop-level.above c.loop-level.found.entries c.in_default.is c.loop-level.invariant

pub returns : goal.returns
returns c =
    let e : most_levels - c.loop-level._level ≡ 0 = omega arith in
    gathered_last c.args.group c.args.home c.args.facts.now.folders c.args.facts.now.rules _ c.loop-level.above c.loop-level.found.entries e c.loop-level.invariant
