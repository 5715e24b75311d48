use Rattle.std.proofs.Common.{◌≡◌, ◌++◌, ◌∙◌, List, ap, length, rules}
use Rattle.std.specs.BTreeMap.{values}
use Rattle.std.specs.Option.{option_to_list}
use Rattle.reg_terms.specs.declared.rows.GrantRow.{GrantRow}
use Rattle.reg_facts.specs.Rules.{not_yet}
use Rattle.reg_edit.proofs.Creating.{alone_all, once_next, once_end}
use Rattle.reg_edit.proofs.creation.each_once.Goals as goal

pub loop-row-init : goal.loop-row-init
loop-row-init c = ap (λ (rows : List GrantRow). rows ++ not_yet rows c.into_iter-row-iterator.result) c.in_ok-rows.ensures

pub loop-row-preserved : goal.loop-row-preserved
loop-row-preserved c = once_next c.loop-row.rows c.add_new.new.rows c.loop-row.row-iterator c.next.new.self _ c.in-Some.row.now c.loop-row.invariant c.in-Some.ensures.steps c.in_ok-add_new.ensures

-- rules make none
pub returns-then-is_empty : goal.returns-then-is_empty
returns-then-is_empty c =
    let none : length c.args.found.now.entries ≡ 0 = search rules in
    rw (← alone_all (option_to_list c.args.first) c.args.found.now.entries none) c.alone.ensures

pub returns : goal.returns
returns c =
    let all : c.loop-row.rows ≡ option_to_list c.args.first ++ not_yet (option_to_list c.args.first) c.into_iter-row-iterator.result = once_end c.loop-row.rows c.loop-row.row-iterator _ c.loop-row.invariant c.in-None.ensures.steps.0 in
    let from : c.into_iter-row-iterator.result ≡ values c.args.found.now = c.into_iter-row-iterator.ensures.into_iter_gives ∙ c.values-row-items.ensures.rest in
    rw (← from, ← all) c.list.ensures
