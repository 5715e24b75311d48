use Rattle.std.proofs.Common.{◌≡◌, ◌+◌, ◌∙◌, ◌≤◌, List, [], ap, sym, refl, arith, rules}
use Rattle.std.specs.List.{flat_map}
use Rattle.reg_table.specs.Keyed.{put_into}
use Rattle.reg_terms.specs.declared.rows.AssignRow.{AssignRow}
use Rattle.reg_access.specs.Spoken.{spoken}
use Rattle.reg_access.specs.Statements.{statement_cmp}
use Rattle.reg_access.proofs.Later.{all_later, later, none_later, rows_next}
use Rattle.reg_access.proofs.spoken.statements_on.Goals as goal

pub loop-before-init : goal.loop-before-init
loop-before-init c =
    let empty : c.new-found.result.keys ≡ [] = search rules in
    let all : later 0 c.args.facts.now.assigns ≡ c.args.facts.now.assigns = all_later 0 c.args.facts.now.made.assigns 0 c.args.facts.now.assigns c.law_assigned.ensures.ascend (omega arith) in
    rw (empty, all) refl

pub loop-before-preserved : goal.loop-before-preserved
loop-before-preserved c =
    rows_next c.args.resource.now c.args.action.now c.args.facts.now.attributes c.args.facts.now.assigns c.args.facts.now.made.assigns c.loop-before.before (c.loop-before.before + 1) (c.from.result + 1)
    c.loop-before.found.keys c.add_spoken.new.statements.keys _ c.law_assigned.ensures.ascend (omega arith) (omega (arith, c.from.ensures)) c.in_ok-add_spoken.ensures c.loop-before.invariant

pub returns : goal.returns
returns c =
    let past : c.args.facts.now.made.assigns ≤ c.loop-before.before = rw c.made-before-end.ensures at c.loop-before-test.false in
    let none : later c.loop-before.before c.args.facts.now.assigns ≡ [] = none_later 0 c.args.facts.now.made.assigns c.loop-before.before c.args.facts.now.assigns c.law_assigned.ensures.ascend past in
    sym (ap (λ (rows : List AssignRow). put_into statement_cmp c.loop-before.found.keys (flat_map (spoken c.args.resource.now c.args.action.now c.args.facts.now.attributes) rows)) none) ∙ c.loop-before.invariant
