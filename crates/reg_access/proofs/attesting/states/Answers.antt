use Rattle.std.proofs.Common.{◌≡◌, ◌<◌, ◌∙◌, ℕ, ◌+◌, List, ap, arith, sym, subst}
use Rattle.reg_pit.specs.Owned.{rows_at}
use Rattle.reg_terms.specs.declared.rows.AssignRow.{AssignRow}
use Rattle.reg_access.specs.declared.state.StateKind.{StateKind}
use Rattle.reg_access.specs.Groups.{assigned, attested_at, attribute_name}
use Rattle.reg_access.specs.Stretches.{held_by}
use Rattle.reg_access.proofs.Passing.{all_listed, at_first, Listed, one_listed, within}
use Rattle.reg_access.proofs.attesting.states.Goals as goal

pub loop-from-init : goal.loop-from-init
loop-from-init g c =
    let n = c.micros-end.result + 1 in
    let marks = c.in_ok-marks.marks.items in
    let at = assigned c.args.machine.now.history c.args.group in
    let kind_at = λ (t : ℕ). (attested_at c.args.machine.now.history c.args.machine.now.clock c.args.group t).kind in
    let first = at_first at kind_at c.args.machine.now.clock n marks (omega arith) c.in_ok-marks.ensures.first c.in_ok-marks.ensures.ascending c.in_ok-marks.ensures.by_clock c.in_ok-marks.ensures.constant in
    subst (λ (l : List ℕ). Listed at kind_at n l c.new-states.result.items) (sym c.as_slice-rest.ensures.value)
    (subst (λ (s : List (ℕ × StateKind)). Listed at kind_at n marks s) (sym c.new-states.ensures.items) first)

pub loop-from-preserved : goal.loop-from-preserved
loop-from-preserved g c =
    let n = c.micros-end.result + 1 in
    let at = assigned c.args.machine.now.history c.args.group in
    let kind_at = λ (t : ℕ). (attested_at c.args.machine.now.history c.args.machine.now.clock c.args.group t).kind in
    let so_far = subst (λ (l : List ℕ). Listed at kind_at n l c.loop-from.states.items) c.in-Some.ensures.cases.0 c.loop-from.invariant in
    let names = attribute_name c.args.machine.now.history c.args.machine.now.clock in
    let soon : c.in-Some.from.now < n = within at kind_at n c.in-Some.from.now c.in-Some.later.now c.loop-from.states.items so_far in
    let rows : rows_at c.in_ok-past.past c.in-Some.from.now ≡ at c.in-Some.from.now = c.in_ok-past.ensures c.in-Some.from.now (omega (arith, soon)) in
    let held = c.in_ok-stretch.ensures ∙ ap (λ (rows : List AssignRow). held_by c.in-Some.from.now names rows) rows in
    one_listed names at n c.in-Some.from.now c.in-Some.later.now c.in_ok-stretch.stretch c.loop-from.states.items c.note_stretch.new.states.items so_far held (rw c.next_of.ensures at c.in_ok-note_stretch.ensures)

pub returns : goal.returns
returns g c =
    let at = assigned c.args.machine.now.history c.args.group in
    let kind_at = λ (t : ℕ). (attested_at c.args.machine.now.history c.args.machine.now.clock c.args.group t).kind in
    all_listed at kind_at c.args.machine.now.clock (c.micros-end.result + 1) c.loop-from.rest.now c.loop-from.states.items (omega arith) c.in_default.ensures.cases c.loop-from.invariant
