use Rattle.std.proofs.Common.{rules, ◌≡◌, true, IfOk, Some, subst}
use Rattle.reg_facts.specs.Attributes.{assign_row, has_assign}
use Rattle.reg_machine.specs.History.{now_facts}
use Rattle.reg_machine.proofs.Owned.{assign_id, value_left}
use Rattle.reg_machine.proofs.machine.Machine.decide_value.Goals as goal

pub returns : goal.returns
returns g c =
    let has : has_assign c.args.id c.args.owner.now c.args.attribute (now_facts c.args.self.now).assigns ≡ true = search rules in
    let found : Some c.in-Some.row.now ≡ assign_row c.args.id (now_facts c.args.self.now).assigns = search rules in
    subst (λ x. IfOk c.decide_taken.result (λ refusal. refusal ≡ x))
    (value_left c.args.self.now.history (now_facts c.args.self.now) c.args.attribute c.args.owner.now c.args.id c.in-Some.row.now.id c.args.value.now (assign_id c.args.id (now_facts c.args.self.now).assigns c.in-Some.row.now found) has)
    c.decide_taken.ensures
