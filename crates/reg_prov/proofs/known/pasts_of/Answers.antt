use Rattle.std.proofs.Common.{◌≡◌, ◌<◌, ◌+◌, ◌++◌, ◌∷◌, [], refl, arith}
use Rattle.reg_machine.specs.History.{now_facts}
use Rattle.reg_prov.specs.Wanted.{wants}
use Rattle.reg_prov.proofs.Gathered.{all_gathered, group_gathered, group_passed, none_gathered}
use Rattle.reg_prov.proofs.Told.{wanted_made}
use Rattle.reg_prov.proofs.known.pasts_of.Goals.{else-loop-number-test, then-loop-number-test+in_ok-past+else-number-last, in-Some+in_ok-push, in_default}
use Rattle.reg_prov.proofs.known.pasts_of.Goals as goal

pub loop-number-init : goal.loop-number-init
loop-number-init g c = rw c.new-pasts.ensures.items (none_gathered (wants c.args.machine.now.history c.args.provisioner) c.args.machine.now.clock)

pub loop-number-preserved : goal.loop-number-preserved
loop-number-preserved g c =
    elim c.match-branch-2.branch [
      | in-Some+in_ok-push w ↦ rw (w.pasts-is, w.in_ok-push.ensures.items)
          (group_gathered (wants c.args.machine.now.history c.args.provisioner) c.args.machine.now.clock c.loop-number.number c.loop-number.pasts.items c.loop-number.invariant
          w.in-Some.past (rw (c.new.ensures, w.in-Some.is) at c.in_ok-past.ensures))
      | in_default w ↦ rw w.pasts-is
          (group_passed (wants c.args.machine.now.history c.args.provisioner) c.args.machine.now.clock c.loop-number.number c.loop-number.pasts.items c.loop-number.invariant
          (rw (c.new.ensures, w.in_default.is) at c.in_ok-past.ensures))
    ]

-- the loop is left at the last group
pub returns : goal.returns
returns g c =
    let same : c.made-last.result.groups ≡ (now_facts c.args.machine.now).made.groups = rw (c.made-last.ensures, c.facts.ensures) refl in
    elim c.loop-number-test.branch [
      | else-loop-number-test w ↦
          let after : (now_facts c.args.machine.now).made.groups < c.loop-number.number = omega (arith, same) in
          rw w.pasts-is
          (all_gathered (wants c.args.machine.now.history c.args.provisioner) c.args.machine.now.clock c.loop-number.number c.loop-number.pasts.items c.loop-number.invariant
          (wanted_made c.args.machine.now.history c.args.provisioner c.args.machine.now.clock (now_facts c.args.machine.now).made.groups c.loop-number.number after c.law_past.ensures.made))
      | then-loop-number-test+in_ok-past+else-number-last w ↦
          let after : (now_facts c.args.machine.now).made.groups < c.loop-number.number + 1 = omega (arith, same) in
          let made = wanted_made c.args.machine.now.history c.args.provisioner c.args.machine.now.clock (now_facts c.args.machine.now).made.groups (c.loop-number.number + 1) after c.law_past.ensures.made in
          elim w.match-branch-2.branch [
            | in-Some+in_ok-push x ↦ rw (w.pasts-is, x.pasts-is, x.in_ok-push.ensures.items)
                (all_gathered (wants c.args.machine.now.history c.args.provisioner) c.args.machine.now.clock (c.loop-number.number + 1) (c.loop-number.pasts.items ++ x.in-Some.past ∷ [])
                (group_gathered (wants c.args.machine.now.history c.args.provisioner) c.args.machine.now.clock c.loop-number.number c.loop-number.pasts.items c.loop-number.invariant
                x.in-Some.past (rw (w.new.ensures, x.in-Some.is) at w.in_ok-past.ensures)) made)
            | in_default x ↦ rw (w.pasts-is, x.pasts-is)
                (all_gathered (wants c.args.machine.now.history c.args.provisioner) c.args.machine.now.clock (c.loop-number.number + 1) c.loop-number.pasts.items
                (group_passed (wants c.args.machine.now.history c.args.provisioner) c.args.machine.now.clock c.loop-number.number c.loop-number.pasts.items c.loop-number.invariant
                (rw (w.new.ensures, x.in_default.is) at w.in_ok-past.ensures)) made)
          ]
    ]
