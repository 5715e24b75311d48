use Rattle.std.proofs.Common.{◌≡◌, [], refl, sym, arith}
use Rattle.std.proofs.lemmas.Bool.{eqb-true}
use Rattle.std.specs.Vec.{vec_len}
use Rattle.reg_machine.specs.History.{now_facts}
use Rattle.reg_prov.proofs.Told.{no_spans, none_wanted, some_wanted}
use Rattle.reg_prov.proofs.known.past_of.Goals as goal

pub returns-then-is_empty : goal.returns-then-is_empty
returns-then-is_empty g c =
    let nil = eqb-true (vec_len c.in_ok-grants.grants) 0 (sym c.if-is_empty.ensures) in
    let none : c.in_ok-grants.grants.items ≡ [] = no_spans c.in_ok-grants.grants.items (omega (arith, nil)) in
    none_wanted c.args.machine.now.history c.args.machine.now.clock c.args.group c.args.provisioner c.in_ok-grants.grants.items c.in_ok-grants.ensures none

pub returns : goal.returns
returns g c =
    some_wanted c.args.machine.now.history c.args.machine.now.clock c.args.group c.args.provisioner c.in_ok-grants.grants.items c.in_ok-grants.ensures
    c.in_ok-members.members.items (now_facts c.args.machine.now).subjects c.in_ok-members.ensures c.law_past.ensures.known
    (record { group = c.args.group; grants = c.in_ok-grants.grants; members = c.in_ok-members.members }) refl refl refl
