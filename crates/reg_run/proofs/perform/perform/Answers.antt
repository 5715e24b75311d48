use Rattle.std.proofs.Common.{refl}
use Rattle.reg_run.specs.World.{net_of, world}
use Rattle.reg_run.proofs.perform.perform.Goals as goal

-- each task did what its function says
pub returns-in-Init-clause-did : goal.returns-in-Init-clause-did
returns-in-Init-clause-did g c = rw c.in-Init.is (c.init.ensures.did (world g.S.Source g.K.Sink g.D.Disk g.C.Clock c.args.input.now c.args.out.now c.args.disk c.args.clock.now (net_of g.L.Listener c.args.net.now)), refl)

pub returns-in-Apply-clause-did : goal.returns-in-Apply-clause-did
returns-in-Apply-clause-did g c = rw c.in-Apply.is (c.apply_over.ensures.did (net_of g.L.Listener c.args.net.now), refl)

pub returns-in-Together-clause-did : goal.returns-in-Together-clause-did
returns-in-Together-clause-did g c = rw c.in-Together.is (c.apply_together_over.ensures.did (net_of g.L.Listener c.args.net.now), refl)

pub returns-in-Check-clause-did : goal.returns-in-Check-clause-did
returns-in-Check-clause-did g c = rw c.in-Check.is (c.check_over.ensures.did (world g.S.Source g.K.Sink g.D.Disk g.C.Clock c.args.input.now c.args.out.now c.args.disk c.args.clock.now (net_of g.L.Listener c.args.net.now)), refl)

pub returns-in-Commands-clause-did : goal.returns-in-Commands-clause-did
returns-in-Commands-clause-did g c = rw c.in-Commands.is (c.commands_over.ensures.did (world g.S.Source g.K.Sink g.D.Disk g.C.Clock c.args.input.now c.args.out.now c.args.disk c.args.clock.now (net_of g.L.Listener c.args.net.now)), refl)

pub returns-in-AsOf-clause-did : goal.returns-in-AsOf-clause-did
returns-in-AsOf-clause-did g c = rw c.in-AsOf.is (c.as_of_over.ensures.did (net_of g.L.Listener c.args.net.now), refl)

pub returns-in-ReportAsOf-clause-did : goal.returns-in-ReportAsOf-clause-did
returns-in-ReportAsOf-clause-did g c = rw c.in-ReportAsOf.is (c.report_as_of_over.ensures.did (world g.S.Source g.K.Sink g.D.Disk g.C.Clock c.args.input.now c.args.out.now c.args.disk c.args.clock.now (net_of g.L.Listener c.args.net.now)), refl)

pub returns-in-Ask-clause-did : goal.returns-in-Ask-clause-did
returns-in-Ask-clause-did g c = rw c.in-Ask.is (c.ask_over.ensures.did (world g.S.Source g.K.Sink g.D.Disk g.C.Clock c.args.input.now c.args.out.now c.args.disk c.args.clock.now (net_of g.L.Listener c.args.net.now)), refl)

pub returns-in-Report-clause-did : goal.returns-in-Report-clause-did
returns-in-Report-clause-did g c = rw c.in-Report.is (c.report_over.ensures.did (world g.S.Source g.K.Sink g.D.Disk g.C.Clock c.args.input.now c.args.out.now c.args.disk c.args.clock.now (net_of g.L.Listener c.args.net.now)), refl)

pub returns-in-Provision-clause-did : goal.returns-in-Provision-clause-did
returns-in-Provision-clause-did g c = rw c.in-Provision.is (c.provision_over.ensures.did (world g.S.Source g.K.Sink g.D.Disk g.C.Clock c.args.input.now c.args.out.now c.args.disk c.args.clock.now (net_of g.L.Listener c.args.net.now)), refl)

pub returns-in-Serve-clause-did : goal.returns-in-Serve-clause-did
returns-in-Serve-clause-did g c = rw c.in-Serve.is (c.serve_over.ensures.did (world g.S.Source g.K.Sink g.D.Disk g.C.Clock c.args.input.now c.args.out.now c.args.disk c.args.clock.now (net_of g.L.Listener c.args.net.now)), refl)

pub returns-in-Load-clause-did : goal.returns-in-Load-clause-did
returns-in-Load-clause-did g c = rw c.in-Load.is (c.load_over.ensures.did (net_of g.L.Listener c.args.net.now), refl)

pub returns-in-Sample-clause-did : goal.returns-in-Sample-clause-did
returns-in-Sample-clause-did g c =
    rw c.in-Sample.is (record { printed = c.print_sample.ensures; input = (refl, refl); clock = refl; net = refl; held = (refl, refl); disk = (refl, g.met.D.Disk.only_now c.args.disk) }, refl)

pub returns-in-Migrate-clause-did : goal.returns-in-Migrate-clause-did
returns-in-Migrate-clause-did g c = rw c.in-Migrate.is (c.migrate_over.ensures.did (world g.S.Source g.K.Sink g.D.Disk g.C.Clock c.args.input.now c.args.out.now c.args.disk c.args.clock.now (net_of g.L.Listener c.args.net.now)))
