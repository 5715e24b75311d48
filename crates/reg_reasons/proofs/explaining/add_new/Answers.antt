use Rattle.std.proofs.Common.{◌≡◌, ◌∙◌, ap, sym}
use Rattle.reg_graph.specs.Edges.{among}
use Rattle.reg_reasons.specs.Stated.{with_new}
use Rattle.reg_reasons.proofs.Closing.{put_known, put_new}
use Rattle.reg_reasons.proofs.explaining.add_new.Goals.{then-not-contains+in_ok-push, else-not-contains}
use Rattle.reg_reasons.proofs.explaining.add_new.Goals as goal

pub loop-group-preserved : goal.loop-group-preserved
loop-group-preserved c =
    let whole = with_new c.args.groups.now.items c.args.named.now in
    let there : c.contains.result ≡ among c.group-item.result c.loop-group.groups.items = c.contains.ensures.value ∙ ap (λ gs. among c.group-item.result gs) c.deref.ensures.value in
    elim c.if-not-contains.branch [
      | then-not-contains+in_ok-push w ↦ rw w.groups-is (put_new c.loop-group.groups.items c.args.named.now whole c.loop-group.group-index c.group-item.result c.loop-group-test.true c.group-item.is c.loop-group.invariant
          w.push.new.self.items (sym there ∙ w.if-not-contains.true) w.in_ok-push.ensures.items)
      | else-not-contains w ↦ rw w.groups-is (put_known c.loop-group.groups.items c.args.named.now whole c.loop-group.group-index c.group-item.result c.loop-group-test.true c.group-item.is c.loop-group.invariant (sym there ∙ w.if-not-contains.false))
    ]
