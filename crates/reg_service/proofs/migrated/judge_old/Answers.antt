use Rattle.std.proofs.Common.{◌∙◌, ap}
use Rattle.reg_machine.specs.History.{start}
use Rattle.reg_recode.specs.Recoded.{recoded, recoded_payload}
use Rattle.reg_service.specs.Opening.{judged_old}
use Rattle.reg_service.proofs.Judging.{all_after, next_judged, short_after}
use Rattle.reg_service.proofs.migrated.judge_old.Goals as goal

pub records-preserved : goal.records-preserved
records-preserved c = record {
  judged = next_judged (judged_old start c.args.records) c.records.machine c.in_ok-next.next c.records.left c.take_first.new.self c.in-Some.place _ c.in-Some.before c.records.invariant.judged c.in-Some.ensures.taken c.bytes.ensures c.in_ok-next.ensures.ok;
  all = all_after (recoded c.args.records) c.records.made c.records.left c.take_first.new.self c.push.new.self c.in-Some.place c.in-Some.before c.in_ok-next.after c.records.invariant.all c.in-Some.ensures.taken c.in_ok-push.ensures.ok (c.in_ok-next.ensures.payload ∙ ap recoded_payload c.bytes.ensures);
  short = short_after c.records.made c.push.new.self c.in-Some.place c.in_ok-next.after c.records.invariant.short c.in_ok-push.ensures.ok c.in_ok-next.ensures.short;
}
