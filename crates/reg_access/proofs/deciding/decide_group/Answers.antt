use Rattle.std.proofs.Common.{◌≡◌, true}
use Rattle.reg_graph.specs.Edges.{among}
use Rattle.reg_access.proofs.Skipped.{is_old, more_known, passed_allowed, passed_decided}
use Rattle.reg_access.proofs.deciding.decide_group.Goals as goal

pub returns-then-not-is_new : goal.returns-then-not-is_new
returns-then-not-is_new g c =
    let L = g.K.Kept.held c.args.kept.now in
    let group = c.args.statement.now.source.group in
    let had : among group c.args.groups.now.keys ≡ true = is_old _ _ c.in_ok-is_new.ensures.is_new c.if-not-is_new.true in
    record {
      known = more_known L c.args.groups.now.keys c.mark.new.groups.keys c.args.decided.now.keys c.args.decided.now.keys group c.requires c.in_ok-is_new.ensures.added
          (λ q. passed_decided L c.args.groups.now.keys c.args.decided.now.keys group q c.requires had);
      decided = λ q. passed_decided L c.args.groups.now.keys c.args.decided.now.keys group q c.requires had;
      allowed = λ q. passed_allowed L c.args.groups.now.keys c.args.decided.now.keys group q c.args.statement.now.saying.allow (among q c.args.allowed.now.keys) c.requires had;
    }

pub returns-clause-known : goal.returns-clause-known
returns-clause-known g c =
    more_known (g.K.Kept.held c.args.kept.now) c.args.groups.now.keys c.mark.new.groups.keys c.args.decided.now.keys c.decide_members.new.decided.keys c.args.statement.now.source.group
    c.requires c.in_ok-is_new.ensures.added c.in_ok-decide_members.ensures.decided
