use Rattle.std.proofs.Common.{◌≡◌, ◌∙◌, sym, ap, length, rules}
use Rattle.reg_loader.proofs.Planned.{added_told, gone_told, names_form, plan_is, planned_composite, planned_failsafe, planned_ok, removes_is}
use Rattle.reg_loader.proofs.planning.plan_in.Goals as goal

pub returns-then-is_composite_target : goal.returns-then-is_composite_target
returns-then-is_composite_target g c = planned_composite (g.K.Kept.held c.args.kept.now) c.args.job.now c.args.table.now c.args.facts.now (sym c.is_composite_target.ensures ∙ c.if-is_composite_target.true)

pub returns-then-is_too_many : goal.returns-then-is_too_many
returns-then-is_too_many g c =
    let L = g.K.Kept.held c.args.kept.now in
    let walked = rw c.list.ensures at c.in_ok-walked.ensures in
    let gone = rw c.deref.ensures.value at c.in_ok-gone.ensures in
    let before : c.len-before.result ≡ length c.in_ok-there.there.items = search rules in
    let removes : c.len-removes.result ≡ length c.in_ok-gone.gone.items = search rules in
    planned_failsafe L c.args.job.now c.args.table.now c.args.facts.now c.len-before.result c.len-removes.result (sym c.is_composite_target.ensures ∙ c.if-is_composite_target.false) (before ∙ ap length c.in_ok-there.ensures)
    (removes_is L c.args.job.now c.args.table.now c.args.facts.now c.in_ok-walked.walked walked c.in_ok-there.there.items c.in_ok-gone.gone.items c.len-removes.result c.in_ok-there.ensures gone removes)
    (sym c.is_too_many.ensures ∙ c.if-is_too_many.true)

pub told-requires-clause-names : goal.told-requires-clause-names
told-requires-clause-names g c = names_form (g.K.Kept.held c.args.kept.now) c.args.job.now c.args.table.now c.args.facts.now c.in_ok-walked.walked (rw c.list.ensures at c.in_ok-walked.ensures)

pub told-requires-clause-gone : goal.told-requires-clause-gone
told-requires-clause-gone g c =
    let walked = rw c.list.ensures at c.in_ok-walked.ensures in
    let gone = rw c.deref.ensures.value at c.in_ok-gone.ensures in
    rw c.deref-3.ensures.value (gone_told (g.K.Kept.held c.args.kept.now) c.args.job.now c.args.table.now c.args.facts.now c.in_ok-walked.walked walked c.law_sound.ensures c.law_names.ensures c.requires c.in_ok-there.there.items c.in_ok-gone.gone.items c.in_ok-there.ensures gone)

pub told-requires-clause-added : goal.told-requires-clause-added
told-requires-clause-added g c =
    let walked = rw c.list.ensures at c.in_ok-walked.ensures in
    let added = rw (c.deref-2.ensures.value, c.as_slice.ensures.keys) at c.in_ok-fates.ensures.added in
    added_told (g.K.Kept.held c.args.kept.now) c.args.job.now c.args.table.now c.args.facts.now c.in_ok-walked.walked walked c.law_sound.ensures c.law_names.ensures c.requires c.in_ok-there.there.items c.in_ok-fates.fates.added.items added

pub returns : goal.returns
returns g c =
    let L = g.K.Kept.held c.args.kept.now in
    let walked = rw c.list.ensures at c.in_ok-walked.ensures in
    let gone = rw c.deref.ensures.value at c.in_ok-gone.ensures in
    let added = rw (c.deref-2.ensures.value, c.as_slice.ensures.keys) at c.in_ok-fates.ensures.added in
    let unchanged = rw (c.deref-2.ensures.value, c.as_slice.ensures.keys) at c.in_ok-fates.ensures.unchanged in
    let vetoed = rw (c.deref-2.ensures.value, c.as_slice.ensures.keys) at c.in_ok-fates.ensures.vetoed in
    let told = rw c.deref-3.ensures.value at c.in_ok-plan.ensures in
    let before : c.len-before.result ≡ length c.in_ok-there.there.items = search rules in
    let removes : c.len-removes.result ≡ length c.in_ok-gone.gone.items = search rules in
    planned_ok L c.args.job.now c.args.table.now c.args.facts.now c.len-before.result c.len-removes.result c.in_ok-plan.plan (sym c.is_composite_target.ensures ∙ c.if-is_composite_target.false) (before ∙ ap length c.in_ok-there.ensures)
    (removes_is L c.args.job.now c.args.table.now c.args.facts.now c.in_ok-walked.walked walked c.in_ok-there.there.items c.in_ok-gone.gone.items c.len-removes.result c.in_ok-there.ensures gone removes)
    (sym c.is_too_many.ensures ∙ c.if-is_too_many.false)
    (told ∙ plan_is L c.args.job.now c.args.table.now c.args.facts.now c.in_ok-walked.walked walked c.in_ok-there.there.items c.in_ok-gone.gone.items c.in_ok-fates.fates c.in_ok-there.ensures gone added unchanged vetoed)
