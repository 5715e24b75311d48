use Rattle.std.proofs.Common.{rules, ◌≡◌, ◌<◌, ◌∷◌, ◌++◌, [], ◌∙◌, ap, filter, get_or, length}
use Rattle.std.proofs.lemmas.List.{get_or_read}
use Rattle.reg_reasons.specs.Ways.{begun}
use Rattle.reg_reasons.specs.Reasons.{leads}
use Rattle.reg_reasons.specs.Stated.{named_by, with_new}
use Rattle.reg_reasons.proofs.Closing.{explains_more}
use Rattle.reg_reasons.proofs.explaining.explain.Goals as goal

pub loop-place-preserved : goal.loop-place-preserved
loop-place-preserved g c =
    let L = g.K.Kept.held c.args.kept.now in
    let all = begun c.args.at c.args.rows.now in
    let st = c.in_ok-statement.statement in
    let groups = c.loop-place.groups.items in
    let within : c.loop-place.place < length groups = search rules in
    let at : st.group ≡ get_or groups c.loop-place.place st.group = c.in_ok-statement.ensures.group ∙ get_or_read groups c.loop-place.place c.index-next.result.now within c.index-next.ensures st.group in
    let lead : c.deref-in-loop-place.result.now ≡ filter (leads L c.args.person) all = c.deref-in-loop-place.ensures.value ∙ c.in_ok-rows.ensures in
    let more : c.add_new.new.groups.items ≡ with_new groups (named_by st.grounds) = c.in_ok-add_new.ensures ∙ ap (with_new groups) (c.deref-in-loop-place-3.ensures.value ∙ c.in_ok-named.ensures) in
    let items : c.push-in-loop-place.new.self.items ≡ c.loop-place.statements.items ++ st ∷ [] = c.in_ok-push-2.ensures.items in
    rw (more, items) (explains_more L all c.args.person c.args.most c.args.group groups c.loop-place.place c.loop-place.statements.items st c.loop-place.invariant within at (c.in_ok-statement.ensures.right all lead))
