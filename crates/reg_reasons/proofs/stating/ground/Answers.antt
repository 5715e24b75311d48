use Rattle.std.proofs.Common.{◌≡◌, ◌==◌, ◌∙◌, None, Some, List, ap, length, sym, take}
use Rattle.std.specs.List.{find}
use Rattle.reg_terms.specs.declared.rows.CompositeRow.{CompositeRow}
use Rattle.reg_terms.specs.declared.rows.MemberRow.{MemberRow}
use Rattle.reg_reasons.specs.Ways.{ways}
use Rattle.reg_reasons.specs.Reasons.{is_end}
use Rattle.reg_reasons.specs.Counts.{capped}
use Rattle.reg_reasons.proofs.Closing.{are_reasons, found_row, not_found}
use Rattle.reg_reasons.proofs.stating.ground.Goals as goal

pub returns-in-Some : goal.returns-in-Some
returns-in-Some g c = λ all e.
    let L = g.K.Kept.held c.args.kept.now in
    let was : find (λ (r : CompositeRow). r.group == c.args.group) L.composites ≡ Some c.in-Some.composite = rw c.live.ensures.live at (sym c.composite.ensures ∙ c.in-Some.is) in
    found_row c.args.group L.composites c.in-Some.composite was

pub returns : goal.returns
returns g c = λ all e.
    let L = g.K.Kept.held c.args.kept.now in
    let E = is_end L c.args.person in
    let was : find (λ (r : CompositeRow). r.group == c.args.group) L.composites ≡ None = rw c.live.ensures.live at (sym c.composite.ensures ∙ c.in_default.is) in
    let are = are_reasons L all c.args.rows.now c.args.person c.args.group c.args.levels.now e c.requires in (
      not_found c.args.group L.composites was,
      c.total-number.ensures (λ n h. ways n c.args.rows.now E c.args.person h) c.requires.counted ∙ ap (λ (ws : List (List MemberRow)). capped (length ws)) are,
      c.in_ok-ways.ensures E c.requires.counted ∙ ap (λ (ws : List (List MemberRow)). take c.args.most ws) are,
    )
