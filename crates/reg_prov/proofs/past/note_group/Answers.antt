use Rattle.std.proofs.Common.{◌∙◌, ◌==◌, ap, map, List, arith}
use Rattle.std.proofs.lemmas.List.Sums.{prefix_len-le-length}
use Rattle.reg_prov.proofs.Rows.{Row, span}
use Rattle.reg_prov.proofs.Grouped.{rest_done, rest_grouped, rest_new}
use Rattle.reg_prov.proofs.past.note_group.Goals as goal

pub split_at-requires : goal.split_at-requires
split_at-requires c = omega (arith, c.front_of.ensures, prefix_len-le-length (λ (row : Row). row.0 == c.in-Some.row.now.0) c.loop-row.rest.now)

pub note_pair-requires-clause-new : goal.note_pair-requires-clause-new
note_pair-requires-clause-new c =
    rest_new c.args.grants.now c.args.boundaries.now c.args.group c.args.rows.now c.loop-row.rest.now c.in-Some.row.now c.args.turns.now c.loop-row.turns c.in-Some.ensures.value c.loop-row.invariant

pub loop-row-preserved : goal.loop-row-preserved
loop-row-preserved c =
    rest_grouped c.args.grants.now c.args.boundaries.now c.args.group c.args.rows.now c.loop-row.rest.now c.in-Some.row.now c.args.turns.now c.loop-row.turns c.in-Some.ensures.value c.loop-row.invariant
    c.note_pair.new.turns c.deref.result.now c.split_at.result.1.now c.front_of.result c.front_of.ensures (c.deref.ensures.value ∙ (c.in_ok-members.ensures ∙ ap (λ (l : List Row). map span l) c.split_at.ensures.front)) c.split_at.ensures.back
    c.in_ok-note_pair.ensures.noted c.in_ok-note_pair.ensures.others

pub returns-clause-noted : goal.returns-clause-noted
returns-clause-noted c =
    rest_done c.args.grants.now c.args.boundaries.now c.args.group c.args.rows.now c.loop-row.rest.now c.args.turns.now c.loop-row.turns c.in_default.ensures.value c.loop-row.invariant
