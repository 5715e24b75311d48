use Rattle.std.proofs.Common.{◌++◌, ◌∙◌, List, [], sym, ap, take, append_assoc}
use Rattle.std.specs.List.{cons_option, filter_map}
use Rattle.reg_terms.specs.declared.rows.MemberRow.{MemberRow}
use Rattle.reg_loader.specs.Plan.{Key, person_key}
use Rattle.reg_loader.proofs.Lists.{mapped_more}
use Rattle.reg_loader.proofs.standing.add_keys.Goals as goal

pub loop-row-preserved : goal.loop-row-preserved
loop-row-preserved c =
    let rows = c.args.rows.now in
    let i = c.loop-row.row-index in
    let so_far = filter_map (person_key c.args.group) (take i rows) in
    c.in_ok-add_key.ensures
    ∙ ap (λ (keys : List Key). keys ++ cons_option (person_key c.args.group c.row-item.result) []) c.loop-row.invariant
    ∙ append_assoc c.args.found.now.items so_far (cons_option (person_key c.args.group c.row-item.result) [])
    ∙ ap (λ (row : MemberRow). c.args.found.now.items ++ (so_far ++ cons_option (person_key c.args.group row) [])) c.row-item.is
    ∙ ap (λ (keys : List Key). c.args.found.now.items ++ keys) (sym (mapped_more (person_key c.args.group) rows i c.row-item.result c.loop-row-test.true))
