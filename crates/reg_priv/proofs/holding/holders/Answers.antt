use Rattle.std.proofs.Common.{◌&&◌, ◌||◌, ◌∙◌, ap, List}
use Rattle.std.specs.List.{list_any}
use Rattle.reg_terms.specs.declared.rows.InheritRow.{InheritRow}
use Rattle.reg_priv.specs.Filling.{same_grant, is_among}
use Rattle.reg_priv.specs.Grants.{Grant, gives_one, given, reaches}
use Rattle.reg_priv.proofs.Gathering.{are_holders}
use Rattle.reg_priv.proofs.holding.holders.Goals as goal

-- nothing at first, then the direct grants, and then the inherited ones
pub returns : goal.returns
returns c =
    are_holders c.args.object.now c.args.facts.now c.in_ok-list.list.items c.in_ok-list.ensures.sorted (λ x.
    ap (is_among x) c.in_ok-list.ensures.all
    ∙ (c.in_ok-put_inherited.ensures x
    ∙ ap (λ b. b || list_any (λ (row : InheritRow). reaches c.args.object.now c.args.facts.now row && same_grant x (given row)) c.args.facts.now.inherits)
    (c.in_ok-put_written.ensures x ∙ (ap (λ (gs : List Grant). is_among x gs || list_any (gives_one (same_grant x)) c.grants_of-rows.result) c.new-found.ensures ∙ c.grants_of-rows.ensures.same (gives_one (same_grant x))))))
