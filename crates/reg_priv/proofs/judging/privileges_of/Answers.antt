use Rattle.std.proofs.Common.{◌∙◌, List, ap, filter, map, sym}
use Rattle.reg_priv.specs.Grants.{Grant}
use Rattle.reg_priv.specs.May.{holds}
use Rattle.reg_priv.proofs.Powers.{another_has, root_has}
use Rattle.reg_priv.proofs.judging.privileges_of.Goals as goal

pub returns-then-is_root : goal.returns-then-is_root
returns-then-is_root g c =
    c.in_ok-all.ensures ∙ root_has (g.K.Kept.held c.args.kept.now) c.args.facts.now c.args.who.now c.args.object.now _ c.judged-judged.ensures (sym c.is_root.ensures ∙ c.if-is_root.true)

pub returns : goal.returns
returns g c =
    let own = c.deref.ensures.value ∙ c.in_ok-grants.ensures in
    let held = c.deref-2.ensures.value ∙ (c.in_ok-held.ensures ∙ ap (λ (gs : List Grant). map (λ (x : Grant). x.0) (filter (λ (x : Grant). holds (g.K.Kept.held c.args.kept.now) c.args.who.now x.1) gs)) own) in
    c.in_ok-given.ensures ∙ another_has (g.K.Kept.held c.args.kept.now) c.args.facts.now c.args.who.now c.args.object.now _ _ c.judged-judged.ensures (sym c.is_root.ensures ∙ c.if-is_root.false) held
