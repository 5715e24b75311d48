use Rattle.std.proofs.Common.{rules, ◌≡◌, ◌∙◌, map, ap}
use Rattle.std.specs.Map.Iter.{deref_pair}
use Rattle.std.proofs.lemmas.Map.Iter.{iter_end}
use Rattle.reg_effect.specs.Factors.{composite_at}
use Rattle.reg_effect.proofs.composites.Composites.list.Goals as goal

pub returns : goal.returns
returns c =
    let all : map deref_pair c.loop-group.yielded ≡ c.self.inside.factors.entries = search (rules, iter_end) in
    c.loop-group.invariant ∙ (ap (λ es. map composite_at es) all ∙ c.self.view_is)
