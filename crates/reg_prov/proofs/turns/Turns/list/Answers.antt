use Rattle.std.proofs.Common.{◌≡◌, ◌∙◌, map, rules, ap, sym, subst, List}
use Rattle.std.specs.List.Sorted.{IsStrictlySortedBy}
use Rattle.std.specs.Map.Iter.{deref_pair}
use Rattle.std.proofs.lemmas.Map.Iter.{iter_end}
use Rattle.reg_prov.specs.declared.turn.Turn.{Turn}
use Rattle.reg_prov.specs.Notes.{turn_of}
use Rattle.reg_prov.specs.Turns.{turn_cmp}
use Rattle.reg_prov.proofs.Keyed.{turns_sorted}
use Rattle.reg_prov.proofs.turns.Turns.list.Goals as goal

pub returns-clause-ordered : goal.returns-clause-ordered
returns-clause-ordered c =
    let all : map deref_pair c.loop-place.yielded ≡ c.self.inside.by_boundary.entries = search (rules, iter_end) in
    subst (λ (turns : List Turn). IsStrictlySortedBy turn_cmp turns) (sym (c.loop-place.invariant ∙ ap (map turn_of) all))
    (turns_sorted c.self.inside.by_boundary.entries c.into_iter-place-iterator.ensures.into_iter_gives.5)
