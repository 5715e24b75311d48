use Rattle.std.proofs.Common.{◌≡◌, ◌∷◌, ◌∙◌, sym, filter}
use Rattle.std.specs.BTreeMap.Range.{range_contains}
use Rattle.std.specs.declared.ops.Bound.TheVariants.{Included}
use Rattle.std.proofs.lemmas.List.Elements.{recursion_from_All}
use Rattle.reg_graph.proofs.Keys.{key_cmp, numbered_less, taken, next_is, next_none, some_key}
use Rattle.reg_graph.proofs.edges.Edges.take.Goals as goal

pub invariant_of-self : goal.invariant_of-self
invariant_of-self c = numbered_less _ _ _ _ c.self.invariant c.remove.ensures.keys

pub returns-in-Some : goal.returns-in-Some
returns-in-Some c =
    let part : c.range.result ≡ filter (range_contains key_cmp (Included (c.args.to, c.args.from, 0)) (Included (c.args.to, c.args.from, 18446744073709551615))) c.self.inside.keys.keys = rw (c.new.ensures.start, c.new.ensures.end, c.least.ensures, c.greatest.ensures) at (c.range.ensures.between c.new.ensures.exhausted) in
    let first : c.range.result ≡ c.in-Some.key ∷ c.next.new.self = next_is _ _ _ _ c.next.ensures.steps (sym c.in-Some.is ∙ c.copied-found.ensures) in
    taken c.args.to c.args.from c.self.inside.next _ _ _ c.in-Some.key c.next.new.self (sym part ∙ first) c.remove.ensures.keys c.self.view_is

pub returns-in_default : goal.returns-in_default
returns-in_default c =
    let part : c.range.result ≡ filter (range_contains key_cmp (Included (c.args.to, c.args.from, 0)) (Included (c.args.to, c.args.from, 18446744073709551615))) c.self.inside.keys.keys = rw (c.new.ensures.start, c.new.ensures.end, c.least.ensures, c.greatest.ensures) at (c.range.ensures.between c.new.ensures.exhausted) in
    absurd (some_key c.args.to c.args.from c.self.inside.next c.self.inside.keys.keys c.self.invariant.small (recursion_from_All _ _ c.self.invariant.each) (rw (← c.self.view_is) at c.requires)
    (sym part ∙ next_none _ _ _ c.next.ensures.steps (sym c.in_default.is ∙ c.copied-found.ensures)))
