use Rattle.std.proofs.Common.{rules, ◌≡◌, ℕ, not, map, Bool, sym, refl, false, true}
use Rattle.std.specs.Map.Iter.{deref}
use Rattle.std.proofs.lemmas.Map.Iter.{iter_end}
use Rattle.std.proofs.lemmas.List.Kept.{IsStrictlySortedBy-filter}
use Rattle.reg_graph.specs.Sets.{holds, pair_cmp}
use Rattle.reg_effect.proofs.Marked.{kept_more, kept_less}
use Rattle.reg_effect.proofs.marks.Marks.beyond.Goals as goal

pub loop-pair-preserved-in-Continue-1 : goal.loop-pair-preserved-in-Continue-1
loop-pair-preserved-in-Continue-1 c =
    let keep : ℕ × ℕ → Bool = λ (q : ℕ × ℕ). not (holds q.0 q.1 c.args.other.now) in
    let has : holds c.in-Some.pair.now.0 c.in-Some.pair.now.1 c.args.other.now ≡ false = sym c.if-not-has.ensures in
    kept_more keep c.loop-pair.yielded c.in-Some.pair c.loop-pair.pairs c.push.new.self _ _ c.loop-pair.invariant c.in_ok-push.ensures.ok refl refl (rw has refl)

pub loop-pair-preserved : goal.loop-pair-preserved
loop-pair-preserved c =
    let keep : ℕ × ℕ → Bool = λ (q : ℕ × ℕ). not (holds q.0 q.1 c.args.other.now) in
    let has : holds c.in-Some.pair.now.0 c.in-Some.pair.now.1 c.args.other.now ≡ true = sym c.if-not-has.ensures in
    kept_less keep c.loop-pair.yielded c.in-Some.pair c.loop-pair.pairs c.loop-pair.invariant (rw has refl)

pub returns-clause-ordered : goal.returns-clause-ordered
returns-clause-ordered c =
    let keep : ℕ × ℕ → Bool = λ (q : ℕ × ℕ). not (holds q.0 q.1 c.args.other.now) in
    let all : map deref c.loop-pair.yielded ≡ c.self.inside.pairs.keys = search (rules, iter_end) in
    rw (c.loop-pair.invariant, all) (IsStrictlySortedBy-filter pair_cmp keep c.self.inside.pairs.keys c.self.invariant.ordered)
