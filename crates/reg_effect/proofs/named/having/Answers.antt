use Rattle.std.proofs.Common.{rules, ◌≡◌, ℕ, Bool, map}
use Rattle.std.specs.Map.Iter.{deref}
use Rattle.std.specs.Ordering.{nat_cmp}
use Rattle.std.proofs.lemmas.Map.Iter.{iter_end}
use Rattle.std.proofs.lemmas.List.Kept.{IsStrictlySortedBy-filter}
use Rattle.reg_graph.specs.Sets.{holds}
use Rattle.reg_effect.proofs.Counting.{among_filter}
use Rattle.reg_effect.proofs.named.having.Goals as goal

pub returns-clause-each : goal.returns-clause-each
returns-clause-each c =
    let keep : ℕ → Bool = λ (g : ℕ). holds g c.args.s c.args.table.now in
    let all : map deref c.loop-group.yielded ≡ c.args.groups.now.keys = search (rules, iter_end) in
    rw (c.loop-group.invariant, all) (λ g. among_filter keep g c.args.groups.now.keys)

pub returns-clause-sorted : goal.returns-clause-sorted
returns-clause-sorted c =
    let keep : ℕ → Bool = λ (g : ℕ). holds g c.args.s c.args.table.now in
    let all : map deref c.loop-group.yielded ≡ c.args.groups.now.keys = search (rules, iter_end) in
    rw (c.loop-group.invariant, all) (IsStrictlySortedBy-filter nat_cmp keep c.args.groups.now.keys c.iter-group-items.ensures.ordered)
