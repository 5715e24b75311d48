use Rattle.std.proofs.Common.{◌≡◌, ◌<◌, ◌∙◌, ◌∷◌, ◌++◌, [], ℕ, List, sym, refl, true, not, subst}
use Rattle.std.specs.declared.cmp.Ordering.TheVariants.{Less}
use Rattle.std.proofs.lemmas.List.Elements.{recursion_from_All}
use Rattle.reg_graph.specs.Sets.{holds, pair_cmp}
use Rattle.reg_graph.specs.Edges.{among}
use Rattle.reg_graph.specs.Levels.{level_of}
use Rattle.reg_graph.proofs.Counting.{passing}
use Rattle.reg_graph.proofs.Orders.{sources}
use Rattle.reg_graph.proofs.Kept.{updates_add, updates_remove, holds_is, all_held, empty_from}
use Rattle.reg_graph.proofs.Climbing.{climb_start, climb_step, climb_less, climb_end}
use Rattle.reg_graph.proofs.dag.climb.Goals as goal

pub loop-group-init : goal.loop-group-init
loop-group-init c = rw c.new-above.ensures.items (climb_start c.args.edges.now (level_of c.args.levels.now) c.args.node c.insert.new.self.keys
    (λ a b. rw (c.of.ensures, c.new-pending.ensures.empty) at (updates_add c.of.result c.args.node c.new-pending.result.keys c.insert.new.self.keys c.in_ok-insert.ensures.updates.0 a b)))

pub loop-group-smaller : goal.loop-group-smaller
loop-group-smaller c =
    let was : holds c.in-Some.field-0-0 c.in-Some.group c.loop-group.pending.keys ≡ true = sym (holds_is c.in-Some.field-0-0 c.in-Some.group c.loop-group.pending.keys) ∙ c.in-Some.ensures.member in
    let items : c.push.new.self.items ≡ c.loop-group.above.items ++ c.in-Some.group ∷ [] = rw c.new.ensures at c.in_ok-push.ensures.items in
    let Falls : List ℕ → Type 0 = λ o. passing (λ q. not (among q o)) (c.args.node ∷ sources c.args.edges.now) < passing (λ q. not (among q c.loop-group.above.items)) (c.args.node ∷ sources c.args.edges.now) in
    subst Falls (sym items) (climb_less c.args.edges.now (level_of c.args.levels.now) c.requires.falls c.args.node c.loop-group.above.items c.loop-group.pending.keys c.loop-group.invariant c.in-Some.field-0-0 c.in-Some.group was)

pub loop-group-preserved : goal.loop-group-preserved
loop-group-preserved c =
    let was : holds c.in-Some.field-0-0 c.in-Some.group c.loop-group.pending.keys ≡ true = sym (holds_is c.in-Some.field-0-0 c.in-Some.group c.loop-group.pending.keys) ∙ c.in-Some.ensures.member in
    let items : c.push.new.self.items ≡ c.loop-group.above.items ++ c.in-Some.group ∷ [] = rw c.new.ensures at c.in_ok-push.ensures.items in
    rw items (climb_step c.args.edges.now (level_of c.args.levels.now) c.requires.falls c.args.node c.loop-group.above.items c.loop-group.pending.keys c.loop-group.invariant
    c.pop_first.new.self.keys c.await_above.new.pending.keys c.in-Some.field-0-0 c.in-Some.group was
    (updates_remove c.in-Some.field-0-0 c.in-Some.group c.loop-group.pending.keys c.pop_first.new.self.keys c.in-Some.ensures.updates.0)
    (all_held (λ k. pair_cmp (c.in-Some.field-0-0, c.in-Some.group) k ≡ Less) c.pop_first.new.self.keys (recursion_from_All _ _ c.in-Some.ensures.all_above))
    c.in_ok-await_above.ensures)

pub returns : goal.returns
returns c =
    let keys : c.loop-group.pending.keys ≡ [] = empty_from c.pop_first.result c.loop-group.pending.keys c.in_default.is c.pop_first.ensures.variant in
    climb_end c.args.edges.now (level_of c.args.levels.now) c.requires.falls c.args.node c.loop-group.above.items c.loop-group.pending.keys c.loop-group.invariant (λ n q. rw keys refl)
