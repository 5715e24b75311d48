use Rattle.std.proofs.Common.{◌≡◌, ◌∙◌, ◌∷◌, [], false, sym}
use Rattle.reg_graph.specs.Edges.{is_needed}
use Rattle.reg_graph.specs.Levels.{level_of}
use Rattle.reg_graph.proofs.Climbing.{alone_above}
use Rattle.reg_graph.proofs.dag.with_above.Goals as goal

pub returns : goal.returns
returns c =
    let none : is_needed c.args.edges.now c.args.node ≡ false = sym c.has_above.ensures ∙ c.if-has_above.false in
    let items : c.push.new.self.items ≡ c.args.node ∷ [] = rw c.new-alone.ensures.items at c.in_ok-push.ensures.items in
    rw items (alone_above c.args.edges.now (level_of c.args.levels.now) c.requires.falls c.args.node none)
