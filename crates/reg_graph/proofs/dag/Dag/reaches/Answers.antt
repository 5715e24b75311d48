use Rattle.std.proofs.Common.{◌≡◌, ◌<◌, false, ◌∙◌, sym, refl}
use Rattle.std.proofs.lemmas.Bool.{both_ways}
use Rattle.reg_graph.specs.Edges.{IsAcyclic, reaches}
use Rattle.reg_graph.specs.Levels.{level_of, has_level}
use Rattle.reg_graph.proofs.Orders.{acyclic, not_back}
use Rattle.reg_graph.proofs.Levelling.{reach_alone}
use Rattle.reg_graph.proofs.Reaching.{path_from, path_to}
use Rattle.reg_graph.proofs.dag.Dag.reaches.Goals as goal

-- a group of a lower level depends on none of a higher one
pub returns-then-of-clause-value : goal.returns-then-of-clause-value
returns-then-of-clause-value c =
    let lower : level_of c.self.inside.levels c.args.from < level_of c.self.inside.levels c.args.to = rw (c.of.ensures, c.of-2.ensures, c.number.ensures, c.number-2.ensures) at c.if-of.true in
    let none : reaches c.self.inside.edges c.args.from c.args.to ≡ false = not_back c.self.inside.edges (level_of c.self.inside.levels) c.self.invariant.falls c.args.from c.args.to lower in
    sym (rw c.self.view_is at none)

pub returns-then-of-clause-path : goal.returns-then-of-clause-path
returns-then-of-clause-path c =
    let lower : level_of c.self.inside.levels c.args.from < level_of c.self.inside.levels c.args.to = rw (c.of.ensures, c.of-2.ensures, c.number.ensures, c.number-2.ensures) at c.if-of.true in
    let all : reaches c.self.inside.edges c.args.from c.args.to ≡ false = not_back c.self.inside.edges (level_of c.self.inside.levels) c.self.invariant.falls c.args.from c.args.to lower in
    let none : reaches c.args.self.now c.args.from c.args.to ≡ false = rw c.self.view_is at all in
    (λ t. absurd (both_ways false refl t), λ p. absurd (both_ways (reaches c.args.self.now c.args.from c.args.to) none (path_to c.args.self.now p.0 c.args.from c.args.to p.1)))

-- nor does one that depends on nothing
pub returns-then-not-has-clause-value : goal.returns-then-not-has-clause-value
returns-then-not-has-clause-value c =
    let none : has_level c.self.inside.levels c.args.from ≡ false = rw (c.has.ensures, c.number-3.ensures) at c.if-not-has.true in
    c.eq.ensures ∙ sym (rw c.self.view_is at (reach_alone c.self.inside.edges c.self.inside.levels c.args.from c.args.to c.self.invariant none))

pub returns-then-not-has-clause-path : goal.returns-then-not-has-clause-path
returns-then-not-has-clause-path c =
    let none : has_level c.self.inside.levels c.args.from ≡ false = rw (c.has.ensures, c.number-3.ensures) at c.if-not-has.true in
    let same : c.eq.result ≡ reaches c.args.self.now c.args.from c.args.to = c.eq.ensures ∙ sym (rw c.self.view_is at (reach_alone c.self.inside.edges c.self.inside.levels c.args.from c.args.to c.self.invariant none)) in
    (λ t. path_from c.args.self.now c.args.from c.args.to (sym same ∙ t), λ p. same ∙ path_to c.args.self.now p.0 c.args.from c.args.to p.1)

pub returns-in_err-above-clause-acyclic : goal.returns-in_err-above-clause-acyclic
returns-in_err-above-clause-acyclic c = let all : IsAcyclic c.self.inside.edges = acyclic c.self.inside.edges (level_of c.self.inside.levels) c.self.invariant.falls in rw c.self.view_is at all

pub returns-clause-acyclic : goal.returns-clause-acyclic
returns-clause-acyclic c = let all : IsAcyclic c.self.inside.edges = acyclic c.self.inside.edges (level_of c.self.inside.levels) c.self.invariant.falls in rw c.self.view_is at all

pub returns-then-of-clause-acyclic : goal.returns-then-of-clause-acyclic
returns-then-of-clause-acyclic c = let all : IsAcyclic c.self.inside.edges = acyclic c.self.inside.edges (level_of c.self.inside.levels) c.self.invariant.falls in rw c.self.view_is at all

pub returns-then-not-has-clause-acyclic : goal.returns-then-not-has-clause-acyclic
returns-then-not-has-clause-acyclic c = let all : IsAcyclic c.self.inside.edges = acyclic c.self.inside.edges (level_of c.self.inside.levels) c.self.invariant.falls in rw c.self.view_is at all

pub returns-clause-path : goal.returns-clause-path
returns-clause-path c =
    let same : c.contains.result ≡ reaches c.args.self.now c.args.from c.args.to = c.contains.ensures.value ∙ rw c.deref.ensures.value (c.in_ok-above.ensures.each c.args.from ∙ rw c.self.view_is refl) in
    (λ t. path_from c.args.self.now c.args.from c.args.to (sym same ∙ t), λ p. same ∙ path_to c.args.self.now p.0 c.args.from c.args.to p.1)
