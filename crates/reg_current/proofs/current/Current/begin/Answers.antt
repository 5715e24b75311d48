use Rattle.std.proofs.Common.{◌≡◌, ◌≤◌, ◌+◌, ◌∙◌, ap, subst, sym}
use Rattle.reg_effect.specs.Bound.{most_steps_of}
use Rattle.reg_current.specs.Live.{live}
use Rattle.reg_effect.specs.declared.live.Live.{Live}
use Rattle.reg_effect.specs.Turned.{Remembers}
use Rattle.reg_effect.specs.Changes.{all_on, changed_by}
use Rattle.reg_current.specs.Dates.{beginning, IsNext}
use Rattle.reg_current.specs.Invariant.{Now}
use Rattle.reg_current.proofs.Beginning.{begun}
use Rattle.reg_current.proofs.current.Current.begin.Goals as goal

pub put_on-put-requires : goal.put_on-put-requires
put_on-put-requires g c =
    let next : IsNext c.current.inside.moment c.args.date c.current.inside.facts = subst (λ (n : Now). IsNext n.clock c.args.date n.facts) (sym c.current.view_is) c.requires in
    let b = begun c.current.inside.moment c.args.date c.current.inside.facts c.current.inside.graph next c.current.invariant.ends c.current.invariant.grants_open c.law_sound.ensures c.current.invariant.edges c.acyclic.ensures in
    let begins : c.in-Ok.beginning.items ≡ beginning c.args.date c.current.inside.facts.rows = c.in-Ok.ensures c.current.inside.moment c.current.inside.facts c.current.invariant.coming next.later in
    rw (c.deref.ensures.value, begins, c.current.invariant.sets) b.suit

pub invariant_of-current : goal.invariant_of-current
invariant_of-current g c =
    let next : IsNext c.current.inside.moment c.args.date c.current.inside.facts = subst (λ (n : Now). IsNext n.clock c.args.date n.facts) (sym c.current.view_is) c.requires in
    let b = begun c.current.inside.moment c.args.date c.current.inside.facts c.current.inside.graph next c.current.invariant.ends c.current.invariant.grants_open c.law_sound.ensures c.current.invariant.edges c.acyclic.ensures in
    let begins : c.in-Ok.beginning.items ≡ beginning c.args.date c.current.inside.facts.rows = c.in-Ok.ensures c.current.inside.moment c.current.inside.facts c.current.invariant.coming next.later in
    let held : g.K.Kept.held c.in-Ok-put.sets ≡ changed_by (all_on (beginning c.args.date c.current.inside.facts.rows)) (g.K.Kept.held c.current.inside.sets) = rw (c.deref.ensures.value, begins) at c.in-Ok-put.ensures.held in
    record {
      sets = held ∙ (ap (λ (L : Live). changed_by (all_on (beginning c.args.date c.current.inside.facts.rows)) L) c.current.invariant.sets ∙ sym b.lived);
      edges = c.current.invariant.edges;
      ends = b.opens;
      grants_open = b.grants;
      coming = c.pass.ensures c.current.inside.moment c.current.inside.facts c.current.invariant.coming next;
    }

pub returns-clause-cost : goal.returns-clause-cost
returns-clause-cost g c =
    let next : IsNext c.current.inside.moment c.args.date c.current.inside.facts = subst (λ (n : Now). IsNext n.clock c.args.date n.facts) (sym c.current.view_is) c.requires in
    let begins : c.in-Ok.beginning.items ≡ beginning c.args.date c.current.inside.facts.rows = c.in-Ok.ensures c.current.inside.moment c.current.inside.facts c.current.invariant.coming next.later in
    subst (λ (n : Now). c.put_on-put.new.steps ≤ c.args.steps.now + most_steps_of (all_on (beginning c.args.date n.facts.rows)) (live n.clock n.facts)) c.current.view_is (rw (c.deref.ensures.value, begins, c.current.invariant.sets) at c.in-Ok-put.ensures.cost)

pub returns-clause-told : goal.returns-clause-told
returns-clause-told g c M h =
    let next : IsNext c.current.inside.moment c.args.date c.current.inside.facts = subst (λ (n : Now). IsNext n.clock c.args.date n.facts) (sym c.current.view_is) c.requires in
    let b = begun c.current.inside.moment c.args.date c.current.inside.facts c.current.inside.graph next c.current.invariant.ends c.current.invariant.grants_open c.law_sound.ensures c.current.invariant.edges c.acyclic.ensures in
    let begins : c.in-Ok.beginning.items ≡ beginning c.args.date c.current.inside.facts.rows = c.in-Ok.ensures c.current.inside.moment c.current.inside.facts c.current.invariant.coming next.later in
    let held : g.K.Kept.held c.in-Ok-put.sets ≡ changed_by (all_on (beginning c.args.date c.current.inside.facts.rows)) (g.K.Kept.held c.current.inside.sets) = rw (c.deref.ensures.value, begins) at c.in-Ok-put.ensures.held in
    let after : g.K.Kept.held c.in-Ok-put.sets ≡ live c.args.date c.current.inside.facts = held ∙ (ap (λ (L : Live). changed_by (all_on (beginning c.args.date c.current.inside.facts.rows)) L) c.current.invariant.sets ∙ sym b.lived) in
    let before : live c.args.self.clock c.args.self.facts ≡ g.K.Kept.held c.current.inside.sets = ap (λ (n : Now). live n.clock n.facts) (sym c.current.view_is) ∙ sym c.current.invariant.sets in
    subst (λ (L : Live). Remembers M L c.put_on-put.new.turned) after (c.in-Ok-put.ensures.told M (subst (λ (L : Live). Remembers M L c.args.turned.now) before h))
