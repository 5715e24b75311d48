use Rattle.std.proofs.Common.{◌∙◌, sym}
use Rattle.reg_effect.proofs.Own.{no_composite}
use Rattle.reg_effect.proofs.Standing.{none_of_group, left_in, right_in, factors_less}
use Rattle.reg_current.proofs.edges.unlink_factors.Goals as goal

pub remove_edge-requires : goal.remove_edge-requires
remove_edge-requires c = left_in c.args.facts.now.rows c.args.facts.now.composites c.args.group c.in-Some.composite c.args.graph.now c.law_sound.ensures.composites_once (sym c.composite.ensures ∙ c.in-Some.is) c.requires

pub remove_edge-requires-in-Some : goal.remove_edge-requires-in-Some
remove_edge-requires-in-Some c = right_in c.args.facts.now.rows c.args.facts.now.composites c.args.group c.in-Some.composite c.args.graph.now c.remove_edge.new.self c.law_sound.ensures.composites_once (sym c.composite.ensures ∙ c.in-Some.is) c.requires c.remove_edge.ensures.removed

pub returns-in-Some : goal.returns-in-Some
returns-in-Some c = factors_less c.args.facts.now.rows c.args.facts.now.composites c.args.group c.in-Some.composite c.args.graph.now c.remove_edge.new.self c.remove_edge-in-Some.new.self c.law_sound.ensures.composites_once (sym c.composite.ensures ∙ c.in-Some.is) c.requires c.remove_edge.ensures.removed c.remove_edge-in-Some.ensures.removed

pub returns-in_default : goal.returns-in_default
returns-in_default c = rw (none_of_group c.args.group c.args.facts.now.composites (no_composite c.args.group c.args.facts.now.composites (sym c.composite.ensures ∙ c.in_default.is))) c.requires
