use Rattle.std.proofs.Common.{◌∙◌, sym}
use Rattle.std.proofs.lemmas.Bool.{both_ways}
use Rattle.reg_terms.specs.Rows.{is_composite}
use Rattle.reg_effect.proofs.Own.{no_composite}
use Rattle.reg_effect.proofs.Graphs.{counted_factors_off, left_stands, right_stands}
use Rattle.reg_effect.proofs.relink.unlink_factors.Goals as goal

pub remove_edge-requires : goal.remove_edge-requires
remove_edge-requires c = left_stands c.args.live.now c.args.group c.in-Some.composite c.args.graph.now (sym c.of.ensures ∙ c.in-Some.is) c.requires.counted

pub remove_edge-requires-in-Some : goal.remove_edge-requires-in-Some
remove_edge-requires-in-Some c = right_stands c.args.live.now c.args.group c.in-Some.composite c.args.graph.now c.remove_edge.new.self (sym c.of.ensures ∙ c.in-Some.is) c.requires.counted c.remove_edge.ensures.removed

pub returns-in-Some : goal.returns-in-Some
returns-in-Some c = counted_factors_off c.args.live.now c.args.group c.in-Some.composite c.args.graph.now c.remove_edge.new.self c.remove_edge-in-Some.new.self (sym c.of.ensures ∙ c.in-Some.is) c.requires.counted c.remove_edge.ensures.removed c.remove_edge-in-Some.ensures.removed

pub returns-in_default : goal.returns-in_default
returns-in_default c = absurd (both_ways (is_composite c.args.group c.args.live.now.composites) (no_composite c.args.group c.args.live.now.composites (sym c.of.ensures ∙ c.in_default.is)) c.requires.fits)
