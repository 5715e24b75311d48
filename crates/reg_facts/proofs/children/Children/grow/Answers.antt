use Rattle.std.proofs.Common.{List, ap, ◌∙◌, option_and_then, slice_get}
use Rattle.reg_facts.specs.declared.by_extension.ByExtension.{ByExtension}
use Rattle.reg_facts.specs.Index.{found}
use Rattle.reg_facts.proofs.Grown.{grown}
use Rattle.reg_facts.proofs.children.Children.grow.Goals as goal

pub loop-alloc-preserved : goal.loop-alloc-preserved
loop-alloc-preserved c d e =
    ap (λ (items : List ByExtension). option_and_then (λ (j : ByExtension). found j e) (slice_get items d)) c.in_ok-push.ensures.items
    ∙ grown c.loop-alloc.self.folders.items c.new.result d e (c.new.ensures e) ∙ c.loop-alloc.invariant d e
