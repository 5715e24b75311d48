use Rattle.std.proofs.Common.{subst, sym}
use Rattle.std.proofs.lemmas.Result.{IfOk-weaker}
use Rattle.reg_facts.specs.Events.{happened}
use Rattle.reg_facts.specs.Lists.{Lists}
use Rattle.reg_priv.specs.Touched.{KnowsTouched}
use Rattle.reg_current.specs.Invariant.{Now}
use Rattle.reg_current.proofs.current.Current.carry_told.Goals as goal

pub put_touched-requires : goal.put_touched-requires
put_touched-requires g c = rw c.facts.ensures c.requires.suits

pub returns-in-Ok-clause-touches : goal.returns-in-Ok-clause-touches
returns-in-Ok-clause-touches g c =
    let more : (f : Lists) → KnowsTouched f c.args.self.facts c.args.touched.now.items → KnowsTouched f (happened c.args.event c.args.self.facts) c.put_touched.new.touched.items = rw c.facts.ensures at c.in-Ok.ensures in
    IfOk-weaker c.carry.result _ _ (λ k is f h. subst (λ (n : Now). KnowsTouched f n.facts c.put_touched.new.touched.items) (sym is) (more f h)) c.carry.ensures.happened
