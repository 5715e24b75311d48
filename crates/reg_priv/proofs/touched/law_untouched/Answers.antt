use Rattle.reg_priv.proofs.Untouched.{untouched}
use Rattle.reg_priv.proofs.touched.law_untouched.Goals as goal

pub returns : goal.returns
returns c e o s h = untouched e c.args.facts.now o c.law_sound.ensures s h
