use Rattle.std.proofs.Common.{rules, ◌≡◌, ◌∙◌, ◌++◌, ◌∷◌, [], sym}
use Rattle.reg_priv.proofs.Below.{stays_listed, name_found, name_none}
use Rattle.reg_terms.specs.declared.kinds.Object.{Object}
use Rattle.reg_terms.specs.declared.kinds.Scope.TheVariants.{One}
use Rattle.reg_names.specs.Scopes.{in_scope}
use Rattle.reg_priv.proofs.Within.{adds_one, child_in}
use Rattle.reg_priv.proofs.touched.put_named.Goals as goal

-- one more is found
pub loop-extension-preserved-in-Continue-1 : goal.loop-extension-preserved-in-Continue-1
loop-extension-preserved-in-Continue-1 c =
    let e : c.loop-extension.pieces ≡ c.in-Some.extension.now ∷ c.next.new.self = search rules in
    let pushed : c.push.new.self.items ≡ c.loop-extension.found.items ++ c.in-Some-child.object ∷ [] = search rules in
    record {
      kept = λ o h. rw pushed (stays_listed o c.in-Some-child.object c.loop-extension.found.items (c.loop-extension.invariant.kept o h));
      named = λ x o h it. rw pushed (name_found c.args.folder c.args.facts.now c.loop-extension.found.items c.in-Some.extension.now x c.next.new.self c.in-Some-child.object o (sym c.child.ensures ∙ c.in-Some-child.is) it (rw e at (c.loop-extension.invariant.named x o h it)));
      only = rw pushed (
          adds_one (λ (o : Object). in_scope c.args.folder One o c.args.facts.now) c.args.found.now.items c.loop-extension.found.items c.in-Some-child.object
          (child_in c.args.folder c.in-Some.extension.now c.args.facts.now c.in-Some-child.object c.law_sound.ensures (sym c.child.ensures ∙ c.in-Some-child.is)) c.loop-extension.invariant.only);
    }

-- no object has this extension
pub loop-extension-preserved : goal.loop-extension-preserved
loop-extension-preserved c =
    let e : c.loop-extension.pieces ≡ c.in-Some.extension.now ∷ c.next.new.self = search rules in
    record {
      kept = c.loop-extension.invariant.kept;
      named = λ x o h it. name_none c.args.folder c.args.facts.now c.loop-extension.found.items c.in-Some.extension.now x c.next.new.self o (sym c.child.ensures ∙ c.in_default-child.is) it (rw e at (c.loop-extension.invariant.named x o h it));
      only = c.loop-extension.invariant.only;
    }
