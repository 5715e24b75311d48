use Rattle.std.proofs.Common.{◌≡◌, ◌≤◌, length, rules, arith, sym, ◌∙◌, ap, subst}
use Rattle.reg_outside.specs.DiskSteps.{is_valid, MayLeave}
use Rattle.reg_outside.proofs.KeptBytes.{crash_start, crash_end, crashed_image}
use Rattle.reg_outside.proofs.record.Record.crash.Goals as goal

pub steps-init : goal.steps-init
steps-init c =
    let steps = c.args.self.now.steps.items in
    let now : c.in_ok-now.now.items ≡ c.args.self.now.first.items = search rules in
    let image : c.in_ok-image.image.items ≡ c.args.self.now.first.items = search rules in
    record {
      goes_on = crash_start c.args.keep c.args.self.now.first.items steps c.in_ok-now.now.items c.in_ok-image.image.items now image;
      valid = ap (λ b. is_valid b steps) now ∙ c.args.self.now.valid;
      whole = λ some. image ∙ sym now;
      bound = omega arith;
    }

pub returns-clause-image : goal.returns-clause-image
returns-clause-image c =
    let ends : length c.args.self.now.steps.items ≤ c.steps.at = search rules in
    let is = crash_end c.args.keep c.steps.left c.steps.now.items c.steps.image.items c.args.self.now.steps.items c.steps.at _ ends c.steps.invariant.goes_on in
    subst (MayLeave c.args.self.now.first.items c.args.self.now.steps.items) (sym is) (crashed_image c.args.keep c.args.self.now.first.items c.args.self.now.steps.items c.args.self.now.valid)
