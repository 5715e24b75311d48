use Rattle.std.proofs.Common.{◌≡◌, ◌∙◌, ap}
use Rattle.reg_facts.specs.Lists.{Lists}
use Rattle.reg_effect.specs.Deltas.{ended}
use Rattle.reg_rules.specs.Settling.{settling}
use Rattle.reg_current.specs.Invariant.{Now}
use Rattle.reg_current.specs.Live.{live}
use Rattle.reg_machine.specs.Recording.{settled_step}
use Rattle.reg_machine.proofs.Acting.{notes_are, settled_now, settled_touches, turns_are}
use Rattle.reg_machine.proofs.recorded.finished.Goals as goal

pub returns-clause-recorded : goal.returns-clause-recorded
returns-clause-recorded g c before es M told noted touches steps audit follows =
    let at = c.args.current.clock in
    let f : Lists = c.args.current.facts in
    let after : c.in-Ok.current ≡ settled_now M c.args.current = c.in-Ok.ensures.stands M told in
    let acts : c.deref.result.now ≡ settling (ended M (live at f)) at f = c.deref.ensures.value ∙ c.in-Ok.ensures.actions M told in
    c.in-Ok-noted.ensures steps (settled_step at before es M f) audit follows
    (notes_are c.in-Ok-acted.notes c.args.notes at before es c.deref.result.now (settling (ended M (live at f)) at f) c.in-Ok-acted.ensures noted acts)
    (turns_are c.deref-2.result.now M c.in-Ok.current (settled_now M c.args.current) (c.deref-2.ensures.value ∙ c.in-Ok.ensures.turns M told) after)
    (c.facts.ensures ∙ ap (λ (n : Now). n.facts) after)
    (rw c.deref-3.ensures.value (settled_touches before f (ended M (live at f)) at c.args.touched.items touches))
