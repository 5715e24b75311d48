use Rattle.std.proofs.Common.{◌∙◌, ap}
use Rattle.reg_pit.specs.Owned.{rows_at}
use Rattle.reg_pit.proofs.Owning.{owned_rows}
use Rattle.reg_pit.proofs.past.Past.assigned_past.Goals as goal

pub returns : goal.returns
returns c t = ap (λ assigns. rows_at assigns t) c.in_ok-past.ensures ∙ owned_rows c.args.owner t c.args.self.now.assigns
