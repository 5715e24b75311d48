use Rattle.reg_pit.proofs.grants.Grants.law_spans.Goals as goal

pub returns : goal.returns
returns c = λ k. rw (← c.self.view_is) (c.law_rows_apart.ensures (k.0, k.1, k.2))
