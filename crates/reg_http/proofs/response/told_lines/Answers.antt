use Rattle.std.proofs.Common.{ap, ◌∙◌, append_assoc}
use Rattle.reg_http.specs.Responses.{first_lines}
use Rattle.reg_http.proofs.response.told_lines.Goals as goal

pub returns : goal.returns
unfolding first_lines
returns c = ap (λ text. text.items) c.into_bytes.ensures.value ∙ c.in_ok-lines.ensures.ok ∙ rw c.phrase-phrase.ensures (simp append_assoc)
