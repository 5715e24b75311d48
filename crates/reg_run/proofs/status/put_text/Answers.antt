use Rattle.std.proofs.Common.{◌≡◌, ◌-◌, ◌++◌, ◌∙◌, List, ℕ, drop, take, length, ap, arith}
use Rattle.std.proofs.lemmas.List.{drop-drop, drop_at, length-take-le}
use Rattle.reg_run.proofs.status.put_text.Goals as goal

-- the text stands where it was copied, and what stood behind it stays
pub returns-clause-text : goal.returns-clause-text
returns-clause-text c =
    let buffer = c.args.buffer.now in
    let start = c.args.end - length c.args.text.now in
    let front : length (take start buffer) ≡ start = length-take-le start buffer (omega arith) in
    let behind : drop (c.args.end - start) (drop start buffer) ≡ drop c.args.end buffer = drop-drop (c.args.end - start) start buffer ∙ ap (λ (n : ℕ). drop n buffer) (omega arith) in
    drop_at (take start buffer) _ start front ∙ (ap (λ (l : List ℕ). l ++ drop (c.args.end - start) (drop start buffer)) c.copy_from_slice.ensures.after ∙ ap (λ (l : List ℕ). c.args.text.now ++ l) behind)
