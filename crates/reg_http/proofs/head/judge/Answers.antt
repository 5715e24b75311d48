use Rattle.std.proofs.Common.{◌≡◌, ℕ, List, Ok, ap, ◌∙◌, sym}
use Rattle.reg_http.specs.Fields.{Field}
use Rattle.reg_http.specs.Heads.{body_after, body_length, caller_in, closes_after, fields_of}
use Rattle.reg_http.proofs.head.judge.Goals as goal

same_close : {minor other : ℕ} {fields named : List Field} → minor ≡ other → fields ≡ named → closes_after minor fields ≡ closes_after other named
same_close {other = other} {fields = fields} e f = ap (λ m. closes_after m fields) e ∙ ap (closes_after other) f

same_length : (minor other : ℕ) (method name : List ℕ) (fields named : List Field) → minor ≡ other → method ≡ name → fields ≡ named → body_length minor method fields ≡ body_length other name named
same_length minor other method name fields named e f g =
    ap (λ m. body_length m method fields) e ∙ ap (λ m. body_length other m fields) f ∙ ap (body_length other name) g

pub returns-in_ok-taken-in-Ok : goal.returns-in_ok-taken-in-Ok
unfolding body_after
returns-in_ok-taken-in-Ok c head at =
    let said = c.in_ok-taken-in-Ok.ensures in record {
      method = said.method ∙ at.method;
      target = said.target ∙ at.path;
      caller = said.caller ∙ ap caller_in at.fields;
      close = said.close ∙ same_close at.version at.fields;
      length_is = said.length ∙ at.len;
      body_is = sym (same_length _ head.minor _ head.method _ (fields_of head) at.version (c.of.ensures ∙ at.method) at.fields) ∙ sym c.in-Ok.ensures ∙ ap Ok (sym said.body);
    }

pub returns-in-Err : goal.returns-in-Err
unfolding body_after
returns-in-Err c head at =
    sym (same_length _ head.minor _ head.method _ (fields_of head) at.version (c.of.ensures ∙ at.method) at.fields) ∙ sym c.in-Err.ensures
