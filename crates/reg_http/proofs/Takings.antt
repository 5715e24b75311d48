-- A message is taken out of the bytes.
use Rattle.std.proofs.Common.{◌≡◌, ℕ, ◌+◌, ◌≤◌, List, ◌++◌, length, take, drop, Ok, arith, ap, sym, ◌∙◌, subst, length-append}
use Rattle.std.proofs.lemmas.List.{take-append-drop, length-take-le}
use Rattle.std.proofs.Math.Seq.{drop-append_seam, drop-append-add}
use Rattle.httparse.specs.Grammar.{RequestHead, print_request}
use Rattle.reg_http.specs.declared.head.Head.{Head}
use Rattle.reg_http.specs.Heads.{call_of}
use Rattle.reg_http.specs.Messages.{BeginsWith, IsMessage}
use Rattle.reg_http.specs.Fronts.{IsReadOf, IsHeadAt, call_read}

-- what comes after a head
pub after_head : (bytes : List ℕ) (head : RequestHead) (rest : List ℕ) → BeginsWith bytes head rest → drop (length (print_request head)) bytes ≡ rest
after_head bytes head rest begins = ap (drop (length (print_request head))) begins.reads.1 ∙ drop-append_seam (print_request head) rest

call_is : (read : Head) (head : RequestHead) (body : List ℕ) → IsReadOf read head → call_read read body ≡ call_of head body
unfolding call_of
call_is read head body is = rw (is.method, is.target, is.caller, is.close)

pub taken_whole : (bytes : List ℕ) (read : Head) (body : List ℕ) → IsHeadAt bytes read → read.body ≤ length (drop read.length bytes) → body ≡ take read.body (drop read.length bytes)
    → (read.length + read.body ≤ length bytes) × IsMessage bytes (call_read read body) (drop (read.length + read.body) bytes)
taken_whole bytes read body at whole is =
    let print = print_request at.head in
    let text = at.begins.reads.1 in
    let size : length bytes ≡ length print + length at.rest = ap length text ∙ length-append print at.rest in
    let rest_is : drop read.length bytes ≡ at.rest = ap (λ n. drop n bytes) at.read_is.length_is ∙ after_head bytes at.head at.rest at.begins in
    let fits : read.body ≤ length at.rest = omega (arith, ap length rest_is) in
    let body_is : body ≡ take read.body at.rest = is ∙ ap (take read.body) rest_is in
    let later : drop (read.length + read.body) bytes ≡ drop read.body at.rest =
    ap (λ n. drop (n + read.body) bytes) at.read_is.length_is ∙ ap (drop (length print + read.body)) text ∙ drop-append-add print at.rest read.body in
    let parts : at.rest ≡ body ++ drop (read.length + read.body) bytes = sym (take-append-drop read.body at.rest) ∙ ap (λ xs. xs ++ drop read.body at.rest) (sym body_is) ∙ ap (λ ys. body ++ ys) (sym later) in
    let many : length body ≡ read.body = ap length body_is ∙ length-take-le read.body at.rest fits in (
      omega (arith, size, fits, at.read_is.length_is),
      record {
        head = at.head;
        body = body;
        begins = subst (BeginsWith bytes at.head) parts at.begins;
        length_is = at.read_is.body_is ∙ ap Ok (sym many);
        call_is = call_is read at.head body at.read_is;
      },
    )
