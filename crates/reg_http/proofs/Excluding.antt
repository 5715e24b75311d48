-- Bytes begin with a message, with a fault, or with neither.
use Rattle.std.proofs.Common.{◌≡◌, ℕ, List, [], ◌++◌, length, take, drop, Ok, Err, arith, ap, sym, ◌∙◌, subst, ◌⊎◌, inl, inr, length-append, append-nil, append_assoc}
use Rattle.std.specs.Prelude.{Result}
use Rattle.std.proofs.Math.Seq.{take-append_seam, drop-append_seam}
use Rattle.httparse.specs.Grammar.{RequestHead, ReadsRequest, HasNoRequest, NeverHasRequest, MayBecomeRequest, EndsInTarget}
use Rattle.reg_http.specs.declared.call.HeadFault.{HeadFault}
use Rattle.reg_http.specs.declared.call.Call.{Call}
use Rattle.reg_http.specs.Heads.{body_after, call_of}
use Rattle.reg_http.specs.Messages.{window, BeginsWith, IsOpen, IsMessage, HasFault, IsUnfinished}
use Rattle.reg_http.proofs.Windows.{window_by_begins, begins_more, begins_unique, never_more, window_full}

ok_same : (a b : ℕ) (x y : Result ℕ HeadFault) → x ≡ Ok a → y ≡ Ok b → x ≡ y → a ≡ b
ok_same a b x y p q r = cc

err_same : (a b : HeadFault) (x y : Result ℕ HeadFault) → x ≡ Err a → y ≡ Err b → x ≡ y → a ≡ b
err_same a b x y p q r = cc

not_both : (a : ℕ) (b : HeadFault) (x y : Result ℕ HeadFault) → x ≡ Ok a → y ≡ Err b → x ≡ y → ⊥
not_both a b x y p q r = cc

head_or_open : (bytes : List ℕ) (head : RequestHead) (rest : List ℕ) → BeginsWith bytes head rest → IsOpen bytes → ⊥
head_or_open bytes head rest begins open_still = let (later, reads) = window_by_begins bytes head rest begins in open_still.none head later reads

head_or_never : (bytes : List ℕ) (head : RequestHead) (rest : List ℕ) → BeginsWith bytes head rest → NeverHasRequest (window bytes) → ⊥
head_or_never bytes head rest begins never =
    let (later, reads) = window_by_begins bytes head rest begins in
    never [] head later (subst (λ all. ReadsRequest all head later) (sym (append-nil (window bytes))) reads)

open_or_never : (bytes : List ℕ) → IsOpen bytes → NeverHasRequest (window bytes) → EndsInTarget (window bytes)
open_or_never bytes open_still never = elim open_still.coming [
  | inl whole ↦ absurd (never whole.0 whole.1 [] whole.2)
  | inr ends ↦ ends
]

pub one_message : (bytes : List ℕ) (call other : Call) (later left : List ℕ) → IsMessage bytes call later → IsMessage bytes other left → (call ≡ other) × (later ≡ left)
one_message bytes call other later left m n =
    let (same, rests) = begins_unique bytes m.head n.head (m.body ++ later) (n.body ++ left) m.begins n.begins in
    let many : length m.body ≡ length n.body = ok_same _ _ _ _ m.length_is n.length_is (ap body_after same) in
    let bodies : m.body ≡ n.body = sym (take-append_seam m.body later) ∙ ap (take (length m.body)) rests ∙ ap (λ k. take k (n.body ++ left)) many ∙ take-append_seam n.body left in (
      m.call_is ∙ ap (λ head. call_of head m.body) same ∙ ap (call_of n.head) bodies ∙ sym n.call_is,
      sym (drop-append_seam m.body later) ∙ ap (drop (length m.body)) rests ∙ ap (λ k. drop k (n.body ++ left)) many ∙ drop-append_seam n.body left,
    )

pub message_or_unfinished : (bytes : List ℕ) (call : Call) (later : List ℕ) → IsMessage bytes call later → IsUnfinished bytes → ⊥
message_or_unfinished bytes call later m (inl waits) = head_or_open bytes m.head _ m.begins waits.open_still
message_or_unfinished bytes call later m (inr waits) =
    let (same, rests) = begins_unique bytes m.head waits.head (m.body ++ later) waits.rest m.begins waits.begins in
    let needed : length m.body ≡ waits.needed = ok_same _ _ _ _ m.length_is waits.length_is (ap body_after same) in
    omega (arith, needed, ap length rests, length-append m.body later, waits.short)

pub message_or_fault : (bytes : List ℕ) (call : Call) (later : List ℕ) (fault : HeadFault) → IsMessage bytes call later → HasFault bytes fault → ⊥
message_or_fault bytes call later fault m (inl refused) =
    not_both _ _ _ _ m.length_is refused.fault_is (ap body_after (begins_unique bytes m.head refused.head _ refused.rest m.begins refused.begins).0)
message_or_fault bytes call later fault m (inr (inl endless)) = head_or_open bytes m.head _ m.begins endless.open_still
message_or_fault bytes call later fault m (inr (inr hopeless)) = head_or_never bytes m.head _ m.begins hopeless.never

pub unfinished_or_fault : (bytes : List ℕ) (fault : HeadFault) → IsUnfinished bytes → HasFault bytes fault → EndsInTarget (window bytes)
unfinished_or_fault bytes fault (inl waits) (inl refused) = absurd (head_or_open bytes refused.head _ refused.begins waits.open_still)
unfinished_or_fault bytes fault (inl waits) (inr (inl endless)) = absurd (omega (arith, waits.short, endless.long))
unfinished_or_fault bytes fault (inl waits) (inr (inr hopeless)) = open_or_never bytes waits.open_still hopeless.never
unfinished_or_fault bytes fault (inr waits) (inl refused) =
    absurd (not_both _ _ _ _ waits.length_is refused.fault_is (ap body_after (begins_unique bytes waits.head refused.head waits.rest refused.rest waits.begins refused.begins).0))
unfinished_or_fault bytes fault (inr waits) (inr (inl endless)) = absurd (head_or_open bytes waits.head _ waits.begins endless.open_still)
unfinished_or_fault bytes fault (inr waits) (inr (inr hopeless)) = absurd (head_or_never bytes waits.head _ waits.begins hopeless.never)

pub one_fault : (bytes : List ℕ) (fault other : HeadFault) → HasFault bytes fault → HasFault bytes other → (fault ≡ other) ⊎ EndsInTarget (window bytes)
one_fault bytes fault other (inl one) (inl two) = inl (err_same _ _ _ _ one.fault_is two.fault_is (ap body_after (begins_unique bytes one.head two.head one.rest two.rest one.begins two.begins).0))
one_fault bytes fault other (inl one) (inr (inl two)) = absurd (head_or_open bytes one.head _ one.begins two.open_still)
one_fault bytes fault other (inl one) (inr (inr two)) = absurd (head_or_never bytes one.head _ one.begins two.never)
one_fault bytes fault other (inr (inl one)) (inl two) = absurd (head_or_open bytes two.head _ two.begins one.open_still)
one_fault bytes fault other (inr (inl one)) (inr (inl two)) = inl (one.fault_is ∙ sym two.fault_is)
one_fault bytes fault other (inr (inl one)) (inr (inr two)) = inr (open_or_never bytes one.open_still two.never)
one_fault bytes fault other (inr (inr one)) (inl two) = absurd (head_or_never bytes two.head _ two.begins one.never)
one_fault bytes fault other (inr (inr one)) (inr (inl two)) = inr (open_or_never bytes two.open_still one.never)
one_fault bytes fault other (inr (inr one)) (inr (inr two)) = inl (one.fault_is ∙ sym two.fault_is)

-- more bytes change no message
pub message_more : (bytes more : List ℕ) (call : Call) (later : List ℕ) → IsMessage bytes call later → IsMessage (bytes ++ more) call (later ++ more)
message_more bytes more call later m = record {
  head = m.head;
  body = m.body;
  begins = subst (BeginsWith (bytes ++ more) m.head) (append_assoc m.body later more) (begins_more bytes more m.head (m.body ++ later) m.begins);
  length_is = m.length_is;
  call_is = m.call_is;
}

-- nor a fault
pub fault_more : (bytes more : List ℕ) (fault : HeadFault) → HasFault bytes fault → HasFault (bytes ++ more) fault
fault_more bytes more fault (inl one) = inl record { head = one.head; rest = one.rest ++ more; begins = begins_more bytes more one.head one.rest one.begins; fault_is = one.fault_is }
fault_more bytes more fault (inr (inl one)) = inr (inl record {
  fault_is = one.fault_is;
  long = omega (arith, one.long, length-append bytes more);
  open_still = record {
    none = subst HasNoRequest (sym (window_full bytes more one.long)) one.open_still.none;
    coming = subst MayBecomeRequest (sym (window_full bytes more one.long)) one.open_still.coming;
  };
})
fault_more bytes more fault (inr (inr one)) = inr (inr record { fault_is = one.fault_is; never = never_more bytes more one.never })
