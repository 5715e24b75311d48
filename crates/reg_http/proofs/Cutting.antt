-- However the bytes are cut, the turns are the same.
use Rattle.std.proofs.Common.{◌≡◌, ℕ, List, [], ◌∷◌, ◌++◌, Option, Some, None, ap, sym, ◌∙◌, subst, refl, ◌⊎◌, inl, inr, append-nil, append_assoc}
use Rattle.std.specs.Prelude.{IsSome, IfSome}
use Rattle.httparse.specs.Grammar.{EndsInTarget}
use Rattle.reg_http.specs.declared.call.HeadFault.{HeadFault}
use Rattle.reg_http.specs.declared.call.Call.{Call}
use Rattle.reg_http.specs.declared.call.Turn.{Turn}
use Rattle.reg_http.specs.declared.call.Turn.TheVariants as turn
use Rattle.reg_http.specs.Messages.{window, IsMessage, HasFault, IsUnfinished}
use Rattle.reg_http.specs.Turns.{Reading, start, fed, GivesTurn}
use Rattle.reg_http.specs.Runs.{AreMessages, HasGiven, calls_in, Step, feeds, gives, Leads, bytes_of, calls_of, IsDrained}
use Rattle.reg_http.proofs.Excluding.{one_message, message_or_unfinished, message_or_fault, unfinished_or_fault, one_fault, message_more, fault_more}

messages_more : (bytes more : List ℕ) (calls : List Call) (rest : List ℕ) → AreMessages bytes calls rest → AreMessages (bytes ++ more) calls (rest ++ more)
messages_more bytes more [] rest is = ap (λ xs. xs ++ more) is
messages_more bytes more (call ∷ calls) rest (later, m, is) = (later ++ more, message_more bytes more call later m, messages_more later more calls rest is)

messages_next : (bytes : List ℕ) (calls : List Call) (rest : List ℕ) (call : Call) (later : List ℕ) → AreMessages bytes calls rest → IsMessage rest call later → AreMessages bytes (calls ++ call ∷ []) later
messages_next bytes [] rest call later is m = (later, subst (λ xs. IsMessage xs call later) (sym is) m, refl)
messages_next bytes (first ∷ calls) rest call later (left, n, is) m = (left, n, messages_next left calls rest call later is m)

fault_kept : (rest more : List ℕ) (fault : Option HeadFault) → IfSome fault (HasFault rest) → IfSome fault (HasFault (rest ++ more))
fault_kept rest more (Some fault) has = fault_more rest more fault has
fault_kept rest more None has = has

pub given_fed : (bytes piece : List ℕ) (calls : List Call) (reading : Reading) → HasGiven bytes calls reading → HasGiven (bytes ++ piece) calls (fed reading piece)
given_fed bytes piece calls reading given = record {
  messages = messages_more bytes piece calls reading.rest given.messages;
  fault_is = fault_kept reading.rest piece reading.fault given.fault_is;
}

no_fault : (rest : List ℕ) (fault : Option HeadFault) → fault ≡ None → IfSome fault (HasFault rest)
no_fault rest fault none = subst (λ f. IfSome f (HasFault rest)) (sym none) tt

pub given_turn : (bytes : List ℕ) (calls : List Call) (before after : Reading) (turn : Turn) → HasGiven bytes calls before → GivesTurn before turn after → HasGiven bytes (calls ++ calls_in turn) after
given_turn bytes calls before after (turn.Call call) given (none, still, m) = record {
  messages = messages_next bytes calls before.rest call after.rest given.messages m;
  fault_is = no_fault after.rest after.fault still;
}
given_turn bytes calls before after turn.NeedMore given (none, same, unfinished) =
    subst (HasGiven bytes (calls ++ [])) (sym same) (subst (λ cs. HasGiven bytes cs before) (sym (append-nil calls)) given)
given_turn bytes calls before after (turn.Bad fault) given (same, why) =
    let has : HasFault before.rest fault = elim why [
      | inl was ↦ subst (λ f. IfSome f (HasFault before.rest)) was given.fault_is
      | inr found ↦ found.1
    ] in
    let now : HasGiven bytes calls record { rest = before.rest; held = before.held; fault = Some fault } = record { messages = given.messages; fault_is = has } in
    subst (HasGiven bytes (calls ++ [])) (sym same) (subst (λ cs. HasGiven bytes cs record { rest = before.rest; held = before.held; fault = Some fault }) (sym (append-nil calls)) now)

given_steps : (steps : List Step) (bytes : List ℕ) (calls : List Call) (before after : Reading) → HasGiven bytes calls before → Leads steps before after → HasGiven (bytes ++ bytes_of steps) (calls ++ calls_of steps) after
given_steps [] bytes calls before after given same =
    subst (HasGiven (bytes ++ []) (calls ++ [])) same (subst (λ xs. HasGiven xs (calls ++ []) before) (sym (append-nil bytes)) (subst (λ cs. HasGiven bytes cs before) (sym (append-nil calls)) given))
given_steps (feeds piece ∷ steps) bytes calls before after given leads =
    subst (λ xs. HasGiven xs (calls ++ calls_of steps) after) (append_assoc bytes piece (bytes_of steps)) (given_steps steps (bytes ++ piece) calls (fed before piece) after (given_fed bytes piece calls before given) leads)
given_steps (gives turn ∷ steps) bytes calls before after given (between, gave, leads) =
    subst (λ cs. HasGiven (bytes ++ bytes_of steps) cs after) (append_assoc calls (calls_in turn) (calls_of steps)) (given_steps steps bytes (calls ++ calls_in turn) between after (given_turn bytes calls before between turn given gave) leads)

pub given_start : HasGiven [] [] start
given_start = record { messages = refl; fault_is = tt }

pub given_run : (steps : List Step) (last : Reading) → Leads steps start last → HasGiven (bytes_of steps) (calls_of steps) last
given_run steps last leads = given_steps steps [] [] start last given_start leads

abbrev HasNone : List ℕ → Type 0
HasNone rest = (call : Call) (later : List ℕ) → IsMessage rest call later → ⊥

same_messages : (bytes : List ℕ) (calls others : List Call) (rest left : List ℕ) → AreMessages bytes calls rest → AreMessages bytes others left → HasNone rest → HasNone left → (calls ≡ others) × (rest ≡ left)
same_messages bytes [] [] rest left one two none nothing = (refl, sym one ∙ two)
same_messages bytes [] (other ∷ others) rest left one (later, m, two) none nothing = absurd (none other later (subst (λ xs. IsMessage xs other later) one m))
same_messages bytes (call ∷ calls) [] rest left (later, m, one) two none nothing = absurd (nothing call later (subst (λ xs. IsMessage xs call later) two m))
same_messages bytes (call ∷ calls) (other ∷ others) rest left (later, m, one) (after, n, two) none nothing =
    let (same, on) = one_message bytes call other later after m n in
    let (all, ends) = same_messages later calls others rest left one (subst (λ xs. AreMessages xs others left) (sym on) two) none nothing in
    (ap (λ c. c ∷ calls) same ∙ ap (λ cs. other ∷ cs) all, ends)

none_left : (rest : List ℕ) (fault : Option HeadFault) → IfSome fault (HasFault rest) → IsSome fault ⊎ IsUnfinished rest → HasNone rest
none_left rest (Some fault) has drained call later m = message_or_fault rest call later fault m has
none_left rest None has (inl some) call later m = cc
none_left rest None has (inr unfinished) call later m = message_or_unfinished rest call later m unfinished

same_fault : (rest : List ℕ) (fault other : Option HeadFault) → IfSome fault (HasFault rest) → IfSome other (HasFault rest) → IsSome fault ⊎ IsUnfinished rest → IsSome other ⊎ IsUnfinished rest → (fault ≡ other) ⊎ EndsInTarget (window rest)
same_fault rest (Some fault) (Some other) has had drained ended = elim (one_fault rest fault other has had) [ inl same ↦ inl (ap Some same) | inr ends ↦ inr ends ]
same_fault rest (Some fault) None has had drained (inl some) = cc
same_fault rest (Some fault) None has had drained (inr unfinished) = inr (unfinished_or_fault rest fault unfinished has)
same_fault rest None (Some other) has had (inl some) ended = cc
same_fault rest None (Some other) has had (inr unfinished) ended = inr (unfinished_or_fault rest other unfinished had)
same_fault rest None None has had drained ended = inl refl

pub same_turns : (bytes : List ℕ) (calls others : List Call) (one two : Reading) → HasGiven bytes calls one → HasGiven bytes others two → IsDrained one → IsDrained two
    → (calls ≡ others) × (one.rest ≡ two.rest) × ((one.fault ≡ two.fault) ⊎ EndsInTarget (window one.rest))
same_turns bytes calls others one two given gave drained ended =
    let (all, rests) = same_messages bytes calls others one.rest two.rest given.messages gave.messages (none_left one.rest one.fault given.fault_is drained) (none_left two.rest two.fault gave.fault_is ended) in (
      all,
      rests,
      same_fault one.rest one.fault two.fault given.fault_is
          (subst (λ xs. IfSome two.fault (HasFault xs)) (sym rests) gave.fault_is) drained (subst (λ xs. IsSome two.fault ⊎ IsUnfinished xs) (sym rests) ended),
    )
