-- From turn to turn of a connection.
use Rattle.std.proofs.Common.{◌≡◌, ◌≤◌, ◌+◌, ◌==◌, ◌++◌, ◌∷◌, [], List, ℕ, Option, Some, None, Bool, true, false, not, cond, refl, ap, sym, ◌∙◌, arith, filter, rules}
use Rattle.std.specs.Prelude.{All, IfSome, ◌&&◌, ◌||◌}
use Rattle.std.specs.List.{find, list_any}
use Rattle.std.specs.Option.{option_or}
use Rattle.std.specs.Io.KnownBytes.{append_known, prepend_known}
use Rattle.std.proofs.lemmas.List.Elements.{All-head, All-tail}
use Rattle.std.proofs.lemmas.List.Folds.{find-append}
use Rattle.reg_outside.specs.Connections.{Arrival, Back, Connections, HasTurn, Seen, back_of, gives_back, is_open_one, next_turn, opens, sends, with_more}
use Rattle.reg_http.specs.declared.call.Call.{Call}
use Rattle.reg_http.specs.Runs.{AreMessages, HasGiven}
use Rattle.reg_http.specs.Turns.{Reading, fed}
use Rattle.reg_serve.specs.Visits.{HadTurn, Visit}
use Rattle.reg_serve.specs.Joined.{Adds, Continues, IsBlank, Joined, came_with, join_known}

-- ---- open ones among those given back

-- none is left where all are taken out
none_left : {X : Type 0} (p : X → Bool) (xs : List X) → find p (filter (λ x. not (p x)) xs) ≡ None
none_left p [] = refl
none_left {X = X} p (x ∷ xs) = by (p x) refl (none_left p xs)
  where
    by : (b : Bool) → p x ≡ b → find p (filter (λ x. not (p x)) xs) ≡ None → find p (cond (not b) (x ∷ filter (λ x. not (p x)) xs) (filter (λ x. not (p x)) xs)) ≡ None
    by true is less = less
    by false is less = rw is less

-- taking out others changes nothing
others_out : {X : Type 0} (p q : X → Bool) → ((x : X) → p x ≡ true → q x ≡ false) → (xs : List X) → find p (filter (λ x. not (q x)) xs) ≡ find p xs
others_out p q apart [] = refl
others_out p q apart (x ∷ xs) = by (p x) (q x) refl refl (others_out p q apart xs)
  where
    by : (b c : Bool) → p x ≡ b → q x ≡ c → find p (filter (λ x. not (q x)) xs) ≡ find p xs → find p (cond (not c) (x ∷ filter (λ x. not (q x)) xs) (filter (λ x. not (q x)) xs)) ≡ cond b (Some x) (find p xs)
    by true true is out less = absurd (let no : q x ≡ false = apart x is in cc)
    by true false is out less = rw is refl
    by false true is out less = less
    by false false is out less = rw is less

-- one with another number is none with this
other_number : (m n : ℕ) → (m == n) ≡ false → (back : Back) → is_open_one n back ≡ true → is_open_one m back ≡ false
other_number m n apart back is = by back.is_open is
  where
    by : (b : Bool) → (b && (back.number == n)) ≡ true → (b && (back.number == m)) ≡ false
    by true is = search rules
    by false is = refl

-- ---- messages

-- bytes that come behind
abbrev pub MoreLaw : Type 0
MoreLaw = (bytes piece : List ℕ) (calls : List Call) (reading : Reading) → HasGiven bytes calls reading → HasGiven (bytes ++ piece) calls (fed reading piece)

more_behind : (law : MoreLaw) (bytes piece : List ℕ) (calls : List Call) (rest : List ℕ) → AreMessages bytes calls rest → AreMessages (bytes ++ piece) calls (rest ++ piece)
more_behind law bytes piece calls rest are = (law bytes piece calls (record { rest = rest; held = 0; fault = None }) (record { messages = are; fault_is = tt })).messages

-- messages, and then others
messages_then : (bytes : List ℕ) (xs ys : List Call) (mid rest : List ℕ) → AreMessages bytes xs mid → AreMessages mid ys rest → AreMessages bytes (xs ++ ys) rest
messages_then bytes [] ys mid rest a b = rw a b
messages_then bytes (x ∷ xs) ys mid rest a b = (a.0, a.1, messages_then a.0 xs ys mid rest a.2 b)

-- ---- what is still to come

blank_next : (backs : List Back) (coming : List Arrival) → All IsBlank coming → All IsBlank (next_turn backs coming)
blank_next backs [] all = all
blank_next backs (opens conn ∷ more) all = all
blank_next backs (sends number bytes ∷ more) all = by (list_any (is_open_one number) backs) (blank_next backs more (All-tail IsBlank (sends number bytes) more all))
  where
    by : (b : Bool) → All IsBlank (next_turn backs more) → All IsBlank (cond b (sends number bytes ∷ more) (next_turn backs more))
    by true less = all
    by false less = less

-- a turn is had by a connection that is open
next_open : (backs : List Back) (coming more : List Arrival) (number : ℕ) (bytes : List ℕ) → next_turn backs coming ≡ sends number bytes ∷ more → list_any (is_open_one number) backs ≡ true
next_open backs [] more number bytes is = absurd (cc)
next_open backs (opens conn ∷ rest) more number bytes is = absurd (cc)
next_open backs (sends sender piece ∷ rest) more number bytes is = by (list_any (is_open_one sender) backs) refl is (next_open backs rest more number bytes)
  where
    by : (b : Bool) → list_any (is_open_one sender) backs ≡ b → cond b (sends sender piece ∷ rest) (next_turn backs rest) ≡ sends number bytes ∷ more → (next_turn backs rest ≡ sends number bytes ∷ more → list_any (is_open_one number) backs ≡ true)
        → list_any (is_open_one number) backs ≡ true
    by true any is less = let same : sender ≡ number = cc in rw (← same) any
    by false any is less = less is

any_found : {X : Type 0} (p : X → Bool) (xs : List X) → list_any p xs ≡ true → find p xs ≡ None → ⊥
any_found p [] any none = absurd (cc)
any_found p (x ∷ xs) any none = by (p x) any none (any_found p xs)
  where
    by : (b : Bool) → (b || list_any p xs) ≡ true → cond b (Some x) (find p xs) ≡ None → (list_any p xs ≡ true → find p xs ≡ None → ⊥) → ⊥
    by true any none less = absurd (cc)
    by false any none less = less any none

-- ---- those given back, with one more behind them

found_behind : {X : Type 0} (p : X → Bool) (xs : List X) (b : X) → p b ≡ false → find p (xs ++ b ∷ []) ≡ find p xs
found_behind p xs b is = find-append p xs (b ∷ []) ∙ (ap (λ (c : Bool). option_or (find p xs) (cond c (Some b) None)) is ∙ or_none (find p xs))
  where
    or_none : {X : Type 0} (o : Option X) → option_or o None ≡ o
    or_none None = refl
    or_none (Some x) = refl

found_last : {X : Type 0} (p : X → Bool) (xs : List X) (b : X) → find p xs ≡ None → p b ≡ true → find p (xs ++ b ∷ []) ≡ Some b
found_last p xs b none is = find-append p xs (b ∷ []) ∙ (ap (λ o. option_or o (find p (b ∷ []))) none ∙ ap (λ (c : Bool). cond c (Some b) None) is)

-- one with another number, or that is over
back_other : (m n : ℕ) (conn : Seen) (left : Option (List ℕ)) → (m == n) ≡ false → is_open_one n (back_of m conn left) ≡ false
back_other m n conn None apart = refl
back_other m n conn (Some bytes) apart = apart

same_number : (n : ℕ) → (n == n) ≡ true
same_number n = search rules

-- ---- another connection's turn

rebuilt : (old new : Connections) (n : ℕ) (came : Option (List ℕ)) (calls : List Call) (said : List ℕ) → All IsBlank new.coming → old.came ≤ new.came → find (is_open_one n) new.given_back ≡ find (is_open_one n) old.given_back → Joined old n came calls said
    → Joined new n came calls said
rebuilt old new n came calls said blank more same s = record {
  blank = blank;
  fresh = λ few. let f = s.fresh (omega (arith, more, few)) in (f.0, f.1, f.2, same ∙ f.3);
  open_still = rw same s.open_still;
}

pub joined_other : (v : Visit) (old new : Connections) (n : ℕ) (came : Option (List ℕ)) (calls : List Call) (said : List ℕ) → (v.number == n) ≡ false → Joined old n came calls said → HadTurn v old new → Joined new n came calls said
joined_other v old new n came calls said apart s t = go (next_turn old.given_back old.coming) t.out (blank_next old.given_back old.coming s.blank) t.had t.back
  where
    b : Back
    b = back_of v.number v.back v.unfinished

    go : (turns : List Arrival) (out : Connections) → All IsBlank turns → HasTurn turns v.number v.came old out → new ≡ gives_back b out → Joined new n came calls said
    go [] out all had back = absurd had
    go (opens first ∷ more) out all had back =
        rw (back, had.2) (rebuilt old (gives_back b (record old { coming = more; came = old.came + 1; out = old.out + 1 })) n came calls said (All-tail IsBlank (opens first) more all) (omega arith)
        (found_behind (is_open_one n) old.given_back b (back_other v.number n v.back v.unfinished apart)) s)
    go (sends sender bytes ∷ more) out all had back =
        rw (back, had.2) (rebuilt old (gives_back b (record old { coming = more; out = old.out + 1; given_back = filter (λ x. not (is_open_one v.number x)) old.given_back })) n came calls said (All-tail IsBlank (sends sender bytes) more all) (omega arith)
        (found_behind (is_open_one n) (filter (λ x. not (is_open_one v.number x)) old.given_back) b (back_other v.number n v.back v.unfinished apart)
        ∙ others_out (is_open_one n) (is_open_one v.number) (λ x is. other_number v.number n apart x is) old.given_back) s)

-- ---- a turn of its own

came_new : (came : Option (List ℕ)) (first : Seen) (calls : List Call) → came ≡ Some [] → calls ≡ [] → IfSome (join_known came first.left) (λ bytes. IfSome first.left (λ left. AreMessages bytes calls left))
came_new came first calls none no_calls = rw (none, no_calls) (go first.left)
  where
    go : (o : Option (List ℕ)) → IfSome (join_known (Some []) o) (λ bytes. IfSome o (λ left. AreMessages bytes [] left))
    go None = tt
    go (Some bytes) = refl

came_more : (law : MoreLaw) (came left : Option (List ℕ)) (bytes : List ℕ) (calls : List Call) → IfSome came (λ xs. IfSome left (λ ys. AreMessages xs calls ys)) → IfSome (join_known came (Some bytes)) (λ xs. IfSome (append_known left bytes) (λ ys. AreMessages xs calls ys))
came_more law None left bytes calls are = tt
came_more law (Some xs) None bytes calls are = tt
came_more law (Some xs) (Some ys) bytes calls are = more_behind law xs bytes calls ys are

pub continues : (law : MoreLaw) (v : Visit) (old new : Connections) (came : Option (List ℕ)) (calls : List Call) (said : List ℕ) → Joined old v.number came calls said → HadTurn v old new
    → Continues v (join_known came (came_with (next_turn old.given_back old.coming))) calls said
continues law v old new came calls said s t = go (next_turn old.given_back old.coming) refl (blank_next old.given_back old.coming s.blank) t.had
  where
    again : (bytes : List ℕ) (o : Option Back) → (o ≡ None → ⊥) → IfSome o (λ (back : Back). v.came ≡ with_more bytes back.conn) → IfSome o (λ (back : Back). IfSome came (λ xs. IfSome back.conn.left (λ left. AreMessages xs calls left)) × (back.conn.written ≡ Some said))
        → Continues v (join_known came (Some bytes)) calls said
    again bytes None some is stood = absurd (some refl)
    again bytes (Some back) some is stood = record { left = rw is (came_more law came back.conn.left bytes calls stood.0); written = rw is stood.1 }

    go : (turns : List Arrival) → next_turn old.given_back old.coming ≡ turns → All IsBlank turns → HasTurn turns v.number v.came old t.out → Continues v (join_known came (came_with turns)) calls said
    go [] is all had = absurd had
    go (opens first ∷ more) is all had =
        let f = s.fresh (omega (arith, had.0)) in
        record { left = rw had.1 (came_new came first calls f.0 f.1); written = rw had.1 (All-head IsBlank (opens first) more all ∙ ap Some (sym f.2)) }
    go (sends sender bytes ∷ more) is all had =
        again bytes (find (is_open_one v.number) old.given_back) (any_found (is_open_one v.number) old.given_back (rw had.0 (next_open old.given_back old.coming more sender bytes is))) had.1 s.open_still

after_said : (law : MoreLaw) (bytes now taken u : List ℕ) (calls more : List Call) (left : Option (List ℕ)) → left ≡ prepend_known taken (Some now) → AreMessages taken more u → IfSome left (λ xs. AreMessages bytes calls xs) → AreMessages bytes (calls ++ more) (u ++ now)
after_said law bytes now taken u calls more left is are stood = messages_then bytes calls more (taken ++ now) (u ++ now) (rw is at stood) (more_behind law taken now more u are)

pub joined_after : (law : MoreLaw) (v : Visit) (old new : Connections) (came : Option (List ℕ)) (calls more : List Call) (said shown : List ℕ) → Joined old v.number came calls said → HadTurn v old new → Adds v more shown
    → Joined new v.number (join_known came (came_with (next_turn old.given_back old.coming))) (calls ++ more) (said ++ shown)
joined_after law v old new came calls more said shown s t says = go (next_turn old.given_back old.coming) refl (blank_next old.given_back old.coming s.blank) t.had t.back (continues law v old new came calls said s t)
  where
    b : Back
    b = back_of v.number v.back v.unfinished

    came_by : List Arrival → Option (List ℕ)
    came_by turns = join_known came (came_with turns)

    open_one : (u : List ℕ) (o : Option (List ℕ)) → IfSome o (λ bytes. IfSome v.came.left (λ left. AreMessages bytes calls left)) → (taken : List ℕ) → v.came.left ≡ prepend_known taken v.back.left → AreMessages taken more u
        → IfSome o (λ bytes. IfSome (prepend_known u v.back.left) (λ left. AreMessages bytes (calls ++ more) left))
    open_one u None stood taken is are = tt
    open_one u (Some bytes) stood taken is are = by v.back.left is
      where
        by : (now : Option (List ℕ)) → v.came.left ≡ prepend_known taken now → IfSome (prepend_known u now) (λ left. AreMessages bytes (calls ++ more) left)
        by None is = tt
        by (Some now) is = after_said law bytes now taken u calls more v.came.left is are stood

    left_so : (given : List Back) (o : Option (List ℕ)) → find (is_open_one v.number) given ≡ None → (unfinished : Option (List ℕ)) → IfSome unfinished (λ bytes. (taken : List ℕ) × (v.came.left ≡ prepend_known taken v.back.left) × AreMessages taken more bytes)
        → IfSome unfinished (λ bytes. v.back.written ≡ append_known v.came.written shown) → v.came.written ≡ Some said → IfSome o (λ bytes. IfSome v.came.left (λ left. AreMessages bytes calls left))
        → IfSome (find (is_open_one v.number) (given ++ back_of v.number v.back unfinished ∷ [])) (λ (back : Back).
        IfSome o (λ bytes. IfSome back.conn.left (λ left. AreMessages bytes (calls ++ more) left)) × (back.conn.written ≡ Some (said ++ shown)))
    left_so given o none None messages written at stood = rw (found_behind (is_open_one v.number) given (back_of v.number v.back None) refl ∙ none) tt
    left_so given o none (Some u) messages written at stood =
        rw (found_last (is_open_one v.number) given (back_of v.number v.back (Some u)) none (same_number v.number))
        (open_one u o stood messages.0 messages.1 messages.2, written ∙ ap (λ (w : Option (List ℕ)). append_known w shown) at)

    go : (turns : List Arrival) → next_turn old.given_back old.coming ≡ turns → All IsBlank turns → HasTurn turns v.number v.came old t.out → new ≡ gives_back b t.out → Continues v (came_by turns) calls said → Joined new v.number (came_by turns) (calls ++ more) (said ++ shown)
    go [] is all had back c = absurd had
    go (opens first ∷ rest) is all had back c = rw (back, had.2) (record {
      blank = All-tail IsBlank (opens first) rest all;
      fresh = λ few. absurd (omega (arith, few, had.0));
      open_still = left_so old.given_back (came_by (opens first ∷ rest)) (s.fresh (omega (arith, had.0))).3 v.unfinished says.messages says.written c.written c.left;
    })
    go (sends sender bytes ∷ rest) is all had back c = rw (back, had.2) (record {
      blank = All-tail IsBlank (sends sender bytes) rest all;
      fresh = λ few. absurd (any_found (is_open_one v.number) old.given_back (rw had.0 (next_open old.given_back old.coming rest sender bytes is)) (s.fresh few).3);
      open_still = left_so (filter (λ x. not (is_open_one v.number x)) old.given_back) (came_by (sends sender bytes ∷ rest)) (none_left (is_open_one v.number) old.given_back) v.unfinished says.messages says.written c.written c.left;
    })
