-- How an output keeps up over the replies of a batch.
use Rattle.std.proofs.Common.{◌≡◌, ◌≤◌, ◌+◌, ◌++◌, ◌∷◌, [], List, ℕ, Option, Some, None, Result, Ok, refl, ap, sym, ◌∙◌, subst, arith, length, take, option_map, append-nil}
use Rattle.std.specs.Prelude.{All, IfSome}
use Rattle.std.specs.Io.KnownBytes.{append_known}
use Rattle.std.proofs.lemmas.List.{take_all}
use Rattle.std.proofs.lemmas.List.Elements.{All-nil, All-cons}
use Rattle.reg_outside.specs.Marks.{Mark, marked}
use Rattle.reg_outside.specs.Streams.{WritesFront}
use Rattle.reg_terms.specs.declared.command.Stamped.{Stamped}
use Rattle.reg_terms.specs.declared.reply.Reply.{Reply}
use Rattle.reg_keep.specs.declared.keeper.Keeper.{Ghosts}
use Rattle.reg_service.specs.Marked.{among_last, each_so, if_so}
use Rattle.reg_service.specs.Marks.{Writing, texts, IsMarked, AtEach, AreMarked, Output, KeepsUp, KeepsUpBy, KeepsUpInPart, number_of}
use Rattle.reg_service.specs.Opening.{payloads_of}
use Rattle.reg_session.specs.Replies.{IsLine, line_of}
use Rattle.reg_session.specs.Together.{AreReplies}

-- ---- what a buffer holds

if_told : {A : Type 0} (P : Type 0) (o : Option A) (x : A) → o ≡ Some x → IfSome o (λ y. P) → P
if_told P None x is p = absurd (cc)
if_told P (Some y) x is p = p

own_text : (text written : List ℕ) → Some text ≡ append_known (Some []) written → text ≡ written
own_text text written e = cc

-- the replies that were written into an empty buffer, where the keeper tells its payloads
pub replies_in : {K : Type 0} (g : Ghosts K) (k0 k1 : K) (history : List Stamped) (text : List ℕ) (marks : List Mark)
    → KeepsUp g IsLine k0 (record { written = Some []; marks = Some [] }) (record { written = Some text; marks = Some marks }) history k1 → (ps : List (List ℕ)) → g.payloads k0 ≡ Some ps → AreReplies history text
replies_in g k0 k1 history text marks a ps told = record {
  writings = a.writings;
  replies = a.replies;
  text = own_text text (texts a.writings) a.text;
  numbered = each_so (IsMarked g k1 history marks) (λ at n. n ≤ length history) 0 a.writings (λ at n m. m.there) (if_told (AreMarked g k1 history marks 0 a.writings) (g.payloads k0) ps told a.marked);
}

-- ---- behind one mark

-- all of them, or a front of them, written behind a mark since which each stop leaves the history
pub replies_keep_up : (W : Option (List ℕ) → Option (List ℕ) → List ℕ → Type 0) {K : Type 0} (g : Ghosts K) (first k : K) (h : List Stamped) (old new : Output) (m : Option (List Mark)) (bytes : List ℕ) (moment : ℕ) → AreReplies h bytes
    → W old.written new.written bytes → m ≡ option_map (marked moment old.written) old.marks → new.marks ≡ m → moment ≡ g.keep_moment k → ((r : Result (List (List ℕ)) ℕ) → g.stopped_since k moment r → r ≡ Ok (payloads_of h))
    → KeepsUpBy W g IsLine first old new h k
replies_keep_up W g first k h old new m bytes moment replies wrote set same now leaves = record {
  writings = replies.writings;
  replies = replies.replies;
  text = subst (W old.written new.written) replies.text wrote;
  more = mark old.written ∷ [];
  set = same ∙ set;
  marked = all (g.payloads first) old.written old.marks new.marks (same ∙ set);
}
  where
    mark : Option (List ℕ) → Mark
    mark o = record { moment = moment; written = option_map length o }

    whole : take (length h) h ≡ h
    whole = take_all (length h) h (omega arith)

    one : (xs : List ℕ) (ms : List Mark) (at n : ℕ) → length xs ≤ at → n ≤ length h → IsMarked g k h (ms ++ mark (Some xs) ∷ []) at n
    one xs ms at n le there = record {
      mark = mark (Some xs);
      set = among_last (mark (Some xs)) ms;
      written = length xs;
      known = refl;
      before = le;
      past = omega (arith, now);
      there = there;
      leaves = λ r left. (length h, there, omega arith, leaves r left ∙ ap (λ (l : List Stamped). Ok (payloads_of l)) (sym whole));
    }

    each : (xs : List ℕ) (ms : List Mark) (from at : ℕ) (ws : List Writing) → length xs ≤ at → AtEach (λ a n. n ≤ length h) from ws → AtEach (IsMarked g k h (ms ++ mark (Some xs) ∷ [])) at ws
    each xs ms from at [] le is = tt
    each xs ms from at (w ∷ ws) le is =
        (if_so (λ n. n ≤ length h) (IsMarked g k h (ms ++ mark (Some xs) ∷ []) at) w.number (λ n there. one xs ms at n le there) is.0, each xs ms (from + length w.text) (at + length w.text) ws (omega (arith, le)) is.1)

    all : (p : Option (List (List ℕ))) (o : Option (List ℕ)) (m0 m1 : Option (List Mark)) → m1 ≡ option_map (marked moment o) m0
        → IfSome p (λ ps. IfSome o (λ xs. IfSome m1 (λ ms. AreMarked g k h ms (length xs) replies.writings)))
    all None o m0 m1 e = tt
    all (Some ps) None m0 m1 e = tt
    all (Some ps) (Some xs) None m1 e = subst (λ (o : Option (List Mark)). IfSome o (λ ms. AreMarked g k h ms (length xs) replies.writings)) (sym e) tt
    all (Some ps) (Some xs) (Some ms) m1 e =
        subst (λ (o : Option (List Mark)). IfSome o (λ ms. AreMarked g k h ms (length xs) replies.writings)) (sym e) (each xs ms 0 (length xs) replies.writings (omega arith) replies.numbered)

-- ---- with no mark

-- the line of a reply that tells no number, or a front of it
pub fault_keeps_up : {K : Type 0} (g : Ghosts K) (first k : K) (h : List Stamped) (old new : Output) (told : Reply) → number_of told ≡ None → WritesFront old.written new.written (line_of told) → new.marks ≡ old.marks
    → KeepsUpInPart g IsLine first old new h k
fault_keeps_up g first k h old new told none wrote same = record {
  writings = line ∷ [];
  replies = All-cons IsLine line [] (told, refl, sym none) (All-nil IsLine);
  text = subst (WritesFront old.written new.written) (sym (append-nil (line_of told))) wrote;
  more = [];
  set = same ∙ unchanged old.marks;
  marked = all (g.payloads first) old.written new.marks;
}
  where
    line : Writing
    line = record { text = line_of told; number = None }

    unchanged : (o : Option (List Mark)) → o ≡ option_map (λ ms. ms ++ []) o
    unchanged None = refl
    unchanged (Some ms) = ap (λ (l : List Mark). Some l) (sym (append-nil ms))

    all : (p : Option (List (List ℕ))) (o : Option (List ℕ)) (m : Option (List Mark)) → IfSome p (λ ps. IfSome o (λ xs. IfSome m (λ ms. AreMarked g k h ms (length xs) (line ∷ []))))
    all None o m = tt
    all (Some ps) None m = tt
    all (Some ps) (Some xs) None = tt
    all (Some ps) (Some xs) (Some ms) = (tt, tt)
