-- How a run ends, from how its parts did.
use Rattle.std.proofs.Common.{◌≡◌, ◌≤◌, ◌<◌, ◌^◌, ◌++◌, [], append-nil, length, List, ℕ, Bool, Option, Some, None, Result, Ok, Err, true, false, refl, ap, sym, subst, ◌∙◌, arith, max, take, ◌⊎◌, inl, inr}
use Rattle.std.specs.Prelude.{IfSome, if◌then◌else◌}
use Rattle.std.specs.Io.KnownBytes.{append_known, prepend_known, IsAtEnd}
use Rattle.reg_outside.specs.Faults.{Rose}
use Rattle.reg_outside.specs.Streams.{first_moment, WritesFront}
use Rattle.reg_terms.specs.declared.command.Stamped.{Stamped}
use Rattle.reg_terms.specs.declared.refusal.Refusal.{Refusal}
use Rattle.reg_terms.specs.declared.query.Answer.{Answer}
use Rattle.reg_terms.specs.declared.request.Op.{Op}
use Rattle.reg_terms.specs.declared.request.Op.TheVariants as op
use Rattle.reg_terms.specs.declared.request.Request.{Request}
use Rattle.reg_terms.specs.declared.reply.Reply.{Reply}
use Rattle.reg_terms.specs.declared.reply.Reply.TheVariants as reply
use Rattle.reg_machine.specs.History.{State}
use Rattle.reg_keep.specs.declared.keeper.Keeper.{Ghosts}
use Rattle.reg_view.specs.AtClock.{told}
use Rattle.reg_service.specs.Turn.{AsksNoChange, IsQuery, answered, at_moment, requested, turn}
use Rattle.reg_session.specs.Answered.{Point}
use Rattle.reg_session.specs.Lines.{lines, IsCutAtLineFeeds}
use Rattle.reg_session.specs.Replies.{IsLine, line_of}
use Rattle.reg_session.specs.Input.{EndsInput, StopsInput, Takes}
use Rattle.reg_session.specs.Together.{EndsBatch, EndsTogether, StopsTogether}
use Rattle.reg_session.specs.declared.stop.Stop.{Stop}
use Rattle.reg_session.specs.declared.stop.Stop.TheVariants as stop
use Rattle.reg_run.specs.Status.{status_of}
use Rattle.reg_run.specs.Crash.{Seen, DiskSurvives, IsWhole}
use Rattle.reg_run.specs.Due.{Due, Told, ToldOnce, AnswersTo, due_of, end_of_due}
use Rattle.reg_run.specs.Ends.{ApplyEnds, DidAnswer, HowStopped, StoppedSo, AskEnds, TooMuchExactly, begins_at, end_of_stop}
use Rattle.reg_run.specs.Once.{Printed, end_of_reply}
use Rattle.reg_run.specs.KeepsUp.{DiskKeepsUp}
use Rattle.reg_run.specs.World.{World, Out, IsFlushed, SameFaults, SameNet, marked_output, output}
use Rattle.reg_run.specs.declared.status.End.{End}
use Rattle.reg_run.specs.declared.status.End.TheVariants as the_end

-- answering the lines stopped
pub apply_stopped : (Stops : HowStopped) (s : Stop) (from : State) (taken : List ℕ) (before after : World) (more : List Stamped) (n : ℕ) (answered kept : List Stamped) → (s ≡ stop.Input → Rose before.reads after.reads)
    → (s ≡ stop.Output → Rose before.writes after.writes) → (s ≡ stop.Disk → Rose before.faults after.faults) → from.history ++ take n more ≡ answered → kept ≡ from.history ++ more
    → Stops (begins_at before from) taken after.left after.written after.flushed (Rose before.writes after.writes) answered kept s → ApplyEnds Stops (end_of_stop s) from taken before after more (from.history ++ take n more)
apply_stopped Stops s from taken before after more n answered kept input output disk front grown ends =
    cases s input output disk
    (subst (λ (l : List Stamped). Stops (begins_at before from) taken after.left after.written after.flushed (Rose before.writes after.writes) (from.history ++ take n more) l s) grown
    (subst (λ (l : List Stamped). Stops (begins_at before from) taken after.left after.written after.flushed (Rose before.writes after.writes) l kept s) (sym front) ends))
  where
    cases : (s : Stop) → (s ≡ stop.Input → Rose before.reads after.reads) → (s ≡ stop.Output → Rose before.writes after.writes) → (s ≡ stop.Disk → Rose before.faults after.faults)
        → StoppedSo Stops from taken before after more (from.history ++ take n more) s → ApplyEnds Stops (end_of_stop s) from taken before after more (from.history ++ take n more)
    cases stop.Memory input output disk e = e
    cases stop.Disk input output disk e = (disk refl, e)
    cases stop.Input input output disk e = (input refl, e)
    cases stop.Output input output disk e = (output refl, e)
    cases stop.TooMuch input output disk e = e

-- a query's reply is due as it is
told_query : (r : Result Answer Refusal) → end_of_reply (answered r) ≡ end_of_due (due_of (answered r))
told_query (Ok a) = refl
told_query (Err r) = refl

told_op : (s : State) (m : ℕ) (by : List ℕ) (key : Option (List ℕ)) (o : Op) → IsQuery o → end_of_reply (requested (at_moment s m) by key o).0 ≡ end_of_due (due_of (requested (at_moment s m) by key o).0)
told_op s m by key (op.Command command) is = elim is [ ]
told_op s m by key (op.Load job table) is = elim is [ ]
told_op s m by key (op.Query query) is = told_query (told s.history (max s.clock m) by query)

told_reading : (s : State) (m : ℕ) (reading : Result Request Refusal) → AsksNoChange reading → end_of_reply (turn s m reading).0 ≡ end_of_due (due_of (turn s m reading).0)
told_reading s m (Ok request) is = told_op s m request.by request.key request.op is
told_reading s m (Err r) is = refl

-- the reply of a turn, or that there was no memory
pub told_turn : (s : State) (m : ℕ) (reading : Result Request Refusal) (r : Reply) (end : End) (old new : Out) → AsksNoChange reading → (r ≡ (turn s m reading).0) ⊎ (r ≡ reply.NoMemory)
    → Printed (end_of_reply r) (line_of r) end old new → Told (AnswersTo reading s m) end old new
told_turn s m reading r end old new query (inl is) p =
    let due : end_of_reply r ≡ end_of_due (due_of r) = ap end_of_reply is ∙ (told_reading s m reading query ∙ sym (ap (λ (x : Reply). end_of_due (due_of x)) is)) in
    inl (due_of r, ap due_of is, subst (λ (e : End). Printed e (line_of r) end old new) due p)
told_turn s m reading r end old new query (inr is) p = inr (subst (λ (x : Reply). Printed (end_of_reply x) (line_of x) end old new) is p)

-- what is due at the moment that the clock had
replied : (IsDue : ℕ → Due → Type 0) (moments : Option (List ℕ)) (m : ℕ) (due : Due) (b : Bool) (w w2 : Option (List ℕ)) → IfSome moments (λ ms. m ≡ first_moment ms) → IsDue m due → due.refused ≡ b
    → w2 ≡ append_known w due.bytes → IfSome moments (λ ms. (x : Due) × IsDue (first_moment ms) x × (x.refused ≡ b) × (w2 ≡ append_known w x.bytes))
replied IsDue None m due b w w2 first is refused wrote = tt
replied IsDue (Some ms) m due b w w2 first is refused wrote = (due, subst (λ (k : ℕ). IsDue k due) first is, refused, wrote)

replied_front : (IsDue : ℕ → Due → Type 0) (moments : Option (List ℕ)) (m : ℕ) (due : Due) (w w2 : Option (List ℕ)) → IfSome moments (λ ms. m ≡ first_moment ms) → IsDue m due → WritesFront w w2 due.bytes
    → IfSome moments (λ ms. (x : Due) × IsDue (first_moment ms) x × WritesFront w w2 x.bytes)
replied_front IsDue None m due w w2 first is front = tt
replied_front IsDue (Some ms) m due w w2 first is front = (due, subst (λ (k : ℕ). IsDue k due) first is, front)

-- what was due was printed whole
due_ends : (IsDue : ℕ → Due → Type 0) (end : End) (before after : World) (m : ℕ) (due : Due) → IfSome before.moments (λ ms. m ≡ first_moment ms) → IsDue m due → end ≡ end_of_due due
    → after.written ≡ append_known before.written due.bytes → IsFlushed after → after.writes ≡ before.writes → AskEnds IsDue end before after
due_ends IsDue end before after m due first is of wrote flushed still = by_refused due.refused refl
  where
    by_refused : (b : Bool) → due.refused ≡ b → AskEnds IsDue end before after
    by_refused true refused =
        let ends : end ≡ the_end.Refused = of ∙ ap (λ (b : Bool). if b then the_end.Refused else the_end.Done) refused in
        rw ends (replied IsDue before.moments m due true before.written after.written first is refused wrote, flushed, still)
    by_refused false refused =
        let ends : end ≡ the_end.Done = of ∙ ap (λ (b : Bool). if b then the_end.Refused else the_end.Done) refused in
        rw ends (replied IsDue before.moments m due false before.written after.written first is refused wrote, flushed, still)

ask_ends : (IsDue : ℕ → Due → Type 0) (end : End) (before after : World) (m : ℕ) → IfSome before.moments (λ ms. m ≡ first_moment ms) → Told (IsDue m) end (output before) (output after) → AskEnds IsDue end before after
ask_ends IsDue end before after m first (inl (due, is, inl (inl p))) = due_ends IsDue end before after m due first is p.0 p.1 p.2 p.3
ask_ends IsDue end before after m first (inl (due, is, inl (inr p))) = rw p.0 (p.1, inl (replied_front IsDue before.moments m due before.written after.written first is p.2), p.3)
ask_ends IsDue end before after m first (inl (due, is, inr p)) = rw p.0 (inr (ap (λ (o : Out). o.written) p.1, ap (λ (o : Out). o.flushed) p.1, ap (λ (o : Out). o.writes) p.1))
ask_ends IsDue end before after m first (inr (inl (inl p))) = rw p.0 (inl (p.1, p.2))
ask_ends IsDue end before after m first (inr (inl (inr p))) = rw p.0 (p.1, inr p.2, p.3)
ask_ends IsDue end before after m first (inr (inr p)) = rw p.0 (inr (ap (λ (o : Out). o.written) p.1, ap (λ (o : Out). o.flushed) p.1, ap (λ (o : Out). o.writes) p.1))

-- a service was asked
pub asked_ends : (IsDue : ℕ → Due → Type 0) (end : End) (before after : World) → ToldOnce IsDue before.moments end (output before) (output after) → AskEnds IsDue end before after
asked_ends IsDue end before after a = ask_ends IsDue end before after a.at a.moment a.told

-- where the input ended, failed or was too much, all that was accepted was answered
pub three : IsWhole 3 → ⊥
three (inl e) = absurd (omega arith)
three (inr (inl e)) = absurd (omega arith)
three (inr (inr (inl e))) = absurd (omega arith)
three (inr (inr (inr e))) = absurd (omega arith)

pub four : IsWhole 4 → ⊥
four (inl e) = absurd (omega arith)
four (inr (inl e)) = absurd (omega arith)
four (inr (inr (inl e))) = absurd (omega arith)
four (inr (inr (inr e))) = absurd (omega arith)

pub six : IsWhole 6 → ⊥
six (inl e) = absurd (omega arith)
six (inr (inl e)) = absurd (omega arith)
six (inr (inr (inl e))) = absurd (omega arith)
six (inr (inr (inr e))) = absurd (omega arith)

stop_whole : (s : Stop) (p : Point) (taken : List ℕ) (left w : Option (List ℕ)) (f : Option ℕ) (failed : Type 0) (answered after : List Stamped) → EndsInput p taken left w f failed answered after s
    → IsWhole (status_of (end_of_stop s)) → answered ≡ after
stop_whole stop.Memory p taken left w f failed answered after e is = absurd (three is)
stop_whole stop.Disk p taken left w f failed answered after e is = absurd (four is)
stop_whole stop.Input p taken left w f failed answered after e is = e.0.done ∙ sym e.0.kept
stop_whole stop.Output p taken left w f failed answered after e is = absurd (six is)
stop_whole stop.TooMuch p taken left w f failed answered after e is = e.0.done ∙ sym e.0.kept

pub whole_stop : {K : Type 0} (g : Ghosts K) (p : Point) (old : K) (left now w : Option (List ℕ)) (f : Option ℕ) (failed : Type 0) (why : Stop) (keeper : K) (s : StopsInput g p old left now w f failed why keeper)
    → IsWhole (status_of (end_of_stop why)) → s.halted.answered ≡ s.halted.after
whole_stop g p old left now w f failed why keeper s = stop_whole why p s.taken now w f failed s.halted.answered s.halted.after s.ends

-- the same of lines that were answered together
batch_whole : (s : Stop) (mid : Point) (batch : List (List ℕ)) (w : Option (List ℕ)) (failed : Type 0) (answered after : List Stamped) → EndsBatch mid batch w failed answered after s → IsWhole (status_of (end_of_stop s))
    → answered ≡ after
batch_whole stop.Memory mid batch w failed answered after e is = absurd (three is)
batch_whole stop.Disk mid batch w failed answered after e is = absurd (four is)
batch_whole stop.Input mid batch w failed answered after e is = elim e [ ]
batch_whole stop.Output mid batch w failed answered after e is = absurd (six is)
batch_whole stop.TooMuch mid batch w failed answered after e is = elim e [ ]

together_whole : (most : ℕ) (s : Stop) (p : Point) (taken : List ℕ) (left w : Option (List ℕ)) (f : Option ℕ) (failed : Type 0) (answered after : List Stamped) → EndsTogether most p taken left w f failed answered after s
    → IsWhole (status_of (end_of_stop s)) → answered ≡ after
together_whole most s p taken left w f failed answered after (inl e) is = stop_whole s p taken left w f failed answered after e is
together_whole most s p taken left w f failed answered after (inr b) is = batch_whole s b.mid b.batch w failed answered after b.ends is

pub whole_together : {K : Type 0} (most : ℕ) (g : Ghosts K) (p : Point) (old : K) (left now w : Option (List ℕ)) (f : Option ℕ) (failed : Type 0) (why : Stop) (keeper : K)
    → (s : StopsTogether most g p old left now w f failed why keeper) → IsWhole (status_of (end_of_stop why)) → s.halted.answered ≡ s.halted.after
whole_together most g p old left now w f failed why keeper s = together_whole most why p s.taken now w f failed s.halted.answered s.halted.after s.ends

-- where there was too much input, as much was taken
abbrev pub TakesMost : HowStopped → Type 1
TakesMost Stops =
    (p : Point) (taken : List ℕ) (left w : Option (List ℕ)) (f : Option ℕ) (failed : Type 0) (answered after : List Stamped) → Stops p taken left w f failed answered after stop.TooMuch → length taken ≡ 2 ^ 32

pub input_takes : TakesMost EndsInput
input_takes p taken left w f failed answered after e = e.2

pub together_takes : (most : ℕ) → TakesMost (EndsTogether most)
together_takes most p taken left w f failed answered after (inl e) = e.2
together_takes most p taken left w f failed answered after (inr b) = elim b.ends [ ]

-- an input that ended with fewer bytes had no more
all_given : (Q : Type 0) (left now : Option (List ℕ)) (taken : List ℕ) → left ≡ prepend_known taken now → IsAtEnd now → length taken < 2 ^ 32 → IfSome left (λ bytes. 2 ^ 32 ≤ length bytes → Q)
all_given Q left None taken is ended few = rw is tt
all_given Q left (Some rest) taken is ended few = let none : rest ≡ [] = ended in rw (is, none, append-nil taken) (λ many. absurd (omega (arith, few, many)))

any_given : {Q : List ℕ → Type 0} (left : Option (List ℕ)) → ((bytes : List ℕ) → Q bytes) → IfSome left Q
any_given None each = tt
any_given (Some bytes) each = each bytes

-- a run ends for too much input only where its session does
pub stop_too_much : (s : Stop) → end_of_stop s ≡ the_end.TooMuch → s ≡ stop.TooMuch
stop_too_much stop.Memory is = absurd (cc)
stop_too_much stop.Disk is = absurd (cc)
stop_too_much stop.Input is = absurd (cc)
stop_too_much stop.Output is = absurd (cc)
stop_too_much stop.TooMuch is = refl

-- where too much was taken
too_much_of : (Stops : HowStopped) → TakesMost Stops → (end : End) (from : State) (taken : List ℕ) (before after : World) (accepted answered : List Stamped) → Takes before.left taken after.left → (end ≡ the_end.TooMuch → SameFaults before after)
    → ApplyEnds Stops end from taken before after accepted answered → TooMuchExactly end taken before after
too_much_of Stops takes the_end.Done from taken before after accepted answered input same e = record {
  only = λ is. absurd (cc);
  where_taken = λ none is. absurd (omega (arith, e.few, is));
  where_given = λ none. all_given _ before.left after.left taken input e.ended e.few;
}
too_much_of Stops takes the_end.Usage from taken before after accepted answered input same e = elim e [ ]
too_much_of Stops takes the_end.Memory from taken before after accepted answered input same e = record {
  only = λ is. absurd (cc);
  where_taken = λ none is. inr refl;
  where_given = λ none. any_given before.left (λ bytes many. inr refl);
}
too_much_of Stops takes the_end.Disk from taken before after accepted answered input same e = record {
  only = λ is. absurd (cc);
  where_taken = λ none is. absurd (none.disk e.0);
  where_given = λ none. absurd (none.disk e.0);
}
too_much_of Stops takes the_end.Input from taken before after accepted answered input same e = record {
  only = λ is. absurd (cc);
  where_taken = λ none is. absurd (none.input e.0);
  where_given = λ none. absurd (none.input e.0);
}
too_much_of Stops takes the_end.Output from taken before after accepted answered input same e = record {
  only = λ is. absurd (cc);
  where_taken = λ none is. absurd (none.output e.0);
  where_given = λ none. absurd (none.output e.0);
}
too_much_of Stops takes (the_end.Damaged at) from taken before after accepted answered input same e = elim e [ ]
too_much_of Stops takes the_end.Listener from taken before after accepted answered input same e = elim e [ ]
too_much_of Stops takes the_end.TooMuch from taken before after accepted answered input same e = record {
  only = λ is. (takes _ taken _ _ _ _ _ _ e, same is);
  where_taken = λ none is. inl refl;
  where_given = λ none. any_given before.left (λ bytes many. inl refl);
}
too_much_of Stops takes the_end.Exists from taken before after accepted answered input same e = elim e [ ]
too_much_of Stops takes the_end.Refused from taken before after accepted answered input same e = elim e [ ]
too_much_of Stops takes the_end.OtherFormat from taken before after accepted answered input same e = elim e [ ]

-- what answering lines did, from how it ended and what it left
pub did_answer : (most : ℕ) (Stops : HowStopped) → TakesMost Stops → (d : Seen) (end : End) (before after : World) (from : State) (taken : List ℕ) → Takes before.left taken after.left → length taken ≤ 2 ^ 32
    → IsCutAtLineFeeds (lines taken) taken → (accepted : List Stamped) (answered : ℕ) → SameNet before after → (end ≡ the_end.TooMuch → SameFaults before after)
    → ApplyEnds Stops end from taken before after accepted (from.history ++ take answered accepted) → DiskSurvives most d from.history accepted answered (status_of end)
    → DiskKeepsUp d (from.history ++ accepted) IsLine (marked_output before) (marked_output after) → DidAnswer most Stops d end before after from
did_answer most Stops takes d end before after from taken input few cut accepted answered net same ends disk keeps_up = record {
  taken = taken;
  input = input;
  few = few;
  cut = cut;
  accepted = accepted;
  answered = answered;
  ends = ends;
  too_much = too_much_of Stops takes end from taken before after accepted (from.history ++ take answered accepted) input same ends;
  net = net;
  disk = disk;
  keeps_up = keeps_up;
}
