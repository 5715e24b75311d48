-- Where a session stops, from line to line.
use Rattle.std.proofs.Common.{◌≡◌, ◌++◌, ◌∷◌, [], List, ℕ, Option, Result, Ok, Err, refl, ap, sym, ◌∙◌, append_assoc, arith, length, inl, inr}
use Rattle.std.specs.Prelude.{IfSome, IfErr, true, false}
use Rattle.std.specs.Io.KnownBytes.{append_known}
use Rattle.std.proofs.lemmas.List.{take_all}
use Rattle.reg_outside.specs.Streams.{first_moment, WritesFront}
use Rattle.reg_terms.specs.declared.command.Stamped.{Stamped}
use Rattle.reg_terms.specs.declared.refusal.Refusal.{Refusal}
use Rattle.reg_terms.specs.declared.request.Request.{Request}
use Rattle.reg_terms.specs.declared.reply.Reply.{Reply}
use Rattle.reg_machine.specs.History.{State}
use Rattle.reg_json.specs.Reading.{reading_of}
use Rattle.reg_service.specs.Kept.{Began}
use Rattle.reg_service.specs.Turn.{turn, Turns, last_reply}
use Rattle.reg_service.specs.declared.service.Cause.{Cause}
use Rattle.reg_service.specs.declared.service.Cause.TheVariants as cause
use Rattle.reg_session.specs.Lines.{is_skipped}
use Rattle.reg_session.specs.Replies.{line_of, gives_way, is_accepted, IsShown, WritesReply}
use Rattle.reg_session.specs.Answered.{Point, Answered}
use Rattle.reg_session.specs.Stops.{stop_of, EndsTurn, IsSaid, LastTurn, StopsIn}
use Rattle.reg_session.specs.declared.stop.Stop.{Stop}
use Rattle.reg_session.specs.declared.stop.Stop.TheVariants as stop
use Rattle.reg_session.proofs.Answering.{answered_more, append_none}
use Rattle.reg_session.proofs.Numbering.{accepted_in, accepted_all}

-- lines that weren't come to change nothing
pub stops_before : (p : Point) (xs more : List (List ℕ)) (w : Option (List ℕ)) (failed : Type 0) (answered after : List Stamped) (why : Stop) → StopsIn p xs w failed answered after why → StopsIn p (xs ++ more) w failed answered after why
stops_before p xs more w failed answered after why s = record {
  earlier = s.earlier;
  line = s.line;
  later = s.later ++ more;
  cut = ap (λ (l : List (List ℕ)). l ++ more) s.cut ∙ append_assoc s.earlier (s.line ∷ s.later) more;
  asks = s.asks;
  mid = s.mid;
  accepted = s.accepted;
  all = s.all;
  last = s.last;
}

-- behind lines that were answered
pub stops_then : (p q : Point) (xs ys : List (List ℕ)) (w : Option (List ℕ)) (failed : Type 0) (answered after : List Stamped) (why : Stop) → Answered p xs q → StopsIn q ys w failed answered after why
    → StopsIn p (xs ++ ys) w failed answered after why
stops_then p q xs ys w failed answered after why a s =
    let all = answered_more p q s.mid xs s.earlier a s.all.all in
    record {
      earlier = xs ++ s.earlier;
      line = s.line;
      later = s.later;
      cut = ap (λ (l : List (List ℕ)). xs ++ l) s.cut ∙ sym (append_assoc xs s.earlier (s.line ∷ s.later));
      asks = s.asks;
      mid = s.mid;
      accepted = accepted_in p s.mid (xs ++ s.earlier) all;
      all = accepted_all p s.mid (xs ++ s.earlier) all;
      last = s.last;
    }

-- where the output failed, it failed
said_wider : (due : Reply) (old new : Option (List ℕ)) (failed wider : Type 0) → (failed → wider) → IsSaid due old new failed → IsSaid due old new wider
said_wider due old new failed wider more (inl e) = inl e
said_wider due old new failed wider more (inr f) = inr (more f)

ends_wider : (s : State) (m : ℕ) (reading : Result Request Refusal) (due : Reply) (old new : Option (List ℕ)) (failed wider : Type 0) (answered after : List Stamped) (why : Stop) → (failed → wider)
    → EndsTurn s m reading due (IsSaid due old new failed) (new ≡ old) answered after why → EndsTurn s m reading due (IsSaid due old new wider) (new ≡ old) answered after why
ends_wider s m reading due old new failed wider answered after stop.Memory more (inl e) = inl (e.0, said_wider due old new failed wider more e.1, e.2, e.3)
ends_wider s m reading due old new failed wider answered after stop.Memory more (inr e) = inr e
ends_wider s m reading due old new failed wider answered after stop.Disk more e = (e.0, said_wider due old new failed wider more e.1, e.2, e.3)
ends_wider s m reading due old new failed wider answered after stop.Input more e = elim e [ ]
ends_wider s m reading due old new failed wider answered after stop.Output more e = e
ends_wider s m reading due old new failed wider answered after stop.TooMuch more e = elim e [ ]

pub stops_wider : (p : Point) (ls : List (List ℕ)) (w : Option (List ℕ)) (failed wider : Type 0) (answered after : List Stamped) (why : Stop) → (failed → wider) → StopsIn p ls w failed answered after why → StopsIn p ls w wider answered after why
stops_wider p ls w failed wider answered after why more s = record {
  earlier = s.earlier;
  line = s.line;
  later = s.later;
  cut = s.cut;
  asks = s.asks;
  mid = s.mid;
  accepted = s.accepted;
  all = s.all;
  last = record {
    at = s.last.at;
    moment = s.last.moment;
    due = s.last.due;
    shown = s.last.shown;
    shows = s.last.shows;
    front = s.last.front;
    ends = ends_wider s.mid.state s.last.at (reading_of s.line) s.last.due s.mid.written w failed wider answered after why more s.last.ends;
  };
}

-- at the first line
pub stops_at : (p : Point) (line : List ℕ) (w : Option (List ℕ)) (failed : Type 0) (answered after : List Stamped) (why : Stop) → Answered p [] p → is_skipped line ≡ false → LastTurn p (reading_of line) w failed answered after why
    → StopsIn p (line ∷ []) w failed answered after why
stops_at p line w failed answered after why none asks last = record { earlier = []; line = line; later = []; cut = refl; asks = asks; mid = p; accepted = accepted_in p p [] none; all = accepted_all p p [] none; last = last }

-- something of a reply was written, or nothing
pub record ShowsFront (due : Reply) (old new : Option (List ℕ)) : Type 0 where
  pub shown : Reply
  pub shows : IsShown due shown
  pub front : WritesFront old new (line_of shown)

pub shows_front : {T : Type 0} (due : Reply) (old new : Option (List ℕ)) (r : Result T Stop) → WritesReply due old new r → ShowsFront due old new
shows_front due old new (Ok done) w = record { shown = w.0; shows = w.1; front = (length (line_of w.0), omega arith, w.2 ∙ ap (append_known old) (sym (take_all (length (line_of w.0)) (line_of w.0) (omega arith)))) }
shows_front due old new (Err stop.Memory) w = record { shown = due; shows = inl refl; front = (0, omega arith, w.1 ∙ append_none old) }
shows_front due old new (Err stop.Disk) w = elim w [ ]
shows_front due old new (Err stop.Input) w = elim w [ ]
shows_front due old new (Err stop.Output) w = record { shown = w.0; shows = w.1; front = w.2 }
shows_front due old new (Err stop.TooMuch) w = elim w [ ]

-- the reply of a service that stopped gives way to none
last_shown : (due shown : Reply) (why : Cause) → due ≡ last_reply why → IsShown due shown → shown ≡ due
last_shown due shown why is (inl e) = e
last_shown due shown why is (inr e) = absurd (stays why (rw is at e.1))
  where
    stays : (why : Cause) → gives_way (last_reply why) ≡ true → ⊥
    stays cause.Memory e = absurd (cc)
    stays cause.Disk e = absurd (cc)

last_said : {T : Type 0} (due : Reply) (old new : Option (List ℕ)) (failed : Type 0) (why : Cause) (r : Result T Stop) → due ≡ last_reply why → WritesReply due old new r → IfErr r (λ e. e ≡ stop.Output → failed) → IsSaid due old new failed
last_said due old new failed why (Ok done) is w f = inl (w.2 ∙ ap (λ (told : Reply). append_known old (line_of told)) (last_shown due w.0 why is w.1))
last_said due old new failed why (Err stop.Memory) is w f = absurd (taken why (rw is at w.0))
  where
    taken : (why : Cause) → is_accepted (last_reply why) ≡ true → ⊥
    taken cause.Memory e = absurd (cc)
    taken cause.Disk e = absurd (cc)
last_said due old new failed why (Err stop.Disk) is w f = elim w [ ]
last_said due old new failed why (Err stop.Input) is w f = elim w [ ]
last_said due old new failed why (Err stop.Output) is w f = inr (f refl)
last_said due old new failed why (Err stop.TooMuch) is w f = elim w [ ]

ends_stopped : (s : State) (m : ℕ) (reading : Result Request Refusal) (due : Reply) (said bare : Type 0) (after : List Stamped) (why : Cause) → due ≡ last_reply why → said
    → Began why s.history (turn s m reading).1.history after → EndsTurn s m reading due said bare s.history after (stop_of why)
ends_stopped s m reading due said bare after cause.Memory is says began = inl (is, says, refl, began)
ends_stopped s m reading due said bare after cause.Disk is says began = (is, says, refl, began)

-- the service stopped
pub last_stopped : {T : Type 0} (p : Point) (m : ℕ) (reading : Result Request Refusal) (due : Reply) (w : Option (List ℕ)) (failed : Type 0) (after : List Stamped) (why : Cause) (r : Result T Stop)
    → IfSome p.moments (λ coming. m ≡ first_moment coming) → due ≡ last_reply why → WritesReply due p.written w r → IfErr r (λ e. e ≡ stop.Output → failed)
    → Began why p.state.history (turn p.state m reading).1.history after → LastTurn p reading w failed p.state.history after (stop_of why)
last_stopped p m reading due w failed after why r moment is wrote output began =
    let f = shows_front due p.written w r wrote in
    let says = last_said due p.written w failed why r is wrote output in
    record { at = m; moment = moment; due = due; shown = f.shown; shows = f.shows; front = f.front; ends = ends_stopped p.state m reading due (IsSaid due p.written w failed) (w ≡ p.written) after why is says began }

ends_unwritten : (T : Type 0) (p : Point) (m : ℕ) (reading : Result Request Refusal) (due : Reply) (w : Option (List ℕ)) (said : Type 0) (last : State) (why : Stop) → Turns p.state m reading due last
    → WritesReply {T = T} due p.written w (Err why) → EndsTurn p.state m reading due said (w ≡ p.written) last.history last.history why
ends_unwritten T p m reading due w said last stop.Memory t wrote = inr (wrote.0, wrote.1, (last, t, refl, refl))
ends_unwritten T p m reading due w said last stop.Disk t wrote = elim wrote [ ]
ends_unwritten T p m reading due w said last stop.Input t wrote = elim wrote [ ]
ends_unwritten T p m reading due w said last stop.Output t wrote = (last, t, refl, refl)
ends_unwritten T p m reading due w said last stop.TooMuch t wrote = elim wrote [ ]

-- the reply wasn't written
pub last_unwritten : {T : Type 0} (p : Point) (m : ℕ) (reading : Result Request Refusal) (due : Reply) (w : Option (List ℕ)) (failed : Type 0) (last : State) (why : Stop) (r : Result T Stop)
    → IfSome p.moments (λ coming. m ≡ first_moment coming) → Turns p.state m reading due last → WritesReply due p.written w r → r ≡ Err why → LastTurn p reading w failed last.history last.history why
last_unwritten {T = T} p m reading due w failed last why r moment t wrote is =
    let f = shows_front due p.written w r wrote in
    record { at = m; moment = moment; due = due; shown = f.shown; shows = f.shows; front = f.front; ends = ends_unwritten T p m reading due w (IsSaid due p.written w failed) last why t (rw is at wrote) }

-- it was
pub wrote_ok : {T : Type 0} (due : Reply) (old new : Option (List ℕ)) (r : Result T Stop) (x : T) → WritesReply due old new r → r ≡ Ok x → (shown : Reply) × IsShown due shown × (new ≡ append_known old (line_of shown))
wrote_ok due old new r x wrote is = rw is at wrote
