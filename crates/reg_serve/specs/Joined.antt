-- The turns of a connection, put together.
use Rattle.std.specs.Prelude.{◌≡◌, ◌==◌, ◌≤◌, ◌++◌, ◌∷◌, ℕ, List, [], All, Option, Some, None}
use Rattle.std.specs.Prelude.{◌⊎◌, IfSome, if◌then◌else◌}
use Rattle.std.proofs.Common.{inl}
use Rattle.std.specs.List.{find}
use Rattle.std.specs.Io.KnownBytes.{append_known, prepend_known}
use Rattle.reg_outside.specs.Connections.{Arrival, Back, Connections, is_open_one, next_turn}
use Rattle.reg_outside.specs.Connections.{opens, sends}
use Rattle.reg_machine.specs.History.{State}
use Rattle.reg_http.specs.declared.call.Call.{Call}
use Rattle.reg_http.specs.Runs.{AreMessages}
use Rattle.reg_session.specs.Answered.{Point}
use Rattle.reg_serve.specs.Answered.{Answer, Outcome, goes}
use Rattle.reg_serve.specs.Sessions.{EndsAtMessage, EndsBetween, IsQuiet}
use Rattle.reg_serve.specs.Visits.{Sessions, Visit, Visited}
use Rattle.reg_serve.specs.declared.ended.Ended.{Ended}
use Rattle.reg_serve.specs.declared.ended.Ended.TheVariants as ended

-- a new connection comes with nothing written to it
abbrev pub IsBlank : Arrival → Type 0
IsBlank (opens conn) = conn.written ≡ Some []
IsBlank (sends number bytes) = Unit {0}

-- no connection has come yet, and new ones come with nothing written to them
pub record IsUnused (told : Connections) : Type 0 where
  pub none : told.given_back ≡ []
  pub blank : All IsBlank told.coming

-- the bytes that come with the first of these turns
abbrev pub came_with : List Arrival → Option (List ℕ)
came_with [] = Some []
came_with (opens conn ∷ more) = conn.left
came_with (sends number bytes ∷ more) = Some bytes

-- known bytes, and others behind them
abbrev pub join_known : Option (List ℕ) → Option (List ℕ) → Option (List ℕ)
join_known None more = None
join_known (Some bytes) more = prepend_known bytes more

-- all bytes that came of the connection with this number in these turns
abbrev pub came_of : ℕ → (old new : Connections) (visits : List Visit) → Visited old new visits
    → Option (List ℕ)
came_of number old new [] had = Some []
came_of number old new (v ∷ visits) had =
    join_known
    (if v.number == number then came_with (next_turn old.given_back old.coming) else Some [])
    (came_of number had.0 new visits had.2)

-- its messages that these turns answered and left it open with, each with its reply
abbrev pub answers_to : ℕ → (s : State) (moments : Option (List ℕ)) (visits : List Visit)
    (last : State) (later : Option (List ℕ)) → Sessions s moments visits last later → List Answer
answers_to number s moments [] last later all = []
answers_to number s moments (v ∷ visits) last later all =
    (if v.number == number then all.3.session.all.answers else [])
    ++ answers_to number all.1 all.2 visits last later all.4

-- the message at which a turn ended and the service went on, with its reply, if there is one
abbrev pub ended_with : (p : Point) (rest taken : List ℕ) (now w ms : Option (List ℕ)) (e : Ended)
    (to : Outcome)
    → EndsAtMessage p rest w ms e to ⊎ (IsQuiet p w ms to × EndsBetween taken now rest e)
    → List Answer
ended_with p rest taken now w ms ended.Closed (goes s) (inl (inl m)) = m.3.1.answers
ended_with p rest taken now w ms ended.Failed (goes s) (inl (inl m)) =
    record { call = m.0; at = m.3.at; told = m.3.told } ∷ []
ended_with p rest taken now w ms ended.NoMemory (goes s) (inl (inl m)) =
    record { call = m.0; at = m.3.0.at; told = m.3.0.told } ∷ []
ended_with p rest taken now w ms e to ends = []

-- all messages of these turns, whichever connections had them, each with its reply
abbrev pub all_answers : (s : State) (moments : Option (List ℕ)) (visits : List Visit)
    (last : State) (later : Option (List ℕ)) → Sessions s moments visits last later → List Answer
all_answers s moments [] last later all = []
all_answers s moments (v ∷ visits) last later all =
    (all.3.session.all.answers
    ++ ended_with all.3.session.last all.3.session.reading.rest all.3.session.taken v.back.left
    v.back.written all.2 all.0 (goes all.1) all.3.session.ends)
    ++ all_answers all.1 all.2 visits last later all.4

-- What is so of a connection behind some turns, of which all its bytes, the messages answered and
-- the responses are these. An open one has the bytes behind those messages left, and just these
-- responses are written to it. One that hasn't come has none of them.
pub record Joined (told : Connections) (number : ℕ) (came : Option (List ℕ)) (calls : List Call)
    (said : List ℕ) : Type 0 where
  pub blank : All IsBlank told.coming
  pub fresh : told.came ≤ number → (came ≡ Some []) × (calls ≡ []) × (said ≡ [])
      × (find (is_open_one number) told.given_back ≡ None)
  pub open_still : IfSome (find (is_open_one number) told.given_back) (λ (back : Back).
      IfSome came (λ bytes. IfSome back.conn.left (λ left. AreMessages bytes calls left))
      × (back.conn.written ≡ Some said))

-- In a turn a connection comes with what is left of all its bytes by then behind the messages that
-- were answered, and with just the responses written to it.
pub record Continues (v : Visit) (came : Option (List ℕ)) (calls : List Call) (said : List ℕ)
    : Type 0 where
  pub left : IfSome came (λ bytes. IfSome v.came.left (λ left. AreMessages bytes calls left))
  pub written : v.came.written ≡ Some said

-- what a turn adds, behind which the connection may have another
pub record Adds (v : Visit) (calls : List Call) (said : List ℕ) : Type 0 where
  pub messages : IfSome v.unfinished (λ bytes. (taken : List ℕ)
      × (v.came.left ≡ prepend_known taken v.back.left) × AreMessages taken calls bytes)
  pub written : IfSome v.unfinished (λ bytes. v.back.written ≡ append_known v.came.written said)
