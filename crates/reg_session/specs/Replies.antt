-- Replies as lines, and the numbers that they tell.
use Rattle.std.specs.Prelude.{◌≡◌, ◌⊎◌, ℕ, List, [], ◌∷◌, ◌++◌, ◌+◌, Option, Bool, true, false}
use Rattle.std.specs.Prelude.{Result, Ok, Err, nat_lt, if◌then◌else◌}
use Rattle.std.specs.Io.KnownBytes.{append_known}
use Rattle.reg_outside.specs.Streams.{WritesFront}
use Rattle.reg_terms.specs.declared.command.Stamped.{Stamped}
use Rattle.reg_terms.specs.declared.reply.Reply.{Reply}
use Rattle.reg_terms.specs.declared.reply.Reply.TheVariants as reply
use Rattle.reg_json.specs.Replies.{text}
use Rattle.reg_service.specs.Marks.{Writing, number_of}
use Rattle.reg_session.specs.declared.stop.Stop.{Stop}
use Rattle.reg_session.specs.declared.stop.Stop.TheVariants as stop

-- a reply and its LF
abbrev pub line_of : Reply → List ℕ
line_of told = text told ++ 10 ∷ []

-- replies, each with its LF
abbrev pub lines_of : List Reply → List ℕ
lines_of [] = []
lines_of (told ∷ replies) = line_of told ++ lines_of replies

-- this was written for a reply: its line, and the number that it tells
abbrev pub IsLine : Writing → Type 0
IsLine written =
    (told : Reply) × (written.text ≡ line_of told) × (written.number ≡ number_of told)

-- the numbers that replies tell of commands that are new: each is greater than all there were
abbrev pub new_numbers : ℕ → List Reply → List ℕ
new_numbers n [] = []
new_numbers n ((reply.Number m id) ∷ replies) =
    if nat_lt n m then m ∷ new_numbers m replies else new_numbers n replies
new_numbers n ((reply.Loaded m counts) ∷ replies) = m ∷ new_numbers m replies
new_numbers n ((reply.Answer a) ∷ replies) = new_numbers n replies
new_numbers n ((reply.Refused r) ∷ replies) = new_numbers n replies
new_numbers n (reply.NoMemory ∷ replies) = new_numbers n replies
new_numbers n (reply.KeepFault ∷ replies) = new_numbers n replies

-- the places of commands behind so many others, counted from 1
abbrev pub places : ℕ → List Stamped → List ℕ
places n [] = []
places n (s ∷ ss) = (n + 1) ∷ places (n + 1) ss

-- whether a reply says that a command was accepted, be it that of a load, or one that was kept
-- before
abbrev pub is_accepted : Reply → Bool
is_accepted (reply.Number n id) = true
is_accepted (reply.Loaded n counts) = true
is_accepted (reply.Answer a) = false
is_accepted (reply.Refused r) = false
is_accepted reply.NoMemory = false
is_accepted reply.KeepFault = false

-- whether a reply may give way to that there was no memory: an answer or a refusal, behind which no
-- command is kept
abbrev pub gives_way : Reply → Bool
gives_way (reply.Number n id) = false
gives_way (reply.Loaded n counts) = false
gives_way (reply.Answer a) = true
gives_way (reply.Refused r) = true
gives_way reply.NoMemory = false
gives_way reply.KeepFault = false

-- what is shown of a reply: itself, or of an answer or a refusal that there was no memory to print
-- it
abbrev pub IsShown : Reply → Reply → Type 0
IsShown due shown = (shown ≡ due) ⊎ ((shown ≡ reply.NoMemory) × (gives_way due ≡ true))

-- A reply was written: whole; or the output failed, and a front of it stands there; or an accepted
-- command's reply found no memory, and nothing of it stands there.
abbrev pub WritesReply : {T : Type 0} → Reply → Option (List ℕ) → Option (List ℕ) → Result T Stop
    → Type 0
WritesReply due old new (Ok done) =
    (shown : Reply) × IsShown due shown × (new ≡ append_known old (line_of shown))
WritesReply due old new (Err stop.Memory) = (is_accepted due ≡ true) × (new ≡ old)
WritesReply due old new (Err stop.Disk) = ⊥
WritesReply due old new (Err stop.Input) = ⊥
WritesReply due old new (Err stop.Output) =
    (shown : Reply) × IsShown due shown × WritesFront old new (line_of shown)
WritesReply due old new (Err stop.TooMuch) = ⊥
