-- Requests that are sent again under their keys, with openings of the journal between them.
use Rattle.std.specs.Prelude.{◌≡◌, ◌⊎◌, ℕ, List, [], ◌∷◌, ◌++◌, Option, Some, Result, Ok, Err}
use Rattle.reg_base.specs.Entities.{entity_of}
use Rattle.reg_base.specs.declared.entity.Entity.{Entity}
use Rattle.reg_terms.specs.declared.command.Stamped.{Stamped}
use Rattle.reg_terms.specs.declared.refusal.Refusal.{Refusal}
use Rattle.reg_terms.specs.declared.request.Request.{Request}
use Rattle.reg_terms.specs.declared.reply.Reply.{Reply}
use Rattle.reg_terms.specs.declared.reply.Reply.TheVariants as reply
use Rattle.reg_machine.specs.History.{State}
use Rattle.reg_service.specs.Turn.{Turns}

-- what happens: a reading is answered at a moment, or the journal is opened
pub data Happening : Type 0 where
  replies : ℕ → Result Request Refusal → Reply → Happening
  reopens : Happening

-- what may happen, and the state after it: a journal that is opened has all that was answered,
-- whatever more was kept
abbrev pub MayHappen : State → Happening → State → Type 0
MayHappen s (replies m reading told) after = Turns s m reading told after
MayHappen s reopens after = (more : List Stamped) × (after.history ≡ s.history ++ more)

-- this may happen, one after another, and leads to this last state
abbrev pub MayGo : State → List Happening → State → Type 0
MayGo s [] last = last ≡ s
MayGo s (h ∷ hs) last = (after : State) × MayHappen s h after × MayGo after hs last

-- a caller's request under a key is answered so
abbrev pub IsReplyTo : Entity → List ℕ → Reply → Happening → Type 0
IsReplyTo by key told (replies m (Ok request) r) =
    (entity_of request.by ≡ Some by) × (request.key ≡ Some key) × (r ≡ told)
IsReplyTo by key told (replies m (Err refusal) r) = ⊥
IsReplyTo by key told reopens = ⊥

-- one of a caller's requests under a key is answered so
abbrev pub IsTold : Entity → List ℕ → Reply → List Happening → Type 0
IsTold by key told [] = ⊥
IsTold by key told (h ∷ hs) = IsReplyTo by key told h ⊎ IsTold by key told hs

-- all replies of success to one caller's one key are equal
abbrev pub RepliesAgree : List Happening → Type 0
RepliesAgree hs =
    (by : Entity) (key : List ℕ) (n m : ℕ) (a b : Option ℕ)
    → IsTold by key (reply.Number n a) hs → IsTold by key (reply.Number m b) hs
    → reply.Number n a ≡ reply.Number m b
