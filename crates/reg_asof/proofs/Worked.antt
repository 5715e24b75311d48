-- Rows of the definitions, computed.
use Rattle.std.proofs.Common.{◌≡◌, ◌∷◌, [], List, ℕ, None, Ok, refl, arith}
use Rattle.reg_base.specs.declared.entity.Entity.{Entity}
use Rattle.reg_terms.specs.declared.command.Command.{Command}
use Rattle.reg_terms.specs.declared.command.Stamped.{Stamped}
use Rattle.reg_terms.specs.declared.refusal.Refusal.TheVariants.{BadRequest}
use Rattle.reg_terms.specs.declared.request.Op.TheVariants as op
use Rattle.reg_terms.specs.declared.reply.Reply.TheVariants as reply
use Rattle.reg_machine.specs.History.{State}
use Rattle.reg_asof.specs.Joined.{IsEarlier}
use Rattle.reg_asof.specs.Then.{state_at}
use Rattle.reg_asof.specs.Told.{asked_of}

stamped : Entity → Command → ℕ → Stamped
stamped by command at = record { at = at; by = by; key = None; command = command }

-- of commands at 3, 5 and 7: none before 3, two at 5, and all at 9
none_yet : (by : Entity) (command : Command) → state_at (stamped by command 3 ∷ stamped by command 5 ∷ stamped by command 7 ∷ []) 2 ≡ record { history = []; clock = 2 }
unfolding stamped
none_yet by command = refl

two_yet : (by : Entity) (command : Command) → state_at (stamped by command 3 ∷ stamped by command 5 ∷ stamped by command 7 ∷ []) 5 ≡ record { history = stamped by command 3 ∷ stamped by command 5 ∷ []; clock = 5 }
unfolding stamped
two_yet by command = refl

all_yet : (by : Entity) (command : Command) → state_at (stamped by command 3 ∷ stamped by command 5 ∷ []) 9 ≡ record { history = stamped by command 3 ∷ stamped by command 5 ∷ []; clock = 9 }
unfolding stamped
all_yet by command = refl

-- so the registry of the two at 5 is that of all three at 9, as it was at 5
as_it_was : (by : Entity) (command : Command) → IsEarlier (record { history = stamped by command 3 ∷ stamped by command 5 ∷ []; clock = 5 }) (record { history = stamped by command 3 ∷ stamped by command 5 ∷ stamped by command 7 ∷ []; clock = 9 })
unfolding stamped
as_it_was by command = record { as_then = refl; later = omega arith }

-- a command is refused as of no known op
refuses : (s : State) (by : List ℕ) (command : Command) → asked_of s (Ok (record { by = by; key = None; op = op.Command command })) ≡ reply.Refused (BadRequest (111 ∷ 112 ∷ []))
refuses s by command = refl
