-- The payload of a command in format 2 is that of format 1 with the byte for no key and what that leaves out put in.
use Rattle.std.proofs.Common.{◌≡◌, true, ℕ, ◌+◌, ◌≤◌, List, [], ◌∷◌, ◌++◌, length, take, drop, Option, sym, ap, ◌∙◌, append_assoc, arith}
use Rattle.std.proofs.lemmas.List.{take_at, drop_at, length-append}
use Rattle.reg_terms.specs.declared.command.Command.{Command}
use Rattle.reg_terms.specs.declared.command.Stamped.{Stamped}
use Rattle.reg_wire.specs.Fields.{entity_text, key_bytes, moment_bytes, text_bytes}
use Rattle.reg_wire.specs.Payload.{command_bytes, payload}
use Rattle.reg_wire.specs.OldPayload.{dates_left_out, is_old, old_command_bytes, old_payload, IsOld}

-- the bytes of a command are those of format 1, and behind them what that leaves out
abbrev pub LeavesOut : Type 0
LeavesOut = (command : Command) → is_old command ≡ true → old_command_bytes command ++ dates_left_out command ≡ command_bytes command

-- the moment, and the text of who gave the command
abbrev head : Stamped → List ℕ
head stamped = moment_bytes stamped.at ++ text_bytes (entity_text stamped.by)

head_length : (stamped : Stamped) → length (head stamped) ≡ 10 + length (entity_text stamped.by)
head_length stamped = omega arith

old_parts : (stamped : Stamped) → old_payload stamped ≡ head stamped ++ old_command_bytes stamped.command
unfolding old_payload
old_parts stamped = sym (append_assoc (moment_bytes stamped.at) (text_bytes (entity_text stamped.by)) (old_command_bytes stamped.command))

-- a payload of format 1 has these
pub long_enough : (stamped : Stamped) (bytes : List ℕ) → old_payload stamped ≡ bytes → 10 + length (entity_text stamped.by) ≤ length bytes
long_enough stamped bytes is =
    let same : length bytes ≡ length (head stamped ++ old_command_bytes stamped.command) = ap length (sym is ∙ old_parts stamped) in
    omega (arith, same, head_length stamped, length-append (head stamped) (old_command_bytes stamped.command))

-- put together anew
new_parts : LeavesOut → (stamped : Stamped) → IsOld stamped → payload stamped ≡ head stamped ++ 0 ∷ (old_command_bytes stamped.command ++ dates_left_out stamped.command)
unfolding payload
new_parts law stamped old =
    let whole = command_bytes stamped.command in
    let text = text_bytes (entity_text stamped.by) in
    ap (λ (key : Option (List ℕ)). moment_bytes stamped.at ++ (text ++ (key_bytes key ++ whole))) old.key ∙ sym (append_assoc (moment_bytes stamped.at) text (0 ∷ whole)) ∙ ap (λ (l : List ℕ). head stamped ++ 0 ∷ l) (sym (law stamped.command old.command))

joined : (front behind dates : List ℕ) → ((front ++ 0 ∷ []) ++ behind) ++ dates ≡ front ++ 0 ∷ (behind ++ dates)
joined front behind dates = append_assoc (front ++ 0 ∷ []) behind dates ∙ append_assoc front (0 ∷ []) (behind ++ dates)

pub spliced : LeavesOut → (stamped : Stamped) (bytes front behind : List ℕ) → IsOld stamped → old_payload stamped ≡ bytes → front ≡ take (10 + length (entity_text stamped.by)) bytes → behind ≡ drop (10 + length (entity_text stamped.by)) bytes → ((front ++ 0 ∷ []) ++ behind) ++ dates_left_out stamped.command ≡ payload stamped
spliced law stamped bytes front behind old is front_is behind_is =
    let n = 10 + length (entity_text stamped.by) in
    let command = old_command_bytes stamped.command in
    let dates = dates_left_out stamped.command in
    let parts : bytes ≡ head stamped ++ command = sym is ∙ old_parts stamped in
    let first : front ≡ head stamped = front_is ∙ ap (take n) parts ∙ take_at (head stamped) command n (head_length stamped) in
    let last : behind ≡ command = behind_is ∙ ap (drop n) parts ∙ drop_at (head stamped) command n (head_length stamped) in
    joined front behind dates ∙ ap (λ (l : List ℕ). l ++ 0 ∷ (behind ++ dates)) first ∙ ap (λ (l : List ℕ). head stamped ++ 0 ∷ (l ++ dates)) last ∙ sym (new_parts law stamped old)
