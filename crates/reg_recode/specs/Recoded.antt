-- What a journal of format 1 is in format 2: each record at its place, with the payload of the same
-- command.
use Rattle.std.specs.Prelude.{◌≡◌, ◌⊎◌, ℕ, List, [], map, Option, Some, None, Result, Ok, Err}
use Rattle.std.specs.Prelude.{IfSome}
use Rattle.reg_terms.specs.declared.command.Stamped.{Stamped}
use Rattle.reg_wire.specs.Payload.{payload}
use Rattle.reg_wire.specs.OldPayload.{stamped_of_old}
use Rattle.reg_keep.specs.Frames.{opened, opened_old, only_payloads, payloads_in}

-- the payload of a command, and the empty one where there is none
abbrev pub payload_or_none : Option Stamped → List ℕ
payload_or_none None = []
payload_or_none (Some stamped) = payload stamped

-- the payload of format 2 of what a payload of format 1 says
unfoldable pub recoded_payload : List ℕ → List ℕ
recoded_payload bytes = payload_or_none (stamped_of_old bytes)

-- each record at its place, with its payload of format 2
abbrev pub recoded : List (ℕ × List ℕ) → List (ℕ × List ℕ)
recoded records = map (λ r. (r.0, recoded_payload r.1)) records

abbrev pub all_recoded : Result (List (ℕ × List ℕ)) ℕ → Result (List (ℕ × List ℕ)) ℕ
all_recoded (Ok records) = Ok (recoded records)
all_recoded (Err place) = Err place

-- the records of a file of format 1, each with its payload of format 2; or the place of the damage
abbrev pub opened_recoded : List ℕ → Result (List (ℕ × List ℕ)) ℕ
opened_recoded file = all_recoded (opened_old file)

-- the payloads of format 2 of a file of format 1
abbrev pub payloads_recoded : List ℕ → Result (List (List ℕ)) ℕ
payloads_recoded file = only_payloads (opened_recoded file)

-- these are the records of a file of format 1, each with its payload of format 2, where that file is
-- told
abbrev pub AreRecoded : Option (List ℕ) → List (ℕ × List ℕ) → Type 0
AreRecoded held records = IfSome held (λ bytes. opened_recoded bytes ≡ Ok records)

-- an image of before, or a file that is damaged, or opens to no payloads or to those of a file of
-- format 1, recoded, where that file is told
abbrev pub WasOrRecoded : (List ℕ → Type 0) → Option (List ℕ) → List ℕ → Type 0
WasOrRecoded leaves held file =
    leaves file ⊎ (((at : ℕ) × (opened file ≡ Err at)) ⊎ ((payloads_in file ≡ Ok [])
    ⊎ IfSome held (λ bytes. payloads_in file ≡ payloads_recoded bytes)))
