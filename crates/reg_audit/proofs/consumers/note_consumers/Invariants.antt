use Rattle.std.proofs.Common.{◌≡◌, ℕ, List, drop}
use Rattle.reg_log.specs.Places.{place_of}
use Rattle.reg_audit.specs.Consumers.{places_after}
use Rattle.reg_audit.proofs.consumers.note_consumers.Given as goal

abbrev pub invariant-loop-note : goal.invariant-loop-note
invariant-loop-note l = (n : List ℕ) → places_after n (place_of l.places n) (drop l.note-index l.notes) ≡ places_after n (place_of l.fn.places n) l.notes
