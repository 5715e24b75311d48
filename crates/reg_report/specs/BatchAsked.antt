-- What a batch is asked for, by its words: first a text that is no name is refused, then what
-- doesn't stand, then a text that is no person's.
use Rattle.std.specs.Prelude.{⊤, ℕ, List, Result, Ok, Err, codes, ok_or, if◌then◌else◌}
use Rattle.reg_base.specs.Names.{is_extension}
use Rattle.reg_terms.specs.declared.refusal.Refusal.{Refusal}
use Rattle.reg_terms.specs.declared.refusal.Refusal.TheVariants as refusal
use Rattle.reg_facts.specs.Consumers.{consumer_place}
use Rattle.reg_facts.specs.Lists.{Lists}
use Rattle.reg_report.specs.Asked.{◌>>=◌, person_found, person_in, subject_in}
use Rattle.reg_words.specs.declared.task.Provision.{Provision}

-- the text of a consumer has to be an extension
abbrev pub check_consumer : List ℕ → Result ⊤ Refusal
check_consumer text =
    if is_extension text then Ok tt else Err (refusal.BadName (codes "consumer"))

-- the place of the consumer of a name
abbrev pub place_found : List ℕ → Lists → Result ℕ Refusal
place_found name f = ok_or (consumer_place name f.consumers) (refusal.NotFound name)

-- the consumer's place and the person that a batch is asked for
abbrev pub provision_asked : Provision → Lists → Result (ℕ × ℕ) Refusal
provision_asked asked f = do
  _ ← check_consumer asked.consumer
  entity ← subject_in asked.subject
  place ← place_found asked.consumer f
  found ← person_found entity f
  person ← person_in found
  Ok (place, person)
